-- One turn of the loops that give the rows of a node.
use Rattle.std.proofs.Common.{◌≡◌, ℕ, suc, ◌+◌, ◌-◌, ◌<◌, List, [], ◌∷◌, ◌++◌, get_or, length, map, replicate, true, ℤ, pos, negsuc, arith, refl, ap, sym, subst, ◌∙◌}
use Rattle.std.specs.Prelude.{Result, Ok, Err}
use Rattle.std.proofs.lemmas.List.{length-append, length-map, length-replicate}
use Rattle.exact_num.specs.declared.misfit.Wide.{Wide as Misfit}
use Rattle.exact_num.specs.Fraction.{Fraction, whole}
use Rattle.exact_num.specs.Fits.{after, whole_of}
use Rattle.master_program.specs.Master.{map_steps}
use Rattle.simplex_run.specs.Places.{fraction_zero}
use Rattle.simplex_run.specs.Program.{LinearProgram}
use Rattle.fraction_tableau.specs.Programs.{with_row}
use Rattle.clearing_model.specs.Tree.{Sign}
use Rattle.sign_tree.specs.Legs.{FractionLeg}
use Rattle.simplex.specs.Spaces.{Contents, Workspace, IsProgramGiven, nothing, given, found, rising, stopped, program_given}
use Rattle.master_program.specs.Roles.{Role, Idle, Covering, Free, Above, Below, entries}
use Rattle.master_program.specs.Node.{covers_of, minus_units, signed_of}
use Rattle.master_program.specs.NodeSteps.{counted_node, cover_rows_steps, signed_rows_steps, negated_of, with_row as row_before}
use Rattle.pricing_oracle.specs.Built.{list_then}
use Rattle.pricing_oracle.specs.Filled.{HasMade, HasFilled}
use Rattle.pricing_oracle.specs.Nodes.{RoleLeg, covering_of, in_roles, is_signed}
use Rattle.pricing_oracle.specs.Programs.{IsOpen, given_with, signed_entries, unit_at}
use Rattle.pricing_oracle.proofs.ByRole.{cover_count_is, covers_in, node_is}
use Rattle.master_program.proofs.NodeShape.{length-values}
use Rattle.pricing_oracle.proofs.GivenRows.{row_given, row_stops, rows_end, cover_rows_from, cover_row_first, signed_count, signed_rows_from, signed_row_first, signed_first_count, units_at_first}

-- ---- what stands in a space
given_again : (c : Contents) → IsProgramGiven c → given (program_given c) ≡ c
given_again nothing h = absurd h
given_again (given p) h = refl
given_again (found o) h = absurd h
given_again (rising d) h = absurd h
given_again stopped h = absurd h

-- a row more
pub one_row_on : (old new : Workspace) (v k : ℕ) (a : List Fraction) (b : Fraction) → new ≡ record old { contents = given (with_row (program_given old.contents) a b) } → IsOpen old v (suc k) → IsOpen new v k
one_row_on old new v k a b is h =
    subst (λ (w : Workspace). IsOpen w v k) (sym is) (record { given = tt; width = h.width; room = omega (arith, h.room) })

pub all_given : (c : Contents) → IsProgramGiven c → given_with (program_given c) 0 (Ok []) ≡ Ok c
all_given c h = rows_end (program_given c) ∙ ap (λ (c : Contents). Ok c) (given_again c h)

-- a row that could not be written
pub row_fails : (p : LinearProgram) (k : ℕ) (steps : Result (List Fraction) Misfit) (tail row : List Fraction) (later : Result (List Fraction) Misfit) (result : Result (Unit {0}) Misfit) (w : Misfit) (all : Result Contents Misfit) (new : Contents)
    → all ≡ given_with p k (row_before steps tail later) → result ≡ Err w → HasFilled [] (after steps (λ xs. Ok (xs ++ tail))) result row → HasMade (λ (done : Unit {0}). new) all (Err w)
row_fails p k steps tail row later result w all new is err h =
    is ∙ row_stops steps tail p k later w (subst (λ r. HasFilled [] (after steps (λ xs. Ok (xs ++ tail))) r row) err h)

-- ---- how long a row is
pub length-steps : {A B : Type 0} (f : A → Result B Misfit) (xs : List A) (ys : List B) → map_steps f xs ≡ Ok ys → length ys ≡ length xs
unfolding map_steps
length-steps f [] ys h =
    let same : [] ≡ ys = cc in
    ap length (sym same)
length-steps {A} {B} f (x ∷ xs) ys h = go (f x) (map_steps f xs) (λ zs r. length-steps f xs zs r) h
  where
    go : (first : Result B Misfit) (rest : Result (List B) Misfit) → ((zs : List B) → rest ≡ Ok zs → length zs ≡ length xs) → after first (λ y. after rest (λ zs. Ok (y ∷ zs))) ≡ Ok ys → length ys ≡ suc (length xs)
    go (Ok y) (Ok zs) long h =
        let same : y ∷ zs ≡ ys = cc in
        ap length (sym same) ∙ ap suc (long zs refl)
    go (Ok y) (Err w) long h = cc
    go (Err w) rest long h = cc

row_width : (f : ℤ → Result Fraction Misfit) (n : ℕ) (v : List ℤ) (tail row : List Fraction) → list_then [] (after (map_steps f (entries n v)) (λ xs. Ok (xs ++ tail))) ≡ Ok row → length row ≡ suc n + length tail
row_width f n v tail row h = go (map_steps f (entries n v)) refl h
  where
    go : (steps : Result (List Fraction) Misfit) → map_steps f (entries n v) ≡ steps → list_then [] (after steps (λ xs. Ok (xs ++ tail))) ≡ Ok row → length row ≡ suc n + length tail
    go (Ok xs) is h =
        let same : xs ++ tail ≡ row = cc in
        let entry_at : ℕ → ℤ = λ i. get_or v i (pos 0) in
        omega (arith, ap length same, length-append xs tail, length-steps f (entries n v) xs is, length-values entry_at (suc n))
    go (Err w) is h = cc

length-unit : (before behind : ℕ) → length (map whole (unit_at before behind)) ≡ suc (before + behind)
length-unit before behind =
    omega (arith, length-map (unit_at before behind) whole, length-append (replicate before (pos 0)) (negsuc 0 ∷ replicate behind (pos 0)), length-replicate before (pos 0), length-replicate behind (pos 0))

pub cover_row_width : (limit n : ℕ) (v : List ℤ) (place covers : ℕ) (row : List Fraction) → place < covers
    → list_then [] (after (map_steps (whole_of limit) (entries n v)) (λ xs. Ok (xs ++ map whole (unit_at place (covers - place - 1))))) ≡ Ok row → length row ≡ n + 1 + covers
cover_row_width limit n v place covers row low h =
    omega (arith, low, row_width (whole_of limit) n v (map whole (unit_at place (covers - place - 1))) row h, length-unit place (covers - place - 1))

pub signed_row_width : (limit n : ℕ) (role : Role) (v : List ℤ) (covers : ℕ) (row : List Fraction)
    → list_then [] (after (signed_entries limit role (entries n v)) (λ xs. Ok (xs ++ replicate covers fraction_zero))) ≡ Ok row → length row ≡ n + 1 + covers
signed_row_width limit n role v covers row h = go role h
  where
    by : (f : ℤ → Result Fraction Misfit) → list_then [] (after (map_steps f (entries n v)) (λ xs. Ok (xs ++ replicate covers fraction_zero))) ≡ Ok row → length row ≡ n + 1 + covers
    by f h = omega (arith, row_width f n v (replicate covers fraction_zero) row h, length-replicate covers fraction_zero)

    go : (role : Role) → list_then [] (after (signed_entries limit role (entries n v)) (λ xs. Ok (xs ++ replicate covers fraction_zero))) ≡ Ok row → length row ≡ n + 1 + covers
    go Above h = by (negated_of limit) h
    go Below h = by (whole_of limit) h
    go Idle h = by (whole_of limit) h
    go Covering h = by (whole_of limit) h
    go Free h = by (whole_of limit) h

-- ---- the covering legs
pub cover_rows_are : (limit n covers : ℕ) (p : LinearProgram) (legs : List FractionLeg) (signs : List Sign) → covers ≡ length (covers_of (counted_node legs signs))
    → given_with p covers (cover_rows_steps limit n (covers_of (counted_node legs signs)) (minus_units covers))
    ≡ given_with p (length (covering_of (in_roles legs signs))) (cover_rows_from limit n 0 (covering_of (in_roles legs signs)))
cover_rows_are limit n covers p legs signs h =
    let all = covering_of (in_roles legs signs) in
    let count : covers ≡ length all = h ∙ cover_count_is legs signs in
    λ i. given_with p (count i) (cover_rows_steps limit n (covers_in legs signs i) ((ap minus_units count ∙ sym (units_at_first (length all))) i))

pub cover_row_on : (limit n place behind : ℕ) (left : List FractionLeg) (l : FractionLeg) (rest : List FractionLeg) (p : LinearProgram) (row : List Fraction) → left ≡ l ∷ rest → behind ≡ length rest
    → list_then [] (after (map_steps (whole_of limit) (entries n l.option)) (λ xs. Ok (xs ++ map whole (unit_at place behind)))) ≡ Ok row
    → given_with p (length left) (cover_rows_from limit n place left) ≡ given_with (with_row p row fraction_zero) (length rest) (cover_rows_from limit n (place + 1) rest)
cover_row_on limit n place behind left l rest p row is b h =
    let steps = map_steps (whole_of limit) (entries n l.option) in
    (λ i. given_with p (length (is i)) (cover_row_first limit n place left l rest is i))
    ∙ row_given steps (map whole (unit_at place (length rest))) row p (length rest) (cover_rows_from limit n (place + 1) rest)
    (subst (λ (k : ℕ). list_then [] (after steps (λ xs. Ok (xs ++ map whole (unit_at place k)))) ≡ Ok row) b h)

pub cover_row_fails : (limit n place behind : ℕ) (left : List FractionLeg) (l : FractionLeg) (rest : List FractionLeg) (p : LinearProgram) (row : List Fraction) (result : Result (Unit {0}) Misfit) (w : Misfit) (all : Result Contents Misfit) (new : Contents)
    → left ≡ l ∷ rest → behind ≡ length rest → all ≡ given_with p (length left) (cover_rows_from limit n place left) → result ≡ Err w
    → HasFilled [] (after (map_steps (whole_of limit) (entries n l.option)) (λ xs. Ok (xs ++ map whole (unit_at place behind)))) result row → HasMade (λ (done : Unit {0}). new) all (Err w)
cover_row_fails limit n place behind left l rest p row result w all new is b all_is err h =
    let steps = map_steps (whole_of limit) (entries n l.option) in
    row_fails p (length left) steps (map whole (unit_at place (length rest))) row (cover_rows_from limit n (place + 1) rest) result w all new
    (all_is ∙ ap (given_with p (length left)) (cover_row_first limit n place left l rest is)) err
    (subst (λ (k : ℕ). HasFilled [] (after steps (λ xs. Ok (xs ++ map whole (unit_at place k)))) result row) b h)

-- ---- the signed legs
pub signed_rows_are : (limit n : ℕ) (tail : List Fraction) (p : LinearProgram) (legs : List FractionLeg) (signs : List Sign)
    → given_with p (length (signed_of n (counted_node legs signs))) (signed_rows_steps limit n tail (counted_node legs signs))
    ≡ given_with p (signed_count n (in_roles legs signs)) (signed_rows_from limit n tail (in_roles legs signs))
signed_rows_are limit n tail p legs signs = ap (λ node. given_with p (length (signed_of n node)) (signed_rows_steps limit n tail node)) (node_is legs signs)

pub signed_row_on : (limit n : ℕ) (tail : List Fraction) (left : List RoleLeg) (l : RoleLeg) (rest : List RoleLeg) (p : LinearProgram) (row : List Fraction) → left ≡ l ∷ rest → is_signed l.role ≡ true
    → list_then [] (after (signed_entries limit l.role (entries n l.leg.option)) (λ xs. Ok (xs ++ tail))) ≡ Ok row
    → given_with p (signed_count n left) (signed_rows_from limit n tail left) ≡ given_with (with_row p row fraction_zero) (signed_count n rest) (signed_rows_from limit n tail rest)
signed_row_on limit n tail left l rest p row is signed h =
    (λ i. given_with p (signed_first_count n left l rest is signed i) (signed_row_first limit n tail left l rest is signed i))
    ∙ row_given (signed_entries limit l.role (entries n l.leg.option)) tail row p (signed_count n rest) (signed_rows_from limit n tail rest) h

pub signed_row_fails : (limit n : ℕ) (tail : List Fraction) (left : List RoleLeg) (l : RoleLeg) (rest : List RoleLeg) (p : LinearProgram) (row : List Fraction) (result : Result (Unit {0}) Misfit) (w : Misfit) (all : Result Contents Misfit) (new : Contents)
    → left ≡ l ∷ rest → is_signed l.role ≡ true → all ≡ given_with p (signed_count n left) (signed_rows_from limit n tail left) → result ≡ Err w
    → HasFilled [] (after (signed_entries limit l.role (entries n l.leg.option)) (λ xs. Ok (xs ++ tail))) result row → HasMade (λ (done : Unit {0}). new) all (Err w)
signed_row_fails limit n tail left l rest p row result w all new is signed all_is err h =
    row_fails p (signed_count n left) (signed_entries limit l.role (entries n l.leg.option)) tail row (signed_rows_from limit n tail rest) result w all new
    (all_is ∙ ap (given_with p (signed_count n left)) (signed_row_first limit n tail left l rest is signed)) err h
