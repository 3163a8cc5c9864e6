-- Rows that are given one after another.
use Rattle.std.proofs.Common.{◌≡◌, ℕ, zero, suc, ◌+◌, ◌≤◌, List, [], ◌∷◌, ◌++◌, length, map, replicate, true, false, ℤ, pos, arith, refl, ap, sym, ◌∙◌, append_assoc}
use Rattle.std.specs.Prelude.{Result, Ok, Err}
use Rattle.exact_num.specs.declared.misfit.Wide.{Wide}
use Rattle.exact_num.specs.Fraction.{Fraction, whole}
use Rattle.exact_num.specs.Fits.{after, whole_of}
use Rattle.master_program.specs.Master.{map_steps}
use Rattle.simplex_run.specs.Places.{fraction_zero}
use Rattle.simplex_run.specs.Program.{LinearProgram}
use Rattle.fraction_tableau.specs.Programs.{with_row}
use Rattle.sign_tree.specs.Legs.{FractionLeg}
use Rattle.sign_tree.specs.Read.{sign_of}
use Rattle.simplex.specs.Spaces.{given}
use Rattle.master_program.specs.Roles.{Role, Idle, Covering, Free, Above, Below, entries}
use Rattle.master_program.specs.Node.{after_zero, if_covering, minus_units, signed_of, with_sign}
use Rattle.master_program.specs.NodeSteps.{counted_role, cover_rows_steps, signed_row_steps, signed_rows_steps, with_row as row_before}
use Rattle.pricing_oracle.specs.Built.{list_then}
use Rattle.pricing_oracle.specs.Nodes.{RoleLeg, covering_of, in_roles, is_signed, node_leg, option_in}
use Rattle.pricing_oracle.specs.Programs.{given_with, signed_entries, unit_at, units_from, with_rows}

-- one row more, and then so many
pub one_more : (p : LinearProgram) (k : ℕ) (row rows : List Fraction) → with_rows p (suc k) (row ++ rows) ≡ with_rows (with_row p row fraction_zero) k rows
one_more p k row rows =
    let count : p.rows + suc k ≡ p.rows + 1 + k = omega arith in
    λ i. record p {
      rows = count i;
      coefficients = sym (append_assoc p.coefficients row rows) i;
      right_sides = sym (append_assoc p.right_sides (fraction_zero ∷ []) (replicate k fraction_zero)) i;
    }

-- a row that was given, and those after it
pub row_given : (steps : Result (List Fraction) Wide) (tail row : List Fraction) (p : LinearProgram) (k : ℕ) (later : Result (List Fraction) Wide) → list_then [] (after steps (λ xs. Ok (xs ++ tail))) ≡ Ok row
    → given_with p (suc k) (row_before steps tail later) ≡ given_with (with_row p row fraction_zero) k later
row_given (Ok xs) tail row p k (Ok rows) h =
    let same : xs ++ tail ≡ row = cc in
    rw same (ap (λ q. Ok (given q)) (one_more p k row rows))
row_given (Ok xs) tail row p k (Err w) h = refl
row_given (Err w) tail row p k later h = cc

-- and one that does not fit
pub row_stops : (steps : Result (List Fraction) Wide) (tail : List Fraction) (p : LinearProgram) (k : ℕ) (later : Result (List Fraction) Wide) (w : Wide) → list_then [] (after steps (λ xs. Ok (xs ++ tail))) ≡ Err w
    → given_with p k (row_before steps tail later) ≡ Err w
row_stops (Ok xs) tail p k later w h = cc
row_stops (Err v) tail p k later w h =
    let same : v ≡ w = cc in
    rw same refl

-- none left
pub rows_end : (p : LinearProgram) → given_with p 0 (Ok []) ≡ Ok (given p)
rows_end p =
    let count : p.rows + 0 ≡ p.rows = omega arith in
    ap (λ q. Ok (given q)) (λ i. record p { rows = count i; coefficients = nil p.coefficients i; right_sides = nil p.right_sides i })
  where
    nil : (xs : List Fraction) → xs ++ [] ≡ xs
    nil [] = refl
    nil (x ∷ xs) = ap (λ rest. x ∷ rest) (nil xs)

-- ---- the rows of the covering legs
behind_zero : (before : ℕ) (r : List ℤ) → replicate before (pos 0) ++ (pos 0 ∷ r) ≡ replicate (before + 1) (pos 0) ++ r
behind_zero zero r = refl
behind_zero (suc before) r =
    let e : suc before + 1 ≡ suc (before + 1) = omega arith in
    rw e (ap (λ (l : List ℤ). pos 0 ∷ l) (behind_zero before r))

behind_zeros : (before : ℕ) (rows : List (List ℤ)) → map (λ (r : List ℤ). replicate before (pos 0) ++ r) (map after_zero rows) ≡ map (λ (r : List ℤ). replicate (before + 1) (pos 0) ++ r) rows
behind_zeros before [] = refl
behind_zeros before (r ∷ rows) = λ i. behind_zero before r i ∷ behind_zeros before rows i

pub units_first : (before k : ℕ) → units_from before (suc k) ≡ unit_at before k ∷ units_from (before + 1) k
units_first before k = ap (λ rows. unit_at before k ∷ rows) (behind_zeros before (minus_units k))

as_they_are : (rows : List (List ℤ)) → map (λ (r : List ℤ). replicate 0 (pos 0) ++ r) rows ≡ rows
as_they_are [] = refl
as_they_are (r ∷ rows) = ap (λ rest. r ∷ rest) (as_they_are rows)

pub units_at_first : (k : ℕ) → units_from 0 k ≡ minus_units k
units_at_first k = as_they_are (minus_units k)

-- the rows of these covering legs, the first of which has so many units before its own
abbrev pub cover_rows_from : ℕ → ℕ → ℕ → List FractionLeg → Result (List Fraction) Wide
cover_rows_from limit n before legs = cover_rows_steps limit n (map option_in legs) (units_from before (length legs))

pub cover_row_first : (limit n before : ℕ) (legs : List FractionLeg) (l : FractionLeg) (rest : List FractionLeg) → legs ≡ l ∷ rest
    → cover_rows_from limit n before legs ≡ row_before (map_steps (whole_of limit) (entries n l.option)) (map whole (unit_at before (length rest))) (cover_rows_from limit n (before + 1) rest)
unfolding cover_rows_steps
cover_row_first limit n before legs l rest is = ap (cover_rows_from limit n before) is ∙ ap (cover_rows_steps limit n (l.option ∷ map option_in rest)) (units_first before (length rest))

pub cover_rows_end : (limit n before : ℕ) → cover_rows_from limit n before [] ≡ Ok []
unfolding cover_rows_steps
cover_rows_end limit n before = refl

-- ---- the rows of the signed legs
abbrev pub signed_rows_from : ℕ → ℕ → List Fraction → List RoleLeg → Result (List Fraction) Wide
signed_rows_from limit n tail legs = signed_rows_steps limit n tail (map node_leg legs)

abbrev pub signed_count : ℕ → List RoleLeg → ℕ
signed_count n legs = length (signed_of n (map node_leg legs))

pub signed_row_first : (limit n : ℕ) (tail : List Fraction) (legs : List RoleLeg) (l : RoleLeg) (rest : List RoleLeg) → legs ≡ l ∷ rest → is_signed l.role ≡ true
    → signed_rows_from limit n tail legs ≡ row_before (signed_entries limit l.role (entries n l.leg.option)) tail (signed_rows_from limit n tail rest)
unfolding signed_rows_steps
signed_row_first limit n tail legs l rest is h = ap (signed_rows_from limit n tail) is ∙ go l.role h
  where
    go : (role : Role) → is_signed role ≡ true
        → signed_row_steps limit tail role (entries n l.leg.option) (signed_rows_from limit n tail rest) ≡ row_before (signed_entries limit role (entries n l.leg.option)) tail (signed_rows_from limit n tail rest)
    go Above h = refl
    go Below h = refl
    go Idle h = cc
    go Covering h = cc
    go Free h = cc

pub signed_first_count : (n : ℕ) (legs : List RoleLeg) (l : RoleLeg) (rest : List RoleLeg) → legs ≡ l ∷ rest → is_signed l.role ≡ true → signed_count n legs ≡ suc (signed_count n rest)
signed_first_count n legs l rest is h = ap (signed_count n) is ∙ go l.role h
  where
    go : (role : Role) → is_signed role ≡ true → length (with_sign role (entries n l.leg.option) (signed_of n (map node_leg rest))) ≡ suc (signed_count n rest)
    go Above h = refl
    go Below h = refl
    go Idle h = cc
    go Covering h = cc
    go Free h = cc

pub not_signed : (limit n : ℕ) (tail : List Fraction) (legs : List RoleLeg) (l : RoleLeg) (rest : List RoleLeg) → legs ≡ l ∷ rest → is_signed l.role ≡ false
    → (signed_rows_from limit n tail legs ≡ signed_rows_from limit n tail rest) × (signed_count n legs ≡ signed_count n rest)
unfolding signed_rows_steps
not_signed limit n tail legs l rest is h = (ap (signed_rows_from limit n tail) is ∙ rows l.role h, ap (signed_count n) is ∙ count l.role h)
  where
    count : (role : Role) → is_signed role ≡ false → length (with_sign role (entries n l.leg.option) (signed_of n (map node_leg rest))) ≡ signed_count n rest
    count Above h = cc
    count Below h = cc
    count Idle h = refl
    count Covering h = refl
    count Free h = refl

    rows : (role : Role) → is_signed role ≡ false → signed_row_steps limit tail role (entries n l.leg.option) (signed_rows_from limit n tail rest) ≡ signed_rows_from limit n tail rest
    rows Above h = cc
    rows Below h = cc
    rows Idle h = refl
    rows Covering h = refl
    rows Free h = refl

pub signed_rows_end : (limit n : ℕ) (tail : List Fraction) → signed_rows_from limit n tail [] ≡ Ok []
unfolding signed_rows_steps
signed_rows_end limit n tail = refl

-- the legs that cover and those that are signed are no more than have signs
pub few_rows : (n : ℕ) (legs : List FractionLeg) (ss : List ℤ) → length (covering_of (in_roles legs (map sign_of ss))) + signed_count n (in_roles legs (map sign_of ss)) ≤ length ss
few_rows n [] ss = omega arith
few_rows n (leg ∷ legs) [] = omega arith
few_rows n (leg ∷ legs) (s ∷ ss) = go (counted_role leg (sign_of s)) (few_rows n legs ss)
  where
    go : (role : Role) → length (covering_of (in_roles legs (map sign_of ss))) + signed_count n (in_roles legs (map sign_of ss)) ≤ length ss
        → length (if_covering role leg (covering_of (in_roles legs (map sign_of ss)))) + length (with_sign role (entries n leg.option) (signed_of n (map node_leg (in_roles legs (map sign_of ss))))) ≤ suc (length ss)
    go Covering h = omega (arith, h)
    go Idle h = omega (arith, h)
    go Free h = omega (arith, h)
    go Above h = omega (arith, h)
    go Below h = omega (arith, h)
