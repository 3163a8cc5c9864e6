-- The program that is given is that of the node.
use Rattle.std.proofs.Common.{◌≡◌, ℕ, zero, suc, ◌+◌, ◌≤◌, List, [], ◌∷◌, ◌++◌, length, map, replicate, pos, arith, refl, ap, sym, subst, ◌∙◌, append_assoc}
use Rattle.std.specs.Prelude.{Result, Ok, Err}
use Rattle.std.proofs.lemmas.List.{length-append}
use Rattle.exact_num.specs.declared.misfit.Wide.{Wide as Misfit}
use Rattle.exact_num.specs.Fraction.{Fraction, whole}
use Rattle.exact_num.specs.Fits.{after}
use Rattle.master_program.specs.Master.{map_steps}
use Rattle.simplex_run.specs.Places.{fraction_zero}
use Rattle.simplex_run.specs.Program.{LinearProgram}
use Rattle.fraction_tableau.specs.Programs.{empty_program, with_row}
use Rattle.clearing_model.specs.Tree.{Sign}
use Rattle.sign_tree.specs.Legs.{FractionLeg}
use Rattle.simplex.specs.Spaces.{Contents, Workspace, IsProgramGiven, given, program_given}
use Rattle.master_program.specs.Roles.{NodeLeg, values}
use Rattle.master_program.specs.Node.{covers_of, minus_units, signed_of, size_row}
use Rattle.master_program.specs.NodeSteps.{counted_node, cover_cost_steps, cover_rows_steps, covering_legs, node_steps, signed_rows_steps, state_cost_steps}
use Rattle.pricing_oracle.specs.Built.{list_then}
use Rattle.pricing_oracle.specs.Filled.{HasMade, HasFilled}
use Rattle.pricing_oracle.specs.Programs.{IsOpen, costs_steps, given_with, with_rows}
use Rattle.pricing_oracle.proofs.ByRole.{cover_count_is, covering_is}
use Rattle.master_program.proofs.NodeShape.{length-values}
use Rattle.pricing_oracle.proofs.GivenSteps.{length-steps}

-- the costs and the row of the state's size
abbrev pub sized : ℕ → ℕ → List Fraction → LinearProgram
sized n k costs = with_row (empty_program costs) (map whole (size_row n k)) (whole (pos 1))

replicate-both : (k m : ℕ) (x : Fraction) → replicate (k + m) x ≡ replicate k x ++ replicate m x
replicate-both zero m x =
    let e : zero + m ≡ m = omega arith in
    rw e refl
replicate-both (suc k) m x =
    let e : suc k + m ≡ suc (k + m) = omega arith in
    rw e (ap (λ (l : List Fraction). x ∷ l) (replicate-both k m x))

-- what follows the costs
abbrev pub after_costs : ℕ → ℕ → List NodeLeg → List Fraction → Result Contents Misfit
after_costs limit n node costs =
    let k = length (covers_of node) in
    after (given_with (sized n k costs) k (cover_rows_steps limit n (covers_of node) (minus_units k)))
    (λ c. given_with (program_given c) (length (signed_of n node)) (signed_rows_steps limit n (replicate k fraction_zero) node))

program_there : (n k m : ℕ) (costs cs ss : List Fraction) → length costs ≡ suc n + k
    → record {
      variables = suc n + k;
      rows = suc (k + m);
      coefficients = map whole (size_row n k) ++ (cs ++ ss);
      right_sides = whole (pos 1) ∷ replicate (k + m) fraction_zero;
      costs = costs;
    } ≡ with_rows (with_rows (sized n k costs) k cs) m ss
program_there n k m costs cs ss count =
    let rows : suc (k + m) ≡ 0 + 1 + k + m = omega arith in
    λ i. record {
      variables = sym count i;
      rows = rows i;
      coefficients = sym (append_assoc (map whole (size_row n k)) cs ss) i;
      right_sides = whole (pos 1) ∷ replicate-both k m fraction_zero i;
      costs = costs;
    }

cost_count : (limit n : ℕ) (legs : List FractionLeg) (L : Fraction) (signs : List Sign) (xs ys : List Fraction)
    → map_steps (state_cost_steps limit legs L signs) (values (λ i. i) (suc n)) ≡ Ok xs → map_steps (cover_cost_steps limit) (covering_legs legs signs) ≡ Ok ys
    → length (xs ++ ys) ≡ suc n + length (covers_of (counted_node legs signs))
cost_count limit n legs L signs xs ys a b =
    omega (
      arith,
      length-append xs ys,
      length-steps (state_cost_steps limit legs L signs) (values (λ i. i) (suc n)) xs a,
      length-values (λ (i : ℕ). i) (suc n),
      length-steps (cover_cost_steps limit) (covering_legs legs signs) ys b,
      ap length (covering_is legs signs),
      cover_count_is legs signs,
    )

pub program_is : (limit n : ℕ) (legs : List FractionLeg) (L : Fraction) (signs : List Sign)
    → after (node_steps limit n legs L signs) (λ p. Ok (given p)) ≡ after (costs_steps limit n legs L signs) (after_costs limit n (counted_node legs signs))
unfolding node_steps
program_is limit n legs L signs =
    go (map_steps (state_cost_steps limit legs L signs) (values (λ i. i) (suc n))) (map_steps (cover_cost_steps limit) (covering_legs legs signs))
    (cover_rows_steps limit n (covers_of (counted_node legs signs)) (minus_units (length (covers_of (counted_node legs signs)))))
    (signed_rows_steps limit n (replicate (length (covers_of (counted_node legs signs))) fraction_zero) (counted_node legs signs)) refl refl
  where
    k : ℕ
    k = length (covers_of (counted_node legs signs))

    m : ℕ
    m = length (signed_of n (counted_node legs signs))

    go : (xs ys cs ss : Result (List Fraction) Misfit) → map_steps (state_cost_steps limit legs L signs) (values (λ i. i) (suc n)) ≡ xs → map_steps (cover_cost_steps limit) (covering_legs legs signs) ≡ ys
        → after (after xs (λ costs. after ys (λ cover_costs. after cs (λ cover_rows. after ss (λ signed_rows. Ok (record {
          variables = suc n + k;
          rows = suc (k + m);
          coefficients = map whole (size_row n k) ++ (cover_rows ++ signed_rows);
          right_sides = whole (pos 1) ∷ replicate (k + m) fraction_zero;
          costs = costs ++ cover_costs;
        })))))) (λ p. Ok (given p))
        ≡ after (after xs (λ costs. after ys (λ cover_costs. Ok (costs ++ cover_costs)))) (λ costs. after (given_with (sized n k costs) k cs) (λ c. given_with (program_given c) m ss))
    go (Ok xs) (Ok ys) (Ok cs) (Ok ss) a b = ap (λ p. Ok (given p)) (program_there n k m (xs ++ ys) cs ss (cost_count limit n legs L signs xs ys a b))
    go (Ok xs) (Ok ys) (Ok cs) (Err w) a b = refl
    go (Ok xs) (Ok ys) (Err w) ss a b = refl
    go (Ok xs) (Err w) cs ss a b = refl
    go (Err w) ys cs ss a b = refl

-- ---- costs that are written, and costs that are not
pub is_written : (steps : Result (List Fraction) Misfit) (row : List Fraction) → list_then [] steps ≡ Ok row → steps ≡ Ok row
is_written (Ok xs) row h = h
is_written (Err w) row h = cc

pub not_written : (steps : Result (List Fraction) Misfit) (next : List Fraction → Result Contents Misfit) (result : Result (Unit {0}) Misfit) (w : Misfit) (row : List Fraction) (all : Result Contents Misfit) (new : Contents)
    → all ≡ after steps next → result ≡ Err w → HasFilled [] steps result row → HasMade (λ (done : Unit {0}). new) all (Err w)
not_written steps next result w row all new is err h = is ∙ go steps (subst (λ r. HasFilled [] steps r row) err h)
  where
    go : (steps : Result (List Fraction) Misfit) → list_then [] steps ≡ Err w → after steps next ≡ Err w
    go (Ok xs) h = cc
    go (Err v) h =
        let same : v ≡ w = cc in
        rw same refl

pub written_width : (limit n : ℕ) (legs : List FractionLeg) (L : Fraction) (signs : List Sign) (row : List Fraction) → costs_steps limit n legs L signs ≡ Ok row → length row ≡ suc n + length (covers_of (counted_node legs signs))
written_width limit n legs L signs row h =
    go (map_steps (state_cost_steps limit legs L signs) (values (λ i. i) (suc n))) (map_steps (cover_cost_steps limit) (covering_legs legs signs)) refl refl h
  where
    go : (xs ys : Result (List Fraction) Misfit) → map_steps (state_cost_steps limit legs L signs) (values (λ i. i) (suc n)) ≡ xs → map_steps (cover_cost_steps limit) (covering_legs legs signs) ≡ ys
        → after xs (λ costs. after ys (λ cover_costs. Ok (costs ++ cover_costs))) ≡ Ok row → length row ≡ suc n + length (covers_of (counted_node legs signs))
    go (Ok xs) (Ok ys) a b h =
        let same : xs ++ ys ≡ row = cc in
        ap length (sym same) ∙ cost_count limit n legs L signs xs ys a b
    go (Ok xs) (Err w) a b h = cc
    go (Err w) ys a b h = cc

-- ---- the rows behind the costs
pub part_fails : (steps : Result Contents Misfit) (next : Contents → Result Contents Misfit) (result : Result (Unit {0}) Misfit) (w : Misfit) (all : Result Contents Misfit) (mid new : Contents)
    → all ≡ after steps next → result ≡ Err w → HasMade (λ (done : Unit {0}). mid) steps result → HasMade (λ (done : Unit {0}). new) all (Err w)
part_fails steps next result w all mid new is err h =
    is ∙ ap (λ s. after s next) (subst (λ r. HasMade (λ (done : Unit {0}). mid) steps r) err h)

pub built_as : (new : Contents) (a b : Result Contents Misfit) (result : Result (Unit {0}) Misfit) → a ≡ b → HasMade (λ (done : Unit {0}). new) b result → HasMade (λ (done : Unit {0}). new) a result
built_as new a b result e h = subst (λ s. HasMade (λ (done : Unit {0}). new) s result) (sym e) h

abbrev pub signed_rows_of : ℕ → ℕ → List Fraction → List NodeLeg → Contents → Result Contents Misfit
signed_rows_of limit n tail node c = given_with (program_given c) (length (signed_of n node)) (signed_rows_steps limit n tail node)

abbrev pub cover_rows_of : ℕ → ℕ → ℕ → List NodeLeg → Contents → Result Contents Misfit
cover_rows_of limit n covers node c = given_with (program_given c) covers (cover_rows_steps limit n (covers_of node) (minus_units covers))

-- with the costs that were written and the size's row in place, what is left are the rows of the
-- covering and the signed legs
pub program_from : (limit n covers : ℕ) (legs : List FractionLeg) (L : Fraction) (signs : List Sign) (costs : List Fraction) (c : Contents)
    → covers ≡ length (covers_of (counted_node legs signs)) → costs_steps limit n legs L signs ≡ Ok costs → c ≡ given (sized n covers costs)
    → after (node_steps limit n legs L signs) (λ p. Ok (given p)) ≡ after (cover_rows_of limit n covers (counted_node legs signs) c) (signed_rows_of limit n (replicate covers fraction_zero) (counted_node legs signs))
program_from limit n covers legs L signs costs c k_is written is =
    let node = counted_node legs signs in
    program_is limit n legs L signs
    ∙ ap (λ s. after s (after_costs limit n node)) written
    ∙ ap (λ (k : ℕ). after (given_with (sized n k costs) k (cover_rows_steps limit n (covers_of node) (minus_units k))) (signed_rows_of limit n (replicate k fraction_zero) node)) (sym k_is)
    ∙ ap (λ c. after (cover_rows_of limit n covers node c) (signed_rows_of limit n (replicate covers fraction_zero) node)) (sym is)

-- a space to which rows were given
pub rows_on : (p : LinearProgram) (k v more : ℕ) (steps : Result (List Fraction) Misfit) (space : Workspace) → given_with p k steps ≡ Ok space.contents → p.variables ≡ v → p.rows + k + more ≤ space.rows → IsOpen space v more
rows_on p k v more (Ok xs) space h width room =
    let same : given (with_rows p k xs) ≡ space.contents = cc in
    record {
      given = subst IsProgramGiven same tt;
      width = ap (λ c. (program_given c).variables) (sym same) ∙ width;
      room = omega (arith, ap (λ c. (program_given c).rows) same, room);
    }
rows_on p k v more (Err w) space h width room = cc
