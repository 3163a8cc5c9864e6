-- How a node of the code ends.
use Rattle.std.proofs.Common.{◌≡◌, ℕ, suc, ◌+◌, ◌-◌, ◌≤◌, inl, inr, List, [], ◌∷◌, ◌++◌, length, map, replicate, take, drop, true, false, ℤ, pos, None, arith, refl, ap, sym, subst, ◌∙◌}
use Rattle.std.specs.Prelude.{Result, Ok, Err, nat_lt}
use Rattle.std.specs.List.{sum}
use Rattle.std.proofs.lemmas.Bool.{cases_lt}
use Rattle.std.proofs.lemmas.List.{length-append, length-map, take-append-drop, length-take-le, map-append}
use Rattle.arithmetic.specs.Sums.{positive_part}
use Rattle.arithmetic.proofs.Tests.{int_lt-yes}
use Rattle.exact_num.specs.declared.misfit.Wide.{Wide as Misfit}
use Rattle.exact_num.specs.Fraction.{Fraction, IsLowest, IsNotBelowZero, whole}
use Rattle.master_program.specs.Master.{map_steps}
use Rattle.exact_num.specs.Fits.{after}
use Rattle.exact_num.specs.Tests.{is_above_zero}
use Rattle.exact_num.specs.CommonDenominator.{common_denominator, amount_over, amounts_over, AreParts}
use Rattle.exact_num.proofs.Fractions.{divides, common_positive}
use Rattle.exact_num.proofs.Tested.{lowest_are_defined}
use Rattle.simplex_run.specs.Places.{fraction_zero}
use Rattle.simplex_run.specs.Program.{LinearProgram}
use Rattle.simplex_run.specs.Ending.{Ending, done, unbounded, wide_at, no_unit_left, on_answer, on_steps}
use Rattle.simplex_run.specs.Run.{Optimum, run, optimum}
use Rattle.simplex_run.specs.Optimum.{IsOptimum}
use Rattle.simplex_run.specs.Units.{units_of}
use Rattle.form.specs.Primitive.{IsDirection}
use Rattle.clearing_model.specs.Tree.{Sign}
use Rattle.simplex.specs.declared.stop.RunStop.{RunStop}
use Rattle.simplex.specs.declared.stop.RunStop.TheVariants.{Wide as RunWide, Budget as RunBudget}
use Rattle.simplex.specs.Spaces.{Contents, IsFound, given, program_given, answer_of, contents_after, x_of, y_of, reduced_of, value_of}
use Rattle.sign_tree.specs.Legs.{FractionLeg}
use Rattle.master_program.specs.Node.{covers_of, minus_units, node_program, signed_of, size_row}
use Rattle.master_program.specs.Roles.{split_place, values}
use Rattle.master_program.specs.NodeSteps.{counted_node, cover_cost_steps, cover_rows_steps, covering_legs, legs_over, node_steps, signed_rows_steps, state_cost_steps}
use Rattle.master_program.specs.Search.{Question, legs_in, NodeFound, node_at, node_end, on_optimum, on_program, program_at, on_excess, on_state, excess_at, state_of, leaf, leaf_of}
use Rattle.master_program.proofs.NodeBounded.{all_at, amounts_parts}
use Rattle.master_program.proofs.NodeObjective.{wholes}
use Rattle.master_program.proofs.NodeSteps.{steps_give_node}
use Rattle.search_laws.specs.Search.{IsAsked}
use Rattle.search_laws.proofs.Nodes.{NodeShows, legs_stand, node_says, own, own_over, program_over}
use Rattle.search_laws.proofs.States.{positive_node_has_state}
use Rattle.simplex_run.proofs.Endings.{EndsWith}
use Rattle.clearing_model.specs.Written.{PlacedMultiplier}
use Rattle.sign_tree.specs.declared.trees.Multiplier.{Multiplier}
use Rattle.sign_tree.specs.Read.{placed_of}
use Rattle.pricing_oracle.specs.Filled.{HasMade}
use Rattle.pricing_oracle.specs.Searches.{WrittenParts, HasShown}
use Rattle.search_laws.proofs.Nodes.{no_amounts, first_all}

-- ---- the program and its run
pub program_of : (r : Result LinearProgram Misfit) (c : Contents) → after r (λ p. Ok (given p)) ≡ Ok c → (p : LinearProgram) × (r ≡ Ok p) × (c ≡ given p)
program_of (Ok p) c h =
    let same : given p ≡ c = cc in
    (p, refl, sym same)
program_of (Err w) c h = cc

pub node_runs : (q : Question) (signs : List Sign) (spent : ℕ) (p : LinearProgram) → nat_lt spent q.budget ≡ true → program_at q signs ≡ Ok p
    → node_end q signs spent ≡ on_answer (run q.limit p (q.budget - (spent + 1)) (spent + 1)) (on_optimum q (node_at q signs))
unfolding node_end
node_runs q signs spent p left built = rw left (ap (λ r. on_steps (spent + 1) r (on_program q (node_at q signs) (spent + 1))) built)

pub node_misfits : (q : Question) (signs : List Sign) (spent : ℕ) (w : Misfit) → nat_lt spent q.budget ≡ true → program_at q signs ≡ Err w → node_end q signs spent ≡ wide_at (spent + 1) w
unfolding node_end
node_misfits q signs spent w left built = rw left (ap (λ r. on_steps (spent + 1) r (on_program q (node_at q signs) (spent + 1))) built)

pub no_unit : (q : Question) (signs : List Sign) (spent : ℕ) → nat_lt spent q.budget ≡ false → node_end q signs spent ≡ no_unit_left spent
unfolding node_end
no_unit q signs spent none = rw none refl

pub run_stops : (e : Ending Optimum) (next : Optimum → ℕ → Ending NodeFound) (stop : RunStop) (units : ℕ) (old new : WrittenParts) (ending : Ending NodeFound)
    → ending ≡ on_answer e next → answer_of e ≡ Err stop → units ≡ units_of e → HasShown old new ending (Err stop) units
run_stops (done o s) next stop units old new ending is err spent = cc
run_stops (unbounded d s) next stop units old new ending is err spent = cc
run_stops (wide_at s w) next (RunWide u v) units old new ending is err spent =
    let unit : s ≡ u = cc in
    let wide : w ≡ v = cc in
    (is ∙ (λ i. wide_at (unit i) (wide i)), spent ∙ unit)
run_stops (wide_at s w) next RunBudget units old new ending is err spent = cc
run_stops (no_unit_left s) next (RunWide u v) units old new ending is err spent = cc
run_stops (no_unit_left s) next RunBudget units old new ending is err spent = is ∙ ap (λ (u : ℕ). no_unit_left u) (sym spent)

-- what stands in the space is the optimum
pub optimum_there : (e : Ending Optimum) (c : Contents) (units : ℕ) → answer_of e ≡ Ok true → c ≡ contents_after e → units ≡ units_of e → (e ≡ done (optimum (x_of c) (y_of c) (reduced_of c) (value_of c)) units) × IsFound c
optimum_there (done (optimum x y reduced value) s) c units ok is spent =
    ((λ i. done (optimum (x_of (sym is i)) (y_of (sym is i)) (reduced_of (sym is i)) (value_of (sym is i))) (sym spent i)), subst IsFound (sym is) tt)
optimum_there (unbounded d s) c units ok is spent = cc
optimum_there (wide_at s w) c units ok is spent = cc
optimum_there (no_unit_left s) c units ok is spent = cc

-- a node never ends unbounded
pub never_ends_so : (q : Question) (signs : List Sign) (spent : ℕ) (d : List Fraction) (units : ℕ) → IsAsked q → length signs ≡ length (legs_in q) → node_end q signs spent ≡ unbounded d units → ⊥
never_ends_so q signs spent d units asked count h = subst (EndsWith (NodeShows q signs)) h (node_says q signs spent asked count)

pub never_rises : (q : Question) (signs : List Sign) (spent : ℕ) (e : Ending Optimum) (next : Optimum → ℕ → Ending NodeFound) → IsAsked q → length signs ≡ length (legs_in q) → node_end q signs spent ≡ on_answer e next → answer_of e ≡ Ok false → ⊥
never_rises q signs spent (done o s) next asked count is h = cc
never_rises q signs spent (unbounded d s) next asked count is h = never_ends_so q signs spent d s asked count is
never_rises q signs spent (wide_at s w) next asked count is h = cc
never_rises q signs spent (no_unit_left s) next asked count is h = cc

-- what an optimum shows
pub above_zero : (q : Question) (signs : List Sign) (spent units : ℕ) (e : Ending Optimum) (x y reduced : List Fraction) (value : Fraction) → node_end q signs spent ≡ on_answer e (on_optimum q (node_at q signs)) → e ≡ done (optimum x y reduced value) units
    → is_above_zero value ≡ true → node_end q signs spent ≡ on_steps units (state_of q x) (on_state q (node_at q signs) units)
above_zero q signs spent units e x y reduced value is ends above = is ∙ ap (λ e. on_answer e (on_optimum q (node_at q signs))) ends ∙ rw above refl

pub at_zero : (q : Question) (signs : List Sign) (spent units : ℕ) (e : Ending Optimum) (x y reduced : List Fraction) (value : Fraction) → node_end q signs spent ≡ on_answer e (on_optimum q (node_at q signs)) → e ≡ done (optimum x y reduced value) units
    → is_above_zero value ≡ false → node_end q signs spent ≡ done (leaf (leaf_of (node_at q signs) y)) units
at_zero q signs spent units e x y reduced value is ends low = is ∙ ap (λ e. on_answer e (on_optimum q (node_at q signs))) ends ∙ rw low refl

-- ---- how many variables and rows
pub record HasShape (p : LinearProgram) (n covers signed : ℕ) : Type 0 where
  pub variables : p.variables ≡ suc n + covers
  pub rows : p.rows ≡ suc (covers + signed)

pub steps_have_shape : (limit n : ℕ) (legs : List FractionLeg) (L : Fraction) (signs : List Sign) (p : LinearProgram) → node_steps limit n legs L signs ≡ Ok p
    → HasShape p n (length (covers_of (counted_node legs signs))) (length (signed_of n (counted_node legs signs)))
unfolding node_steps
steps_have_shape limit n legs L signs p h =
    go (map_steps (state_cost_steps limit legs L signs) (values (λ i. i) (suc n))) (map_steps (cover_cost_steps limit) (covering_legs legs signs))
    (cover_rows_steps limit n (covers_of (counted_node legs signs)) (minus_units (length (covers_of (counted_node legs signs)))))
    (signed_rows_steps limit n (replicate (length (covers_of (counted_node legs signs))) fraction_zero) (counted_node legs signs)) h
  where
    k : ℕ
    k = length (covers_of (counted_node legs signs))

    m : ℕ
    m = length (signed_of n (counted_node legs signs))

    go : (xs ys cs ss : Result (List Fraction) Misfit)
        → after xs (λ costs. after ys (λ cover_costs. after cs (λ cover_rows. after ss (λ signed_rows. Ok (record {
          variables = suc n + k;
          rows = suc (k + m);
          coefficients = map whole (size_row n k) ++ (cover_rows ++ signed_rows);
          right_sides = whole (pos 1) ∷ replicate (k + m) fraction_zero;
          costs = costs ++ cover_costs;
        }))))) ≡ Ok p → HasShape p n k m
    go (Ok xs) (Ok ys) (Ok cs) (Ok ss) h =
        let same : record {
          variables = suc n + k;
          rows = suc (k + m);
          coefficients = map whole (size_row n k) ++ (cs ++ ss);
          right_sides = whole (pos 1) ∷ replicate (k + m) fraction_zero;
          costs = xs ++ ys;
        } ≡ p = cc in
        record { variables = ap (λ (p : LinearProgram). p.variables) (sym same); rows = ap (λ (p : LinearProgram). p.rows) (sym same) }
    go (Ok xs) (Ok ys) (Ok cs) (Err w) h = cc
    go (Ok xs) (Ok ys) (Err w) ss h = cc
    go (Ok xs) (Err w) cs ss h = cc
    go (Err w) ys cs ss h = cc

-- ---- the direction of an optimum above 0
pub first_are_direction : (q : Question) (signs : List Sign) (p : LinearProgram) (x y reduced : List Fraction) (value : Fraction) → IsAsked q → program_at q signs ≡ Ok p → IsOptimum p x y reduced value → is_above_zero value ≡ true
    → IsDirection (take (suc q.underlyings) x)
first_are_direction q signs p x y reduced value asked built optimal above =
    let n = q.underlyings in
    let D = own q in
    let over = own_over q asked in
    let legs = legs_over D (legs_in q) in
    let L : ℤ = amount_over D q.liability in
    let same : p ≡ program_over D q signs = steps_give_node q.limit n D (legs_in q) q.liability signs p over.0 (legs_stand q D asked over) (record { lowest = asked.liability; divides = over.1 }) built in
    let is : IsOptimum (node_program n D legs L signs) x y reduced value = subst (λ (p : LinearProgram). IsOptimum p x y reduced value) same optimal in
    let fs : List Fraction = take (suc n) x in
    let rest : List Fraction = drop (suc n) x in
    let count : length fs ≡ suc n = length-take-le (suc n) x (omega (arith, is.x_sign.count)) in
    let C = common_denominator x in
    let one_C : 1 ≤ C = common_positive x (lowest_are_defined x (all_at IsLowest x is.x_sign.lowest)) in
    let split : amounts_over C x ≡ amounts_over C fs ++ amounts_over C rest = ap (amounts_over C) (sym (take-append-drop (suc n) x)) ∙ map-append (λ f. positive_part (amount_over C f)) fs rest in
    let parts : AreParts C x (wholes (amounts_over C fs) ++ wholes (amounts_over C rest)) =
    subst (λ X. AreParts C x X) (ap wholes split ∙ map-append pos (amounts_over C fs) (amounts_over C rest)) (amounts_parts C x is.x_sign.lowest is.x_sign.sign (divides x)) in
    let long : length (amounts_over C fs) ≡ n + 1 = omega (arith, length-map fs (λ f. positive_part (amount_over C f)), count) in
    let state = positive_node_has_state n D C legs L signs x y reduced value (amounts_over C fs) (wholes (amounts_over C rest)) over.0 one_C is (int_lt-yes (pos 0) value.numerator above) parts long in
    record {
      some = omega (arith, count, asked.some);
      few = omega (arith, count, asked.few);
      not_below_zero = first_all IsNotBelowZero (suc n) x is.x_sign.sign;
      not_all_zero = elim (cases_lt 0 (sum (map (λ (f : Fraction). positive_part f.numerator) fs))) [
        | inl lt ↦ lt
        | inr none ↦ absurd (omega (arith, state.1, no_amounts C fs (omega (arith, none))))
      ];
    }

-- ---- the parts of a node
pub program_stops : (q : Question) (signs : List Sign) (spent units : ℕ) (old new : WrittenParts) (w : Misfit) (c : Contents) → nat_lt spent q.budget ≡ true → units ≡ spent + 1
    → HasMade (λ (done : Unit {0}). c) (after (program_at q signs) (λ p. Ok (given p))) (Err w) → HasShown old new (node_end q signs spent) (Err (RunWide units w)) units
program_stops q signs spent units old new w c left count h =
    (node_misfits q signs spent w left (misfit (program_at q signs) h) ∙ ap (λ (u : ℕ). wide_at u w) (sym count), refl)
  where
    misfit : (r : Result LinearProgram Misfit) → after r (λ p. Ok (given p)) ≡ Err w → r ≡ Err w
    misfit (Ok p) h = cc
    misfit (Err v) h =
        let same : v ≡ w = cc in
        ap (λ (w : Misfit). Err w) same

pub built_there : (r : Result LinearProgram Misfit) (c : Contents) → after r (λ p. Ok (given p)) ≡ Ok c → r ≡ Ok (program_given c)
built_there r c h =
    let there = program_of r c h in
    there.1 ∙ ap (λ c. Ok (program_given c)) (sym there.2)

pub run_here : (q : Question) (signs : List Sign) (spent : ℕ) (c : Contents) (limit units : ℕ) → nat_lt spent q.budget ≡ true → after (program_at q signs) (λ p. Ok (given p)) ≡ Ok c → limit ≡ q.budget → units ≡ spent + 1
    → node_end q signs spent ≡ on_answer (run q.limit (program_given c) (limit - units) units) (on_optimum q (node_at q signs))
run_here q signs spent c limit units left built limit_is units_is =
    node_runs q signs spent (program_given c) left (built_there (program_at q signs) c built)
    ∙ (λ i. on_answer (run q.limit (program_given c) (sym limit_is i - sym units_is i) (sym units_is i)) (on_optimum q (node_at q signs)))

pub no_place : (q : Question) (signs : List Sign) (x : List Fraction) (z : List ℕ) (excess : Fraction) (unit : ℕ) → state_of q x ≡ Ok z → excess_at q z ≡ Ok excess → is_above_zero excess ≡ false → split_place q.underlyings (node_at q signs) ≡ None
    → on_steps unit (state_of q x) (on_state q (node_at q signs) unit) ≡ unbounded [] unit
no_place q signs x z excess unit state is low none =
    let node = node_at q signs in
    ap (λ s. on_steps unit s (on_state q node unit)) state ∙ ap (λ r. on_steps unit r (on_excess q node unit z)) is ∙ rw (low, none) refl

-- as many multipliers are written as were added
pub added_count : (old new : List Multiplier) (ms : List PlacedMultiplier) → map placed_of new ≡ map placed_of old ++ ms → length new - length old ≡ length ms
added_count old new ms h =
    omega (arith, ap length h, length-append (map placed_of old) ms, length-map new placed_of, length-map old placed_of)
