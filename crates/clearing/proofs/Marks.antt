-- The mark of each outcome is that of the end of its run: the numbers that a run clears are numbers
-- of the code.
use Rattle.std.proofs.Common.{◌≡◌, ℕ, List, [], ◌∷◌, map, unsigned_abs, true, refl, sym, ap, ◌∙◌, subst, arith, ◌^◌, ◌<◌}
use Rattle.std.specs.List.{All}
use Rattle.std.proofs.lemmas.Bool.{lt-ltb}
use Rattle.std.proofs.lemmas.List.Elements.{All-head, All-tail, All-map}
use Rattle.exact_num.specs.Fraction.{Fraction}
use Rattle.frac.specs.Range.{limit as largest}
use Rattle.frac.specs.ValueOf.{has_128_bits}
use Rattle.exact_num.specs.Tests.{is_lowest}
use Rattle.simplex_run.specs.Ending.{Ending, done, unbounded, wide_at, no_unit_left}
use Rattle.form.specs.declared.orders.Batch.{Batch}
use Rattle.form.specs.Limits.{IsWithinLimits}
use Rattle.clearing_model.specs.Certificate.{Point, by_of, fraction_weight, fractions_of}
use Rattle.clearing_model.specs.Written.{multipliers_of}
use Rattle.master_program.specs.Reading.{Reading, reading_with}
use Rattle.constraint_generation.specs.Answers.{limits_of}
use Rattle.constraint_generation.specs.Run.{CoveredReading, by_line, by_tree}
use Rattle.constraint_generation.proofs.JointRuns.{no_run_is_without_end}
use Rattle.run_values.specs.Values.{Ends, IsPointOf, IsReadingOf, IsSolutionOf, IsValue}
use Rattle.run_values.proofs.Solutions.{runs_have_values}
use Rattle.run_values.proofs.TreeSums.{by_values}
use Rattle.clearing.specs.Laws.{OutcomesAreMarked}
use Rattle.clearing.specs.Outcome.{is_value, are_values, reading_has_values, has_values, measure_of, optimal_outcome, claim_of, outcome_at, run_of, outcome_of, IsMarked}
use Rattle.clearing.proofs.Outcomes.{claims_the_reading, covers_the_reading, run_is_greatest}
use Rattle.clearing.proofs.OutcomeEnds.{IsMarked-wide_at, IsMarked-no_unit_left}

-- ---- numbers of the code
value_is : (x : Fraction) → IsValue x → is_value x ≡ true
value_is x number =
    let above : unsigned_abs x.numerator < 2 ^ 127 = omega (arith, number.small.above) in
    let below : x.denominator < 2 ^ 127 = omega (arith, number.small.below) in
    let low : is_lowest x ≡ true = rw (lt-ltb _ _ number.lowest.positive, number.lowest.coprime) refl in
    let fits : has_128_bits x ≡ true = rw (lt-ltb _ _ above, lt-ltb _ _ below) refl in
    rw (low, fits) refl

values_are : (xs : List Fraction) → All IsValue xs → are_values xs ≡ true
values_are [] all = refl
values_are (x ∷ xs) all =
    let first = value_is x (All-head IsValue x xs all) in
    let others = values_are xs (All-tail IsValue x xs all) in
    rw (first, others) refl

weights_are : (points : List Point) → All IsPointOf points → are_values (map fraction_weight points) ≡ true
weights_are points all = values_are (map fraction_weight points) (All-map IsValue fraction_weight points (λ k d inside. (all k d inside).1))

reading_has : (r : Reading) → IsReadingOf r → reading_has_values r ≡ true
reading_has r numbers =
    let liability = value_is r.liability numbers.liability in
    let surplus = value_is r.surplus numbers.surplus in
    let filled = values_are r.fills numbers.fills in
    let measured = weights_are r.measure numbers.points in
    rw (liability, surplus, filled, measured) refl

solution_has : (s : CoveredReading) → IsSolutionOf s → has_values s ≡ true
solution_has (r, by_line) of = let read = reading_has r of.0 in rw read refl
solution_has (r, by_tree tree) of =
    let read = reading_has r of.0 in
    let covered = values_are (fractions_of tree) (All-map IsValue by_of (multipliers_of tree) (by_values 1024 tree of.1)) in
    rw (read, covered) refl

run_has_values : (batch : Batch) (units spent : ℕ) (s : CoveredReading) → IsWithinLimits batch → run_of batch units ≡ done s spent → has_values s ≡ true
run_has_values batch units spent s within h = solution_has s (subst (Ends IsSolutionOf) h (runs_have_values batch units within))

-- ---- the mark
at_end : (batch : Batch) (units : ℕ) (end : Ending CoveredReading) → IsWithinLimits batch → run_of batch units ≡ end → IsMarked batch units (outcome_at batch.orders units end)
unfolding optimal_outcome
at_end batch units (done (r, cover) spent) within is =
    let test = run_has_values batch units spent (r, cover) within is in
    let claims = claims_the_reading batch r cover spent within (run_is_greatest batch units spent (r, cover) within is) test in
    let claim : Reading = claim_of (optimal_outcome (r, cover) spent) (measure_of r.measure) in
    let same : r ≡ claim = λ i. reading_with (sym claims.fills i) (sym claims.surplus i) (sym claims.points i) (sym claims.liability i) in
    rw test (cover, covers_the_reading r cover test, is ∙ ap (λ (q : Reading). done (q, cover) spent) same)
at_end batch units (wide_at spent w) within is = IsMarked-wide_at batch units spent w is
at_end batch units (no_unit_left spent) within is = IsMarked-no_unit_left batch units spent is
at_end batch units (unbounded d spent) within is =
    absurd (no_run_is_without_end (limits_of largest units) batch.underlyings 0 spent batch.orders d within.has_forms.some within.has_forms.few (omega arith) is)

pub outcomes_are_marked : OutcomesAreMarked
unfolding outcome_of
outcomes_are_marked batch units within = at_end batch units (run_of batch units) within refl
