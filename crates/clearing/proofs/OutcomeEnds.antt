-- What a solve found is the outcome of its reading.
use Rattle.std.proofs.Common.{◌≡◌, ℕ, List, map, pos, true, Err, refl, sym, subst}
use Rattle.exact_num.specs.declared.misfit.Wide.{Wide as Misfit}
use Rattle.exact_num.specs.Fraction.{Fraction, whole}
use Rattle.frac.specs.ValueOf.{value_of}
use Rattle.form.specs.declared.orders.Order.{Order}
use Rattle.form.specs.declared.orders.Batch.{Batch}
use Rattle.clearing_model.specs.Clearing.{premium}
use Rattle.bundle_match.specs.Match.{match_by_bundle}
use Rattle.bundle_match.specs.Laws.{match_of}
use Rattle.simplex.specs.declared.stop.SolveStop.{SolveStop}
use Rattle.simplex.specs.declared.stop.SolveStop.TheVariants.{Wide as WideStop, Budget as BudgetStop}
use Rattle.constraint_generation.specs.Answers.{IsCoverAs, IsJointAnswer}
use Rattle.constraint_generation.specs.Run.{WrittenCover, CoveredReading}
use Rattle.simplex_run.specs.Ending.{Ending, done, wide_at, no_unit_left}
use Rattle.frac.specs.declared.frac128.Frac128.{Frac128}
use Rattle.frac.specs.Value.{fraction_of}
use Rattle.frac.proofs.ValueOf.{value-fraction_of}
use Rattle.cert_check.specs.declared.measures.Weighted.{Weighted}
use Rattle.cert_check.specs.Points.{point_of}
use Rattle.cert_check.specs.declared.outcome.Cover.{Cover}
use Rattle.cert_check.specs.declared.outcome.Mark.TheVariants.{Optimal, Wide, Budget}
use Rattle.cert_check.specs.declared.outcome.Mark.{Mark}
use Rattle.cert_check.specs.declared.outcome.Outcome.{Outcome}
use Rattle.master_program.specs.Reading.{Reading, reading_with}
use Rattle.clearing.specs.Outcome.{optimal_outcome, fallback, whole_fills, has_values, run_of, outcome_of, IsMarked}
use Rattle.clearing.proofs.Values.{values_are, points_are, cover_is}

-- an outcome of these parts
abbrev pub outcome_with : List Frac128 → Frac128 → Frac128 → Cover → List Weighted → ℕ → Outcome
outcome_with fills liability surplus cover points units =
    record {
      fills = fills;
      claim = record { liability = liability; surplus = surplus };
      mark = Optimal cover (record { points = points });
      units = units;
    }

-- what its numbers claim as fractions
abbrev pub reading_of : List Frac128 → Frac128 → Frac128 → List Weighted → Reading
reading_of fills liability surplus points =
    reading_with (map fraction_of fills) (fraction_of surplus) (map point_of points) (fraction_of liability)

pub optimal_outcome-parts : (fills : List Frac128) (L S : Frac128) (written : WrittenCover) (cover : Cover) (points : List Weighted) (units : ℕ) → IsCoverAs written cover
    → outcome_with fills L S cover points units ≡ optimal_outcome (reading_of fills L S points, written) units
unfolding optimal_outcome
optimal_outcome-parts fills L S written cover points units is =
    λ i. outcome_with (values_are fills i) (sym (value-fraction_of L) i) (sym (value-fraction_of S) i) (cover_is written cover is i) (points_are points i) units

-- the match and its premium are the fallback
pub fallback-parts : (orders : List Order) (mark : Mark) (units : ℕ) (fills : List Frac128) (L S : Frac128)
    → fills ≡ whole_fills (match_by_bundle orders) → L ≡ value_of (whole (pos 0)) → S ≡ value_of (whole (premium (match_of orders)))
    → ◌≡◌ {A = Outcome} (record { fills = fills; claim = record { liability = L; surplus = S }; mark = mark; units = units }) (fallback orders mark units)
unfolding fallback
fallback-parts orders mark units fills L S e eL eS = rw (eS, eL, e) refl

-- ---- the outcome at each end of the run
pub outcome_of-done : (batch : Batch) (units spent : ℕ) (s : CoveredReading) → run_of batch units ≡ done s spent → has_values s ≡ true → optimal_outcome s spent ≡ outcome_of batch units
unfolding outcome_of
outcome_of-done batch units spent s run test = rw (run, test) refl

pub outcome_of-wide_at : (batch : Batch) (units spent : ℕ) (w : Misfit) → run_of batch units ≡ wide_at spent w → fallback batch.orders (Wide w) spent ≡ outcome_of batch units
unfolding outcome_of
outcome_of-wide_at batch units spent w run = rw run refl

pub outcome_of-no_unit_left : (batch : Batch) (units spent : ℕ) → run_of batch units ≡ no_unit_left spent → fallback batch.orders Budget units ≡ outcome_of batch units
unfolding outcome_of
outcome_of-no_unit_left batch units spent run = rw run refl

-- and its mark
pub IsMarked-wide_at : (batch : Batch) (units spent : ℕ) (w : Misfit) → run_of batch units ≡ wide_at spent w → IsMarked batch units (fallback batch.orders (Wide w) spent)
unfolding fallback
IsMarked-wide_at batch units spent w run = run

pub IsMarked-no_unit_left : (batch : Batch) (units spent : ℕ) → run_of batch units ≡ no_unit_left spent → IsMarked batch units (fallback batch.orders Budget units)
unfolding fallback
IsMarked-no_unit_left batch units spent run = ((spent, run), refl)

-- what an answer of a stop says
pub IsJointAnswer-wide : (end : Ending CoveredReading) (stop : SolveStop) (unit : ℕ) (w : Misfit) (spent : ℕ) → stop ≡ WideStop unit w → IsJointAnswer fraction_of end (Err stop) spent → end ≡ wide_at unit w
IsJointAnswer-wide end stop unit w spent is h = (subst (λ s. IsJointAnswer fraction_of end (Err s) spent) is h).0

pub IsJointAnswer-budget : {A : Type 0} (value : A → Fraction) (end : Ending CoveredReading) (stop : SolveStop) (spent : ℕ) → stop ≡ BudgetStop → IsJointAnswer value end (Err stop) spent → end ≡ no_unit_left spent
IsJointAnswer-budget value end stop spent is h = subst (λ s. IsJointAnswer value end (Err s) spent) is h
