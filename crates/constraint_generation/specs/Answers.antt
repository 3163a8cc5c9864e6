-- What the answers of the code say of the run.
use Rattle.std.specs.Prelude.{ℕ, ◌≡◌, List, length, map, vec_len, Result, Ok, Err}
use Rattle.exact_num.specs.Fraction.{Fraction}
use Rattle.simplex.specs.Stops.{stop_of}
use Rattle.simplex.specs.declared.stop.RunStop.{RunStop}
use Rattle.simplex.specs.declared.stop.SolveStop.{SolveStop}
use Rattle.simplex.specs.declared.stop.SolveStop.TheVariants.{Wide, Budget, Memory}
use Rattle.frac.specs.Range.{limit as largest}
use Rattle.form.specs.declared.orders.Batch.{Batch}
use Rattle.cert_check.specs.declared.outcome.Cover.{Cover}
use Rattle.cert_check.specs.declared.outcome.Cover.TheVariants.{Line, Tree}
use Rattle.master_program.specs.Rounds.{Limits}
pub use Rattle.pricing_oracle.specs.Answers.{IsTreeAs}
use Rattle.constraint_generation.specs.Run.{WrittenCover, by_line, by_tree, CoveredReading, sums_of}
use Rattle.cert_check.specs.Conditions.{IsCoverOn}
use Rattle.cert_check.specs.Points.{point_of, IsOnStates}
use Rattle.frac.specs.Value.{fraction_of}
use Rattle.cert_check.specs.declared.measures.Measure.{Measure}
use Rattle.cert_check.specs.declared.outcome.Claim.{Claim}
use Rattle.master_program.specs.Reading.{Reading, reading_with}
use Rattle.constraint_generation.specs.declared.solution.Solution.{Solution}
use Rattle.simplex_run.specs.Ending.{Ending, done, wide_at, no_unit_left, where_fits}

-- what a joint solve has found, as fractions
abbrev pub reading_in : {A : Type 0} → (A → Fraction) → Solution A → Reading
reading_in value joint =
    reading_with (map value joint.fills.items) (value joint.surplus) (map point_of joint.measure.points) (value joint.liability)

-- it is of the batch: each order has a fill, and the cover and the states of the measure are on the
-- batch's underlyings
pub record IsJointOf {A : Type 0} (batch : Batch) (joint : Solution A) : Type 0 where
  pub fills : vec_len joint.fills ≡ length batch.orders
  pub cover : IsCoverOn batch.underlyings joint.cover
  pub states : IsOnStates batch.underlyings joint.measure

-- how a run ends with it
abbrev pub joint_ending : {A : Type 0} → (A → Fraction) → Solution A → ℕ → Ending Reading
joint_ending value joint spent = done (reading_in value joint) spent

-- the cover of the code is the cover as it is written
abbrev pub IsCoverAs : WrittenCover → Cover → Type 0
IsCoverAs by_line Line = Unit {0}
IsCoverAs by_line (Tree tree) = ⊥
IsCoverAs (by_tree written) Line = ⊥
IsCoverAs (by_tree written) (Tree tree) = IsTreeAs written tree

-- a fact of the solution that was found
abbrev pub OfSolution : {A : Type 0} → (A → Fraction) → (CoveredReading → Type 0) → Solution A → Type 0
OfSolution value Holds joint = (cover : WrittenCover) × IsCoverAs cover joint.cover × Holds (reading_in value joint, cover)

-- the answer of the call is the end of the run, and the units are those spent; want of memory says
-- nothing
abbrev pub IsJointAnswer : {A : Type 0} → (A → Fraction) → Ending CoveredReading → Result (Solution A) SolveStop → ℕ → Type 0
IsJointAnswer value ending (Ok joint) spent = OfSolution value (λ s. ending ≡ done s spent) joint
IsJointAnswer value ending (Err (Wide unit wide)) spent = (ending ≡ wide_at unit wide) × (spent ≡ unit)
IsJointAnswer value ending (Err Budget) spent = ending ≡ no_unit_left spent
IsJointAnswer value ending (Err Memory) spent = Unit {0}

-- the same where a run in given room answers
abbrev pub as_stopped : {X : Type 0} → Result X RunStop → Result X SolveStop
as_stopped (Ok x) = Ok x
as_stopped (Err stop) = Err (stop_of stop)

-- the answer is the end of the sums on a solution, when so many units are spent
abbrev pub IsJudgedAnswer : {A : Type 0} → (A → Fraction) → Batch → Solution A → Result (Solution A) SolveStop → ℕ → Type 0
IsJudgedAnswer value batch joint result spent =
    (cover : WrittenCover) → IsCoverAs cover joint.cover
    → IsJointAnswer value (where_fits (sums_of largest batch.underlyings batch.orders) (reading_in value joint, cover) spent) result spent

-- the limits of a run in numbers of the code: payoffs and the sums of the verdict have 128 bits
abbrev pub limits_of : (limit budget : ℕ) → Limits
limits_of limit budget = record { payoff_limit = largest; limit = limit; budget = budget }

-- what fills, a claim and a measure of the code claim
abbrev pub claimed_in : List Fraction → Claim → Measure → Reading
claimed_in fills claim measure = reading_with fills (fraction_of claim.surplus) (map point_of measure.points) (fraction_of claim.liability)
