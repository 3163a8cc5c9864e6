-- What the answer of a joint solve has shown.
use Rattle.std.proofs.Common.{◌≡◌, ℕ, ◌≤◌, List, IfOk, Result, Ok, Err}
use Rattle.exact_num.specs.Fraction.{Fraction}
use Rattle.frac.specs.Range.{limit}
use Rattle.form.specs.declared.orders.Order.{Order}
use Rattle.form.specs.declared.orders.Batch.{Batch}
use Rattle.clearing_model.specs.Clearing.{AreOn}
use Rattle.master_program.specs.Rounds.{Limits}
use Rattle.simplex.specs.declared.stop.SolveStop.{SolveStop}
use Rattle.constraint_generation.specs.declared.solution.Solution.{Solution}
use Rattle.constraint_generation.specs.Answers.{IsJointAnswer, OfSolution, reading_in}
use Rattle.constraint_generation.specs.Laws.{IsGreatestBy, IsYesWith}
use Rattle.constraint_generation.specs.Run.{joint_run}
use Rattle.constraint_generation.proofs.JointRuns.{cleared_is_greatest, cleared_passes_the_verdict}

pub answer_is_greatest : {A : Type 0} (value : A → Fraction) (limits : Limits) (n spent units : ℕ) (orders : List Order) (result : Result (Solution A) SolveStop)
    → 1 ≤ n → n ≤ 8 → spent ≤ limits.budget → IsJointAnswer value (joint_run limits n orders spent) result units → IfOk result (OfSolution value (IsGreatestBy n orders))
answer_is_greatest value limits n spent units orders (Ok joint) some few le is =
    (is.0, is.1, cleared_is_greatest limits n spent units orders (reading_in value joint, is.0) some few le is.2)
answer_is_greatest value limits n spent units orders (Err stop) some few le is = tt

pub answer_passes : {A : Type 0} (value : A → Fraction) (limits : Limits) (spent units : ℕ) (batch : Batch) (result : Result (Solution A) SolveStop)
    → 1 ≤ batch.underlyings → batch.underlyings ≤ 8 → AreOn batch.underlyings batch.orders → spent ≤ limits.budget → limits.payoff_limit ≡ limit
    → IsJointAnswer value (joint_run limits batch.underlyings batch.orders spent) result units → IfOk result (λ joint. IsYesWith batch (reading_in value joint) joint.cover)
answer_passes value limits spent units batch (Ok joint) some few on le wide is =
    cleared_passes_the_verdict limits spent units batch (reading_in value joint, is.0) some few on le wide is.2 joint.cover is.1
answer_passes value limits spent units batch (Err stop) some few on le wide is = tt
