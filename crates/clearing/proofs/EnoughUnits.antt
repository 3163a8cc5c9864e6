-- With enough units the mark is not for want of one.
use Rattle.std.proofs.Common.{◌≡◌, ℕ, subst, arith}
use Rattle.frac.specs.Range.{limit as largest}
use Rattle.simplex_run.specs.Ending.{no_unit_left}
use Rattle.constraint_generation.specs.Answers.{limits_of}
use Rattle.constraint_generation.specs.Run.{joint_run}
use Rattle.constraint_generation.proofs.EnoughUnits.{units_suffice_on_line}
use Rattle.clearing.specs.Laws.{UnitsSuffice}
use Rattle.clearing.specs.Outcome.{EndsAs, outcome_of, run_of}
use Rattle.clearing.proofs.Marks.{outcomes_are_marked}

pub units_suffice : UnitsSuffice
units_suffice batch units within one enough mark =
    let marked = subst (EndsAs (run_of batch units) units (outcome_of batch units)) mark (outcomes_are_marked batch units within) in
    let spent = marked.0.0 in
    let run = subst (λ (n : ℕ). joint_run (limits_of largest units) n batch.orders 0 ≡ no_unit_left spent) one marked.0.1 in
    let few = units_suffice_on_line (limits_of largest units) 0 spent batch.orders run in
    omega (arith, few, enough)
