use Rattle.std.proofs.Common.{◌-◌, sym, subst, unsigned_abs}
use Rattle.std.specs.Prelude.{Option, Result}
use Rattle.simplex_run.specs.Program.{LinearProgram}
use Rattle.simplex_run.specs.Run.{run}
use Rattle.fraction_tableau.specs.SparseRows.{program_in}
use Rattle.simplex.specs.declared.budget.Budget.{Budget}
use Rattle.simplex.specs.declared.stage.Stage.{Stage}
use Rattle.simplex.specs.declared.stop.RunStop.{RunStop}
use Rattle.simplex.specs.Attempts.{IsTried, IsEndOf}
use Rattle.simplex_run.specs.Optimum.{IsProgram}
use Rattle.simplex.proofs.attempt.run_given.Goals as goal

pub returns-in-Some-clause-run : goal.returns-in-Some-clause-run
returns-in-Some-clause-run g c =
    let value = g.N.Exact.fraction in
    let L = unsigned_abs g.N.Exact.LIMIT in
    let p = program_in value c.args.program.now in
    let budget = c.args.budget.now in
    subst (λ (q : Option (Result Stage RunStop)). IsTried value L p (run L p (budget.limit - budget.spent) budget.spent) q c.run_whole.new.budget.spent c.args.table.now c.run_whole.new.whole)
    c.in-Some.is (c.run_whole.ensures.tried c.args.table.now c.requires.given)

pub returns-in-None-clause-run : goal.returns-in-None-clause-run
returns-in-None-clause-run g c =
    let value = g.N.Exact.fraction in
    let L = unsigned_abs g.N.Exact.LIMIT in
    let p = program_in value c.args.program.now in
    let w = c.run_whole.new.whole in
    let same = c.give.ensures.program in
    let ends = λ (q : LinearProgram) (b : Budget). IsEndOf value L q (run L q (b.limit - b.spent) b.spent) c.run_fractions.result c.run_fractions.new.budget.spent c.run_fractions.new.table w in
    let given = subst IsProgram (sym same) c.requires.given in
    subst (ends p) (c.run_whole.ensures.given_up c.in-None.is) (subst (λ (q : LinearProgram). ends q c.run_whole.new.budget) same (c.run_fractions.ensures.ended w given))
