use Rattle.std.proofs.Common.{◌<◌, ◌-◌, ◌∙◌, sym, ap, subst, unsigned_abs}
use Rattle.std.specs.Prelude.{Ok, Err}
use Rattle.std.proofs.lemmas.Result.{err_from_is_err_and}
use Rattle.simplex_run.specs.Choose.{bases_of}
use Rattle.simplex_run.specs.Program.{LinearProgram}
use Rattle.simplex_run.specs.Run.{run}
use Rattle.linear_programs.specs.Answers.{IsAnswer, HoldsOf}
use Rattle.simplex.specs.Stops.{stop_of}
use Rattle.simplex.specs.Spaces.{program_given, IsFound, IsProgramGiven, IsRising}
use Rattle.linear_programs.proofs.SolveSteps.{solved_is, stop_is, budget_is, holds, err_same, has_optimum, has_direction, found_after, rising_after}
use Rattle.linear_programs.proofs.solver.solve.Goals as goal

pub run-requires : goal.run-requires
run-requires g c = subst IsProgramGiven (sym c.in_ok-space.ensures) tt

pub returns-in_err-run-clause-run : goal.returns-in_err-run-clause-run
returns-in_err-run-clause-run g c =
    let q = err_from_is_err_and c.from_residual-in_err-run.result c.from_residual-in_err-run.ensures.1 in
    let value = g.N.Exact.fraction in
    let left = c.args.budget.now.limit - c.args.budget.now.spent in
    let spent = c.args.budget.now.spent in
    let same = ap program_given c.in_ok-space.ensures in
    let E = run (unsigned_abs g.N.Exact.LIMIT) (program_given c.in_ok-space.space.contents) left spent in
    let told = stop_is value E c.in_err-run.field-0.0 c.run.new.budget.spent (sym c.in_err-run.was ∙ c.run.ensures.run.answer) c.run.ensures.run.units in
    rw (q.1, q.2) (subst (λ (p : LinearProgram). IsAnswer value (run (unsigned_abs g.N.Exact.LIMIT) p left spent) (Err (stop_of c.in_err-run.field-0.0)) c.run.new.budget.spent) same told)

pub returns-in_err-run-clause-enough : goal.returns-in_err-run-clause-enough
returns-in_err-run-clause-enough g c out =
    let q = err_from_is_err_and c.from_residual-in_err-run.result c.from_residual-in_err-run.ensures.1 in
    let same = ap program_given c.in_ok-space.ensures in
    let stop = budget_is c.in_err-run.field-0.0 (sym q.2 ∙ err_same c.from_residual-in_err-run.result _ _ q.1 out) in
    let low = c.run.ensures.enough (c.in_err-run.was ∙ ap Err stop) in
    subst (λ (p : LinearProgram). c.args.budget.now.limit - c.args.budget.now.spent < bases_of p) same low

pub optimum-requires-clause-found : goal.optimum-requires-clause-found
optimum-requires-clause-found g c =
    let E = run (unsigned_abs g.N.Exact.LIMIT) (program_given c.in_ok-space.space.contents) (c.args.budget.now.limit - c.args.budget.now.spent) c.args.budget.now.spent in
    let told = sym (c.in_ok-run.was ∙ ap Ok c.if-branch.true) ∙ c.run.ensures.run.answer in
    subst IsFound (sym c.run.ensures.run.contents) (found_after E told)

pub without_limit-requires-clause-rising : goal.without_limit-requires-clause-rising
without_limit-requires-clause-rising g c =
    let E = run (unsigned_abs g.N.Exact.LIMIT) (program_given c.in_ok-space.space.contents) (c.args.budget.now.limit - c.args.budget.now.spent) c.args.budget.now.spent in
    let told = sym (c.in_ok-run.was ∙ ap Ok c.if-branch.false) ∙ c.run.ensures.run.answer in
    subst IsRising (sym c.run.ensures.run.contents) (rising_after E told)

pub optimum-requires-clause-x : goal.optimum-requires-clause-x
optimum-requires-clause-x g c =
    let E = run (unsigned_abs g.N.Exact.LIMIT) (program_given c.in_ok-space.space.contents) (c.args.budget.now.limit - c.args.budget.now.spent) c.args.budget.now.spent in
    let same = ap program_given c.in_ok-space.ensures in
    let told = sym (c.in_ok-run.was ∙ ap Ok c.if-branch.true) ∙ c.run.ensures.run.answer in
    let there = has_optimum (program_given c.in_ok-space.space.contents) E c.run.new.self.contents c.run.ensures.holds told c.run.ensures.run.contents in
    c.in_ok-x.ensures.count ∙ sym (there.x ∙ ap (λ (p : LinearProgram). p.variables) same)

pub optimum-requires-clause-y : goal.optimum-requires-clause-y
optimum-requires-clause-y g c =
    let E = run (unsigned_abs g.N.Exact.LIMIT) (program_given c.in_ok-space.space.contents) (c.args.budget.now.limit - c.args.budget.now.spent) c.args.budget.now.spent in
    let same = ap program_given c.in_ok-space.ensures in
    let told = sym (c.in_ok-run.was ∙ ap Ok c.if-branch.true) ∙ c.run.ensures.run.answer in
    let there = has_optimum (program_given c.in_ok-space.space.contents) E c.run.new.self.contents c.run.ensures.holds told c.run.ensures.run.contents in
    c.in_ok-y.ensures.count ∙ sym (there.y ∙ ap (λ (p : LinearProgram). p.rows) same)

pub optimum-requires-clause-reduced : goal.optimum-requires-clause-reduced
optimum-requires-clause-reduced g c =
    let E = run (unsigned_abs g.N.Exact.LIMIT) (program_given c.in_ok-space.space.contents) (c.args.budget.now.limit - c.args.budget.now.spent) c.args.budget.now.spent in
    let same = ap program_given c.in_ok-space.ensures in
    let told = sym (c.in_ok-run.was ∙ ap Ok c.if-branch.true) ∙ c.run.ensures.run.answer in
    let there = has_optimum (program_given c.in_ok-space.space.contents) E c.run.new.self.contents c.run.ensures.holds told c.run.ensures.run.contents in
    c.in_ok-reduced.ensures.count ∙ sym (there.reduced ∙ ap (λ (p : LinearProgram). p.variables) same)

pub without_limit-requires-clause-x : goal.without_limit-requires-clause-x
without_limit-requires-clause-x g c =
    let E = run (unsigned_abs g.N.Exact.LIMIT) (program_given c.in_ok-space.space.contents) (c.args.budget.now.limit - c.args.budget.now.spent) c.args.budget.now.spent in
    let same = ap program_given c.in_ok-space.ensures in
    let told = sym (c.in_ok-run.was ∙ ap Ok c.if-branch.false) ∙ c.run.ensures.run.answer in
    let there = has_direction (program_given c.in_ok-space.space.contents) E c.run.new.self.contents c.run.ensures.holds told c.run.ensures.run.contents in
    c.in_ok-x.ensures.count ∙ sym (there.direction ∙ ap (λ (p : LinearProgram). p.variables) same)

pub returns-then-branch-clause-holds : goal.returns-then-branch-clause-holds
returns-then-branch-clause-holds g c =
    let E = run (unsigned_abs g.N.Exact.LIMIT) (program_given c.in_ok-space.space.contents) (c.args.budget.now.limit - c.args.budget.now.spent) c.args.budget.now.spent in
    let same = ap program_given c.in_ok-space.ensures in
    let solved = c.optimum.result in
    let after = c.run.new.budget.spent in
    let end = solved_is g.N.Exact.fraction E solved after (c.optimum.ensures ∙ c.run.ensures.run.contents) c.run.ensures.run.units in
    subst (λ (p : LinearProgram). HoldsOf g.N.Exact.fraction p (Ok solved)) same (holds g.N.Exact.fraction (program_given c.in_ok-space.space.contents) E solved after c.run.ensures.holds end)

pub returns-else-branch-clause-holds : goal.returns-else-branch-clause-holds
returns-else-branch-clause-holds g c =
    let E = run (unsigned_abs g.N.Exact.LIMIT) (program_given c.in_ok-space.space.contents) (c.args.budget.now.limit - c.args.budget.now.spent) c.args.budget.now.spent in
    let same = ap program_given c.in_ok-space.ensures in
    let solved = c.without_limit.result in
    let after = c.run.new.budget.spent in
    let end = solved_is g.N.Exact.fraction E solved after (c.without_limit.ensures ∙ c.run.ensures.run.contents) c.run.ensures.run.units in
    subst (λ (p : LinearProgram). HoldsOf g.N.Exact.fraction p (Ok solved)) same (holds g.N.Exact.fraction (program_given c.in_ok-space.space.contents) E solved after c.run.ensures.holds end)

pub returns-then-branch-clause-run : goal.returns-then-branch-clause-run
returns-then-branch-clause-run g c =
    let L = unsigned_abs g.N.Exact.LIMIT in
    let left = c.args.budget.now.limit - c.args.budget.now.spent in
    let spent = c.args.budget.now.spent in
    let E = run L (program_given c.in_ok-space.space.contents) left spent in
    let same = ap program_given c.in_ok-space.ensures in
    let end = solved_is g.N.Exact.fraction E c.optimum.result c.run.new.budget.spent (c.optimum.ensures ∙ c.run.ensures.run.contents) c.run.ensures.run.units in
    ap (λ (p : LinearProgram). run L p left spent) (sym same) ∙ end

pub returns-else-branch-clause-run : goal.returns-else-branch-clause-run
returns-else-branch-clause-run g c =
    let L = unsigned_abs g.N.Exact.LIMIT in
    let left = c.args.budget.now.limit - c.args.budget.now.spent in
    let spent = c.args.budget.now.spent in
    let E = run L (program_given c.in_ok-space.space.contents) left spent in
    let same = ap program_given c.in_ok-space.ensures in
    let end = solved_is g.N.Exact.fraction E c.without_limit.result c.run.new.budget.spent (c.without_limit.ensures ∙ c.run.ensures.run.contents) c.run.ensures.run.units in
    ap (λ (p : LinearProgram). run L p left spent) (sym same) ∙ end
