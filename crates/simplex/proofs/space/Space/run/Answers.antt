use Rattle.std.proofs.Common.{◌≡◌, ◌-◌, ◌∙◌, sym, ap, subst, refl, arith, length, unsigned_abs}
use Rattle.std.specs.Prelude.{Ok, Err, Result}
use Rattle.simplex_run.specs.Program.{LinearProgram}
use Rattle.simplex_run.specs.Run.{run}
use Rattle.simplex_run.specs.Units.{units_of}
use Rattle.simplex_run.proofs.Optima.{ends_are_as_said}
use Rattle.fraction_tableau.specs.SparseRows.{program_in}
use Rattle.simplex.specs.declared.stage.Stage.{Stage}
use Rattle.simplex.specs.declared.stop.RunStop.{RunStop}
use Rattle.simplex.specs.declared.stop.RunStop.TheVariants.{Budget}
use Rattle.simplex.specs.Spaces.{Workspace, program_given, answer_of, contents_after}
use Rattle.simplex.specs.Attempts.{IsEndOf}
use Rattle.simplex.proofs.SpaceSteps.{program_is_given, program_stands, stop_enough}
use Rattle.simplex.proofs.space.Space.run.Goals as goal

pub run_given-requires : goal.run_given-requires
run_given-requires g c =
    let value = g.N.Exact.fraction in
    let L = unsigned_abs g.N.Exact.LIMIT in
    let s = c.self.inside in
    let there = program_is_given value L s.stage (program_in value s.program) s.table s.whole c.args.self.now.contents (ap (λ (w : Workspace). w.contents) c.self.view_is) c.requires c.self.invariant.stage in
    let inv = c.self.invariant in
    let few = inv.costs there.0 in
    let short = inv.ends there.0 in
    record {
      given = there.2;
      line = omega (arith, ap length c.as_mut_slice.ensures.value, few, inv.line);
      costs = omega (arith, few, inv.width);
      rows = omega (arith, short, inv.room);
    }

pub returns-in-Ok-clause-run : goal.returns-in-Ok-clause-run
returns-in-Ok-clause-run g c =
    let value = g.N.Exact.fraction in
    let L = unsigned_abs g.N.Exact.LIMIT in
    let s = c.self.inside in
    let there = program_is_given value L s.stage (program_in value s.program) s.table s.whole c.args.self.now.contents (ap (λ (w : Workspace). w.contents) c.self.view_is) c.requires c.self.invariant.stage in
    let left = c.args.budget.now.limit - c.args.budget.now.spent in
    let spent = c.args.budget.now.spent in
    let told = subst (λ (r : Result Stage RunStop). IsEndOf value L (program_in value s.program) (run L (program_in value s.program) left spent) r c.run_given.new.budget.spent c.run_given.new.table c.run_given.new.whole) c.in-Ok.is c.run_given.ensures.run in
    record {
      answer = ap Ok c.is_optimum.ensures ∙ told.answer ∙ ap (λ (q : LinearProgram). answer_of (run L q left spent)) (sym there.1);
      contents = told.contents ∙ ap (λ (q : LinearProgram). contents_after (run L q left spent)) (sym there.1);
      units = told.units ∙ ap (λ (q : LinearProgram). units_of (run L q left spent)) (sym there.1);
    }

pub returns-in-Ok-clause-holds : goal.returns-in-Ok-clause-holds
returns-in-Ok-clause-holds g c =
    let value = g.N.Exact.fraction in
    let L = unsigned_abs g.N.Exact.LIMIT in
    let s = c.self.inside in
    let there = program_is_given value L s.stage (program_in value s.program) s.table s.whole c.args.self.now.contents (ap (λ (w : Workspace). w.contents) c.self.view_is) c.requires c.self.invariant.stage in
    ends_are_as_said L (program_given c.args.self.now.contents) (c.args.budget.now.limit - c.args.budget.now.spent) c.args.budget.now.spent (program_stands L (program_in value s.program) c.args.self.now.contents there.2 there.1)

pub returns-in-Err-clause-run : goal.returns-in-Err-clause-run
returns-in-Err-clause-run g c =
    let value = g.N.Exact.fraction in
    let L = unsigned_abs g.N.Exact.LIMIT in
    let s = c.self.inside in
    let there = program_is_given value L s.stage (program_in value s.program) s.table s.whole c.args.self.now.contents (ap (λ (w : Workspace). w.contents) c.self.view_is) c.requires c.self.invariant.stage in
    let left = c.args.budget.now.limit - c.args.budget.now.spent in
    let spent = c.args.budget.now.spent in
    let told = subst (λ (r : Result Stage RunStop). IsEndOf value L (program_in value s.program) (run L (program_in value s.program) left spent) r c.run_given.new.budget.spent c.run_given.new.table c.run_given.new.whole) c.in-Err.is c.run_given.ensures.run in
    record {
      answer = told.answer ∙ ap (λ (q : LinearProgram). answer_of (run L q left spent)) (sym there.1);
      contents = told.contents ∙ ap (λ (q : LinearProgram). contents_after (run L q left spent)) (sym there.1);
      units = told.units ∙ ap (λ (q : LinearProgram). units_of (run L q left spent)) (sym there.1);
    }

pub returns-in-Err-clause-holds : goal.returns-in-Err-clause-holds
returns-in-Err-clause-holds g c =
    let value = g.N.Exact.fraction in
    let L = unsigned_abs g.N.Exact.LIMIT in
    let s = c.self.inside in
    let there = program_is_given value L s.stage (program_in value s.program) s.table s.whole c.args.self.now.contents (ap (λ (w : Workspace). w.contents) c.self.view_is) c.requires c.self.invariant.stage in
    ends_are_as_said L (program_given c.args.self.now.contents) (c.args.budget.now.limit - c.args.budget.now.spent) c.args.budget.now.spent (program_stands L (program_in value s.program) c.args.self.now.contents there.2 there.1)

pub returns-in-Err-clause-enough : goal.returns-in-Err-clause-enough
returns-in-Err-clause-enough g c out =
    let value = g.N.Exact.fraction in
    let L = unsigned_abs g.N.Exact.LIMIT in
    let s = c.self.inside in
    let there = program_is_given value L s.stage (program_in value s.program) s.table s.whole c.args.self.now.contents (ap (λ (w : Workspace). w.contents) c.self.view_is) c.requires c.self.invariant.stage in
    let left = c.args.budget.now.limit - c.args.budget.now.spent in
    let spent = c.args.budget.now.spent in
    let told = subst (λ (r : Result Stage RunStop). IsEndOf value L (program_in value s.program) (run L (program_in value s.program) left spent) r c.run_given.new.budget.spent c.run_given.new.table c.run_given.new.whole) c.in-Err.is c.run_given.ensures.run in
    let answer = told.answer ∙ ap (λ (q : LinearProgram). answer_of (run L q left spent)) (sym there.1) in
    let budget : c.in-Err.stop ≡ Budget = cc in
    stop_enough L left spent (program_given c.args.self.now.contents) _ (program_stands L (program_in value s.program) c.args.self.now.contents there.2 there.1) refl (ap Err (sym budget) ∙ answer)
