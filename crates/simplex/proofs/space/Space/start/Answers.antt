use Rattle.std.proofs.Common.{sym, ap, subst, arith}
use Rattle.std.proofs.lemmas.List.{length-map}
use Rattle.simplex_run.specs.Program.{LinearProgram}
use Rattle.simplex_run.specs.Optimum.{IsProgram}
use Rattle.simplex.specs.Spaces.{Workspace, workspace, given}
use Rattle.simplex.proofs.SpaceSteps.{empty_is_program, room_kept, rows_listed}
use Rattle.simplex.proofs.space.Space.start.Goals as goal

pub begin-requires : goal.begin-requires
begin-requires g c = omega (arith, ap (λ (w : Workspace). w.columns) c.self.view_is, c.self.invariant.program.costs, c.requires)

pub invariant_of-self : goal.invariant_of-self
invariant_of-self g c =
    let laws = g.met.N.Exact in
    let value = g.N.Exact.fraction in
    let costs = c.args.costs.now in
    let program = c.begin.ensures.program in
    let inv = c.self.invariant in
    let variables = ap (λ (p : LinearProgram). p.variables) program in
    let rows = ap (λ (p : LinearProgram). p.rows) program in
    record {
      program = room_kept _ _ _ _ inv.program c.begin.ensures.room;
      costs = λ e. omega (arith, ap (λ (w : Workspace). w.columns) c.self.view_is, variables, length-map costs value, c.requires);
      ends = λ e. omega (arith, rows, rows_listed value c.begin.new.self);
      line = inv.line;
      width = inv.width;
      room = inv.room;
      stage = subst IsProgram (sym program) (empty_is_program value costs laws.lowest);
    }

pub returns : goal.returns
returns g c =
    λ i. workspace (c.self.view_is i).rows (c.self.view_is i).columns (given (c.begin.ensures.program i))
