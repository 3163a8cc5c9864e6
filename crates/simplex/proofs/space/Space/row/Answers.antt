use Rattle.std.proofs.Common.{◌≡◌, ◌<◌, ◌∙◌, sym, ap, subst, arith, length, map, unsigned_abs, vec_len}
use Rattle.simplex_run.specs.Program.{LinearProgram}
use Rattle.simplex_run.specs.Optimum.{IsProgram}
use Rattle.fraction_tableau.specs.Programs.{with_row}
use Rattle.fraction_tableau.specs.SparseRows.{program_in}
use Rattle.simplex.specs.Spaces.{Workspace, workspace, given, contents_of, IsAt}
use Rattle.simplex.specs.declared.stage.Stage.{Stage}
use Rattle.simplex.proofs.SpaceSteps.{program_is_given, row_is_program, room_kept, room_for_row, rows_listed}
use Rattle.simplex.proofs.space.Space.row.Goals as goal

pub row-requires : goal.row-requires
row-requires g c =
    let s = c.self.inside in
    let p = s.program in
    let inv = c.self.invariant in
    let value = g.N.Exact.fraction in
    let there = program_is_given value (unsigned_abs g.N.Exact.LIMIT) s.stage (program_in value p) s.table s.whole c.args.self.now.contents (ap (λ (w : Workspace). w.contents) c.self.view_is) c.requires.given inv.stage in
    let variables = ap (λ (p : LinearProgram). p.variables) there.1 in
    let rows = ap (λ (p : LinearProgram). p.rows) there.1 in
    let few = inv.costs there.0 in
    let low : vec_len p.ends < s.rows = omega (arith, c.requires.room, rows, rows_listed value p, ap (λ (w : Workspace). w.rows) c.self.view_is, p.ends.ok) in
    record {
      width = c.requires.width ∙ variables;
      ends = omega (arith, low, inv.program.ends);
      entries = room_for_row s.rows s.columns (vec_len p.ends) (vec_len p.costs) _ low (omega (arith, few, p.costs.ok)) inv.program.entries;
    }

pub invariant_of-self : goal.invariant_of-self
invariant_of-self g c =
    let laws = g.met.N.Exact in
    let value = g.N.Exact.fraction in
    let L = unsigned_abs g.N.Exact.LIMIT in
    let s = c.self.inside in
    let p = s.program in
    let inv = c.self.invariant in
    let there = program_is_given value L s.stage (program_in value p) s.table s.whole c.args.self.now.contents (ap (λ (w : Workspace). w.contents) c.self.view_is) c.requires.given inv.stage in
    let few = inv.costs there.0 in
    let program = c.row.ensures.program in
    let width : length c.args.a.now ≡ length p.costs.items = c.requires.width ∙ ap (λ (p : LinearProgram). p.variables) there.1 in
    let given_rows = ap (λ (p : LinearProgram). p.rows) there.1 in
    let variables = ap (λ (p : LinearProgram). p.variables) program in
    let rows = ap (λ (p : LinearProgram). p.rows) program in
    let more = row_is_program value (program_in value p) c.args.a.now c.args.b laws.lowest there.2 width c.requires.right_side in
    let stage : IsProgram (program_in value c.row.new.self) = subst IsProgram (sym program) more in
    record {
      program = room_kept _ _ _ _ inv.program c.row.ensures.room;
      costs = λ e. omega (arith, variables, few);
      ends = λ e. omega (arith, rows, rows_listed value c.row.new.self, c.requires.room, given_rows, ap (λ (w : Workspace). w.rows) c.self.view_is);
      line = inv.line;
      width = inv.width;
      room = inv.room;
      stage = subst (λ (st : Stage). IsAt L st (program_in value c.row.new.self) s.table s.whole) (sym there.0) stage;
    }

pub returns : goal.returns
returns g c =
    let value = g.N.Exact.fraction in
    let s = c.self.inside in
    let p = s.program in
    let there = program_is_given value (unsigned_abs g.N.Exact.LIMIT) s.stage (program_in value p) s.table s.whole c.args.self.now.contents (ap (λ (w : Workspace). w.contents) c.self.view_is) c.requires.given c.self.invariant.stage in
    let contents = ap (λ (st : Stage). contents_of value st (program_in value c.row.new.self) s.table s.whole) there.0
    ∙ ap given (c.row.ensures.program ∙ ap (λ (p : LinearProgram). with_row p (map value c.args.a.now) (value c.args.b)) (sym there.1)) in
    λ i. workspace (c.self.view_is i).rows (c.self.view_is i).columns (contents i)
