use Rattle.std.proofs.Common.{◌<◌, ◌∙◌, sym, ap, subst, arith, length, unsigned_abs}
use Rattle.simplex_run.specs.Places.{at}
use Rattle.simplex_run.proofs.Listed.{listed_count, listed_at}
use Rattle.simplex_run.specs.Run.{direction}
use Rattle.fraction_tableau.specs.Tables.{as_table, direction_entry}
use Rattle.run_equivalence.specs.WholeRunning.{whole_direction}
use Rattle.fraction_tableau.specs.Labels.{as_column}
use Rattle.integer_tableau.specs.Tables.{as_whole, direction_entry as whole_entry}
use Rattle.fraction_tableau.specs.SparseRows.{program_in}
use Rattle.simplex.specs.declared.stage.Stage.{Stage}
use Rattle.simplex.specs.Spaces.{Workspace, Contents, contents_of, direction_of, IsAt}
use Rattle.simplex.proofs.SpaceSteps.{direction_is_there}
use Rattle.simplex.proofs.space.Space.direction.Goals as goal

pub direction_at-requires : goal.direction_at-requires
direction_at-requires g c =
    subst (λ (st : Stage). IsAt (unsigned_abs g.N.Exact.LIMIT) st (program_in g.N.Exact.fraction c.self.inside.program) c.self.inside.table c.self.inside.whole) c.in-Unbounded.is c.self.invariant.stage

pub returns-in-Unbounded : goal.returns-in-Unbounded
unfolding direction
returns-in-Unbounded g c =
    let value = g.N.Exact.fraction in
    let t = c.self.inside.table in
    let n = length t.labels.items in
    let j = c.args.j in
    let f = direction_entry (as_column c.in-Unbounded.column) (as_table value t) in
    let there = sym (ap (λ (st : Stage). contents_of value st (program_in value c.self.inside.program) t c.self.inside.whole) (sym c.in-Unbounded.is) ∙ ap (λ (w : Workspace). w.contents) c.self.view_is) in
    let low = subst (λ (d : Contents). j < length (direction_of d)) there c.requires in
    c.direction_at.ensures ∙ sym (ap (λ (d : Contents). at (direction_of d) j) there ∙ listed_at f n j (omega (arith, low, listed_count f 0 n)))

pub returns-in-WholeUnbounded : goal.returns-in-WholeUnbounded
unfolding whole_direction
returns-in-WholeUnbounded g c =
    let value = g.N.Exact.fraction in
    let w = c.self.inside.whole in
    let n = length w.labels.items in
    let j = c.args.j in
    let f = whole_entry (as_column c.in-WholeUnbounded.column) (as_whole w) in
    let there = sym (ap (λ (st : Stage). contents_of value st (program_in value c.self.inside.program) c.self.inside.table w) (sym c.in-WholeUnbounded.is) ∙ ap (λ (w : Workspace). w.contents) c.self.view_is) in
    let low = subst (λ (d : Contents). j < length (direction_of d)) there c.requires in
    c.direction_at-in-WholeUnbounded.ensures ∙ sym (ap (λ (d : Contents). at (direction_of d) j) there ∙ listed_at f n j (omega (arith, low, listed_count f 0 n)))

pub returns-in_default : goal.returns-in_default
returns-in_default g c =
    let s = c.self.inside in
    absurd (direction_is_there g.N.Exact.fraction s.stage (program_in g.N.Exact.fraction s.program) s.table s.whole c.args.self.now.contents c.args.j (ap (λ (w : Workspace). w.contents) c.self.view_is) c.requires
    c.in_default.not-Unbounded c.in_default.not-WholeUnbounded)
