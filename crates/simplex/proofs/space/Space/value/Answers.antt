use Rattle.std.proofs.Common.{◌∙◌, sym, ap, subst, unsigned_abs}
use Rattle.fraction_tableau.specs.SparseRows.{program_in}
use Rattle.simplex.specs.declared.stage.Stage.{Stage}
use Rattle.simplex.specs.Spaces.{Workspace, value_of, IsAt}
use Rattle.simplex.proofs.SpaceSteps.{optimum_is_there, whole_is_there}
use Rattle.simplex.proofs.space.Space.value.Goals as goal

pub value-requires : goal.value-requires
value-requires g c =
    let s = c.self.inside in
    let r = subst (λ (st : Stage). IsAt (unsigned_abs g.N.Exact.LIMIT) st (program_in g.N.Exact.fraction s.program) s.table s.whole) c.in-WholeOptimal.is c.self.invariant.stage in
    r

pub returns-in-WholeOptimal : goal.returns-in-WholeOptimal
returns-in-WholeOptimal g c =
    let s = c.self.inside in
    c.value.ensures ∙ sym (ap value_of (whole_is_there g.N.Exact.fraction s.stage (program_in g.N.Exact.fraction s.program) s.table s.whole c.args.self.now.contents (ap (λ (w : Workspace). w.contents) c.self.view_is) c.in-WholeOptimal.is))

pub returns-in_default : goal.returns-in_default
returns-in_default g c =
    let s = c.self.inside in
    c.value-in_default.ensures
    ∙ sym (ap value_of (optimum_is_there g.N.Exact.fraction s.stage (program_in g.N.Exact.fraction s.program) s.table s.whole c.args.self.now.contents (ap (λ (w : Workspace). w.contents) c.self.view_is) c.requires c.in_default.not-WholeOptimal))
