use Rattle.std.proofs.Common.{◌<◌, ◌∙◌, sym, ap, subst, arith, length, unsigned_abs}
use Rattle.simplex_run.specs.Places.{at}
use Rattle.simplex_run.proofs.Listed.{listed_count, listed_at}
use Rattle.fraction_tableau.specs.Tables.{as_table}
use Rattle.integer_tableau.specs.Tables.{as_whole}
use Rattle.fraction_tableau.specs.SparseRows.{program_in}
use Rattle.simplex.specs.declared.stage.Stage.{Stage}
use Rattle.simplex_run.specs.Run.{reduced_cost_of}
use Rattle.run_equivalence.specs.WholeRunning.{whole_reduced_cost}
use Rattle.simplex.specs.Spaces.{Workspace, Contents, reduced_of, IsAt}
use Rattle.simplex.proofs.SpaceSteps.{optimum_is_there, whole_is_there}
use Rattle.simplex.proofs.space.Space.reduced.Goals as goal

pub reduced_cost-requires : goal.reduced_cost-requires
reduced_cost-requires g c =
    let s = c.self.inside in
    let r = subst (λ (st : Stage). IsAt (unsigned_abs g.N.Exact.LIMIT) st (program_in g.N.Exact.fraction s.program) s.table s.whole) c.in-WholeOptimal.is c.self.invariant.stage in
    let t = s.whole in
    let there = whole_is_there g.N.Exact.fraction s.stage (program_in g.N.Exact.fraction s.program) s.table t c.args.self.now.contents (ap (λ (w : Workspace). w.contents) c.self.view_is) c.in-WholeOptimal.is in
    let f = whole_reduced_cost (as_whole t) in
    let low = subst (λ (d : Contents). c.args.j < length (reduced_of d)) there c.requires.place in
    record { within = r; variable = omega (arith, low, listed_count f 0 (length t.labels.items)) }

pub returns-in-WholeOptimal : goal.returns-in-WholeOptimal
returns-in-WholeOptimal g c =
    let value = g.N.Exact.fraction in
    let s = c.self.inside in
    let t = s.whole in
    let n = length t.labels.items in
    let j = c.args.j in
    let there = whole_is_there value s.stage (program_in value s.program) s.table t c.args.self.now.contents (ap (λ (w : Workspace). w.contents) c.self.view_is) c.in-WholeOptimal.is in
    let f = whole_reduced_cost (as_whole t) in
    let low = subst (λ (d : Contents). j < length (reduced_of d)) there c.requires.place in
    c.reduced_cost.ensures ∙ sym (ap (λ (d : Contents). at (reduced_of d) j) there ∙ listed_at f n j (omega (arith, low, listed_count f 0 n)))

pub reduced_cost-requires-in_default : goal.reduced_cost-requires-in_default
reduced_cost-requires-in_default g c =
    let value = g.N.Exact.fraction in
    let s = c.self.inside in
    let t = s.table in
    let there = optimum_is_there value s.stage (program_in value s.program) t s.whole c.args.self.now.contents (ap (λ (w : Workspace). w.contents) c.self.view_is) c.requires.found c.in_default.not-WholeOptimal in
    let low = subst (λ (d : Contents). c.args.j < length (reduced_of d)) there c.requires.place in
    omega (arith, low, listed_count (reduced_cost_of (as_table value t)) 0 (length t.labels.items))

pub returns-in_default : goal.returns-in_default
returns-in_default g c =
    let value = g.N.Exact.fraction in
    let s = c.self.inside in
    let t = s.table in
    let n = length t.labels.items in
    let j = c.args.j in
    let there = optimum_is_there value s.stage (program_in value s.program) t s.whole c.args.self.now.contents (ap (λ (w : Workspace). w.contents) c.self.view_is) c.requires.found c.in_default.not-WholeOptimal in
    let f = reduced_cost_of (as_table value t) in
    let low = subst (λ (d : Contents). j < length (reduced_of d)) there c.requires.place in
    c.reduced_cost-in_default.ensures ∙ sym (ap (λ (d : Contents). at (reduced_of d) j) there ∙ listed_at f n j (omega (arith, low, listed_count f 0 n)))
