use Rattle.std.proofs.Common.{◌≤◌, ◌∙◌, sym, subst, length}
use Rattle.fraction_tableau.proofs.ArenaSteps.{any_default}
use Rattle.fraction_tableau.proofs.Parts.{part_inside}
use Rattle.fraction_tableau.proofs.sparse.SparseProgram.end.Goals as goal

pub returns-clause-inside : goal.returns-clause-inside
returns-clause-inside g c =
    let s = c.args.self.now in
    let low = c.requires in
    subst (λ k. k ≤ length s.entries.items) (sym (c.index.ensures ∙ any_default s.ends.items c.args.i c.index.result.now 0 low)) (part_inside 0 s.ends.items (length s.entries.items) c.args.i s.in_order c.requires).1
