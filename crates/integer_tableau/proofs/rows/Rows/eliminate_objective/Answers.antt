use Rattle.std.proofs.Common.{◌∙◌, sym, refl}
use Rattle.std.proofs.lemmas.List.{map-id}
use Rattle.integer_tableau.proofs.Eliminating.{eliminated_at}
use Rattle.integer_tableau.proofs.Standing.{pivot_words, read_short, read_wide}
use Rattle.integer_tableau.proofs.rows.Rows.eliminate_objective.Goals as goal

pub eliminate-requires-clause-pivot : goal.eliminate-requires-clause-pivot
eliminate-requires-clause-pivot c =
    let t = c.args.self.now in
    let k = c.args.known in
    pivot_words k c.args.width t c.row.result.now c.requires.pivot (read_wide t k.step.r _ _ c.requires.pivot.row c.index.ensures c.if-index.true c.row.ensures.row)

pub eliminate-requires-else-index-clause-pivot : goal.eliminate-requires-else-index-clause-pivot
eliminate-requires-else-index-clause-pivot c =
    let t = c.args.self.now in
    let k = c.args.known in
    pivot_words k c.args.width t c.row-else-index.result.now c.requires.pivot (read_short t k.step.r _ _ c.requires.pivot.row c.index.ensures c.if-index.false c.row-else-index.ensures.row)

pub returns-then-index-clause-eliminated : goal.returns-then-index-clause-eliminated
returns-then-index-clause-eliminated c done =
    let t = c.args.self.now in
    let k = c.args.known in
    let there = read_wide t k.step.r _ _ c.requires.pivot.row c.index.ensures c.if-index.true c.row.ensures.row in
    eliminated_at k c.args.width _ _ _ _ _ _ (map-id c.row.result.now ∙ sym there) refl refl (c.eliminate.ensures.eliminated done)

pub returns-else-index-clause-eliminated : goal.returns-else-index-clause-eliminated
returns-else-index-clause-eliminated c done =
    let t = c.args.self.now in
    let k = c.args.known in
    let here = read_short t k.step.r _ _ c.requires.pivot.row c.index.ensures c.if-index.false c.row-else-index.ensures.row in
    eliminated_at k c.args.width _ _ _ _ _ _ (map-id c.row-else-index.result.now ∙ sym here) refl refl (c.eliminate-else-index.ensures.eliminated done)
