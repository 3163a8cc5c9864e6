use Rattle.std.proofs.Common.{map, ap, ◌∙◌}
use Rattle.frac.specs.Range.{limit}
use Rattle.cell_cover.specs.Read.{multiplier_of}
use Rattle.cell_cover.specs.Rows.{row_of}
use Rattle.cell_cover.specs.Kinked.{classes_as, knowledge_as}
use Rattle.cell_cover.specs.Mixed.{greater_mixed}
use Rattle.cell_cover.proofs.mixing.mixed_bound.Goals as goal

pub returns : goal.returns
returns c =
    let kinked = c.args.kinked in
    let n = kinked.entries in
    c.greater_mixed.ensures
    ∙ ap (λ zeros. greater_mixed limit (classes_as kinked) (knowledge_as n c.args.known.now) zeros (row_of n c.args.entries.now) (map multiplier_of c.args.minus.now) (map multiplier_of c.args.plus.now)) (c.zero_row-zeros.ensures n kinked.within.1)
