use Rattle.std.proofs.Common.{List, length, map, ap, ◌∙◌}
use Rattle.frac.specs.Value.{fraction_of}
use Rattle.cell_cover.specs.declared.cover.Node.{Node}
use Rattle.cell_cover.specs.Classes.{classes_of}
use Rattle.cell_cover.specs.Formed.{is_formed}
use Rattle.cell_cover.specs.Read.{node_of}
use Rattle.cell_cover.specs.Verdicts.{cells_verdict}
use Rattle.proposal_check.specs.Covers.{of_cells}
use Rattle.proposal_check.proofs.Answered.{answer_back}
use Rattle.proposal_check.proofs.covering.cells_close.Goals as goal

pub closes-requires-clause-formed : goal.closes-requires-clause-formed
closes-requires-clause-formed c =
    ap (λ (nodes : List Node). is_formed (length (classes_of c.args.batch.now.orders)) (map node_of nodes)) c.as_slice.ensures ∙ c.requires.formed

pub returns : goal.returns
returns c =
    let n = c.args.batch.now.underlyings in
    let orders = c.args.batch.now.orders in
    let fills = map fraction_of c.args.fills.now in
    let L = fraction_of c.args.liability.now in
    c.of_cells.ensures ∙ ap of_cells c.in_ok-verdict.ensures.walked
    ∙ ap (λ (nodes : List Node). of_cells (cells_verdict n orders fills L (map node_of nodes))) c.as_slice.ensures
    ∙ answer_back n orders fills L (map node_of c.args.nodes.now)
