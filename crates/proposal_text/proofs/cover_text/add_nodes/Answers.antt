use Rattle.std.proofs.Common.{◌++◌, refl, ap, ◌∙◌}
use Rattle.std.proofs.lemmas.Result.{on_ok_weaker}
use Rattle.cell_cover.specs.declared.cover.Node.{Node}
use Rattle.reply_print.specs.Piece.{piece, pieces_text}
use Rattle.reply_print.proofs.Behind.{item_added, next_item, all_items}
use Rattle.proposal_text.specs.CoverPieces.{cell_piece}
use Rattle.proposal_text.proofs.cover_text.add_nodes.Goals as goal

pub loop-node-preserved : goal.loop-node-preserved
loop-node-preserved c =
    let l = c.loop-node in
    next_item cell_piece c.args.nodes.now l.node-index c.node-item.result l.line.items c.add_node.new.line.items _ l.later c.loop-node-test.true l.invariant
    (λ ps. item_added l.line.items c.append-in-loop-node.new.line.items c.add_node.new.line.items c.comma.result.now l.later (cell_piece c.node-item.result)
    c.comma.ensures c.in_ok-append-2.ensures c.in_ok-add_node.ensures ps
    ∙ ap (λ (node : Node). l.line.items ++ pieces_text l.later (piece (cell_piece node) ps)) c.node-item.is)

pub returns : goal.returns
returns c =
    let l = c.loop-node in
    on_ok_weaker c.append-2.result
    (λ e. all_items cell_piece c.args.nodes.now l.node-index c.args.line.now.items _ l.line.items c.append-2.new.line.items l.later c.loop-node-test.false refl l.invariant e)
    c.append-2.ensures
