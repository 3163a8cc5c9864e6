use Rattle.std.proofs.Common.{◌++◌, refl, ap, ◌∙◌}
use Rattle.std.proofs.lemmas.Result.{on_ok_weaker}
use Rattle.reply_print.specs.Piece.{piece, pieces_text}
use Rattle.reply_print.proofs.Behind.{next_item, all_items}
use Rattle.reply_print.proofs.printing.add_list.Goals as goal

pub loop-item-preserved : goal.loop-item-preserved
loop-item-preserved g c =
    let l = c.loop-item in
    let f = g.P.Printed.piece in
    next_item f c.args.items.now l.item-index c.item-item.result l.line.items c.add_item.new.line.items _ l.later c.loop-item-test.true l.invariant
    (λ ps. c.in_ok-add_item.ensures ps ∙ ap (λ x. l.line.items ++ pieces_text l.later (piece (f x) ps)) c.item-item.is)

pub returns : goal.returns
returns g c =
    let l = c.loop-item in
    on_ok_weaker c.append-2.result
    (λ e. all_items g.P.Printed.piece c.args.items.now l.item-index c.args.line.now.items _ l.line.items c.append-2.new.line.items l.later c.loop-item-test.false refl l.invariant e)
    c.append-2.ensures
