use Rattle.std.proofs.Common.{true, codes, ◌∙◌}
use Rattle.std.proofs.lemmas.Result.{on_ok_weaker}
use Rattle.reply_print.specs.BatchPieces.{natural, fraction, each, order_piece}
use Rattle.reply_print.specs.OutcomePieces.{wide_field}
use Rattle.reply_print.specs.Piece.{words, field}
use Rattle.reply_print.proofs.Behind.{field_added}
use Rattle.reply_print.proofs.cleared_lines.add_end.Goals as goal

pub returns : goal.returns
returns c =
    let outcome = c.args.outcome.now in
    let step = wide_field outcome.mark in
    let version = field (codes "version") (natural c.version.result) step in
    let units = field (codes "units") (natural c.from-2.result) version in
    let underlyings = field (codes "underlyings") (natural c.from.result) units in
    let surplus = field (codes "surplus") (fraction outcome.claim.surplus) underlyings in
    let reply = field (codes "reply") (words (codes "cleared")) surplus in
    let orders = field_added c.args.line.now.items c.add_key.new.line.items c.add_orders.new.line.items true (codes "orders") (each (order_piece c.args.single) c.as_slice.result.now)
    c.in_ok-add_key.ensures c.in_ok-add_orders.ensures in
    let fields =
    c.in_ok-add_number-3.ensures step ∙ c.in_ok-add_number-2.ensures version ∙ c.in_ok-add_number.ensures units ∙ c.in_ok-add_field.ensures underlyings
    ∙ c.in_ok-add_words.ensures surplus ∙ orders reply in
    on_ok_weaker c.add_step.result (λ e. e ∙ (rw (c.from.ensures, c.from-2.ensures, c.version.ensures, c.as_slice.ensures) at fields)) c.add_step.ensures
