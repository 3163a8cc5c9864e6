use Rattle.std.proofs.Common.{true, false, codes, ◌∙◌}
use Rattle.std.proofs.lemmas.Result.{on_ok_weaker}
use Rattle.reply_print.specs.BatchPieces.{natural, fraction, each, order_piece}
use Rattle.reply_print.specs.Piece.{words, no_fields, field}
use Rattle.reply_print.proofs.Behind.{field_added}
use Rattle.proposal_text.proofs.bounded_lines.add_end.Goals as goal

pub returns : goal.returns
returns c =
    let outcome = c.args.outcome.now in
    let version = field (codes "version") (natural 3) no_fields in
    let units = field (codes "units") (natural c.from-2.result) version in
    let underlyings = field (codes "underlyings") (natural c.from.result) units in
    let surplus = field (codes "surplus") (fraction outcome.proposal.claim.surplus) underlyings in
    let run = field (codes "run") (words c.stop.result.now) surplus in
    let reply = field (codes "reply") (words (codes "cleared")) run in
    let orders = field_added c.args.line.now.items c.add_key.new.line.items c.add_orders.new.line.items true (codes "orders") (each (order_piece false) c.as_slice.result.now)
    c.in_ok-add_key.ensures c.in_ok-add_orders.ensures in
    let fields =
    c.in_ok-add_number-2.ensures version ∙ c.in_ok-add_number.ensures units ∙ c.in_ok-add_field.ensures underlyings ∙ c.in_ok-add_words-2.ensures surplus
    ∙ c.in_ok-add_words.ensures run ∙ orders reply in
    let shown = rw (c.from.ensures, c.from-2.ensures, c.stop.ensures, c.as_slice.ensures) at fields in
    on_ok_weaker c.add_number-3.result (λ e. e no_fields ∙ shown) c.add_number-3.ensures
