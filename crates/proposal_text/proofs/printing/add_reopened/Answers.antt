use Rattle.std.proofs.Common.{codes, ◌∙◌}
use Rattle.std.proofs.lemmas.Result.{on_ok_weaker}
use Rattle.reply_print.specs.BatchPieces.{natural}
use Rattle.reply_print.specs.Piece.{words, no_fields, field}
use Rattle.proposal_text.specs.Pieces.{reopened_piece}
use Rattle.reply_print.proofs.Behind.{closed, fields_of}
use Rattle.proposal_text.proofs.printing.add_reopened.Goals as goal

pub returns : goal.returns
returns c =
    let reply = field (codes "reply") (words (codes "reopened")) no_fields in
    let market = field (codes "market") (natural c.from-2.result) reply in
    let fields = c.in_ok-add_words.ensures no_fields ∙ c.in_ok-add_number-2.ensures reply ∙ c.in_ok-add_number.ensures market in
    on_ok_weaker c.append-2.result
    (λ e. closed c.args.line.now.items c.append.new.line.items c.add_words.new.line.items c.append-2.new.line.items (fields_of (reopened_piece c.args.at c.args.market))
    c.in_ok-append.ensures
    (rw (c.from.ensures, c.from-2.ensures) at fields) e)
    c.append-2.ensures
