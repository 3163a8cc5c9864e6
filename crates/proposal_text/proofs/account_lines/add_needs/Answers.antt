use Rattle.std.proofs.Common.{codes, ◌∙◌}
use Rattle.std.proofs.lemmas.Result.{on_ok_weaker}
use Rattle.reply_print.specs.BatchPieces.{natural, whole_words}
use Rattle.reply_print.specs.Piece.{words, truth, no_fields, field}
use Rattle.reply_print.proofs.Behind.{closed, fields_of}
use Rattle.proposal_text.specs.Needs.{need_text}
use Rattle.proposal_text.specs.Pieces.{needs_piece}
use Rattle.proposal_text.proofs.account_lines.add_needs.Goals as goal

pub returns : goal.returns
returns c =
    let told = c.args.told.now in
    let secured = field (codes "secured") (truth told.secured) no_fields in
    let reply = field (codes "reply") (words (codes "need")) secured in
    let need = field (codes "need") (words (need_text told.need)) reply in
    let line = field (codes "line") (natural c.from-2.result) need in
    let balance = field (codes "balance") (whole_words told.balance) line in
    let fields =
    c.in_ok-add_field-2.ensures no_fields ∙ c.in_ok-add_words.ensures secured ∙ c.in_ok-add_need.ensures reply ∙ c.in_ok-add_number-2.ensures need
    ∙ c.in_ok-add_field.ensures line ∙ c.in_ok-add_number.ensures balance in
    on_ok_weaker c.append-2.result
    (λ e. closed c.args.line.now.items c.append.new.line.items c.add_field-2.new.line.items c.append-2.new.line.items (fields_of (needs_piece c.args.at told))
    c.in_ok-append.ensures
    (rw (c.from.ensures, c.from-2.ensures) at fields) e)
    c.append-2.ensures
