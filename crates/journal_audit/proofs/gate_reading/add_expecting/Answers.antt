use Rattle.std.proofs.Common.{codes, ◌∙◌}
use Rattle.std.proofs.lemmas.Result.{on_ok_weaker}
use Rattle.reply_print.specs.BatchPieces.{natural}
use Rattle.reply_print.specs.Piece.{words, no_fields, field}
use Rattle.reply_print.proofs.Behind.{closed, fields_of}
use Rattle.journal_audit.specs.declared.gate_lines.GateLine.TheVariants as refused
use Rattle.journal_audit.specs.GateLines.{gate_piece, session_field}
use Rattle.journal_audit.proofs.gate_reading.add_expecting.Goals as goal

pub returns : goal.returns
returns c =
    let session = session_field c.from-3.result in
    let reply = field (codes "reply") (words (codes "gate")) session in
    let reason = field (codes "reason") (words c.word.result.now) reply in
    let number = field (codes "number") (natural c.number.result) reason in
    let line = field (codes "line") (natural c.from-2.result) number in
    let fields =
    c.in_ok-add_number-4.ensures no_fields ∙ c.in_ok-add_words-2.ensures session ∙ c.in_ok-add_words.ensures reply ∙ c.in_ok-add_number-3.ensures reason
    ∙ c.in_ok-add_number-2.ensures number ∙ c.in_ok-add_number.ensures line in
    on_ok_weaker c.append-2.result
    (λ e. closed c.args.line.now.items c.append.new.line.items c.add_number-4.new.line.items c.append-2.new.line.items
    (fields_of (gate_piece c.args.at (refused.Expecting c.args.session c.args.expected c.args.why)))
    c.in_ok-append.ensures
    (rw (c.from.ensures, c.from-2.ensures, c.from-3.ensures, c.number.ensures, c.word.ensures) at fields) e)
    c.append-2.ensures
