use Rattle.std.proofs.Common.{codes, ◌∙◌}
use Rattle.std.proofs.lemmas.Result.{on_ok_weaker}
use Rattle.reply_print.specs.BatchPieces.{natural}
use Rattle.reply_print.specs.Piece.{words, no_fields, field}
use Rattle.reply_print.proofs.Behind.{closed, fields_of}
use Rattle.journal_audit.specs.declared.gate_lines.GateLine.TheVariants as refused
use Rattle.journal_audit.specs.GateLines.{gate_piece}
use Rattle.journal_audit.proofs.gate_reading.add_malformed.Goals as goal

pub returns : goal.returns
returns c =
    let reply = field (codes "reply") (words (codes "gate")) no_fields in
    let reason = field (codes "reason") (words (codes "Malformed")) reply in
    let number = field (codes "number") (natural 15) reason in
    let fields =
    c.in_ok-add_words-2.ensures no_fields ∙ c.in_ok-add_words.ensures reply ∙ c.in_ok-add_number-2.ensures reason ∙ c.in_ok-add_number.ensures number in
    on_ok_weaker c.append-2.result
    (λ e. closed c.args.line.now.items c.append.new.line.items c.add_words-2.new.line.items c.append-2.new.line.items (fields_of (gate_piece c.args.at refused.Malformed))
    c.in_ok-append.ensures
    (rw (c.from.ensures) at fields) e)
    c.append-2.ensures
