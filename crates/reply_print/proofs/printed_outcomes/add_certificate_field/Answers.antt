use Rattle.std.proofs.Common.{true, codes}
use Rattle.std.proofs.lemmas.Result.{on_ok_weaker}
use Rattle.reply_print.specs.OutcomePieces.{certificate_piece}
use Rattle.reply_print.proofs.Behind.{field_added}
use Rattle.reply_print.proofs.printed_outcomes.add_certificate_field.Goals as goal

pub returns : goal.returns
returns c =
    on_ok_weaker c.add_certificate.result
    (λ e. field_added c.args.line.now.items c.add_key.new.line.items c.add_certificate.new.line.items true (codes "certificate") (certificate_piece c.args.cover.now c.args.measure.now) c.in_ok-add_key.ensures e)
    c.add_certificate.ensures
