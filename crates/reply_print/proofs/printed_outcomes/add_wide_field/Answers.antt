use Rattle.std.proofs.Common.{true, codes}
use Rattle.std.proofs.lemmas.Result.{on_ok_weaker}
use Rattle.reply_print.specs.OutcomePieces.{wide_piece}
use Rattle.reply_print.specs.Piece.{no_fields}
use Rattle.reply_print.proofs.Behind.{field_added}
use Rattle.reply_print.proofs.printed_outcomes.add_wide_field.Goals as goal

pub returns : goal.returns
returns c =
    on_ok_weaker c.add_wide.result
    (λ e. field_added c.args.line.now.items c.add_key.new.line.items c.add_wide.new.line.items true (codes "wide") (wide_piece c.args.wide.now) c.in_ok-add_key.ensures e no_fields)
    c.add_wide.ensures
