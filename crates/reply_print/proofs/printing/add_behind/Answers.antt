use Rattle.std.proofs.lemmas.Result.{on_ok_weaker}
use Rattle.reply_print.specs.Piece.{piece_text}
use Rattle.reply_print.proofs.Behind.{behind}
use Rattle.reply_print.proofs.printing.add_behind.Goals as goal

pub returns : goal.returns
returns g c =
    on_ok_weaker c.print.result
    (λ e. behind c.args.line.now.items c.append.new.line.items c.print.new.line.items c.args.before.now (piece_text (g.P.Printed.piece c.args.value.now)) c.in_ok-append.ensures e)
    c.print.ensures
