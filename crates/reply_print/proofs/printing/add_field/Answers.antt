use Rattle.std.proofs.lemmas.Result.{on_ok_weaker}
use Rattle.reply_print.proofs.Behind.{field_added}
use Rattle.reply_print.proofs.printing.add_field.Goals as goal

pub returns : goal.returns
returns g c =
    on_ok_weaker c.print.result
    (λ e. field_added c.args.line.now.items c.add_key.new.line.items c.print.new.line.items c.args.later c.args.key.now (g.P.Printed.piece c.args.value.now) c.in_ok-add_key.ensures e)
    c.print.ensures
