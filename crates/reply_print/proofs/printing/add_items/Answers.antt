use Rattle.std.proofs.lemmas.Result.{on_ok_weaker}
use Rattle.reply_print.specs.BatchPieces.{each}
use Rattle.reply_print.proofs.Behind.{field_added}
use Rattle.reply_print.proofs.printing.add_items.Goals as goal

pub returns : goal.returns
returns g c =
    on_ok_weaker c.add_list.result
    (λ e. field_added c.args.line.now.items c.add_key.new.line.items c.add_list.new.line.items c.args.later c.args.key.now (each g.P.Printed.piece c.args.items.now) c.in_ok-add_key.ensures e)
    c.add_list.ensures
