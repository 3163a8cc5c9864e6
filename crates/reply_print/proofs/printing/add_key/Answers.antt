use Rattle.std.proofs.lemmas.Result.{on_ok_weaker}
use Rattle.reply_print.proofs.Behind.{key_added}
use Rattle.reply_print.proofs.printing.add_key.Goals as goal

pub returns : goal.returns
returns c =
    on_ok_weaker c.append-3.result
    (λ e. key_added c.args.line.now.items c.append.new.line.items c.append-2.new.line.items c.append-3.new.line.items c.args.key.now c.opening.result.now c.args.later
    c.opening.ensures c.in_ok-append.ensures c.in_ok-append-2.ensures e)
    c.append-3.ensures
