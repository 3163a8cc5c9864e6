use Rattle.std.proofs.lemmas.Result.{on_ok_weaker}
use Rattle.reply_print.specs.Piece.{words}
use Rattle.reply_print.proofs.Behind.{field_added, quoted}
use Rattle.reply_print.proofs.printing.add_words.Goals as goal

pub returns : goal.returns
returns c =
    on_ok_weaker c.append-3.result
    (λ e. field_added c.args.line.now.items c.add_key.new.line.items c.append-3.new.line.items c.args.later c.args.key.now (words c.args.text.now) c.in_ok-add_key.ensures
    (quoted c.add_key.new.line.items c.append.new.line.items c.append-2.new.line.items c.append-3.new.line.items c.args.text.now c.in_ok-append.ensures c.in_ok-append-2.ensures e))
    c.append-3.ensures
