use Rattle.std.proofs.Common.{true, codes}
use Rattle.std.proofs.lemmas.Result.{on_ok_weaker}
use Rattle.reply_print.specs.Piece.{words}
use Rattle.reply_print.proofs.Behind.{field_added, quoted}
use Rattle.proposal_text.specs.Needs.{need_text}
use Rattle.proposal_text.proofs.needs.add_need.Goals as goal

pub returns : goal.returns
returns c =
    on_ok_weaker c.append-2.result
    (λ e. field_added c.args.line.now.items c.add_key.new.line.items c.append-2.new.line.items true (codes "need") (words (need_text c.args.need)) c.in_ok-add_key.ensures
    (quoted c.add_key.new.line.items c.append.new.line.items c.add_need_word.new.line.items c.append-2.new.line.items (need_text c.args.need) c.in_ok-append.ensures c.in_ok-add_need_word.ensures e))
    c.append-2.ensures
