use Rattle.std.proofs.Common.{codes, ◌∙◌}
use Rattle.std.proofs.lemmas.Result.{on_ok_weaker}
use Rattle.reply_print.specs.Piece.{words, no_fields, field}
use Rattle.reply_print.proofs.small_lines.add_placed.Goals as goal

pub returns : goal.returns
returns c = on_ok_weaker c.append.result (λ e. e ∙ c.in_ok-add_order.ensures (field (codes "reply") (words (codes "placed")) no_fields)) c.append.ensures
