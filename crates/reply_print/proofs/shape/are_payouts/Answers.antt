use Rattle.std.proofs.Common.{rules}
use Rattle.reply_print.specs.ReplyShape.{paid_shape}
use Rattle.reply_print.proofs.shape.are_payouts.Goals as goal

pub returns : goal.returns
returns c = c.is_list.ensures paid_shape (search rules)
