use Rattle.std.proofs.Common.{rules}
use Rattle.reply_print.specs.ClearedShape.{multiplier_shape}
use Rattle.reply_print.proofs.cleared_shape.are_multipliers.Goals as goal

pub returns : goal.returns
returns c = c.is_list.ensures multiplier_shape (search rules)
