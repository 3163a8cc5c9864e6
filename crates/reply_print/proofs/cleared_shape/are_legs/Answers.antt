use Rattle.std.proofs.Common.{rules}
use Rattle.reply_print.specs.ClearedShape.{leg_shape}
use Rattle.reply_print.proofs.cleared_shape.are_legs.Goals as goal

pub returns : goal.returns
returns c = c.is_list_of.ensures leg_shape (search rules)
