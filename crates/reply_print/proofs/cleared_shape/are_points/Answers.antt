use Rattle.std.proofs.Common.{rules}
use Rattle.reply_print.specs.ClearedShape.{point_shape}
use Rattle.reply_print.proofs.cleared_shape.are_points.Goals as goal

pub returns : goal.returns
returns c = c.is_list.ensures point_shape (search rules)
