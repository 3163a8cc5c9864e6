use Rattle.std.proofs.Common.{rules}
use Rattle.reply_print.specs.ClearedShape.{node_shape}
use Rattle.reply_print.proofs.cleared_shape.are_nodes.Goals as goal

pub returns : goal.returns
returns c = c.is_list.ensures node_shape (search rules)
