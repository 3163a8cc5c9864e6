use Rattle.std.proofs.Common.{rules, true, false}
use Rattle.reply_print.specs.ClearedShape.{order_shape}
use Rattle.reply_print.proofs.cleared_shape.are_orders.Goals as goal

pub returns-then-single : goal.returns-then-single
returns-then-single c = rw (c.if-single.true) (c.is_list.ensures (order_shape true) (search rules))

pub returns-else-single : goal.returns-else-single
returns-else-single c = rw (c.if-single.false) (c.is_list-else-single.ensures (order_shape false) (search rules))
