use Rattle.std.proofs.Common.{◌≡◌, ◌++◌, map}
use Rattle.order_book.proofs.Boxes.{held}
use Rattle.order_book.proofs.live_orders.LiveOrders.to_vec.Given as goal

abbrev pub invariant-loop-order : goal.invariant-loop-order
invariant-loop-order l = l.orders.items ++ map held l.order-iterator ≡ l.self
