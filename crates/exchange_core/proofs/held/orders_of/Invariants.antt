use Rattle.std.proofs.Common.{◌≡◌, filter, take}
use Rattle.order_book.specs.Book.{live_of}
use Rattle.exchange_core.specs.Held.{is_order_of}
use Rattle.exchange_core.proofs.held.orders_of.Given as goal

-- those among the live orders so far
abbrev pub invariant-loop-place : goal.invariant-loop-place
invariant-loop-place l = l.orders.items ≡ filter (is_order_of l.account) (take l.place (live_of l.book l.market))
