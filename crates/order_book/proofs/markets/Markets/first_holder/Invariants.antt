use Rattle.std.proofs.Common.{◌≡◌}
use Rattle.order_book.specs.Markets.{holder_of}
use Rattle.order_book.proofs.markets.Markets.first_holder.Given as goal

-- the first of the markets that are left is the first of all
abbrev pub invariant-loop-market : goal.invariant-loop-market
invariant-loop-market l = holder_of l.number l.market-iterator ≡ holder_of l.number l.self
