use Rattle.std.proofs.Common.{◌≡◌, ◌++◌}
use Rattle.std.specs.Map.{keys_of}
use Rattle.order_book.proofs.markets.Markets.numbers.Given as goal

-- the numbers so far, and those of the markets that are left
abbrev pub invariant-loop-market : goal.invariant-loop-market
invariant-loop-market l = l.numbers.items ++ keys_of l.market-iterator ≡ keys_of l.self
