use Rattle.std.proofs.Common.{◌≡◌, [], fold, take}
use Rattle.std.specs.BTreeSet.{insert_key}
use Rattle.std.specs.Ordering.{nat_cmp}
use Rattle.exchange_core.proofs.held.market_numbers.Given as goal

-- those so far, in rising order
abbrev pub invariant-loop-market : goal.invariant-loop-market
invariant-loop-market l = l.numbers.keys ≡ fold (insert_key nat_cmp) [] (take l.market-index l.market-items)
