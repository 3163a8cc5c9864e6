use Rattle.std.proofs.Common.{◌≡◌, ◌+◌, ◌++◌, length}
use Rattle.bundle_match.specs.Auction.{auction}
use Rattle.bundle_match.proofs.auction.auction.Given as goal

abbrev pub invariant-loop-trade : goal.invariant-loop-trade
invariant-loop-trade l = l.trades.items ++ auction l.buys.items l.sells.items ≡ l.fn.trades.items ++ auction l.fn.buys.items l.fn.sells.items

abbrev pub decreases-loop-trade : goal.decreases-loop-trade
decreases-loop-trade l = length l.buys.items + length l.sells.items
