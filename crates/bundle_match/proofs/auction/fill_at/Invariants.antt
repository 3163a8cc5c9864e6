use Rattle.std.proofs.Common.{◌≡◌, take}
use Rattle.bundle_match.specs.Auction.{fill_at}
use Rattle.bundle_match.proofs.auction.fill_at.Given as goal

abbrev pub invariant-loop-trade : goal.invariant-loop-trade
invariant-loop-trade l = l.filled ≡ fill_at l.side l.place (take l.trade-index l.trades)
