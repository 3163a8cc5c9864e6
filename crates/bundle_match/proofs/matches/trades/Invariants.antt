use Rattle.bundle_match.proofs.Options.{AreTradesSoFar}
use Rattle.bundle_match.proofs.matches.trades.Given as goal

abbrev pub invariant-loop-place : goal.invariant-loop-place
invariant-loop-place l = AreTradesSoFar l.orders l.place l.trades.items
