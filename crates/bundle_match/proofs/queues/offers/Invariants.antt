use Rattle.std.proofs.Common.{◌≡◌, ◌++◌, drop}
use Rattle.form.specs.Payoff.{bundle_of}
use Rattle.bundle_match.specs.Queue.{offers_from}
use Rattle.bundle_match.proofs.queues.offers.Given as goal

abbrev pub invariant-loop-place : goal.invariant-loop-place
invariant-loop-place l =
    l.offers.items ++ offers_from l.side (bundle_of l.other) l.place (drop l.place l.orders) ≡ offers_from l.side (bundle_of l.other) 0 l.orders
