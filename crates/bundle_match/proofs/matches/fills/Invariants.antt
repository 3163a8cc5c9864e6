use Rattle.std.proofs.Common.{◌≡◌, ◌++◌, drop}
use Rattle.bundle_match.specs.Match.{fills_from, match_by_bundle}
use Rattle.bundle_match.proofs.matches.fills.Given as goal

abbrev pub invariant-loop-place : goal.invariant-loop-place
invariant-loop-place l = l.fills.items ++ fills_from l.orders l.place (drop l.place l.orders) ≡ match_by_bundle l.orders
