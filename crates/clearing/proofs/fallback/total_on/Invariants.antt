use Rattle.std.proofs.Common.{◌≡◌, ◌+◌, ◌*◌, ◌≤◌, drop}
use Rattle.std.specs.List.{zip}
use Rattle.clearing.specs.Premiums.{paid_total}
use Rattle.clearing.proofs.fallback.total_on.Given as goal

abbrev pub invariant-loop-place : goal.invariant-loop-place
invariant-loop-place l = record {
  total : l.total + paid_total l.side (zip (drop l.place l.orders) (drop l.place l.fills)) ≡ paid_total l.side (zip l.orders l.fills);
  small : l.total ≤ l.place * 1000000000000000000;
}
