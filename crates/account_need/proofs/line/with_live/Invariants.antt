use Rattle.std.proofs.Common.{◌≡◌, ◌^◌, ◌≤◌, ℕ, drop, unsigned_abs}
use Rattle.account_need.specs.Prices.{in_code, turning_live, with_bends}
use Rattle.account_need.proofs.line.with_live.Given as goal

abbrev pub invariant-loop-order : goal.invariant-loop-order
invariant-loop-order l = record {
  bound : (positions : ℕ) → with_bends (in_code l.sums positions l.live) l.first (turning_live l.live) ≡ with_bends (in_code l.sums positions l.live) l.best (turning_live (drop l.order-index l.live));
  small : unsigned_abs l.best ≤ 2 ^ 126;
}
