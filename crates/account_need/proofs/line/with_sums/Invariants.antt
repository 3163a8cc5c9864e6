use Rattle.std.proofs.Common.{◌≡◌, ◌^◌, ◌≤◌, ℕ, drop, map, unsigned_abs}
use Rattle.account_need.specs.Prices.{in_code, option_sum, turning_sums, with_bends}
use Rattle.account_need.proofs.line.with_sums.Given as goal

abbrev pub invariant-loop-item : goal.invariant-loop-item
invariant-loop-item l = record {
  bound : (positions : ℕ) → with_bends (in_code l.sums positions l.live) l.first (turning_sums (map option_sum l.sums)) ≡ with_bends (in_code l.sums positions l.live) l.best (turning_sums (drop l.item-index (map option_sum l.sums)));
  small : unsigned_abs l.best ≤ 2 ^ 126;
}
