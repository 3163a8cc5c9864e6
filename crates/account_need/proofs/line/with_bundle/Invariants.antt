use Rattle.std.proofs.Common.{◌≡◌, ◌^◌, ◌≤◌, ℕ, drop, unsigned_abs}
use Rattle.form.specs.Payoff.{bundle_legs}
use Rattle.account_need.specs.Rounded.{options_of}
use Rattle.account_need.specs.Prices.{in_code, with_bends}
use Rattle.account_need.proofs.line.with_bundle.Given as goal

abbrev pub invariant-loop-leg : goal.invariant-loop-leg
invariant-loop-leg l =
    let options = options_of (bundle_legs l.bundle) in
    record {
      bound : (positions : ℕ) → with_bends (in_code l.sums positions l.live) l.first options ≡ with_bends (in_code l.sums positions l.live) l.best (drop l.leg-index options);
      small : unsigned_abs l.best ≤ 2 ^ 126;
    }
