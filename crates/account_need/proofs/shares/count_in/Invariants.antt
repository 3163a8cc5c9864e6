use Rattle.std.proofs.Common.{◌≡◌, ◌*◌, ◌≤◌, drop, ◌+ℤ◌, unsigned_abs}
use Rattle.form.specs.Payoff.{bundle_legs, option_of}
use Rattle.account_need.specs.Rounded.{count_of}
use Rattle.account_need.proofs.shares.count_in.Given as goal

-- the count so far, and that of the legs that are left
abbrev pub invariant-loop-leg : goal.invariant-loop-leg
invariant-loop-leg l =
    let v = option_of l.form in
    record {
      left : count_of v (bundle_legs l.bundle) ≡ l.count +ℤ count_of v (drop l.leg-index (bundle_legs l.bundle));
      small : unsigned_abs l.count ≤ l.leg-index * 1000;
    }
