use Rattle.std.proofs.Common.{◌≡◌, ◌*◌, ◌≤◌, drop, [], ◌∷◌, ◌+ℤ◌, unsigned_abs}
use Rattle.form.specs.Payoff.{bundle_legs, bundle_payoff}
use Rattle.account_need.proofs.costs.bundle_pays.Given as goal

-- what is paid so far, and what the legs that are left pay
abbrev pub invariant-loop-leg : goal.invariant-loop-leg
invariant-loop-leg l =
    let z = l.at.t ∷ l.at.s ∷ [] in
    record {
      paid : bundle_payoff (bundle_legs l.bundle) z ≡ l.total +ℤ bundle_payoff (drop l.leg-index (bundle_legs l.bundle)) z;
      small : unsigned_abs l.total ≤ l.leg-index * 2000000000000000;
    }
