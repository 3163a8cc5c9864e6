use Rattle.std.proofs.Common.{◌≡◌, ◌≤◌, ◌*◌, ◌^◌, ◌+ℤ◌, drop, unsigned_abs}
use Rattle.form.specs.Vector.{over_legs}
use Rattle.form.specs.Payoff.{bundle_legs}
use Rattle.master_program.specs.Master.{strike_payoff}
use Rattle.constraint_generation.proofs.master.payoff_at_zero.Given as goal

-- what the legs pay that are left, added to the total, is what all pay
abbrev pub invariant-loop-leg : goal.invariant-loop-leg
invariant-loop-leg l = record {
  small : unsigned_abs l.total ≤ l.leg-index * 2 ^ 78;
  total : l.total +ℤ over_legs strike_payoff (drop l.leg-index (bundle_legs l.order.bundle)) ≡ over_legs strike_payoff (bundle_legs l.order.bundle);
}
