use Rattle.std.proofs.Common.{◌≡◌, ◌≤◌, drop, pos, unsigned_abs}
use Rattle.exact_num.specs.Limit.{limit}
use Rattle.exact_num.specs.Fraction.{whole}
use Rattle.exact_num.specs.Steps.{fold_steps}
use Rattle.form.specs.Payoff.{bundle_legs}
use Rattle.form.specs.States.{vector_of}
use Rattle.form.specs.Steps.{add_leg}
use Rattle.form.proofs.payoffs.bundle_payoff_by_steps.Given as goal

abbrev pub invariant-loop-leg : goal.invariant-loop-leg
invariant-loop-leg l =
    let step = add_leg limit (vector_of l.state) in
    let legs = bundle_legs l.bundle in
    (unsigned_abs l.total ≤ limit)
    × (fold_steps step (whole (pos 0)) legs ≡ fold_steps step (whole l.total) (drop l.leg-index legs))
