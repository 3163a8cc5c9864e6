use Rattle.std.proofs.Common.{◌≡◌, ◌≤◌, drop, zip, pos, unsigned_abs}
use Rattle.exact_num.specs.Limit.{limit}
use Rattle.exact_num.specs.Fraction.{whole}
use Rattle.exact_num.specs.Steps.{fold_steps}
use Rattle.form.specs.Payoff.{option_of}
use Rattle.form.specs.States.{vector_of}
use Rattle.form.specs.Steps.{add_entry}
use Rattle.form.proofs.payoffs.payoff_by_steps.Given as goal

abbrev pub invariant-loop-i : goal.invariant-loop-i
invariant-loop-i l =
    let pairs = zip (option_of l.form) (vector_of l.state) in
    (unsigned_abs l.total ≤ limit)
    × (fold_steps (add_entry limit) (whole (pos 0)) pairs ≡ fold_steps (add_entry limit) (whole l.total) (drop l.i pairs))
