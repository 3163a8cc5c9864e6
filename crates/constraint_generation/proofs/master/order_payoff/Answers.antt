use Rattle.std.proofs.Common.{◌^◌, ◌-◌, ap, sym, ◌∙◌}
use Rattle.form.specs.States.{vector_of}
use Rattle.form.specs.Steps.{bundle_payoff_of}
use Rattle.form.proofs.BundleLegs.{bundle_of-legs}
use Rattle.master_program.specs.Master.{order_payoff}
use Rattle.constraint_generation.proofs.master.order_payoff.Goals as goal

pub returns : goal.returns
unfolding order_payoff
returns c =
    c.bundle_payoff.ensures.payoff ∙ ap (λ legs. bundle_payoff_of (2 ^ 127 - 1) legs (vector_of c.args.state.now)) (sym (bundle_of-legs c.args.order.now))
