use Rattle.std.proofs.Common.{◌≡◌, ◌*◌, ◌≤◌, ℤ, unsigned_abs, rules, FitsSigned, refl, sym, ap, subst, ◌∙◌}
use Rattle.std.specs.Prelude.{IsOk}
use Rattle.std.proofs.lemmas.Int.{to_z-of_z}
use mir.Syntax.{w128}
use Rattle.exact_num.specs.Limit.{limit}
use Rattle.form.specs.Payoff.{bundle_legs, count_sizes}
use Rattle.form.specs.Steps.{bundle_payoff_of}
use Rattle.limits.specs.declared.TheConstants.{MAX_PAYOFF}
use Rattle.settlement.specs.Payout.{worth_at}
use Rattle.settlement.proofs.Worth.{prices_few, worth_fits, worth_small, whole_found}
use Rattle.settlement.proofs.payouts.worth_at.Goals as goal

pub settlement_at-requires : goal.settlement_at-requires
settlement_at-requires c = prices_few c.args.prices.now c.args.bundle.now c.requires

pub unwrap-requires : goal.unwrap-requires
unwrap-requires c =
    let found = whole_found c.bundle_payoff.result (worth_at c.args.prices.now (bundle_legs c.args.bundle.now))
    (c.bundle_payoff.ensures.payoff ∙ ap (bundle_payoff_of limit (bundle_legs c.args.bundle.now)) c.settlement_at.ensures.vector ∙ worth_fits c.args.prices.now c.args.bundle.now c.requires) in
    subst IsOk (sym found) refl

pub returns-clause-worth : goal.returns-clause-worth
returns-clause-worth c =
    let found = whole_found c.bundle_payoff.result (worth_at c.args.prices.now (bundle_legs c.args.bundle.now))
    (c.bundle_payoff.ensures.payoff ∙ ap (bundle_payoff_of limit (bundle_legs c.args.bundle.now)) c.settlement_at.ensures.vector ∙ worth_fits c.args.prices.now c.args.bundle.now c.requires) in
    let fits : FitsSigned w128 c.unwrap.result = search rules in
    let same : c.unwrap.result ≡ worth_at c.args.prices.now (bundle_legs c.args.bundle.now) = cc in
    to_z-of_z w128 c.unwrap.result fits ∙ same

pub returns-clause-few : goal.returns-clause-few
returns-clause-few c = subst (λ (w : ℤ). unsigned_abs w ≤ count_sizes c.args.bundle.now * MAX_PAYOFF) (sym (returns-clause-worth c)) (worth_small c.args.prices.now c.args.bundle.now c.requires)
