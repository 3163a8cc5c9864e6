use Rattle.std.proofs.Common.{◌≡◌, ◌-◌, ◌*◌, ◌<◌, [], ◌∷◌, length, arith, rules, sym, ◌∙◌}
use Rattle.arithmetic.proofs.Lists.{item_of}
use Rattle.form.specs.Payoff.{bundle_legs, leg_of, legs_in, option_of, payoff}
use Rattle.form.proofs.SameBundle.{length-legs_in}
use Rattle.account_need.proofs.OwingAmounts.{single_loss_is}
use Rattle.account_need.proofs.costs.single_loss.Goals as goal

pub returns-clause-loss : goal.returns-clause-loss
returns-clause-loss c =
    let o = c.args.order.now in
    let t = c.args.at.now.t in
    let z = t ∷ c.args.at.now.s ∷ [] in
    let leg = c.index-as_slice-0.result in
    let some : 0 < length (legs_in o.bundle) = omega (arith, length-legs_in o.bundle, o.bundle.size_in_range.0) in
    let is = item_of leg_of (legs_in o.bundle) 0 leg some (search rules) in
    let here : c.saturating_sub.result ≡ payoff (option_of leg.form) z - o.price * t = search rules in
    here ∙ sym (single_loss_is o.side (bundle_legs o.bundle) (leg_of leg) (o.price * t) z c.requires.single is)
