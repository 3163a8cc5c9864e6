use Rattle.std.proofs.Common.{◌≡◌, ◌-◌, rules, ap, ◌∙◌}
use Rattle.form.specs.declared.orders.Side.TheVariants.{Buy}
use Rattle.form.specs.BundleOf.{bundle_one}
use Rattle.form.specs.FormOf.{form_of}
use Rattle.form.specs.Payoff.{option_of}
use Rattle.form.proofs.MadeBundles.{bundle_is_one}
use Rattle.form.proofs.SameForm.{form_is_form_of}
use Rattle.account_need.specs.Several.{owing, top_call}
use Rattle.account_need.proofs.Entered.{top_weights}
use Rattle.account_need.proofs.entries.top.Goals as goal

pub returns : goal.returns
returns c =
    let n = c.args.underlyings in
    let b = c.args.before in
    let v = top_call b (n - b - 1) in
    let form : option_of c.call-form.result ≡ v =
    search (rules, top_weights b n c.requires.place c.requires.few) in
    let made : c.one.result ≡ bundle_one (form_of v) = bundle_is_one c.one.result c.call-form.result c.one.ensures ∙ ap bundle_one (form_is_form_of c.call-form.result v form) in
    c.owing.ensures ∙ (λ j. owing Buy (made j) (c.whole.ensures j))
