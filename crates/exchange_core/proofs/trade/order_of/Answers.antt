use Rattle.std.proofs.Common.{FitsSigned, Some, take, sym, ap, subst, ◌∙◌, arith}
use Rattle.std.proofs.lemmas.Int.{ints, to_z-of_z}
use mir.Syntax.{w64}
use Rattle.form.specs.BundleOf.{bundle_one}
use Rattle.form.specs.FormOf.{form_of}
use Rattle.form.specs.declared.bundles.Bundle.{Bundle}
use Rattle.command_text.specs.Options.{option_by}
use Rattle.command_text.specs.Within.{IsWithin}
use Rattle.exchange_core.specs.Orders.{order_for, order_of}
use Rattle.exchange_core.proofs.trade.order_of.Goals as goal

pub returns-in-Trade : goal.returns-in-Trade
returns-in-Trade c =
    let t = c.in-Trade in
    let fits : FitsSigned w64 t.strike = omega (arith, ints, (subst IsWithin t.is c.requires).2.strike_within) in
    let is = c.one_option.ensures ∙ ap (λ s. bundle_one (form_of (option_by t.kind s (take t.count t.weights)))) (to_z-of_z w64 t.strike fits) in
    ap (λ (bundle : Bundle). Some (order_for t.side t.account t.market t.price t.quantity bundle)) is ∙ sym (ap order_of t.is)
