use Rattle.std.proofs.Common.{◌≡◌, ℤ, pos, unsigned_abs, arith, refl, ap, ◌∙◌, to_z, of_z}
use Rattle.std.proofs.lemmas.Int.{fits_signed_from_abs, to_z-of_z}
use mir.Syntax.{w128}
use Rattle.exact_num.specs.Fraction.{reduced}
use Rattle.frac.specs.Value.{fraction_of}
use Rattle.form.specs.BundleOf.{bundle_one}
use Rattle.form.specs.FormOf.{form_of}
use Rattle.form.specs.Payoff.{option_of}
use Rattle.form.proofs.MadeBundles.{bundle_is_one}
use Rattle.form.proofs.SameForm.{form_is_form_of}
use Rattle.account_need.specs.Rounded.{unit}
use Rattle.account_need.specs.Several.{owing, side_of}
use Rattle.account_need.proofs.entries.owing_sum.Goals as goal

pub returns : goal.returns
returns c =
    let form = c.args.item.now.form in
    let sum = c.args.item.now.sum in
    let bits : to_z w128 (of_z w128 sum) ≡ sum = to_z-of_z w128 sum (fits_signed_from_abs w128 sum (omega (arith, c.requires))) in
    let side : c.side_of.result ≡ side_of sum = c.side_of.ensures ∙ ap side_of bits in
    let fill : fraction_of c.sum_fill.result ≡ reduced (pos (unsigned_abs sum)) unit = c.sum_fill.ensures ∙ ap (λ (s : ℤ). reduced (pos (unsigned_abs s)) unit) bits in
    let made : c.one.result ≡ bundle_one (form_of (option_of form)) = bundle_is_one c.one.result form c.one.ensures ∙ ap bundle_one (form_is_form_of form (option_of form) refl) in
    c.owing.ensures ∙ (λ j. owing (side j) (made j) (fill j))
