use Rattle.std.proofs.Common.{ap, ◌∙◌, FitsSigned, arith, take}
use Rattle.std.proofs.lemmas.Int.{ints, to_z-of_z}
use mir.Syntax.{w64}
use Rattle.form.specs.BundleOf.{bundle_one}
use Rattle.form.specs.FormOf.{form_of}
use Rattle.form.proofs.MadeBundles.{bundle_is_one}
use Rattle.command_text.specs.Options.{option_by}
use Rattle.exchange_core.proofs.trade.one_option.Goals as goal

pub returns : goal.returns
returns c =
    let fits : FitsSigned w64 c.args.strike = omega (arith, ints, c.requires.strike) in
    bundle_is_one c.one.result c.option_form.result c.one.ensures
    ∙ ap bundle_one (c.option_form.ensures ∙ ap (λ s. form_of (option_by c.args.kind s (take c.args.count c.args.weights.now))) (to_z-of_z w64 c.args.strike fits))
