use Rattle.std.proofs.Common.{FitsSigned, sym, ap, ◌∙◌, take, arith}
use Rattle.std.proofs.lemmas.Int.{ints, to_z-of_z}
use mir.Syntax.{w64}
use Rattle.form.proofs.SameForm.{form_is_form_of}
use Rattle.form.specs.Vector.{call_of, put_of}
use Rattle.command_text.specs.Options.{option_by}
use Rattle.command_text.proofs.options.option_form.Goals as goal

pub returns-in-Call : goal.returns-in-Call
returns-in-Call c =
    let fits : FitsSigned w64 c.args.strike = omega (arith, ints, c.requires.strike) in
    let weights = take c.args.count c.args.weights.now in
    let is = c.call.ensures ∙ ap (λ s. call_of s weights) (to_z-of_z w64 c.args.strike fits) ∙ ap (λ k. option_by k c.args.strike weights) (sym c.in-Call.is) in
    form_is_form_of c.call.result (option_by c.args.kind c.args.strike weights) is

pub returns-in-Put : goal.returns-in-Put
returns-in-Put c =
    let fits : FitsSigned w64 c.args.strike = omega (arith, ints, c.requires.strike) in
    let weights = take c.args.count c.args.weights.now in
    let is = c.put.ensures ∙ ap (λ s. put_of s weights) (to_z-of_z w64 c.args.strike fits) ∙ ap (λ k. option_by k c.args.strike weights) (sym c.in-Put.is) in
    form_is_form_of c.put.result (option_by c.args.kind c.args.strike weights) is
