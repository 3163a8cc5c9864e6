use Rattle.std.proofs.Common.{◌≡◌, pos, ℤ, Some, nat_abs, ap, ◌∙◌, rules, FitsSigned}
use Rattle.std.proofs.lemmas.Int.{to_z-of_z}
use mir.Syntax.{w64}
use mir.Val.{to_z, of_z}
use Rattle.command_text.specs.Numbers.{number_in}
use Rattle.program_words.proofs.Naturals.{natural_of, reads_natural}
use Rattle.program_words.proofs.words.natural.Goals as goal

pub returns-in-Value : goal.returns-in-Value
returns-in-Value c =
    let low_fits : FitsSigned w64 c.from.result = search rules in
    let high_fits : FitsSigned w64 c.from-2.result = search rules in
    let value_fits : FitsSigned w64 c.in-Value.value = search rules in
    let low_is : to_z w64 (of_z w64 c.from.result) ≡ pos c.args.low = to_z-of_z w64 c.from.result low_fits ∙ c.from.ensures in
    let high_is : to_z w64 (of_z w64 c.from-2.result) ≡ pos c.args.high = to_z-of_z w64 c.from-2.result high_fits ∙ c.from-2.ensures in
    ap (λ (v : ℤ). Some (nat_abs v)) (to_z-of_z w64 c.in-Value.value value_fits)
    ∙ ap natural_of c.in-Value.ensures.value
    ∙ (λ i. natural_of (number_in (low_is i) (high_is i) (c.as_bytes.ensures.value i)))
    ∙ reads_natural c.args.low c.args.high c.args.text.now
