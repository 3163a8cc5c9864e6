use Rattle.std.proofs.Common.{◌≡◌, length, map, None, Some, ◌∙◌, arith}
use Rattle.std.proofs.lemmas.List.{length-map}
use Rattle.command_text.specs.Asked.{either_fault}
use Rattle.command_text.proofs.PlainSays.{two_say}
use Rattle.command_text.proofs.plain.two_numbers.Goals as goal

pub returns-in-Some-clause-values : goal.returns-in-Some-clause-values
returns-in-Some-clause-values c =
    let texts = map (λ f. f.now) c.args.fields.now in
    let size : length texts ≡ length c.args.fields.now = length-map c.args.fields.now (λ f. f.now) in
    two_say texts c.args.first c.args.next (Some c.in-Some.fault) _ _ (omega (arith, size))
    (c.in-Some.ensures ∙ (λ i. either_fault (c.natural_at-one.ensures.fault i) (c.natural_at-other.ensures.fault i))) c.natural_at-one.ensures.value c.natural_at-other.ensures.value

pub returns-in-None-clause-values : goal.returns-in-None-clause-values
returns-in-None-clause-values c =
    let texts = map (λ f. f.now) c.args.fields.now in
    let size : length texts ≡ length c.args.fields.now = length-map c.args.fields.now (λ f. f.now) in
    two_say texts c.args.first c.args.next None _ _ (omega (arith, size))
    (c.in-None.ensures ∙ (λ i. either_fault (c.natural_at-one.ensures.fault i) (c.natural_at-other.ensures.fault i))) c.natural_at-one.ensures.value c.natural_at-other.ensures.value
