use Rattle.std.proofs.Common.{◌≡◌, ◌+◌, ◌-◌, map, length, Some, None, Ok, to_z, of_z, sym, ap, ◌∙◌, arith}
use Rattle.std.proofs.lemmas.List.{length-map}
use Rattle.std.proofs.lemmas.List.Elements.{All-take}
use Rattle.std.proofs.lemmas.Int.{to_z-of_z}
use mir.Syntax.{w64}
use Rattle.std.specs.Prelude.{take}
use Rattle.form.specs.FormOf.{form_of}
use Rattle.command_text.specs.declared.ranges.TheConstants.{MARKET, BUDGET}
use Rattle.command_text.specs.Asked.{IsAsked, fault_in, either_fault, natural_in, value_in}
use Rattle.command_text.specs.Options.{option_by}
use Rattle.command_text.specs.Trades.{kind_in, weightless}
use Rattle.command_text.specs.Requests.{strike_at}
use Rattle.command_text.proofs.RequestSays.{request_for, request_says}
use Rattle.command_text.proofs.asking.option_request.Goals as goal

pub first_fault-requires : goal.first_fault-requires
first_fault-requires c = All-take (λ a. IsAsked 0 a) _ _ c.requires.asked

pub returns-in-Some-first_of : goal.returns-in-Some-first_of
returns-in-Some-first_of c =
    let texts = map (λ f. f.now) c.args.fields.now in
    let place = c.args.place in
    let asked = c.args.asked.now in
    let size : length texts ≡ length c.args.fields.now = length-map c.args.fields.now (λ f. f.now) in
    request_says c.args.words place asked texts c.in-Some.kind c.weights-weights.result (Some c.in-Some-first_of.fault) (omega (arith, size)) (omega (arith, size))
    (c.in-Some.ensures ∙ ap kind_in c.text_at.ensures) c.weights-weights.ensures
    (c.in-Some-first_of.ensures ∙ (λ i. either_fault (c.first_fault.ensures i) (c.all_zero.ensures i)) ∙ ap (λ n. either_fault (fault_in 0 (take (n - c.args.words) asked) texts) (weightless (place + 2) c.weights-weights.result)) (sym size))

pub returns-in-None : goal.returns-in-None
returns-in-None c =
    let texts = map (λ f. f.now) c.args.fields.now in
    let place = c.args.place in
    let asked = c.args.asked.now in
    let size : length texts ≡ length c.args.fields.now = length-map c.args.fields.now (λ f. f.now) in
    let strike : to_z w64 (of_z w64 c.value.result) ≡ value_in texts (strike_at (place + 1)) =
    to_z-of_z w64 c.value.result (record { sfits = omega arith }) ∙ c.value.ensures.value ∙ ap (value_in texts) c.strike_at.ensures in
    (λ i. Ok (request_for (c.natural.ensures.value i) (c.natural-in-None.ensures.value i) (c.option_form.ensures i)))
    ∙ (λ i. Ok (request_for (natural_in texts MARKET) (natural_in texts BUDGET) (form_of (option_by c.in-Some.kind (strike i) (take (sym size i - (c.from-before.ensures i + 1)) c.weights-weights.result)))))
    ∙ request_says c.args.words place asked texts c.in-Some.kind c.weights-weights.result None (omega (arith, size)) (omega (arith, size))
    (c.in-Some.ensures ∙ ap kind_in c.text_at.ensures) c.weights-weights.ensures
    (c.in-None.ensures ∙ (λ i. either_fault (c.first_fault.ensures i) (c.all_zero.ensures i)) ∙ ap (λ n. either_fault (fault_in 0 (take (n - c.args.words) asked) texts) (weightless (place + 2) c.weights-weights.result)) (sym size))
