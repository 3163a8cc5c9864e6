use Rattle.std.proofs.Common.{◌≡◌, ℕ, List, true, sym, ap, subst, ◌∙◌}
use Rattle.std.specs.Io.KnownBytes.{Appends}
use Rattle.byte_streams.specs.Writes.{AppendsFront}
use Rattle.exchange_core.specs.ExchangeState.{empty_exchange}
use Rattle.live_lines.specs.Output.{output_of}
use Rattle.live_lines.proofs.Fronts.{on_err}
use Rattle.program_words.specs.declared.requests.Mode.{Mode}
use Rattle.exchange_program.specs.Modes.{ModeState, mode_output, mode_step}
use Rattle.exchange_program.specs.Requests.{OfOutput}
use Rattle.exchange_program.proofs.ModeOutputs.{mode_outputs}
use Rattle.exchange_program.proofs.serving.respond.Goals as goal

-- what is written from the start is the output in the mode
output_is : (mode : Mode) (start : ModeState) (input : List ℕ) → start ≡ (mode, empty_exchange) → output_of mode_step true start input ≡ mode_output mode input
output_is mode start input is = ap (λ s. output_of mode_step true s input) is ∙ mode_outputs mode input

pub returns-in_err-answer_whole-in-Lines-clause-front : goal.returns-in_err-answer_whole-in-Lines-clause-front
returns-in_err-answer_whole-in-Lines-clause-front g c =
    let Wrote = AppendsFront (g.K.Sink.written c.args.sink.now) (g.K.Sink.written c.answer_whole.new.sink) in
    on_err c.from_residual.result _ (subst (λ request. OfOutput request c.args.input.now Wrote) (sym c.in-Lines.is)
    (subst Wrote (output_is c.in-Lines.mode c.new.result c.args.input.now c.new.ensures) c.in_err-answer_whole-in-Lines.ensures.front))

pub returns-in_ok-answer_whole-in-Lines-clause-ok : goal.returns-in_ok-answer_whole-in-Lines-clause-ok
returns-in_ok-answer_whole-in-Lines-clause-ok g c =
    let Wrote = Appends (g.K.Sink.written c.args.sink.now) (g.K.Sink.written c.answer_whole.new.sink) in
    subst (λ request. OfOutput request c.args.input.now Wrote) (sym c.in-Lines.is)
    (subst Wrote (output_is c.in-Lines.mode c.new.result c.args.input.now c.new.ensures) c.in_ok-answer_whole-in-Lines.ensures.ok)
