use Rattle.std.proofs.Common.{◌≡◌, ℕ, List, false, ap, ◌∙◌, arith, subst, OnErr, OnOk}
use Rattle.std.specs.Io.KnownBytes.{Appends}
use Rattle.byte_streams.specs.Writes.{AppendsFront}
use Rattle.exchange_core.specs.ExchangeState.{ExchangeState, empty_exchange}
use Rattle.exchange_lines.specs.Output.{line_output}
use Rattle.live_lines.specs.Output.{output_of}
use Rattle.session_lines.specs.Sessions.{SessionsState, any_session, new_sessions, session_step}
use Rattle.session_lines.proofs.SessionOutputs.{outputs_are_answers}
use Rattle.exchange_sessions.specs.Answers.{sessions_output}
use Rattle.exchange_sessions.proofs.answers.answer_messages.Goals as goal

output_is : (start : SessionsState ExchangeState) (input : List ℕ) → start ≡ new_sessions empty_exchange
    → output_of (session_step (any_session line_output)) false start input ≡ sessions_output input
output_is start input is = ap (λ s. output_of (session_step (any_session line_output)) false s input) is ∙ outputs_are_answers line_output empty_exchange input

pub answer_whole-requires-clause-first : goal.answer_whole-requires-clause-first
answer_whole-requires-clause-first g c = (omega (arith, ap (λ (s : SessionsState ExchangeState). s.0.served) c.new-messages.ensures), tt)

pub returns-clause-ok : goal.returns-clause-ok
returns-clause-ok g c =
    subst (λ output. OnOk c.answer_whole.result (Appends (g.K.Sink.written c.args.sink.now) (g.K.Sink.written c.answer_whole.new.sink) output))
    (output_is c.new-messages.result c.args.input.now (c.new-messages.ensures ∙ ap new_sessions (c.new-lines.ensures ∙ c.new.ensures))) c.answer_whole.ensures.ok

pub returns-clause-front : goal.returns-clause-front
returns-clause-front g c =
    subst (λ output. OnErr c.answer_whole.result (AppendsFront (g.K.Sink.written c.args.sink.now) (g.K.Sink.written c.answer_whole.new.sink) output))
    (output_is c.new-messages.result c.args.input.now (c.new-messages.ensures ∙ ap new_sessions (c.new-lines.ensures ∙ c.new.ensures))) c.answer_whole.ensures.front
