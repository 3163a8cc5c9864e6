-- The answers to an input leave the house its gains.
use Rattle.std.proofs.Common.{◌≡◌, List, [], ◌∷◌, refl, sym, ap, subst}
use Rattle.std.specs.List.{All}
use Rattle.command_text.specs.declared.command.Line.{Line}
use Rattle.command_text.specs.Lines.{commands_in}
use Rattle.command_text.specs.Within.{IsLineWithin}
use Rattle.command_text.proofs.ReadWithin.{inputs_are_within}
use Rattle.exchange_core.specs.ExchangeState.{ExchangeState, empty_exchange}
use Rattle.exchange_lines.specs.GainRuns.{HouseGains, replies_by, state_by}
use Rattle.exchange_lines.proofs.RunGains.{always_fit, gains_run}
use Rattle.exchange_lines.proofs.RunStates.{empty_runs}
use Rattle.exchange_lines.proofs.GainSteps.{body_steps}
use Rattle.exchange_lines.specs.Promises.{AnswersGain, line_reply, replies_of}
use Rattle.exchange_lines.specs.Replies.{answers_from}

replies_are : (state : ExchangeState) (lines : List Line) → replies_of (answers_from state lines) ≡ replies_by line_reply state lines
replies_are state [] = refl
replies_are state (line ∷ lines) = ap (λ l. (line_reply state line).0 ∷ l) (replies_are (line_reply state line).1 lines)

pub lines_gain : (lines : List Line) → All IsLineWithin lines → HouseGains (state_by line_reply empty_exchange lines).entries (replies_of (answers_from empty_exchange lines))
lines_gain lines within =
    subst (HouseGains (state_by line_reply empty_exchange lines).entries) (sym (replies_are empty_exchange lines))
    (gains_run line_reply (λ before line. IsLineWithin line) (λ state line. body_steps state line.body) lines empty_exchange
    (always_fit line_reply IsLineWithin empty_exchange lines within) empty_runs)

pub answers_gain : AnswersGain
answers_gain input = lines_gain (commands_in input) (inputs_are_within input)
