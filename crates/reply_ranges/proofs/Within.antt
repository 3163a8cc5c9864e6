-- Each line that a run writes, and each reply to commands, is within its ranges.
use Rattle.std.proofs.Common.{ℕ, ◌+◌, ◌≤◌, List, [], ◌∷◌, length, sym, subst, arith}
use Rattle.std.specs.Prelude.{get_or, slice_range}
use Rattle.std.specs.List.{All}
use Rattle.std.proofs.lemmas.List.Elements.{All-nil, All-cons, All-head, All-tail, All-map}
use Rattle.command_text.specs.declared.command.Body.TheVariants.{Command}
use Rattle.command_text.specs.declared.command.Command.{Command as CommandOf}
use Rattle.command_text.specs.declared.command.Line.{Line}
use Rattle.command_text.specs.Lines.{commands_in, line_at, raw_lines_in}
use Rattle.command_text.proofs.LinePlaces.{lines_are_at_their_places}
use Rattle.command_text.specs.Within.{IsLineWithin, IsWithin}
use Rattle.command_text.proofs.ReadWithin.{inputs_are_within}
use Rattle.exchange_core.specs.ExchangeState.{ExchangeState, empty_exchange}
use Rattle.exchange_lines.specs.Replies.{answer_to, answers_from}
use Rattle.exchange_lines.specs.GainRuns.{replies_by}
use Rattle.exchange_core.specs.LineReplies.{reply_to}
use Rattle.exchange_core.specs.Step.{step}
use Rattle.reply_print.specs.declared.replies.Reply.{Reply}
use Rattle.reply_print.specs.Within.{IsLine, IsReplyWithin}
use Rattle.limits.specs.declared.TheConstants.{MAX_LINES}
use Rattle.reply_ranges.specs.Laws.{HasField, RepliesAreWithin}
use Rattle.reply_ranges.proofs.Fields.{fields_are_within}
use Rattle.reply_ranges.proofs.States.{IsStanding, empty_stands, reply_within, said_stands, step_within, still}
use Rattle.reply_ranges.specs.Accepted.{AnswersAreWithin, IsAnswerWithin}
use Rattle.reply_ranges.proofs.Lines.{AreNumbered, inputs_numbered, line_number}

-- a line that is refused for a number tells of its field
abbrev HasFieldIn : Line → Type 0
HasFieldIn line = HasField line.body

lines_have : (input : List ℕ) → All HasFieldIn (commands_in input)
lines_have input =
    let lines = raw_lines_in input in
    subst (All HasFieldIn) (sym (lines_are_at_their_places input)) (All-map HasFieldIn (line_at input) lines (λ k raw inside. fields_are_within (slice_range input (get_or lines k raw).from (get_or lines k raw).to)))

-- ---- each line
answers_from_within : (low high : ℕ) (state : ExchangeState) (lines : List Line) → high ≤ MAX_LINES → IsStanding (low + 1) state → AreNumbered line_number low high lines → All IsLineWithin lines → All HasFieldIn lines
    → All IsAnswerWithin (answers_from state lines)
answers_from_within low high state [] most stands numbered within fields = All-nil IsAnswerWithin
answers_from_within low high state (line ∷ lines) most stands numbered within fields =
    let after : ExchangeState = (reply_to state line.body).1 in
    let own = All-head IsLineWithin line lines within in
    let above = numbered.0 in
    let below = numbered.1 in
    let is_line : IsLine line.number = (omega (arith, above), omega (arith, below, most)) in
    let now = still (low + 1) line.number state (omega (arith, above)) stands in
    All-cons IsAnswerWithin (answer_to state line) (answers_from after lines) (is_line, reply_within line.number state now is_line line.body own (All-head HasFieldIn line lines fields))
    (answers_from_within line.number high after lines most (said_stands line.number state now line.body own) numbered.2 (All-tail IsLineWithin line lines within) (All-tail HasFieldIn line lines fields))

pub answers_are_within : AnswersAreWithin
answers_are_within input few =
    answers_from_within 0 (length input) empty_exchange (commands_in input) few empty_stands (inputs_numbered input) (inputs_are_within input) (lines_have input)

-- ---- each command
run_within : (commands : List CommandOf) (number : ℕ) (state : ExchangeState) → 1 ≤ number → number + length commands ≤ MAX_LINES + 1 → All IsWithin commands → IsStanding number state
    → All IsReplyWithin (replies_by step state commands)
run_within [] number state some few within stands = All-nil IsReplyWithin
run_within (command ∷ commands) number state some few within stands =
    let now : Reply × ExchangeState = step state command in
    let own = All-head IsWithin command commands within in
    All-cons IsReplyWithin now.0 (replies_by step now.1 commands) (step_within number state stands (some, omega (arith, few)) command own)
    (run_within commands (number + 1) now.1 (omega arith) (omega (arith, few)) (All-tail IsWithin command commands within) (said_stands number state stands (Command command) own))

pub replies_are_within : RepliesAreWithin
replies_are_within commands within few = run_within commands 1 empty_exchange (omega arith) (omega (arith, few)) within empty_stands
