-- What takes an exchange further: what a line says, and a batch that is cleared with an outcome
-- from elsewhere.
use Rattle.std.specs.Prelude.{ℕ, ◌≡◌, List, None}
use Rattle.cert_check.specs.declared.outcome.Outcome.{Outcome}
use Rattle.cert_check.specs.Laws.{IsCovered}
use Rattle.command_text.specs.declared.command.Body.{Body}
use Rattle.command_text.specs.Within.{BodyIsWithin}
use Rattle.order_book.specs.Refusals.{batch_refusals}
use Rattle.lists.specs.Refusals.{first_of}
use Rattle.reply_print.specs.declared.replies.Reply.{Reply}
use Rattle.exchange_core.specs.ExchangeState.{ExchangeState}
use Rattle.exchange_core.specs.LineReplies.{reply_to}
use Rattle.exchange_core.specs.Refusals.{by_book}
use Rattle.exchange_core.specs.Step.{batch_in, cleared_as}
use Rattle.exchange_lines.specs.GainRuns.{AreFit}

pub data Move : Type 0 where
  says : Body → Move
  clears : (market : ℕ) (outcome : Outcome) → Move

-- the reply to it, and the state after it
abbrev pub move : ExchangeState → Move → Reply × ExchangeState
move state (says said) = reply_to state said
move state (clears market outcome) = cleared_as state market outcome

-- what is said is within the limits; the market may be cleared, and the outcome covers its surplus
abbrev pub MayMove : ExchangeState → Move → Type 0
MayMove state (says said) = BodyIsWithin said
MayMove state (clears market outcome) =
    (first_of (by_book (batch_refusals state.book market)) ≡ None) × IsCovered (batch_in state market) outcome

-- each in the state that those before it left
abbrev pub AreMoves : ExchangeState → List Move → Type 0
AreMoves state moves = AreFit move MayMove state moves
