-- What holds of the answers.
use Rattle.std.specs.Prelude.{◌≡◌, ◌≤◌, ℕ, ℤ, pos, ◌≤ℤ◌, List, length, Ok}
use Rattle.cash_ledger.specs.Entries.{balance_of}
use Rattle.command_text.specs.declared.command.Command.TheVariants.{Withdraw}
use Rattle.exchange_core.specs.ExchangeState.{ExchangeState}
use Rattle.exchange_core.specs.Held.{markets_of, underlyings_in}
use Rattle.exchange_core.specs.Kept.{IsKept}
use Rattle.exchange_lines.specs.LineSteps.{AnswersAsRun}
use Rattle.exchange_lines.specs.Promises.{OutputTells}
use Rattle.command_text.specs.declared.requests.Request.TheVariants as asks
use Rattle.reply_print.specs.declared.replies.Reply.TheVariants.{Withdrawn}
use Rattle.proposal_text.specs.declared.replies.ServedReply.{ServedReply}
use Rattle.proposal_text.specs.declared.replies.ServedReply.TheVariants.{Plain}
use Rattle.guarded_lines.specs.Output.{IsMarginText, guarded_line}
use Rattle.guarded_lines.specs.Replies.{guarded_reply_to}
use Rattle.guarded_lines.specs.Settlements.{after_settling}

-- each line is answered as in a run, or by a refusal or by what is told of a margin, and then the
-- exchange is as it was
abbrev pub GuardedAnswerAsRun : Type 0
GuardedAnswerAsRun = AnswersAsRun IsMarginText guarded_line

-- what is written for an input is the text of the answers to its lines, which keep what is promised
-- and leave the house its gains
abbrev pub GuardedTellAnswers : Type 0
GuardedTellAnswers = OutputTells IsMarginText guarded_line

-- ---- withdrawals
-- the answer to a withdrawal, and the exchange after it
abbrev pub answer_to_withdrawal : ExchangeState → ℕ → ℕ → ServedReply × ExchangeState
answer_to_withdrawal state account amount = guarded_reply_to state (Ok (asks.Command (Withdraw account amount)))

-- after a withdrawal that is accepted, were all markets in which the account has positions settled
-- next, in rising number and at any prices, its balance would not be below 0
abbrev pub WithdrawalsAreCovered : Type 0
WithdrawalsAreCovered =
    (state : ExchangeState) (account amount : ℕ) (balance : ℤ) (prices : ℕ → List ℕ) → IsKept state → 1 ≤ account
    → (answer_to_withdrawal state account amount).0 ≡ Plain (Withdrawn account balance)
    → ((market : ℕ) → length (prices market) ≡ underlyings_in state.book market)
    → pos 0 ≤ℤ balance_of account (after_settling prices (markets_of account state.positions) (answer_to_withdrawal state account amount).1).entries
