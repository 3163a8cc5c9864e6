-- What is told of a market's live orders, of an account's positions in it, and of its balance.
use Rattle.std.specs.Prelude.{ℕ, Bool, List, ◌++◌}
use Rattle.std.specs.Option.{option_map_or}
use Rattle.cash_ledger.specs.Refusals.{account_refusals}
use Rattle.command_text.specs.declared.asked.Fault.{Fault}
use Rattle.command_text.specs.declared.asked.Fault.TheVariants.{Syntax, Range}
use Rattle.command_text.specs.declared.command.Command.TheVariants.{Balance}
use Rattle.exchange_core.specs.declared.refusal.Refusal.{Refusal}
use Rattle.exchange_core.specs.declared.refusal.Refusal.TheVariants as refusal
use Rattle.exchange_core.specs.ExchangeState.{ExchangeState}
use Rattle.exchange_core.specs.Held.{positions_of}
use Rattle.exchange_core.specs.Refusals.{by_book, by_ledger}
use Rattle.exchange_core.specs.Reply.{refused_with}
use Rattle.exchange_core.specs.Step.{batch_in, step}
use Rattle.order_book.specs.Refusals.{live_refusals}
use Rattle.proposal_text.specs.declared.replies.ProposalReply.TheVariants as told
use Rattle.lists.specs.Refusals.{first_of}
use Rattle.proposal_text.specs.declared.replies.ServedReply.{ServedReply}
use Rattle.proposal_text.specs.declared.replies.ServedReply.TheVariants.{Plain, Told}

-- ---- refusals
abbrev pub refused_by_fault : Fault → ServedReply
refused_by_fault Syntax = Plain (refused_with refusal.Syntax)
refused_by_fault (Range field) = Plain (refused_with (refusal.Range field))

abbrev pub refused_by : Refusal → ServedReply
refused_by first = Plain (refused_with first)

-- the first refusal that is met, or a reply
abbrev pub unless_refused : List (Bool × Refusal) → ServedReply → ServedReply
unless_refused refusals reply = option_map_or refused_by (first_of refusals) reply

-- ---- what is told
abbrev pub book_refusals : ExchangeState → ℕ → List (Bool × Refusal)
book_refusals state market = by_book (live_refusals state.book market)

abbrev pub book_reply : ExchangeState → ℕ → ServedReply
book_reply state market = unless_refused (book_refusals state market) (Told (told.Book market (batch_in state market)))

abbrev pub positions_refusals : ExchangeState → ℕ → ℕ → List (Bool × Refusal)
positions_refusals state account market = book_refusals state market ++ by_ledger (account_refusals state.accounts account)

abbrev pub positions_reply : ExchangeState → ℕ → ℕ → ServedReply
positions_reply state account market =
    unless_refused (positions_refusals state account market) (Told (told.Positions account market (positions_of account market state.positions)))

-- as a run tells it
abbrev pub balance_reply : ExchangeState → ℕ → ServedReply
balance_reply state account = Plain (step state (Balance account)).0
