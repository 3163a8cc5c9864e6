-- What is told of what is read or tried, and of refusals, tells of nothing that is taken.
use Rattle.std.proofs.Common.{◌≡◌, ◌++◌, ◌∷◌, [], ℕ, List, Bool, Option, Some, None, inl, inr, refl, ap}
use Rattle.std.specs.Option.{option_map_or}
use Rattle.command_text.specs.declared.asked.Fault.{Fault}
use Rattle.command_text.specs.declared.asked.Fault.TheVariants.{Syntax, Range}
use Rattle.command_text.specs.declared.requests.TryRequest.{TryRequest}
use Rattle.exchange_core.specs.ExchangeState.{ExchangeState}
use Rattle.exchange_core.specs.Held.{positions_of}
use Rattle.exchange_core.specs.Reply.{refused_with}
use Rattle.exchange_core.specs.Step.{batch_in}
use Rattle.exchange_core.specs.declared.refusal.Refusal.{Refusal}
use Rattle.exchange_core.specs.declared.refusal.Refusal.TheVariants as refusal
use Rattle.lists.specs.Refusals.{first_of}
use Rattle.proposal_text.specs.Pieces.{served_line}
use Rattle.proposal_text.specs.declared.replies.ProposalReply.TheVariants as told
use Rattle.quote_lines.specs.Refusals.{quote_refusals}
use Rattle.quote_lines.specs.Replies.{tried_for}
use Rattle.reply_print.specs.ReplyPieces.{reply_line}
use Rattle.proposal_lines.specs.Answers.{TakesNothing, IsBesideProposals}
use Rattle.proposal_lines.specs.Reads.{book_refusals, book_reply, positions_refusals, positions_reply, refused_by, refused_by_fault, unless_refused}
use Rattle.proposal_lines.specs.Trials.{trial_of, trial_reply}
use Rattle.proposal_text.specs.declared.replies.ServedReply.{ServedReply}
use Rattle.proposal_text.specs.declared.replies.ServedReply.TheVariants.{Plain, Told}

-- a refusal, or a reply that tells of no batch
abbrev pub IsBeside : ServedReply → Type 0
IsBeside (Plain reply) = (first : Refusal) × (reply ≡ refused_with first)
IsBeside (Told reply) = TakesNothing reply

pub beside_text : (number : ℕ) (reply : ServedReply) → IsBeside reply → IsBesideProposals number (served_line number reply ++ 10 ∷ [])
beside_text number (Plain reply) (first, is) = inl (inl (inl (first, ap (λ r. reply_line number r ++ 10 ∷ []) is)))
beside_text number (Told reply) none = inr (reply, none, refl)

-- ---- a line of another form than its word demands, and a refusal by its market
pub fault_beside : (fault : Fault) → IsBeside (refused_by_fault fault)
fault_beside Syntax = (refusal.Syntax, refl)
fault_beside (Range field) = (refusal.Range field, refl)

pub refusal_beside : (first : Refusal) → IsBeside (refused_by first)
refusal_beside first = (first, refl)

-- ---- a read, and a trial
unless_beside : (refusals : List (Bool × Refusal)) (reply : ServedReply) → IsBeside reply → IsBeside (unless_refused refusals reply)
unless_beside refusals reply is = elim (first_of refusals) as (λ (r : Option Refusal). IsBeside (option_map_or refused_by r reply)) [
  | None ↦ is
  | Some first ↦ (first, refl)
]

pub book_beside : (exchange : ExchangeState) (market : ℕ) → IsBeside (book_reply exchange market)
book_beside exchange market = unless_beside (book_refusals exchange market) (Told (told.Book market (batch_in exchange market))) tt

pub positions_beside : (exchange : ExchangeState) (account market : ℕ) → IsBeside (positions_reply exchange account market)
positions_beside exchange account market =
    unless_beside (positions_refusals exchange account market) (Told (told.Positions account market (positions_of account market exchange.positions))) tt

pub trial_beside : (exchange : ExchangeState) (request : TryRequest) → IsBeside (trial_reply exchange request)
trial_beside exchange request =
    unless_beside (quote_refusals exchange.book request.quote)
    (Told (told.Tried request.quote.market (trial_of (tried_for (batch_in exchange request.quote.market) request)))) tt
