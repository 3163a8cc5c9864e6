-- Where nothing is proposed, the replies are those of an exchange that takes no proposals.
use Rattle.std.proofs.Common.{◌≡◌, ℕ, List, [], ◌∷◌, ◌++◌, All, map, Option, Some, None, Result, Ok, refl, sym, ap, ◌∙◌}
use Rattle.std.specs.Option.{option_map_or}
use Rattle.auction_phases.specs.Phases.{ended_in}
use Rattle.std.proofs.lemmas.List.Elements.{All-head, All-tail}
use Rattle.cert_check.specs.declared.outcome.Outcome.{Outcome}
use Rattle.command_text.specs.declared.asked.Fault.{Fault}
use Rattle.command_text.specs.declared.command.Command.TheVariants.{Clear, Settle}
use Rattle.command_text.specs.declared.lines.RawLine.{RawLine}
use Rattle.command_text.specs.declared.requests.ProposeRequest.{ProposeRequest}
use Rattle.command_text.specs.declared.requests.Request.{Request}
use Rattle.command_text.specs.declared.requests.Request.TheVariants as asks
use Rattle.command_text.specs.declared.words.TheConstants.{SERVED}
use Rattle.command_text.specs.Lines.{raw_lines_in}
use Rattle.command_text.specs.Said.{said_in}
use Rattle.exchange_core.specs.declared.refusal.Refusal.{Refusal}
use Rattle.exchange_core.specs.ExchangeState.{ExchangeState, empty_exchange}
use Rattle.exchange_core.specs.Refusals.{refusal_of}
use Rattle.exchange_core.specs.Step.{clear_effect, refusal_effect, step}
use Rattle.exchange_lines.specs.LineSteps.{InputLine, input_line}
use Rattle.live_lines.specs.Output.{places_output}
use Rattle.proposal_text.specs.declared.replies.StopReason.{StopReason}
use Rattle.reply_print.specs.declared.replies.Reply.{Reply}
use Rattle.proposal_lines.specs.AllKinds.{said_reply}
use Rattle.proposal_lines.specs.Clears.{better_in, clear_reply, cleared_by, reference_in}
use Rattle.proposal_lines.specs.KeptByMarket.{after_end, stop_of}
use Rattle.proposal_lines.specs.Output.{proposing_line, proposing_reply, settlement_reply}
use Rattle.proposal_lines.specs.Promises.{ProposesNothing, WithoutProposals, reading_line}
use Rattle.proposal_lines.specs.Reading.{reading_reply}
use Rattle.proposal_lines.specs.ProposingState.{ProposingState, state_of}
use Rattle.proposal_lines.specs.Reads.{refused_by}
use Rattle.proposal_text.specs.Pieces.{written_reply}
use Rattle.proposal_text.specs.declared.replies.ServedReply.{ServedReply}
use Rattle.proposal_text.specs.declared.replies.ServedReply.TheVariants.{Plain}
use Rattle.proposal_lines.proofs.Clearing.{bounded_where}
use Rattle.proposal_lines.proofs.SaidKinds.{by_kind}

-- nothing is kept
abbrev alone : ExchangeState → ProposingState
alone exchange = state_of exchange []

-- what is answered, and the exchange after it
abbrev with_none : ServedReply × ExchangeState → ServedReply × ProposingState
with_none now = (now.0, alone now.1)

-- as a run answers it
abbrev as_run : Reply × ExchangeState → ServedReply × ProposingState
as_run now = (Plain now.0, alone now.1)

none_better : (outcome : Outcome) (run : Option StopReason) → bounded_where outcome run None ≡ None
none_better outcome None = refl
none_better outcome (Some run) = refl

-- a clear
clear_alone : (exchange : ExchangeState) (market budget : ℕ)
    → clear_reply (alone exchange) market budget ≡ with_none (said_reply exchange (Ok (asks.Command (Clear market budget))))
clear_alone exchange market budget =
    ap (λ better. option_map_or (λ first. (refused_by first, alone exchange)) (refusal_of exchange (Clear market budget)) (cleared_by (alone exchange) market budget better)) nothing
    ∙ by (refusal_of exchange (Clear market budget))
  where
    outcome : Outcome
    outcome = reference_in (alone exchange) market budget

    nothing : better_in (alone exchange) market budget ≡ None
    nothing = none_better outcome (stop_of outcome.mark)

    by : (r : Option Refusal) → option_map_or (λ first. (refused_by first, alone exchange)) r (cleared_by (alone exchange) market budget None)
        ≡ as_run (option_map_or (refusal_effect exchange) r (clear_effect exchange market budget))
    by None = refl
    by (Some first) = refl

-- a settlement
settle_alone : (exchange : ExchangeState) (market count : ℕ) (prices : List ℕ)
    → settlement_reply (alone exchange) market count prices ≡ with_none (said_reply exchange (Ok (asks.Command (Settle market count prices))))
settle_alone exchange market count prices = by (ended_in exchange (Settle market count prices))
  where
    now : Reply × ExchangeState
    now = step exchange (Settle market count prices)

    by : (ended : Option ℕ) → (Plain now.0, state_of now.1 (after_end [] ended)) ≡ as_run now
    by None = refl
    by (Some ended) = refl

-- what is said, which is no proposal
said_alone : (exchange : ExchangeState) (line : List ℕ) (said : Result Request Fault) → ((request : ProposeRequest) → said ≡ Ok (asks.Propose request) → ⊥)
    → proposing_reply (alone exchange) line said ≡ with_none (reading_reply exchange said)
said_alone exchange line =
    by_kind (λ said. ((request : ProposeRequest) → said ≡ Ok (asks.Propose request) → ⊥) → proposing_reply (alone exchange) line said ≡ with_none (reading_reply exchange said))
    (λ request none. absurd (none request refl))
    (λ market budget none. clear_alone exchange market budget)
    (λ market count prices none. settle_alone exchange market count prices)
    (λ market none. refl)
    (λ account market none. refl)
    (λ request none. refl)
    (λ said other none. other.served (alone exchange) line ∙ ap with_none (sym (other.reading exchange)))

line_alone : (exchange : ExchangeState) (line : InputLine) → ProposesNothing line → proposing_line line.number (alone exchange) line.bytes ≡ (let now = reading_line line.number exchange line.bytes in (now.0, alone now.1))
line_alone exchange line none = ap (written_reply line.number) (said_alone exchange line.bytes (said_in SERVED line.bytes) none)

places_alone : (input : List ℕ) (places : List RawLine) (exchange : ExchangeState) → All ProposesNothing (map (input_line input) places)
    → places_output proposing_line input (alone exchange) places ≡ places_output reading_line input exchange places
places_alone input [] exchange none = refl
places_alone input (place ∷ places) exchange none =
    let line = input_line input place in
    let now = reading_line line.number exchange line.bytes in
    ap (λ (r : List ℕ × ProposingState). r.0 ++ places_output proposing_line input r.1 places)
    (line_alone exchange line (All-head ProposesNothing line (map (input_line input) places) none))
    ∙ ap (λ l. now.0 ++ l) (places_alone input places now.1 (All-tail ProposesNothing line (map (input_line input) places) none))

pub without_proposals : WithoutProposals
without_proposals input none = places_alone input (raw_lines_in input) empty_exchange none
