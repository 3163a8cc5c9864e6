-- A line that asks for a quote or for prices, or tries an order, is told what its law says.
use Rattle.std.proofs.Common.{◌≡◌, ◌++◌, ◌∷◌, [], ℕ, List, Option, Result, Ok, ap, sym, subst}
use Rattle.std.specs.Prelude.{IfOk}
use Rattle.std.specs.Option.{option_map_or}
use Rattle.command_text.specs.declared.asked.Fault.{Fault}
use Rattle.command_text.specs.declared.requests.Request.{Request}
use Rattle.command_text.specs.declared.requests.Request.TheVariants as asks
use Rattle.command_text.specs.declared.words.TheConstants.{SERVED}
use Rattle.command_text.specs.Said.{said_in}
use Rattle.command_text.specs.Within.{RequestIsWithin}
use Rattle.command_text.proofs.ReadWithin.{said_is_within}
use Rattle.exchange_core.specs.declared.refusal.Refusal.{Refusal}
use Rattle.exchange_core.specs.ExchangeState.{ExchangeState}
use Rattle.exchange_core.specs.Step.{batch_in}
use Rattle.exchange_lines.specs.LineSteps.{InputLine}
use Rattle.proposal_text.specs.Pieces.{served_line}
use Rattle.proposal_text.specs.declared.replies.ProposalReply.TheVariants as told
use Rattle.quote_lines.specs.Laws.{TellsPrices, TellsQuote}
use Rattle.quote_lines.specs.Replies.{tried_for}
use Rattle.quote_lines.proofs.Thresholds.{priced_lines_are_thresholds, quoted_lines_are_thresholds, tried_orders_are_filled}
use Rattle.proposal_lines.specs.Laws.{IsSound}
use Rattle.proposal_lines.specs.Output.{proposing_line, proposing_said}
use Rattle.proposal_lines.specs.Answers.{TellsAsked, TellsTrial}
use Rattle.proposal_lines.specs.ProposingState.{ProposingState}
use Rattle.proposal_lines.specs.Reads.{refused_by}
use Rattle.proposal_lines.specs.Trials.{trial_of}
use Rattle.proposal_text.specs.declared.replies.ServedReply.TheVariants.{Told}

-- what is written, and the exchange after it
abbrev pub with_exchange : List ℕ × ProposingState → List ℕ × ExchangeState
with_exchange now = (now.0, now.1.exchange)

pub asked_told : (state : ProposingState) (line : InputLine) → IsSound state → TellsAsked state line (with_exchange (proposing_line line.number state line.bytes))
asked_told state line sound =
    let answer : Result Request Fault → List ℕ × ExchangeState = λ said. with_exchange (proposing_said line.number state line.bytes said) in
    let within : (said : Result Request Fault) → said_in SERVED line.bytes ≡ said → IfOk said RequestIsWithin =
    λ said is. subst (λ said. IfOk said RequestIsWithin) is (said_is_within SERVED line.bytes) in
    record {
      quote = λ request is allowed.
          subst (TellsQuote line.number state.exchange request) (ap answer (sym is))
          (quoted_lines_are_thresholds line.number state.exchange request sound.kept (within (Ok (asks.Quote request)) is) allowed);
      prices = λ request is allowed.
          subst (TellsPrices line.number state.exchange request) (ap answer (sym is))
          (priced_lines_are_thresholds line.number state.exchange request sound.kept (within (Ok (asks.Price request)) is) allowed);
      trial = λ request is allowed.
          let tried = tried_for (batch_in state.exchange request.quote.market) request in
          let told_by : Option Refusal → List ℕ × ExchangeState = λ refused.
          (served_line line.number (option_map_or refused_by refused (Told (told.Tried request.quote.market (trial_of tried)))) ++ 10 ∷ [], state.exchange) in
          subst (TellsTrial line.number state.exchange request) (ap answer (sym is))
          (ap told_by allowed, tried_orders_are_filled state.exchange request sound.kept (within (Ok (asks.Try request)) is) allowed);
    }
