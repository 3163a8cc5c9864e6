-- Each line that is served where there are no phases is sound, and what is left stands before the
-- next one.
use Rattle.std.proofs.Common.{◌≡◌, ℕ, ◌+◌, ◌≤◌, List, None, Result, sym, subst, arith}
use Rattle.std.specs.Prelude.{IfOk}
use Rattle.std.proofs.lemmas.List.Elements.{All-nil}
use Rattle.cert_check.specs.Laws.{IsCovered}
use Rattle.proposal_check.specs.Proposals.{as_outcome}
use Rattle.command_text.specs.declared.asked.Fault.{Fault}
use Rattle.command_text.specs.declared.command.Command.TheVariants.{Clear}
use Rattle.command_text.specs.declared.requests.Request.{Request}
use Rattle.command_text.specs.declared.words.TheConstants.{SERVED}
use Rattle.command_text.specs.Said.{said_in}
use Rattle.command_text.specs.Within.{RequestIsWithin}
use Rattle.command_text.specs.Commands.{body_of_line}
use Rattle.command_text.proofs.ReadWithin.{lines_are_within, said_is_within}
use Rattle.exchange_core.specs.ExchangeState.{ExchangeState}
use Rattle.exchange_core.specs.LineReplies.{reply_to}
use Rattle.exchange_core.specs.Refusals.{refusal_of}
use Rattle.exchange_core.specs.Step.{batch_in, cleared_as, cleared_with}
use Rattle.exchange_core.proofs.FirstRefusal.{batch_none}
use Rattle.exchange_lines.specs.LineSteps.{InputLine}
use Rattle.form.specs.declared.orders.Batch.{Batch}
use Rattle.exchange_lines.specs.Moves.{clears}
use Rattle.exchange_lines.proofs.RunStates.{step_runs}
use Rattle.exchange_lines.proofs.GainSteps.{move_steps}
use Rattle.proposal_text.specs.declared.replies.BoundedOutcome.{BoundedOutcome}
use Rattle.proposal_text.specs.declared.replies.ServedReply.{ServedReply}
use Rattle.reply_print.specs.Within.{IsLine}
use Rattle.proposal_lines.specs.Laws.{IsSound}
use Rattle.proposal_lines.specs.Output.{proposing_line, proposing_reply}
use Rattle.proposal_lines.specs.Promises.{IsToldFor, KeepsProposalPromises, ProposalAnswer, beside, bounded, charged, replied, taken}
use Rattle.proposal_lines.specs.Proposed.{proposed_of}
use Rattle.proposal_lines.specs.ProposingState.{ProposingState, empty_state}
use Rattle.proposal_lines.proofs.Kept.{Has}
use Rattle.proposal_lines.proofs.SaidKinds.{by_kind}
use Rattle.proposal_lines.proofs.Telling.{charged_covered, empty_is_sound, line_told}
use Rattle.reply_ranges.proofs.States.{IsStanding, charged_ranged, empty_stands as nothing_stands, said_stands, still as exchange_still}
use Rattle.reply_ranges.proofs.Fields.{IsPlacedIn, said_is_placed}
use Rattle.reply_ranges.proofs.Kept.{AreKeptWithin, IsBestWithin}
use Rattle.reply_ranges.proofs.Others.{said_served}
use Rattle.reply_ranges.proofs.Proposals.{book_served, clear_served, positions_served, proposed_in, proposed_served, settle_served, trial_served}
use Rattle.reply_ranges.proofs.Texts.{IsServedReply, IsServedText}

-- before the line of a number
pub record Stands (number : ℕ) (state : ProposingState) : Type 0 where
  pub sound : IsSound state
  pub exchange : IsStanding number state.exchange
  pub kept : AreKeptWithin state.kept

pub empty_stands : Stands 1 empty_state
empty_stands = record { sound = empty_is_sound; exchange = nothing_stands; kept = All-nil (Has IsBestWithin) }

-- and before a later one, where nothing comes between
pub still : (number later : ℕ) (state : ProposingState) → number ≤ later → Stands number state → Stands later state
still number later state le h = record { sound = h.sound; exchange = exchange_still number later state.exchange le h.exchange; kept = h.kept }

-- behind an empty line
pub passes : (number : ℕ) (state : ProposingState) → Stands number state → Stands (number + 1) state
passes number state = still number (number + 1) state (omega arith)

-- ---- the exchange behind a line
module _ (number : ℕ) (state : ProposingState) (line : InputLine) (sound : IsSound state) (stands : IsStanding number state.exchange) where
  abbrev exchange : ExchangeState
  exchange = state.exchange

  pub run_stands : IsStanding (number + 1) (reply_to exchange (body_of_line line.bytes)).1
  run_stands = said_stands number exchange stands (body_of_line line.bytes) (lines_are_within line.bytes)

  unchanged : IsStanding (number + 1) exchange
  unchanged = exchange_still number (number + 1) exchange (omega arith) stands

  charged_stands : (market budget : ℕ) (better : BoundedOutcome) → refusal_of exchange (Clear market budget) ≡ None → IsCovered (batch_in exchange market) (as_outcome better.proposal)
      → IsStanding (number + 1) (cleared_with exchange market better.proposal.fills)
  charged_stands market budget better accepted covered =
      let outcome = charged better in
      let running = stands.running in
      let steps = move_steps exchange (clears market outcome) (accepted, charged_covered state line sound (batch_in exchange market) better covered) running.kept running.traders in
      record {
        running = step_runs exchange (cleared_as exchange market outcome) running steps;
        ranged = charged_ranged number exchange stands market better.proposal.fills (batch_none exchange.book market accepted) covered.covers.are_fills.1;
      }

  told_stands : (answer : ProposalAnswer) (after : ProposingState) → IsToldFor state line answer after → KeepsProposalPromises answer → IsStanding (number + 1) after.exchange
  told_stands (replied answer) after told promise = subst (IsStanding (number + 1)) (sym told.exchange) run_stands
  told_stands (bounded answer) after told promise =
      let covered : IsCovered (batch_in exchange answer.market) (as_outcome answer.better.proposal)
      = subst (λ (b : Batch). IsCovered b (as_outcome answer.better.proposal)) told.batch promise.proves.covered in
      subst (IsStanding (number + 1)) (sym told.exchange) (charged_stands answer.market answer.budget answer.better told.accepted covered)
  told_stands (taken answer) after told promise = subst (IsStanding (number + 1)) (sym told.exchange) unchanged
  told_stands (beside own text) after told promise = subst (IsStanding (number + 1)) (sym told.exchange) unchanged

-- ---- the reply to a line
module _ (number : ℕ) (is_line : IsLine number) (state : ProposingState) (stands : Stands number state) where
  abbrev IsServedNow : ServedReply × ProposingState → Type 0
  IsServedNow now = IsServedReply number now.0 × AreKeptWithin now.1.kept

  -- by what it says
  abbrev IsSaidNow : List ℕ → Result Request Fault → Type 0
  IsSaidNow line said = IfOk said RequestIsWithin → IsPlacedIn said → IsServedNow (proposing_reply state line said)

  said_now : (line : List ℕ) (said : Result Request Fault) → IsSaidNow line said
  said_now line =
      by_kind (IsSaidNow line)
      (λ request within placed.
      proposed_served number is_line state stands.exchange stands.sound stands.kept (proposed_of line request) (proposed_in line request within))
      (λ market budget within placed. clear_served number is_line state stands.exchange stands.sound stands.kept market budget within.0 within.1)
      (λ market count prices within placed. settle_served number is_line state stands.exchange stands.sound stands.kept market count prices within)
      (λ market within placed. (book_served number is_line state stands.exchange stands.sound stands.kept market within, stands.kept))
      (λ account market within placed.
      (positions_served number is_line state stands.exchange stands.sound stands.kept account market within.0 within.1, stands.kept))
      (λ request within placed. (trial_served number is_line state stands.exchange stands.sound stands.kept request within, stands.kept))
      (λ said other within placed.
      subst IsServedNow (sym (other.served state line))
      (said_served number is_line state.exchange stands.exchange said within placed, stands.kept))

  line_now : (line : List ℕ) → IsServedNow (proposing_reply state line (said_in SERVED line))
  line_now line = said_now line (said_in SERVED line) (said_is_within SERVED line) (said_is_placed SERVED line)

  pub answers : (line : List ℕ) → IsServedText (proposing_line number state line).0 × Stands (number + 1) (proposing_line number state line).1
  answers line =
      let asked : InputLine = record { number = number; bytes = line } in
      let now = line_now line in
      let told = line_told state asked stands.sound in (
        now.0,
        record {
          sound = told.sound;
          exchange = told_stands number state asked stands.sound stands.exchange told.answer (proposing_line number state line).1 told.told told.promise;
          kept = now.1;
        },
      )
