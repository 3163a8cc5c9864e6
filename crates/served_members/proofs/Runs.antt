-- The exchange moves by what lines say, and by nothing else.
use Rattle.std.proofs.Common.{◌≡◌, ℕ, Bool, true, false, List, Option, Some, None, Result, Ok, Err, if◌then◌else◌, inl, inr, refl, sym, ap, subst}
use Rattle.std.specs.Option.{option_map_or}
use Rattle.auction_phases.specs.Phases.{bars, ended_in}
use Rattle.command_text.specs.declared.asked.Fault.{Fault}
use Rattle.command_text.specs.declared.command.Body.TheVariants as body
use Rattle.command_text.specs.declared.command.Command.{Command}
use Rattle.command_text.specs.declared.command.Command.TheVariants.{Open, Deposit, Withdraw, Market, Trade, Bundle, Cancel, Clear, Settle, Balance}
use Rattle.command_text.specs.declared.requests.Request.{Request}
use Rattle.command_text.specs.declared.requests.Request.TheVariants as asks
use Rattle.command_text.specs.declared.words.TheConstants.{SERVED}
use Rattle.command_text.specs.Said.{said_in}
use Rattle.exchange_core.specs.ExchangeState.{ExchangeState}
use Rattle.exchange_core.specs.Refusals.{refusal_of}
use Rattle.exchange_core.specs.Step.{effect, refusal_effect, step}
use Rattle.exchange_core.specs.declared.refusal.Refusal.{Refusal}
use Rattle.proposal_lines.specs.GuardedReplies.{plain_reply_to}
use Rattle.proposal_lines.specs.Withdrawals.{uncovered_by}
use Rattle.proposal_text.specs.declared.needs.Need.{Need}
use Rattle.proposal_text.specs.declared.replies.BoundedOutcome.{BoundedOutcome}
use Rattle.proposal_text.specs.declared.replies.ProposalReply.TheVariants as told
use Rattle.proposal_lines.specs.AllKinds.{said_reply}
use Rattle.proposal_lines.specs.Clears.{better_in, cleared_by}
use Rattle.proposal_lines.specs.Laws.{IsSound}
use Rattle.proposal_lines.specs.Output.{proposing_reply}
use Rattle.proposal_lines.specs.Reads as reads
use Rattle.proposal_text.specs.declared.replies.ServedReply.{ServedReply}
use Rattle.proposal_text.specs.declared.replies.ServedReply.TheVariants.{Told}
use Rattle.proposal_lines.proofs.Clearing.{better_is}
use Rattle.secured_lines.specs.ServeOutput.{handed_on, serving_reply}
use Rattle.secured_lines.specs.Phased.{exchange_of}
use Rattle.secured_lines.specs.ServingState.{ServingState}
use Rattle.secured_lines.specs.Output.{secured_reply, secured_said}
use Rattle.secured_lines.specs.SecuredState.{SecuredState, exchange_in, with_opened}
use Rattle.secured_lines.proofs.LineKinds.{by_answer, by_kind}
use Rattle.secured_lines.proofs.Moves.{said_leaves}
use Rattle.secured_lines.proofs.Telling.{secured_sound}
use Rattle.member_lines.specs.Runs.{IsMoved, RunsBy}
use Rattle.member_lines.proofs.Ruling.{lines_move_by_rule, live_orders_stay_few, owners_are_kept, quotas_are_kept}
use Rattle.served_members.specs.Laws.{MoveByRule}
use Rattle.served_members.specs.Members.{IsSoundServed}

-- ---- where no account is secured
module _ (state : ServingState) (line : List ℕ) (sound : IsSound state.proposing) where
  abbrev exchange : ExchangeState
  exchange = exchange_of state

  abbrev Moved : Command → ExchangeState → Type 0
  Moved command after = IsMoved (Ok (asks.Command command)) exchange after

  -- carried out by the exchange, unless a withdrawal is uncovered
  carried_out : (command : Command) (need : Option Need)
      → Moved command (option_map_or (λ need. (Told (told.Uncovered need), exchange)) need (plain_reply_to exchange (body.Command command))).1
  carried_out command None = inr (inl refl)
  carried_out command (Some need) = inl refl

  plain_moved : (command : Command) → Moved command (said_reply exchange (Ok (asks.Command command))).1
  plain_moved command = carried_out command (uncovered_by exchange (body.Command command))

  -- a clear, by whatever outcome
  clear_moved : (market budget : ℕ) (refused : Option Refusal) → refusal_of exchange (Clear market budget) ≡ refused
      → (better : Option BoundedOutcome) → better_in state.proposing market budget ≡ better
      → Moved (Clear market budget) (option_map_or (λ first. (reads.refused_by first, state.proposing)) refused (cleared_by state.proposing market budget better)).1.exchange
  clear_moved market budget (Some first) is better found = inl refl
  clear_moved market budget None is None found =
      inr (inl (sym (ap (λ (r : Option Refusal). (option_map_or (refusal_effect exchange) r (effect exchange (Clear market budget))).1) is)))
  clear_moved market budget None is (Some better) found =
      let proved = better_is state.proposing market budget sound is better found in
      inr (inr (better.proposal.fills, is, proved.proves.covered.covers.are_fills, refl))

  command_moved : (command : Command) → Moved command (proposing_reply state.proposing line (Ok (asks.Command command))).1.exchange
  command_moved (Clear market budget) = clear_moved market budget (refusal_of exchange (Clear market budget)) refl (better_in state.proposing market budget) refl
  command_moved (Open account) = plain_moved (Open account)
  command_moved (Deposit account amount) = plain_moved (Deposit account amount)
  command_moved (Withdraw account amount) = plain_moved (Withdraw account amount)
  command_moved (Market market underlyings) = plain_moved (Market market underlyings)
  command_moved (Trade side account market kind strike price quantity count weights) = plain_moved (Trade side account market kind strike price quantity count weights)
  command_moved (Bundle side account market price quantity bundle) = plain_moved (Bundle side account market price quantity bundle)
  command_moved (Cancel account order) = plain_moved (Cancel account order)
  command_moved (Settle market count prices) = plain_moved (Settle market count prices)
  command_moved (Balance account) = plain_moved (Balance account)

  -- which a closed market may keep from the exchange
  handed_moved : (command : Command) → Moved command (exchange_of (serving_reply state line (Ok (asks.Command command))).1)
  handed_moved command = by (bars state.closed exchange command)
    where
      by : (barred : Bool) → Moved command (exchange_of (if barred then (Told told.MarketIsClosed, state)
          else handed_on state line (Ok (asks.Command command)) (ended_in exchange command)).1)
      by true = inl refl
      by false = command_moved command

-- ---- where accounts may be secured
-- what is said otherwise leaves the exchange
unmoved : (said : Result Request Fault) (before after : ExchangeState) → after ≡ before → IsMoved said before after
unmoved (Ok (asks.Command command)) before after same = inl same
unmoved (Ok (asks.Quote request)) before after same = same
unmoved (Ok (asks.Price request)) before after same = same
unmoved (Ok (asks.Margin request)) before after same = same
unmoved (Ok (asks.Book market)) before after same = same
unmoved (Ok (asks.Positions account market)) before after same = same
unmoved (Ok (asks.Secure account)) before after same = same
unmoved (Ok (asks.Need account)) before after same = same
unmoved (Ok (asks.Close market)) before after same = same
unmoved (Ok (asks.Reopen market)) before after same = same
unmoved (Ok (asks.Propose request)) before after same = same
unmoved (Ok (asks.Try request)) before after same = same
unmoved (Err fault) before after same = same

module _ (state : SecuredState) (line : List ℕ) (sound : IsSoundServed state) where
  -- behind the answer to what is said
  abbrev Behind : Result Request Fault → ServedReply × SecuredState → Type 0
  Behind said now = IsMoved said (exchange_in state) (exchange_in now.1)

  ruled_moved : (command : Command) → Behind (Ok (asks.Command command)) (secured_reply state line (Ok (asks.Command command)))
  ruled_moved command =
      by_answer (Behind (Ok (asks.Command command))) state line command (λ need kept. inl refl)
      (λ free account amount is own. inr (inl (ap (λ (c : Command). (step (exchange_in state) c).1) (sym is)))) (λ free. handed_moved state.serving line sound command)

  said_moved : (said : Result Request Fault) → Behind said (secured_reply state line said)
  said_moved =
      by_kind (λ said. Behind said (secured_reply state line said)) (λ account. refl) (λ account. refl) ruled_moved
      (λ said other. subst (Behind said) (sym (other.handed state line))
      (unmoved said (exchange_in state) (exchange_of (serving_reply state.serving line said).1) (said_leaves state.serving line said other.none)))

served_runs : RunsBy exchange_in secured_said with_opened IsSoundServed
served_runs = record {
  kept = λ state sound. sound.kept;
  moves = λ number state line sound. said_moved state line sound (said_in SERVED line);
  stays = λ number state line sound. secured_sound (record { number = number; bytes = line }) state sound;
  left = λ state account. refl;
  opened = λ state account sound. sound;
}

pub members_move_by_rule : MoveByRule
members_move_by_rule = record {
  moves = lines_move_by_rule exchange_in secured_said with_opened IsSoundServed served_runs;
  owners = owners_are_kept exchange_in secured_said with_opened IsSoundServed served_runs;
  quotas = quotas_are_kept exchange_in secured_said with_opened IsSoundServed served_runs;
  live = live_orders_stay_few exchange_in secured_said with_opened IsSoundServed served_runs;
}
