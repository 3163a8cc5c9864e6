-- A line does to the exchange and its secured accounts what one event does, or nothing.
use Rattle.std.proofs.Common.{◌≡◌, ℕ, List, Bool, true, false, is_some, Option, Some, None, Result, Ok, IfOk, inl, inr, if◌then◌else◌, refl, sym, ap, ◌∙◌, subst}
use Rattle.std.specs.Prelude.{◌⊎◌}
use Rattle.std.specs.Option.{option_map_or}
use Rattle.account_need.specs.Account.{Need}
use Rattle.auction_phases.specs.Phases.{bars, ended_in}
use Rattle.auction_phases.specs.Refusals.{close_refusals, reopen_refusals}
use Rattle.auction_phases.specs.declared.refusal.PhaseRefusal.{PhaseRefusal}
use Rattle.command_text.specs.declared.asked.Fault.{Fault}
use Rattle.command_text.specs.declared.command.Body.{Body}
use Rattle.command_text.specs.declared.command.Command.{Command}
use Rattle.command_text.specs.declared.command.Command.TheVariants.{Withdraw}
use Rattle.command_text.specs.declared.requests.Request.{Request}
use Rattle.command_text.specs.declared.requests.Request.TheVariants as asks
use Rattle.command_text.specs.declared.words.TheConstants.{SERVED}
use Rattle.command_text.specs.Said.{said_in}
use Rattle.command_text.specs.Within.{RequestIsWithin}
use Rattle.command_text.proofs.ReadWithin.{said_is_within}
use Rattle.command_text.proofs.SaidByWords.{command_to_run}
use Rattle.exchange_core.specs.ExchangeState.{ExchangeState}
use Rattle.exchange_core.specs.LineReplies.{reply_to}
use Rattle.exchange_core.specs.Step.{step}
use Rattle.exchange_lines.specs.LineSteps.{InputLine}
use Rattle.lists.specs.Refusals.{first_of}
use Rattle.proposal_text.specs.declared.replies.ProposalReply.TheVariants as told
use Rattle.proposal_lines.specs.Answers.{IsToldFor, ProposalAnswer, beside, bounded, replied, taken}
use Rattle.proposal_lines.specs.Laws.{IsSound}
use Rattle.proposal_text.specs.declared.replies.ServedReply.{ServedReply}
use Rattle.proposal_text.specs.declared.replies.ServedReply.TheVariants.{Told}
use Rattle.proposal_lines.proofs.Clearing.{better_is}
use Rattle.secured_accounts.specs.Laws.{Asked, Charged, Event, MayCome, Securing, after_event, guarded}
use Rattle.secured_accounts.specs.Secured.{uncovered}
use Rattle.serve_lines.specs.Output.{handed_on as serving_handed_on, serving_line, serving_reply}
use Rattle.serve_lines.specs.Phased.{closed_effect, exchange_of, refused_by, reopened_effect, with_phases}
use Rattle.serve_lines.specs.ServingState.{ServingState}
use Rattle.serve_lines.proofs.LineKinds as serving
use Rattle.serve_lines.proofs.StandingStill.{reply_leaves}
use Rattle.serve_lines.proofs.Telling.{serving_told}
use Rattle.secured_lines.specs.Laws.{guarded_in}
use Rattle.secured_lines.specs.Output.{command_reply, handed_on, kept_from, secured_line, secured_reply, withdrawn}
use Rattle.secured_lines.specs.SecuredState.{SecuredState, exchange_in, secured_of}
use Rattle.secured_lines.proofs.LineKinds.{by_answer, by_kind}
use Rattle.secured_lines.proofs.Prices.{has_prices}

-- ---- lines that say no command leave the exchange
module _ (state : ServingState) (line : List ℕ) where
  abbrev Leaves : Result Request Fault → Type 0
  Leaves said = exchange_of (serving_reply state line said).1 ≡ exchange_of state

  close_leaves : (market : ℕ) (refused : Option PhaseRefusal)
      → exchange_of (with_phases state (option_map_or (λ first. (refused_by first, state.closed)) refused (closed_effect (exchange_of state) state.closed market))).1 ≡ exchange_of state
  close_leaves market None = refl
  close_leaves market (Some first) = refl

  reopen_leaves : (market : ℕ) (refused : Option PhaseRefusal)
      → exchange_of (with_phases state (option_map_or (λ first. (refused_by first, state.closed)) refused (reopened_effect state.closed market))).1 ≡ exchange_of state
  reopen_leaves market None = refl
  reopen_leaves market (Some first) = refl

  pub said_leaves : (said : Result Request Fault) → ((command : Command) → said ≡ Ok (asks.Command command) → ⊥) → Leaves said
  said_leaves =
      serving.by_kind (λ said. ((command : Command) → said ≡ Ok (asks.Command command) → ⊥) → Leaves said)
      (λ market none. close_leaves market (first_of (close_refusals (exchange_of state) state.closed market)))
      (λ market none. reopen_leaves market (first_of (reopen_refusals (exchange_of state) state.closed market))) (λ command none. absurd (none command refl))
      (λ said other none. ap (λ (now : ServedReply × ServingState). exchange_of now.1) (other.handed state line) ∙ reply_leaves state.proposing line said none)

-- ---- a line over accounts that may be secured
module _ (state : SecuredState) (line : InputLine) (sound : IsSound state.serving.proposing) where
  abbrev exchange : ExchangeState
  exchange = exchange_in state

  pub record IsEvent (after : SecuredState) : Type 0 where
    pub event : Event
    pub may : MayCome (guarded_in state) event
    pub does : guarded_in after ≡ after_event (guarded_in state) event

  abbrev pub Comes : SecuredState → Type 0
  Comes after = (guarded_in after ≡ guarded_in state) ⊎ IsEvent after

  within_said : (said : Result Request Fault) → said_in SERVED line.bytes ≡ said → IfOk said RequestIsWithin
  within_said said is = subst (λ (said : Result Request Fault). IfOk said RequestIsWithin) is (said_is_within SERVED line.bytes)

  -- the exchange is left, and so are the secured accounts
  left : (after : ServingState) → exchange_of after ≡ exchange → Comes (secured_of after state.secured)
  left after same = inl (ap (λ (e : ExchangeState). guarded e state.secured) same)

  -- ---- a command that the rule lets through
  module _ (command : Command) (says : said_in SERVED line.bytes ≡ Ok (asks.Command command)) where
    asked : uncovered state.secured exchange command ≡ None → (after : ServingState) → exchange_of after ≡ (step exchange command).1 → Comes (secured_of after state.secured)
    asked through after same = inr (record {
      event = Asked command;
      may = (within_said (Ok (asks.Command command)) says, has_prices SERVED line.bytes command says);
      does = ap (λ (e : ExchangeState). guarded e state.secured) same
          ∙ sym (ap (λ (need : Option Need). if is_some need then guarded_in state else guarded (step exchange command).1 state.secured) through);
    })

    -- whatever is told for it
    told_comes : uncovered state.secured exchange command ≡ None → (answer : ProposalAnswer) (after : ServingState) → IsToldFor state.serving.proposing line answer after.proposing
        → Comes (secured_of after state.secured)
    told_comes through (replied answer) after told =
        asked through after (told.exchange ∙ ap (λ (said : Body). (reply_to exchange said).1) (command_to_run SERVED line.bytes command says))
    told_comes through (bounded answer) after told =
        let better = better_is state.serving.proposing answer.market answer.budget sound told.accepted answer.better told.better in
        inr (record {
          event = Charged answer.market answer.better.proposal.fills;
          may = (told.accepted, better.proves.covered.covers.are_fills);
          does = ap (λ (e : ExchangeState). guarded e state.secured) told.exchange;
        })
    told_comes through (taken answer) after told = left after told.exchange
    told_comes through (beside number text) after told = left after told.exchange

    -- handed on to a closed market, or to the exchange
    handed_comes : kept_from state command ≡ None → Comes (handed_on state line.bytes (Ok (asks.Command command))).1
    handed_comes free = by (bars state.serving.closed exchange command) refl
      where
        said : Result Request Fault
        said = Ok (asks.Command command)

        by : (barred : Bool) → bars state.serving.closed exchange command ≡ barred → Comes (handed_on state line.bytes said).1
        by true is =
            left (serving_reply state.serving line.bytes said).1
            (ap (λ (b : Bool). exchange_of (if b then (Told told.MarketIsClosed, state.serving)
            else serving_handed_on state.serving line.bytes said (ended_in exchange command)).1) is)
        by false is =
            let through : uncovered state.secured exchange command ≡ None =
            sym (ap (λ (b : Bool). if b then None else uncovered state.secured exchange command) is) ∙ free in
            let one = (serving_told line state.serving sound).line_is in
            subst (λ (s : Result Request Fault). Comes (secured_of (serving_reply state.serving line.bytes s).1 state.secured)) says
            (told_comes through one.answer (serving_line line.number state.serving line.bytes).1 one.told)

  -- a withdrawal of a secured account, which no closed market keeps from the exchange
  withdrawn_comes : (command : Command) → said_in SERVED line.bytes ≡ Ok (asks.Command command) → kept_from state command ≡ None
      → (account amount : ℕ) → command ≡ Withdraw account amount → Comes (withdrawn state account amount).1
  withdrawn_comes command says free account amount is =
      let through : uncovered state.secured exchange command ≡ None =
      subst (λ (c : Command). uncovered state.secured exchange c ≡ None) (sym is) (subst (λ (c : Command). kept_from state c ≡ None) is free) in
      asked command says through (withdrawn state account amount).1.serving (ap (λ (c : Command). (step exchange c).1) (sym is))

  command_comes : (command : Command) → said_in SERVED line.bytes ≡ Ok (asks.Command command) → Comes (command_reply state line.bytes command).1
  command_comes command says =
      by_answer (λ now. Comes now.1) state line.bytes command (λ need kept. inl refl)
      (λ free account amount is own. withdrawn_comes command says free account amount is) (handed_comes command says)

  -- ---- what a line says
  said_comes : (said : Result Request Fault) → said_in SERVED line.bytes ≡ said → Comes (secured_reply state line.bytes said).1
  said_comes =
      by_kind (λ said. said_in SERVED line.bytes ≡ said → Comes (secured_reply state line.bytes said).1)
      (λ account is. inr (record { event = Securing account; may = within_said (Ok (asks.Secure account)) is; does = refl }))
      (λ account is. inl refl) command_comes
      (λ said other is.
      subst (λ (now : ServedReply × SecuredState). Comes now.1) (sym (other.handed state line.bytes))
      (left (serving_reply state.serving line.bytes said).1 (said_leaves state.serving line.bytes said other.none)))

  pub line_comes : Comes (secured_line line.number state line.bytes).1
  line_comes = said_comes (said_in SERVED line.bytes) refl
