-- A closed market stands still, whatever lines come.
use Rattle.std.proofs.Common.{◌≡◌, ℕ, true, [], ◌∷◌, Option, Some, None, Result, Ok, refl, sym, ◌∙◌, subst}
use Rattle.std.specs.Option.{option_map_or}
use Rattle.auction_phases.specs.Laws.{StandsStill}
use Rattle.auction_phases.specs.Phases.{is_closed}
use Rattle.command_text.specs.declared.asked.Fault.{Fault}
use Rattle.command_text.specs.declared.requests.Request.{Request}
use Rattle.command_text.specs.declared.requests.Request.TheVariants as asks
use Rattle.command_text.specs.declared.command.Command.TheVariants.{Withdraw}
use Rattle.command_text.specs.declared.words.TheConstants.{SERVED}
use Rattle.command_text.specs.Said.{said_in}
use Rattle.exchange_core.specs.declared.refusal.Refusal.{Refusal}
use Rattle.exchange_core.specs.Refusals.{refusal_of}
use Rattle.exchange_core.specs.Step.{refusal_effect, withdraw_effect}
use Rattle.exchange_lines.specs.LineSteps.{InputLine}
use Rattle.order_book.specs.Book.{live_of}
use Rattle.proposal_text.specs.declared.replies.ServedReply.{ServedReply}
use Rattle.proposal_lines.specs.Laws.{IsSound}
use Rattle.serve_lines.specs.Laws.{phased_of}
use Rattle.serve_lines.specs.Output.{serving_reply}
use Rattle.serve_lines.proofs.StandingStill as serving
use Rattle.secured_lines.specs.ClosedBest.{IsElsewhere}
use Rattle.secured_lines.specs.Output.{handed_on, secured_line, secured_reply, withdrawn}
use Rattle.secured_lines.specs.Promises.{ClosedMarketsStandStill}
use Rattle.secured_lines.specs.SecuredState.{SecuredState, exchange_in}
use Rattle.secured_lines.proofs.LineKinds.{by_answer, by_kind}
use Rattle.secured_lines.proofs.Telling.{secured_sound}

module _ (market : ℕ) (state : SecuredState) (line : InputLine) (sound : IsSound state.serving.proposing) (shut : is_closed state.serving.closed market ≡ true)
    (elsewhere : IsElsewhere market state.serving line) where
  abbrev Stands : ServedReply × SecuredState → Type 0
  Stands now = StandsStill market (phased_of state.serving) (phased_of now.1.serving)

  handed_stands : (said : Result Request Fault) → said_in SERVED line.bytes ≡ said → Stands (handed_on state line.bytes said)
  handed_stands said is =
      subst (λ (said : Result Request Fault). StandsStill market (phased_of state.serving) (phased_of (serving_reply state.serving line.bytes said).1)) is
      (serving.closed_markets_stand_still market state.serving (line ∷ []) sound shut (elsewhere, tt))

  -- a withdrawal leaves the book
  withdrawal_live : (account amount : ℕ) (refused : Option Refusal)
      → live_of (option_map_or (refusal_effect (exchange_in state)) refused (withdraw_effect (exchange_in state) account amount)).1.book market ≡ live_of (exchange_in state).book market
  withdrawal_live account amount None = refl
  withdrawal_live account amount (Some refusal) = refl

  withdrawn_stands : (account amount : ℕ) → Stands (withdrawn state account amount)
  withdrawn_stands account amount = record { closed = shut; live = withdrawal_live account amount (refusal_of (exchange_in state) (Withdraw account amount)) }

  said_stands : (said : Result Request Fault) → said_in SERVED line.bytes ≡ said → Stands (secured_reply state line.bytes said)
  said_stands =
      by_kind (λ said. said_in SERVED line.bytes ≡ said → Stands (secured_reply state line.bytes said)) (λ account is. record { closed = shut; live = refl })
      (λ account is. record { closed = shut; live = refl })
      (λ command is.
      by_answer Stands state line.bytes command (λ need kept. record { closed = shut; live = refl }) (λ free account amount it own. withdrawn_stands account amount)
      (λ free. handed_stands (Ok (asks.Command command)) is))
      (λ said other is. subst Stands (sym (other.handed state line.bytes)) (handed_stands said is))

-- ---- all lines
pub closed_markets_stand_still : ClosedMarketsStandStill
closed_markets_stand_still market state [] sound shut meanwhile = record { closed = shut; live = refl }
closed_markets_stand_still market state (line ∷ lines) sound shut meanwhile =
    let now = secured_line line.number state line.bytes in
    let first = said_stands market state line sound shut meanwhile.0 (said_in SERVED line.bytes) refl in
    let others = closed_markets_stand_still market now.1 lines (secured_sound line state sound) first.closed meanwhile.1 in
    record { closed = others.closed; live = others.live ∙ first.live }
