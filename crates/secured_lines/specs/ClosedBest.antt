-- What the next clear of a closed market tells: it is as good as each proposal that was taken since it
-- was closed.
use Rattle.std.specs.Prelude.{ℕ, ◌≡◌, ⊤, true, false, List, [], ◌∷◌, nat_eq}
use Rattle.std.specs.Option.{option_map_or}
use Rattle.auction_phases.specs.Phases.{is_closed}
use Rattle.command_text.specs.declared.words.TheConstants.{SERVED}
use Rattle.command_text.specs.Said.{said_in}
use Rattle.exact_num.specs.Fraction.{Fraction}
use Rattle.exchange_core.specs.Step.{batch_in}
use Rattle.exchange_lines.specs.LineSteps.{InputLine}
use Rattle.frac.specs.Value.{fraction_of}
use Rattle.order_book.specs.Refusals.{is_market}
use Rattle.proposal_lines.specs.Answers.{AreToldFor, ProposalAnswer}
use Rattle.proposal_lines.specs.Laws.{IsSound}
use Rattle.proposal_lines.specs.UsesBest.{IfTaken, clear_in, clears_or}
use Rattle.serve_lines.specs.Laws.{ended_by_said}
use Rattle.serve_lines.specs.ServingState.{ServingState}
use Rattle.secured_lines.specs.Laws.{state_by_lines}
use Rattle.secured_lines.specs.Output.{secured_line}
use Rattle.secured_lines.specs.SecuredState.{SecuredState, exchange_in}

-- the line does not clear, settle or open the market
abbrev pub IsElsewhere : ℕ → ServingState → InputLine → Type 0
IsElsewhere market state line = option_map_or (nat_eq market) (ended_by_said state (said_in SERVED line.bytes)) false ≡ false

-- none of the lines does
abbrev pub AreMeanwhile : ℕ → SecuredState → List InputLine → Type 0
AreMeanwhile market state [] = ⊤
AreMeanwhile market state (line ∷ lines) = IsElsewhere market state.serving line × AreMeanwhile market (secured_line line.number state line.bytes).1 lines

-- a closed market that is there has the same batch after them
abbrev pub ClosedBatchesStay : Type 0
ClosedBatchesStay =
    (market : ℕ) (state : SecuredState) (lines : List InputLine) → IsSound state.serving.proposing → is_closed state.serving.closed market ≡ true
    → is_market (exchange_in state).book market ≡ true → AreMeanwhile market state lines
    → batch_in (exchange_in (state_by_lines state lines)) market ≡ batch_in (exchange_in state) market

-- a way of answering over states in which an exchange stands that answers all lines of `serve`
module _ {S : Type 0} (serving : S → ServingState) (step : ℕ → S → List ℕ → List ℕ × S) where
  -- the next clear of the market is as good as this, if no line settles or opens it before
  abbrev pub IsUsedNext : ℕ → Fraction → Fraction → S → List InputLine → List ProposalAnswer → Type 0
  IsUsedNext market surplus bound state [] answers = ⊤
  IsUsedNext market surplus bound state (line ∷ lines) [] = ⊤
  IsUsedNext market surplus bound state (line ∷ lines) (answer ∷ answers) =
      clears_or surplus bound (clear_in market answer)
      (IsElsewhere market (serving state) line → IsUsedNext market surplus bound (step line.number state line.bytes).1 lines answers)

  -- so it is as each proposal that is taken while its market is closed: it tells at least the best
  -- surplus of them all, and at most the least bound
  abbrev pub UsesBestOfClosed : S → List InputLine → List ProposalAnswer → Type 0
  UsesBestOfClosed state [] answers = ⊤
  UsesBestOfClosed state (line ∷ lines) [] = ⊤
  UsesBestOfClosed state (line ∷ lines) (answer ∷ answers) =
      let next = (step line.number state line.bytes).1 in
      IfTaken (λ t.
      is_closed (serving next).closed t.proposed.market ≡ true
      → IsUsedNext t.proposed.market (fraction_of t.proposed.submission.proposal.claim.surplus) (fraction_of t.bound) next lines answers) answer
      × UsesBestOfClosed next lines answers

  -- wherever lines are told their answers
  abbrev pub UsesTheBestOfClosed : Type 0
  UsesTheBestOfClosed =
      (state : S) (lines : List InputLine) (answers : List ProposalAnswer) → IsSound (serving state).proposing
      → AreToldFor (λ s. (serving s).proposing) step state lines answers → UsesBestOfClosed state lines answers

-- where accounts may be secured
abbrev pub BestOfClosedIsUsed : Type 0
BestOfClosedIsUsed = UsesTheBestOfClosed (λ (state : SecuredState). state.serving) secured_line
