-- The next clear of a closed market is as good as each proposal that was taken since, whatever lines
-- come between.
use Rattle.std.proofs.Common.{◌≡◌, ℕ, ◌≤◌, Bool, true, false, not, List, [], ◌∷◌, Option, Some, None, is_some, if◌then◌else◌, Result, Ok, refl, sym, ◌∙◌, subst, arith}
use Rattle.std.specs.Option.{option_map, option_map_or}
use Rattle.auction_phases.specs.Phases.{is_closed}
use Rattle.command_text.specs.declared.asked.Fault.{Fault}
use Rattle.command_text.specs.declared.command.Command.TheVariants.{Withdraw}
use Rattle.command_text.specs.declared.requests.Request.{Request}
use Rattle.command_text.specs.declared.requests.Request.TheVariants as asks
use Rattle.command_text.specs.declared.words.TheConstants.{SERVED}
use Rattle.command_text.specs.Said.{said_in}
use Rattle.exact_num.specs.Fraction.{Fraction}
use Rattle.exchange_core.specs.declared.refusal.Refusal.{Refusal}
use Rattle.exchange_core.specs.declared.refusal.Refusal.TheVariants.{NoMarket, Settled}
use Rattle.exchange_core.specs.ExchangeState.{ExchangeState}
use Rattle.exchange_core.specs.Refusals.{refusal_of}
use Rattle.exchange_core.specs.Step.{batch_in, refusal_effect, withdraw_effect}
use Rattle.exchange_lines.specs.LineSteps.{InputLine}
use Rattle.form.specs.declared.orders.Batch.{Batch}
use Rattle.frac.specs.Value.{fraction_of}
use Rattle.order_book.specs.Book.{batch_of, info_of, market_of}
use Rattle.order_book.specs.Markets.{MarketState}
use Rattle.order_book.specs.Refusals.{is_market, is_settled}
use Rattle.order_book.proofs.BookKept.{market_kept}
use Rattle.proposal_lines.specs.Answers.{AreToldFor, IsToldFor, ProposalAnswer, beside, bounded, replied, taken}
use Rattle.proposal_text.specs.declared.replies.ServedReply.{ServedReply}
use Rattle.proposal_lines.specs.Laws.{IsSound}
use Rattle.proposal_lines.specs.ProposingState.{ProposingState}
use Rattle.proposal_lines.specs.UsesBest.{IfTaken, IsUsedBy, UsesBest, clear_in}
use Rattle.proposal_lines.proofs.UsingBest.{follows, uses_the_best}
use Rattle.serve_lines.specs.Output.{serving_reply}
use Rattle.serve_lines.specs.Phased.{exchange_of}
use Rattle.serve_lines.specs.ServingState.{ServingState}
use Rattle.serve_lines.proofs.Batches as serving
use Rattle.secured_lines.specs.ClosedBest.{BestOfClosedIsUsed, ClosedBatchesStay, IsElsewhere, IsUsedNext, UsesBestOfClosed, UsesTheBestOfClosed}
use Rattle.secured_lines.specs.Output.{handed_on, secured_line, secured_reply}
use Rattle.secured_lines.specs.SecuredState.{SecuredState, exchange_in}
use Rattle.secured_lines.proofs.LineKinds.{by_answer, by_kind}
use Rattle.secured_lines.proofs.StandingStill.{closed_markets_stand_still}
use Rattle.secured_lines.proofs.Telling.{secured_sound}

-- ---- a market that is there has underlyings
abbrev batch_or_none : Option MarketState → Batch
batch_or_none found = option_map_or batch_of found (record { underlyings = 0; orders = [] })

some_underlyings : (found : Option MarketState) → ((m : MarketState) → found ≡ Some m → 1 ≤ m.underlyings) → is_some (option_map info_of found) ≡ true → 1 ≤ (batch_or_none found).underlyings
some_underlyings None some there = cc
some_underlyings (Some m) some there = some m refl

there_again : (found : Option MarketState) → 1 ≤ (batch_or_none found).underlyings → is_some (option_map info_of found) ≡ true
there_again None some = absurd (omega (arith, some))
there_again (Some m) some = refl

still_there : (market : ℕ) (state next : SecuredState) → IsSound state.serving.proposing → is_market (exchange_in state).book market ≡ true
    → batch_in (exchange_in next) market ≡ batch_in (exchange_in state) market → is_market (exchange_in next).book market ≡ true
still_there market state next sound there same =
    there_again (market_of (exchange_in next).book market)
    (subst (λ (b : Batch). 1 ≤ b.underlyings) (sym same)
    (some_underlyings (market_of (exchange_in state).book market) (λ m found. (market_kept (exchange_in state).book sound.kept.orders.book market m found).some) there))

-- ---- one line
module _ (market : ℕ) (state : SecuredState) (line : InputLine) (sound : IsSound state.serving.proposing) (shut : is_closed state.serving.closed market ≡ true)
    (there : is_market (exchange_in state).book market ≡ true) (elsewhere : IsElsewhere market state.serving line) where
  abbrev IsSame : ServedReply × SecuredState → Type 0
  IsSame now = batch_in (exchange_in now.1) market ≡ batch_in (exchange_in state) market

  handed_same : (said : Result Request Fault) → said_in SERVED line.bytes ≡ said → IsSame (handed_on state line.bytes said)
  handed_same said is =
      subst (λ (said : Result Request Fault). batch_in (exchange_of (serving_reply state.serving line.bytes said).1) market ≡ batch_in (exchange_in state) market) is
      (serving.closed_batches_stay market state.serving (line ∷ []) sound shut there (elsewhere, tt))

  -- a withdrawal leaves the book
  withdrawal_same : (account amount : ℕ) (refused : Option Refusal)
      → batch_in (option_map_or (refusal_effect (exchange_in state)) refused (withdraw_effect (exchange_in state) account amount)).1 market ≡ batch_in (exchange_in state) market
  withdrawal_same account amount None = refl
  withdrawal_same account amount (Some refusal) = refl

  said_same : (said : Result Request Fault) → said_in SERVED line.bytes ≡ said → IsSame (secured_reply state line.bytes said)
  said_same =
      by_kind (λ said. said_in SERVED line.bytes ≡ said → IsSame (secured_reply state line.bytes said)) (λ account is. refl) (λ account is. refl)
      (λ command is.
      by_answer IsSame state line.bytes command (λ need kept. refl)
      (λ free account amount it own. withdrawal_same account amount (refusal_of (exchange_in state) (Withdraw account amount)))
      (λ free. handed_same (Ok (asks.Command command)) is))
      (λ said other is. subst IsSame (sym (other.handed state line.bytes)) (handed_same said is))

  abbrev next : SecuredState
  next = (secured_line line.number state line.bytes).1

  line_same : batch_in (exchange_in next) market ≡ batch_in (exchange_in state) market
  line_same = said_same (said_in SERVED line.bytes) refl

  line_shut : is_closed next.serving.closed market ≡ true
  line_shut = (closed_markets_stand_still market state (line ∷ []) sound shut (elsewhere, tt)).closed

  line_there : is_market (exchange_in next).book market ≡ true
  line_there = still_there market state next sound there line_same

-- ---- all lines
pub closed_batches_stay : ClosedBatchesStay
closed_batches_stay market state [] sound shut there meanwhile = refl
closed_batches_stay market state (line ∷ lines) sound shut there meanwhile =
    closed_batches_stay market (secured_line line.number state line.bytes).1 lines (secured_sound line state sound) (line_shut market state line sound shut there meanwhile.0)
    (line_there market state line sound shut there meanwhile.0) meanwhile.1
    ∙ line_same market state line sound shut there meanwhile.0

-- ---- what is used
-- the market of a proposal that is taken is there
not_refused : (b : Bool) (others : Option Refusal) → (if not b then Some NoMarket else others) ≡ None → b ≡ true
not_refused true others none = refl
not_refused false others none = cc

-- ---- what is left
module _ {S : Type 0} (serving : S → ServingState) where
  -- of a market that is closed and there: it still is, with its batch
  pub record IsLeft (market : ℕ) (before after : S) : Type 0 where
    pub same : batch_in (exchange_of (serving after)) market ≡ batch_in (exchange_of (serving before)) market
    pub shut : is_closed (serving after).closed market ≡ true
    pub there : is_market (exchange_of (serving after)).book market ≡ true

-- ---- a way of answering by whose lines a closed market stays
module _ {S : Type 0} (serving : S → ServingState) (step : ℕ → S → List ℕ → List ℕ × S) where
  abbrev pub LinesLeave : Type 0
  LinesLeave =
      (market : ℕ) (state : S) (line : InputLine) → IsSound (serving state).proposing → is_closed (serving state).closed market ≡ true
      → is_market (exchange_of (serving state)).book market ≡ true → IsElsewhere market (serving state) line
      → IsLeft serving market state (step line.number state line.bytes).1

  abbrev pub LinesSound : Type 0
  LinesSound = (line : InputLine) (state : S) → IsSound (serving state).proposing → IsSound (serving (step line.number state line.bytes).1).proposing

  abbrev proposing : S → ProposingState
  proposing state = (serving state).proposing

  module _ (leave : LinesLeave) (sounds : LinesSound) where
    used_next : (market : ℕ) (surplus bound : Fraction) (lines : List InputLine) (answers : List ProposalAnswer) (state : S) → IsSound (proposing state)
        → is_closed (serving state).closed market ≡ true → is_market (exchange_of (serving state)).book market ≡ true
        → IsUsedBy proposing step market surplus bound state lines answers → IsUsedNext serving step market surplus bound state lines answers
    used_next market surplus bound [] answers state sound shut there used = tt
    used_next market surplus bound (line ∷ lines) [] state sound shut there used = tt
    used_next market surplus bound (line ∷ lines) (answer ∷ answers) state sound shut there used =
        let after = (step line.number state line.bytes).1 in
        follows surplus bound (clear_in market answer)
        (batch_in (proposing after).exchange market ≡ batch_in (proposing state).exchange market → IsUsedBy proposing step market surplus bound after lines answers)
        (IsElsewhere market (serving state) line → IsUsedNext serving step market surplus bound after lines answers)
        (λ later elsewhere.
        let left = leave market state line sound shut there elsewhere in
        used_next market surplus bound lines answers after (sounds line state sound) left.shut left.there (later left.same))
        used

    module _ (state : S) (line : InputLine) (lines : List InputLine) (answers : List ProposalAnswer) where
      abbrev after : S
      after = (step line.number state line.bytes).1

      taken_used : IsSound (proposing after) → (answer : ProposalAnswer) → IsToldFor (proposing state) line answer (proposing after)
          → IfTaken (λ t. IsUsedBy proposing step t.proposed.market (fraction_of t.proposed.submission.proposal.claim.surplus) (fraction_of t.bound) after lines answers) answer
          → IfTaken (λ t. is_closed (serving after).closed t.proposed.market ≡ true → IsUsedNext serving step t.proposed.market (fraction_of t.proposed.submission.proposal.claim.surplus) (fraction_of t.bound) after lines answers) answer
      taken_used sound (replied answer) is used = tt
      taken_used sound (bounded answer) is used = tt
      taken_used sound (beside number text) is used = tt
      taken_used sound (taken answer) is used =
          let book = (proposing state).exchange.book in
          let market = answer.proposed.market in
          let there = not_refused (is_market book market) (if is_settled book market then Some Settled else None) is.accepted in
          λ shut.
          used_next market (fraction_of answer.proposed.submission.proposal.claim.surplus) (fraction_of answer.bound) lines answers after sound shut
          (subst (λ (e : ExchangeState). is_market e.book market ≡ true) (sym is.exchange) there) used

    all_used : (lines : List InputLine) (answers : List ProposalAnswer) (state : S) → IsSound (proposing state) → AreToldFor proposing step state lines answers
        → UsesBest proposing step state lines answers → UsesBestOfClosed serving step state lines answers
    all_used [] answers state sound are used = tt
    all_used (line ∷ lines) [] state sound are used = tt
    all_used (line ∷ lines) (answer ∷ answers) state sound are used =
        let sound_then = sounds line state sound in
        (taken_used state line lines answers sound_then answer are.0 used.0, all_used lines answers (step line.number state line.bytes).1 sound_then are.3 used.1)

    pub uses_the_best_of_closed : UsesTheBestOfClosed serving step
    uses_the_best_of_closed state lines answers sound are = all_used lines answers state sound are (uses_the_best proposing step state lines answers sound are)

-- where accounts may be secured
abbrev serving_of_secured : SecuredState → ServingState
serving_of_secured state = state.serving

pub lines_leave : LinesLeave serving_of_secured secured_line
lines_leave market state line sound shut there elsewhere = record {
  same = line_same market state line sound shut there elsewhere;
  shut = line_shut market state line sound shut there elsewhere;
  there = line_there market state line sound shut there elsewhere;
}

pub best_of_closed_is_used : BestOfClosedIsUsed
best_of_closed_is_used = uses_the_best_of_closed serving_of_secured secured_line lines_leave secured_sound
