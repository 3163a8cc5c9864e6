-- What is written for an input is told line by line, and keeps what is promised.
use Rattle.std.proofs.Common.{◌≡◌, ℕ, ◌+◌, List, [], ◌∷◌, ◌++◌, All, map, take, true, Option, Some, None, Result, Ok, Err, inl, inr, refl, sym, ap, ◌∙◌, subst}
use Rattle.std.specs.Option.{option_map_or}
use Rattle.std.proofs.lemmas.List.Elements.{All-nil, All-cons}
use Rattle.proposal_lines.proofs.AsRun.{said_as_run, said_beside}
use Rattle.auction_phases.specs.Phases.{ended_by, ended_in}
use Rattle.auction_phases.proofs.Ends.{ends_are_told}
use Rattle.cert_check.specs.Laws.{IsCovered}
use Rattle.proposal_check.specs.Proposals.{as_outcome, proposal_bound}
use Rattle.proposal_check.proofs.Proposals.{proposals_are_decided}
use Rattle.command_text.specs.declared.asked.Fault.{Fault}
use Rattle.exchange_core.specs.Refusals.{by_book}
use Rattle.frac.specs.Range.{limit}
use Rattle.frac.specs.Value.{fraction_of}
use Rattle.frac.specs.declared.frac128.Frac128.{Frac128}
use Rattle.lists.specs.Refusals.{first_of}
use Rattle.order_book.specs.Numbers.{numbers_of}
use Rattle.order_book.specs.Refusals.{live_refusals}
use Rattle.proposal_text.specs.declared.replies.ProposalReply.{ProposalReply}
use Rattle.proposals.specs.Laws.{as_proposal}
use Rattle.proposal_lines.specs.declared.proposed.Proposed.{Proposed}
use Rattle.proposal_text.specs.Pieces.{written_reply}
use Rattle.proposal_text.specs.declared.replies.ServedReply.{ServedReply}
use Rattle.proposal_text.specs.declared.replies.ServedReply.TheVariants as reply_of
use Rattle.command_text.specs.declared.command.Body.{Body}
use Rattle.command_text.specs.declared.command.Body.TheVariants as body
use Rattle.command_text.specs.declared.command.Command.{Command}
use Rattle.command_text.specs.declared.command.Command.TheVariants.{Clear, Settle}
use Rattle.command_text.specs.declared.requests.ProposeRequest.{ProposeRequest}
use Rattle.command_text.specs.declared.requests.Request.{Request}
use Rattle.command_text.specs.declared.requests.Request.TheVariants as asks
use Rattle.command_text.specs.declared.words.TheConstants.{SERVED}
use Rattle.command_text.specs.Said.{said_in}
use Rattle.command_text.proofs.SaidByWords.{command_to_run}
use Rattle.command_text.specs.declared.lines.RawLine.{RawLine}
use Rattle.command_text.specs.Commands.{body_of_line, body_of_said}
use Rattle.command_text.specs.Lines.{raw_lines_in}
use Rattle.command_text.proofs.ReadWithin.{lines_are_within}
use Rattle.exchange_core.specs.declared.refusal.Refusal.{Refusal}
use Rattle.exchange_core.specs.ExchangeState.{ExchangeState, empty_exchange}
use Rattle.exchange_core.specs.LineReplies.{reply_to}
use Rattle.exchange_core.specs.Refusals.{refusal_of}
use Rattle.exchange_core.specs.Step.{batch_in, clear_effect, refusal_effect, settle_effect}
use Rattle.exchange_core.proofs.Keeping.{empty_is_kept}
use Rattle.exchange_lines.specs.LineSteps.{InputLine, input_line, input_lines, line_of}
use Rattle.exchange_lines.specs.Replies.{answer_to}
use Rattle.exchange_lines.proofs.Answered.{promises_kept}
use Rattle.form.specs.declared.orders.Batch.{Batch}
use Rattle.exchange_lines.specs.Moves.{AreMoves, Move, clears, move, says}
use Rattle.exchange_lines.specs.GainRuns.{HouseGains, replies_by}
use Rattle.exchange_lines.specs.GainRuns as gains
use Rattle.exchange_lines.proofs.RunGains.{moves_gain}
use Rattle.live_lines.specs.Output.{output_of, places_output}
use Rattle.proposal_text.specs.declared.replies.BoundedOutcome.{BoundedOutcome}
use Rattle.reply_print.specs.ReplyPieces.{reply_line}
use Rattle.reply_print.specs.declared.replies.Reply.{Reply}
use Rattle.proposal_lines.specs.Clears.{better_in, bounded_effect, clear_reply, cleared_by, reference_in}
use Rattle.proposal_lines.specs.KeptByMarket.{KeptProposals, after_end}
use Rattle.proposal_lines.specs.Laws.{IsBetter, IsClearedAs, IsSound}
use Rattle.proposal_lines.specs.Output.{other_reply, proposing_line, proposing_said, settlement_reply}
use Rattle.proposal_lines.specs.Answers.{AreToldFor, BoundedAnswer, IsBesideFor, IsBesideProposals, IsBoundedFor, IsRepliedFor, IsTakenFor, IsToldFor, ProposalAnswer, TakenAnswer, TellsAsked, beside, bounded, replied, state_by, taken, told_text, told_texts}
use Rattle.proposal_lines.specs.Promises.{KeepsProposalPromises, OutputsTellProposals, TellsBy, charged, replies_in}
use Rattle.proposal_lines.specs.Proposed.{after_proposed, kept_by, offered, proposed_by, proposed_of, proposed_reply}
use Rattle.proposal_lines.specs.ProposingState.{ProposingState, empty_state}
use Rattle.proposal_lines.specs.Proved.{IsEntryProved}
use Rattle.proposal_lines.specs.Reads.{book_reply, positions_reply, refused_by, refused_by_fault}
use Rattle.proposal_lines.specs.Trials.{trial_reply}
use Rattle.proposal_lines.proofs.AskedLines.{asked_told}
use Rattle.proposal_lines.proofs.Beside.{IsBeside, beside_text, book_beside, fault_beside, positions_beside, refusal_beside, trial_beside}
use Rattle.proposal_lines.proofs.Clearing.{clears_are_proved}
use Rattle.proposal_lines.proofs.SaidKinds.{IsOther, IsUncounted, by_kind, uncounted}
use Rattle.proposal_lines.proofs.SoundAfter.{beside_sound, bounded_sound, replied_sound, taken_sound}
use Rattle.proposal_lines.proofs.Taking.{offer_becomes, taken_is_proved}
use Rattle.proposal_lines.proofs.UsingBest.{uses_the_best}

pub empty_is_sound : IsSound empty_state
empty_is_sound = record { kept = empty_is_kept; proved = All-nil (IsEntryProved empty_exchange.book) }

module _ (state : ProposingState) (line : InputLine) where
  -- what a line is told and the moves of the exchange, none or one
  pub record IsTold (now : List ℕ × ProposingState) : Type 0 where
    pub answer : ProposalAnswer
    pub told : IsToldFor state line answer now.1
    pub text : now.0 ≡ told_text answer
    pub promise : KeepsProposalPromises answer
    pub sound : IsSound now.1
    moves : List Move
    may : AreMoves state.exchange moves
    replies : (more : List ProposalAnswer) → replies_in (answer ∷ more) ≡ replies_by move state.exchange moves ++ replies_in more
    end : now.1.exchange ≡ gains.state_by move state.exchange moves

-- ---- one line
module _ (state : ProposingState) (line : InputLine) (sound : IsSound state) where
  abbrev pub Told : List ℕ × ProposingState → Type 0
  Told = IsTold state line

  pub beside_told : (now : List ℕ × ProposingState) → IsBesideProposals line.number now.0 → now.1.exchange ≡ state.exchange → now.1.kept ≡ state.kept → Told now
  beside_told now text same kept =
      let told : IsBesideFor state line line.number now.0 now.1 = record { of_line = refl; of_kind = text; exchange = same; kept = kept } in
      record {
        answer = beside line.number now.0;
        told = told;
        text = refl;
        promise = tt;
        sound = beside_sound state now.1 line sound line.number now.0 told;
        moves = [];
        may = tt;
        replies = λ more. refl;
        end = same;
      }

  -- ---- a proposal
  module _ (request : ProposeRequest) (says_it : said_in SERVED line.bytes ≡ Ok (asks.Propose request)) (proposed : Proposed) (proposes : proposed_of line.bytes request ≡ Ok proposed)
      (none : first_of (by_book (live_refusals state.exchange.book proposed.market)) ≡ None) where
    abbrev live : Batch
    live = batch_in state.exchange proposed.market

    abbrev by_offer : ProposalReply × KeptProposals → List ℕ × ProposingState
    by_offer now = written_reply line.number (reply_of.Told now.0, record state { kept = now.1 })

    taken_told : (bound : Frac128) → proposed.submission.orders ≡ numbers_of live.orders → proposal_bound limit live proposed.submission.proposal ≡ Ok (fraction_of bound)
        → Told (by_offer (kept_by state.kept proposed bound))
    taken_told bound orders judged =
        let best = after_proposed state.kept proposed bound in
        let answer : TakenAnswer = record { line = line.number; proposed = proposed; batch = live; bound = bound; best = best } in
        let told : IsTakenFor state line answer (by_offer (kept_by state.kept proposed bound)).1 = record {
          of_line = refl;
          request = request;
          says = says_it;
          proposes = proposes;
          accepted = none;
          batch = refl;
          orders = orders;
          judged = judged;
          best = refl;
          exchange = refl;
          kept = refl;
        } in
        record {
          answer = taken answer;
          told = told;
          text = refl;
          promise = record {
            proposed = (proposals_are_decided live proposed.submission.proposal).proved (fraction_of bound) judged;
            kept = (proposals_are_decided live (as_proposal best)).proved (fraction_of best.bounded.bound) (taken_is_proved state sound proposed none bound orders judged);
          };
          sound = taken_sound state (by_offer (kept_by state.kept proposed bound)).1 line sound answer told;
          moves = [];
          may = tt;
          replies = λ more. refl;
          end = refl;
        }

    offer_told : Told (by_offer (offered state.kept proposed live))
    offer_told = elim (offer_becomes state.kept proposed live) [
      | inl nothing ↦ beside_told (by_offer (offered state.kept proposed live)) (beside_text line.number (reply_of.Told (offered state.kept proposed live).0) nothing.0) refl nothing.1
      | inr took ↦ subst (λ (now : ProposalReply × KeptProposals). Told (by_offer now)) (sym took.is) (taken_told took.bound took.orders took.judged)
    ]

  proposal_told : (request : ProposeRequest) → said_in SERVED line.bytes ≡ Ok (asks.Propose request) → (said : Result Proposed Fault) → proposed_of line.bytes request ≡ said
      → Told (written_reply line.number (proposed_reply state said))
  proposal_told request says_it (Err fault) is = beside_told (written_reply line.number (refused_by_fault fault, state)) (beside_text line.number (refused_by_fault fault) (fault_beside fault)) refl refl
  proposal_told request says_it (Ok proposed) is = by (first_of (by_book (live_refusals state.exchange.book proposed.market))) refl
    where
      by : (r : Option Refusal) → first_of (by_book (live_refusals state.exchange.book proposed.market)) ≡ r
          → Told (written_reply line.number (option_map_or (λ first. (refused_by first, state)) r (proposed_by state proposed)))
      by (Some first) none = beside_told (written_reply line.number (refused_by first, state)) (beside_text line.number (refused_by first) (refusal_beside first)) refl refl
      by None none = offer_told request says_it proposed is none

  abbrev run_reply : Reply × ExchangeState
  run_reply = reply_to state.exchange (body_of_line line.bytes)

  replied_told : (now : List ℕ × ProposingState) → now.0 ≡ reply_line line.number run_reply.0 ++ 10 ∷ [] → now.1.exchange ≡ run_reply.1
      → now.1.kept ≡ after_end state.kept (ended_by run_reply.0) → IsUncounted state run_reply.0 → Told now
  replied_told now text same kept none =
      let answer = answer_to state.exchange (line_of line) in
      let told : IsRepliedFor state line answer now.1 = record { reply = refl; uncounted = none; exchange = same; kept = kept } in
      record {
        answer = replied answer;
        told = told;
        text = text;
        promise = promises_kept state.exchange (line_of line) sound.kept;
        sound = replied_sound state now.1 line sound answer told;
        moves = says (body_of_line line.bytes) ∷ [];
        may = (lines_are_within line.bytes, tt);
        replies = λ more. refl;
        end = same;
      }

  -- where it clears and settles nothing, what is kept stays
  pub unended_told : (now : List ℕ × ProposingState) → now.0 ≡ reply_line line.number run_reply.0 ++ 10 ∷ [] → now.1.exchange ≡ run_reply.1 → now.1.kept ≡ state.kept
      → ended_by run_reply.0 ≡ None → Told now
  unended_told now text same kept none = replied_told now text same (kept ∙ sym (ap (after_end state.kept) none)) (uncounted state run_reply.0 none)

  -- an outcome that is charged covers as its proposal does
  pub charged_covered : (batch : Batch) (better : BoundedOutcome) → IsCovered batch (as_outcome better.proposal) → IsCovered batch (charged better)
  charged_covered batch better is = record { on_underlyings = is.on_underlyings; covers = is.covers; not_below_zero = is.not_below_zero }

  bounded_told : (market budget : ℕ) (better : BoundedOutcome) → body_of_line line.bytes ≡ body.Command (Clear market budget) → refusal_of state.exchange (Clear market budget) ≡ None
      → better_in state market budget ≡ Some better → IsBetter (batch_in state.exchange market) (reference_in state market budget) better
      → Told (written_reply line.number (bounded_effect state market better))
  bounded_told market budget better clears_market accepted kept is =
      let answer : BoundedAnswer = record {
        line = line.number;
        market = market;
        budget = budget;
        number = state.exchange.book.finished + 1;
        batch = batch_in state.exchange market;
        better = better;
      } in
      let told : IsBoundedFor state line answer (bounded_effect state market better).1 = record {
        of_line = refl;
        says = clears_market;
        accepted = accepted;
        number = refl;
        batch = refl;
        better = kept;
        exchange = refl;
        kept = refl;
      } in
      record {
        answer = bounded answer;
        told = told;
        text = refl;
        promise = is;
        sound = bounded_sound state (bounded_effect state market better).1 line sound answer told;
        moves = clears market (charged better) ∷ [];
        may = ((accepted, charged_covered (batch_in state.exchange market) better is.proves.covered), tt);
        replies = λ more. refl;
        end = refl;
      }

  -- ---- by what it says
  -- what the reply to a command clears or settles is known before it
  ended_by_run : (c : Command) → body_of_line line.bytes ≡ body.Command c → ended_by run_reply.0 ≡ ended_in state.exchange c
  ended_by_run c says_it = ap (λ (b : Body). ended_by (reply_to state.exchange b).0) says_it ∙ ends_are_told state.exchange c

  -- a command that clears and settles nothing
  command_told : (c : Command) → said_in SERVED line.bytes ≡ Ok (asks.Command c) → ended_in state.exchange c ≡ None → Told (written_reply line.number (other_reply state (Ok (asks.Command c))))
  command_told c is none =
      let now = written_reply line.number (other_reply state (Ok (asks.Command c))) in
      let says = command_to_run SERVED line.bytes c is in
      elim (said_as_run line.number state.exchange (body_of_line line.bytes) (Ok (asks.Command c)) (λ other same. says ∙ ap body_of_said same)) [
        | inl is ↦
            unended_told now (ap (λ (r : List ℕ × ExchangeState). r.0) is) (ap (λ (r : List ℕ × ExchangeState). r.1) is) refl (ended_by_run c says ∙ none)
        | inr is ↦ beside_told now (inl is.0) is.1 refl
      ]

  other_told : (said : Result Request Fault) → IsOther said → said_in SERVED line.bytes ≡ said → Told (proposing_said line.number state line.bytes said)
  other_told said other is = subst Told (ap (written_reply line.number) (sym (other.served state line.bytes))) answered
    where
      answered : Told (written_reply line.number (other_reply state said))
      answered = elim other.says [
        | inl command ↦
            subst (λ said. Told (written_reply line.number (other_reply state said))) (sym command.1) (command_told command.0 (is ∙ command.1) (command.2 state.exchange))
        | inr none ↦ let told = said_beside line.number state.exchange said none in beside_told (written_reply line.number (other_reply state said)) (inl told.0) told.1 refl
      ]

  settle_told : (market count : ℕ) (prices : List ℕ) → body_of_line line.bytes ≡ body.Command (Settle market count prices)
      → Told (written_reply line.number (settlement_reply state market count prices))
  settle_told market count prices says_settle =
      let command = Settle market count prices in
      replied_told (written_reply line.number (settlement_reply state market count prices))
      (ap (λ (b : Body). reply_line line.number (reply_to state.exchange b).0 ++ 10 ∷ []) (sym says_settle)) (ap (λ (b : Body). (reply_to state.exchange b).1) (sym says_settle))
      (ap (after_end state.kept) (sym (ended_by_run command says_settle)))
      (subst (λ (b : Body). IsUncounted state (reply_to state.exchange b).0) (sym says_settle) (by (refusal_of state.exchange command)))
    where
      by : (r : Option Refusal) → IsUncounted state (option_map_or (refusal_effect state.exchange) r (settle_effect state.exchange market (take count prices))).0
      by None = tt
      by (Some first) = tt

  clear_told : (market budget : ℕ) → body_of_line line.bytes ≡ body.Command (Clear market budget) → Told (written_reply line.number (clear_reply state market budget))
  clear_told market budget says_clear = by (refusal_of state.exchange (Clear market budget)) refl
    where
      run_is : (r : Option Refusal) → refusal_of state.exchange (Clear market budget) ≡ r
          → run_reply ≡ option_map_or (refusal_effect state.exchange) r (clear_effect state.exchange market budget)
      run_is r is =
          ap (reply_to state.exchange) says_clear ∙ ap (λ r. option_map_or (refusal_effect state.exchange) r (clear_effect state.exchange market budget)) is

      -- what is told is the run's
      as_run : (r : Option Refusal) → refusal_of state.exchange (Clear market budget) ≡ r → (now : List ℕ × ProposingState)
          → (let run = option_map_or (refusal_effect state.exchange) r (clear_effect state.exchange market budget) in
          now.0 ≡ reply_line line.number run.0 ++ 10 ∷ [] → now.1.exchange ≡ run.1 → now.1.kept ≡ after_end state.kept (ended_by run.0) → IsUncounted state run.0 → Told now)
      as_run r is now text same kept none =
          replied_told now (text ∙ ap (λ (r : Reply × ExchangeState). reply_line line.number r.0 ++ 10 ∷ []) (sym (run_is r is)))
          (same ∙ ap (λ (r : Reply × ExchangeState). r.1) (sym (run_is r is))) (kept ∙ ap (λ (r : Reply × ExchangeState). after_end state.kept (ended_by r.0)) (sym (run_is r is)))
          (subst (λ (r : Reply × ExchangeState). IsUncounted state r.0) (sym (run_is r is)) none)

      by_better : refusal_of state.exchange (Clear market budget) ≡ None → (better : Option BoundedOutcome) → better_in state market budget ≡ better
          → IsClearedAs state market (reference_in state market budget) better → Told (written_reply line.number (cleared_by state market budget better))
      by_better accepted None kept is = as_run None accepted (written_reply line.number (cleared_by state market budget None)) refl refl refl is
      by_better accepted (Some better) kept is = bounded_told market budget better says_clear accepted kept is

      by : (r : Option Refusal) → refusal_of state.exchange (Clear market budget) ≡ r
          → Told (written_reply line.number (option_map_or (λ first. (refused_by first, state)) r (cleared_by state market budget (better_in state market budget))))
      by None accepted = by_better accepted (better_in state market budget) refl (clears_are_proved state market budget sound accepted)
      by (Some first) is = as_run (Some first) is (written_reply line.number (refused_by first, state)) refl refl refl tt

  pub line_told : Told (proposing_line line.number state line.bytes)
  line_told =
      by_kind (λ said. said_in SERVED line.bytes ≡ said → Told (proposing_said line.number state line.bytes said))
      (λ request is. proposal_told request is (proposed_of line.bytes request) refl)
      (λ market budget is. clear_told market budget (command_to_run SERVED line.bytes (Clear market budget) is))
      (λ market count prices is. settle_told market count prices (command_to_run SERVED line.bytes (Settle market count prices) is))
      (λ market is. told_beside (book_reply state.exchange market) (book_beside state.exchange market))
      (λ account market is. told_beside (positions_reply state.exchange account market) (positions_beside state.exchange account market))
      (λ request is. told_beside (trial_reply state.exchange request) (trial_beside state.exchange request))
      other_told (said_in SERVED line.bytes) refl
    where
      told_beside : (reply : ServedReply) → IsBeside reply → Told (written_reply line.number (reply, state))
      told_beside reply is = beside_told (written_reply line.number (reply, state)) (beside_text line.number reply is) refl refl

-- ---- moves behind moves
moves_join : (first next : List Move) (state : ExchangeState) → AreMoves state first → AreMoves (gains.state_by move state first) next → AreMoves state (first ++ next)
moves_join [] next state may then = then
moves_join (m ∷ first) next state may then = (may.0, moves_join first next (move state m).1 may.1 then)

replies_join : (first next : List Move) (state : ExchangeState)
    → replies_by move state (first ++ next) ≡ replies_by move state first ++ replies_by move (gains.state_by move state first) next
replies_join [] next state = refl
replies_join (m ∷ first) next state = ap (λ l. (move state m).0 ∷ l) (replies_join first next (move state m).1)

states_join : (first next : List Move) (state : ExchangeState) → gains.state_by move state (first ++ next) ≡ gains.state_by move (gains.state_by move state first) next
states_join [] next state = refl
states_join (m ∷ first) next state = states_join first next (move state m).1

-- ---- all lines, by a way of answering each of which tells what is promised
module _ {S : Type 0} (proposing : S → ProposingState) (step : ℕ → S → List ℕ → List ℕ × S) where
  -- what it tells for one line
  pub record TellsLine (line : InputLine) (state : S) : Type 0 where
    pub line_is : IsTold (proposing state) line ((step line.number state line.bytes).0, proposing (step line.number state line.bytes).1)
    pub asked_is : TellsAsked (proposing state) line ((step line.number state line.bytes).0, (proposing (step line.number state line.bytes).1).exchange)

  record AreTold (state : S) (lines : List InputLine) : Type 0 where
    answers : List ProposalAnswer
    to_lines : AreToldFor proposing step state lines answers
    promises : All KeepsProposalPromises answers
    moves : List Move
    may : AreMoves (proposing state).exchange moves
    replies : replies_in answers ≡ replies_by move (proposing state).exchange moves
    end : (proposing (state_by step state lines)).exchange ≡ gains.state_by move (proposing state).exchange moves
    sound : IsSound (proposing (state_by step state lines))

  module _ (each : (line : InputLine) (state : S) → IsSound (proposing state) → TellsLine line state) where
    all_told : (lines : List InputLine) (state : S) → IsSound (proposing state) → AreTold state lines
    all_told [] state sound =
        record { answers = []; to_lines = refl; promises = All-nil KeepsProposalPromises; moves = []; may = tt; replies = refl; end = refl; sound = sound }
    all_told (line ∷ lines) state sound =
        let told = each line state sound in
        let one = told.line_is in
        let now = step line.number state line.bytes in
        let exchange = (proposing state).exchange in
        let later = all_told lines now.1 one.sound in
        let next : ExchangeState = gains.state_by move exchange one.moves in
        record {
          answers = one.answer ∷ later.answers;
          to_lines = (one.told, one.text, subst (λ (text : List ℕ). TellsAsked (proposing state) line (text, (proposing now.1).exchange)) one.text told.asked_is, later.to_lines);
          promises = All-cons KeepsProposalPromises one.answer later.answers one.promise later.promises;
          moves = one.moves ++ later.moves;
          may = moves_join one.moves later.moves exchange one.may (subst (λ e. AreMoves e later.moves) one.end later.may);
          replies = one.replies later.answers ∙ ap (λ l. replies_by move exchange one.moves ++ l) (later.replies ∙ ap (λ e. replies_by move e later.moves) one.end)
              ∙ sym (replies_join one.moves later.moves exchange);
          end = later.end ∙ ap (λ e. gains.state_by move e later.moves) one.end ∙ sym (states_join one.moves later.moves exchange);
          sound = later.sound;
        }

    -- ---- the whole output
    texts_told : (input : List ℕ) (places : List RawLine) (state : S) (answers : List ProposalAnswer) → AreToldFor proposing step state (map (input_line input) places) answers
        → places_output step input state places ≡ told_texts answers
    texts_told input [] state answers are = ap told_texts (sym are)
    texts_told input (place ∷ places) state [] are = absurd are
    texts_told input (place ∷ places) state (answer ∷ answers) are =
        let line = input_line input place in
        let now = step line.number state line.bytes in
        ap (λ l. l ++ places_output step input now.1 places) are.1 ∙ ap (λ l. told_text answer ++ l) (texts_told input places now.1 answers are.3)

    pub outputs_tell_by : (first : S) → proposing first ≡ empty_state → (input : List ℕ) → TellsBy proposing step first input (output_of step true first input)
    outputs_tell_by first empty input =
        let told = all_told (input_lines input) first (subst IsSound (sym empty) empty_is_sound) in
        let may : AreMoves empty_exchange told.moves = subst (λ (s : ProposingState). AreMoves s.exchange told.moves) empty told.may in
        let replies : replies_in told.answers ≡ replies_by move empty_exchange told.moves = told.replies ∙ ap (λ (s : ProposingState). replies_by move s.exchange told.moves) empty in
        let end : (proposing (state_by step first (input_lines input))).exchange ≡ gains.state_by move empty_exchange told.moves =
        told.end ∙ ap (λ (s : ProposingState). gains.state_by move s.exchange told.moves) empty in
        record {
          answers = told.answers;
          to_lines = told.to_lines;
          text = texts_told input (raw_lines_in input) first told.answers told.to_lines;
          promises = told.promises;
          best = uses_the_best proposing step first (input_lines input) told.answers (subst IsSound (sym empty) empty_is_sound) told.to_lines;
          gains = subst (λ (e : ExchangeState). HouseGains e.entries (replies_in told.answers)) (sym end)
              (subst (HouseGains (gains.state_by move empty_exchange told.moves).entries) (sym replies) (moves_gain told.moves may));
          kept = told.sound;
        }

-- an exchange that takes proposals, and no more
proposing_told : (line : InputLine) (state : ProposingState) → IsSound state → TellsLine (λ state. state) proposing_line line state
proposing_told line state sound = record { line_is = line_told state line sound; asked_is = asked_told state line sound }

pub outputs_tell_proposals : OutputsTellProposals
outputs_tell_proposals = outputs_tell_by (λ state. state) proposing_line proposing_told empty_state refl
