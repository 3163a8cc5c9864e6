-- What is promised of a closed market, whatever lines come.
use Rattle.std.specs.Prelude.{ℕ, ◌≡◌, ⊤, true, false, List, [], ◌∷◌, nat_eq, Option, None, Some, Result, Ok}
use Rattle.std.specs.Option.{option_map_or}
use Rattle.command_text.specs.declared.asked.Fault.{Fault}
use Rattle.command_text.specs.declared.requests.Request.{Request}
use Rattle.command_text.specs.declared.requests.Request.TheVariants.{Command, Reopen}
use Rattle.command_text.specs.declared.words.TheConstants.{SERVED}
use Rattle.command_text.specs.Said.{said_in}
use Rattle.exchange_core.specs.Step.{batch_in}
use Rattle.exchange_lines.specs.LineSteps.{InputLine}
use Rattle.order_book.specs.Refusals.{is_market}
use Rattle.auction_phases.specs.Laws.{Phased, StandsStill, phased}
use Rattle.auction_phases.specs.Phases.{ended_in, is_closed}
use Rattle.proposal_lines.specs.Laws.{IsSound}
use Rattle.serve_lines.specs.Output.{serving_line}
use Rattle.serve_lines.specs.Phased.{exchange_of}
use Rattle.serve_lines.specs.Promises.{state_by_lines}
use Rattle.serve_lines.specs.ServingState.{ServingState}

abbrev pub phased_of : ServingState → Phased
phased_of state = phased (exchange_of state) state.closed

-- the market that a line clears or settles, or is to open again
abbrev pub ended_by_said : ServingState → Result Request Fault → Option ℕ
ended_by_said state (Ok (Command command)) = ended_in (exchange_of state) command
ended_by_said state (Ok (Reopen market)) = Some market
ended_by_said state said = None

-- none of the lines clears, settles or opens the market
abbrev pub AreMeanwhile : ℕ → ServingState → List InputLine → Type 0
AreMeanwhile market state [] = ⊤
AreMeanwhile market state (line ∷ lines) =
    (option_map_or (nat_eq market) (ended_by_said state (said_in SERVED line.bytes)) false ≡ false)
    × AreMeanwhile market (serving_line line.number state line.bytes).1 lines

-- a closed market is still closed after them, and its live orders are what they were
abbrev pub ClosedMarketsStandStill : Type 0
ClosedMarketsStandStill =
    (market : ℕ) (state : ServingState) (lines : List InputLine) → IsSound state.proposing → is_closed state.closed market ≡ true
    → AreMeanwhile market state lines → StandsStill market (phased_of state) (phased_of (state_by_lines state lines))

-- one that is there has the same batch after them: so what is proposed for it stays for its live
-- orders
abbrev pub ClosedBatchesStay : Type 0
ClosedBatchesStay =
    (market : ℕ) (state : ServingState) (lines : List InputLine) → IsSound state.proposing → is_closed state.closed market ≡ true
    → is_market (exchange_of state).book market ≡ true → AreMeanwhile market state lines
    → batch_in (exchange_of (state_by_lines state lines)) market ≡ batch_in (exchange_of state) market
