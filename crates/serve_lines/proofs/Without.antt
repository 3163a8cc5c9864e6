-- Where no market is closed, the replies are those of an exchange without phases.
use Rattle.std.proofs.Common.{◌≡◌, ℕ, List, [], ◌∷◌, ◌++◌, Bool, false, ◌&&◌, All, map, Option, Some, None, is_none, Result, Ok, if◌then◌else◌, refl, ap, ◌∙◌}
use Rattle.std.specs.Option.{option_map_or}
use Rattle.std.proofs.lemmas.List.Elements.{All-head, All-tail}
use Rattle.command_text.specs.declared.asked.Fault.{Fault}
use Rattle.command_text.specs.declared.command.Command.{Command}
use Rattle.command_text.specs.declared.lines.RawLine.{RawLine}
use Rattle.command_text.specs.declared.requests.Request.{Request}
use Rattle.command_text.specs.declared.requests.Request.TheVariants as asks
use Rattle.command_text.specs.declared.words.TheConstants.{SERVED}
use Rattle.command_text.specs.Lines.{raw_lines_in}
use Rattle.command_text.specs.Said.{said_in}
use Rattle.exchange_core.specs.Refusals.{refusal_of}
use Rattle.exchange_lines.specs.LineSteps.{InputLine, input_line}
use Rattle.live_lines.specs.Output.{places_output}
use Rattle.auction_phases.specs.Phases.{after_end, bars, ended_in, is_closed, touched_by}
use Rattle.proposal_text.specs.declared.replies.ProposalReply.TheVariants as told
use Rattle.proposal_lines.specs.Output.{proposing_line, proposing_reply}
use Rattle.proposal_lines.specs.ProposingState.{ProposingState, empty_state}
use Rattle.proposal_text.specs.Pieces.{written_reply}
use Rattle.proposal_text.specs.declared.replies.ServedReply.{ServedReply}
use Rattle.proposal_text.specs.declared.replies.ServedReply.TheVariants.{Told}
use Rattle.serve_lines.specs.Output.{handed_on, serving_line, serving_reply}
use Rattle.serve_lines.specs.Promises.{NamesNoPhase, WithoutPhases}
use Rattle.serve_lines.specs.ServingState.{ServingState, serving_of}
use Rattle.serve_lines.proofs.LineKinds.{by_kind}

-- no market is closed
abbrev all_open : ProposingState → ServingState
all_open state = serving_of state []

-- what is answered, and what is kept of proposals after it
abbrev with_all_open : ServedReply × ProposingState → ServedReply × ServingState
with_all_open now = (now.0, all_open now.1)

none_closed : (touched : Option ℕ) → option_map_or (is_closed []) touched false ≡ false
none_closed None = refl
none_closed (Some market) = refl

none_opened : (ended : Option ℕ) → after_end [] ended ≡ []
none_opened None = refl
none_opened (Some market) = refl

module _ (state : ProposingState) (line : List ℕ) where
  handed_alone : (said : Result Request Fault) (ended : Option ℕ) → handed_on (all_open state) line said ended ≡ with_all_open (proposing_reply state line said)
  handed_alone said ended = let now = proposing_reply state line said in ap (λ (closed : List ℕ). (now.0, serving_of now.1 closed)) (none_opened ended)

  command_alone : (command : Command) → serving_reply (all_open state) line (Ok (asks.Command command)) ≡ with_all_open (proposing_reply state line (Ok (asks.Command command)))
  command_alone command =
      let said : Result Request Fault = Ok (asks.Command command) in
      let ended = ended_in state.exchange command in
      let through : bars [] state.exchange command ≡ false = ap (λ (b : Bool). b && is_none (refusal_of state.exchange command)) (none_closed (touched_by state.exchange command)) in
      ap (λ (b : Bool). if b then (Told told.MarketIsClosed, all_open state) else handed_on (all_open state) line said ended) through
      ∙ handed_alone said ended

  said_alone : (said : Result Request Fault) → ((market : ℕ) → said ≡ Ok (asks.Close market) → ⊥) → ((market : ℕ) → said ≡ Ok (asks.Reopen market) → ⊥)
      → serving_reply (all_open state) line said ≡ with_all_open (proposing_reply state line said)
  said_alone =
      by_kind (λ said. ((market : ℕ) → said ≡ Ok (asks.Close market) → ⊥) → ((market : ℕ) → said ≡ Ok (asks.Reopen market) → ⊥)
      → serving_reply (all_open state) line said ≡ with_all_open (proposing_reply state line said))
      (λ market closes reopens. absurd (closes market refl))
      (λ market closes reopens. absurd (reopens market refl))
      (λ command closes reopens. command_alone command)
      (λ said other closes reopens. other.handed (all_open state) line ∙ handed_alone said None)

line_alone : (state : ProposingState) (line : InputLine) → NamesNoPhase line → serving_line line.number (all_open state) line.bytes ≡ (let now = proposing_line line.number state line.bytes in (now.0, all_open now.1))
line_alone state line none = ap (written_reply line.number) (said_alone state line.bytes (said_in SERVED line.bytes) none.closes none.reopens)

places_alone : (input : List ℕ) (places : List RawLine) (state : ProposingState) → All NamesNoPhase (map (input_line input) places)
    → places_output serving_line input (all_open state) places ≡ places_output proposing_line input state places
places_alone input [] state none = refl
places_alone input (place ∷ places) state none =
    let line = input_line input place in
    let now = proposing_line line.number state line.bytes in
    ap (λ (r : List ℕ × ServingState). r.0 ++ places_output serving_line input r.1 places)
    (line_alone state line (All-head NamesNoPhase line (map (input_line input) places) none))
    ∙ ap (λ l. now.0 ++ l) (places_alone input places now.1 (All-tail NamesNoPhase line (map (input_line input) places) none))

pub without_phases : WithoutPhases
without_phases input none = places_alone input (raw_lines_in input) empty_state none
