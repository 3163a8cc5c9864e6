-- What the rule lets through is answered as where there is no rule, and keeps what is promised there.
use Rattle.std.proofs.Common.{◌≡◌, ℕ, true, List, [], ◌∷◌, Option, Result, Err, refl, sym, ap, ◌∙◌, subst}
use Rattle.command_text.specs.declared.asked.Fault.{Fault}
use Rattle.command_text.specs.declared.asked.Fault.TheVariants.{Syntax, Range}
use Rattle.command_text.specs.declared.requests.Request.{Request}
use Rattle.command_text.specs.declared.words.TheConstants.{SERVED}
use Rattle.command_text.specs.Said.{said_in}
use Rattle.auction_phases.specs.Phases.{is_closed}
use Rattle.exchange_core.specs.Step.{batch_in}
use Rattle.exchange_lines.specs.LineSteps.{InputLine}
use Rattle.order_book.specs.Refusals.{is_market}
use Rattle.proposal_lines.specs.Answers.{TellsAsked}
use Rattle.proposal_lines.specs.Laws.{IsSound}
use Rattle.proposal_lines.specs.ProposingState.{ProposingState}
use Rattle.proposal_lines.proofs.Telling.{IsTold, TellsLine, outputs_tell_by}
use Rattle.secured_lines.specs.ClosedBest.{UsesTheBestOfClosed}
use Rattle.secured_lines.specs.Output.{secured_line, secured_said}
use Rattle.secured_lines.specs.SecuredState.{SecuredState, empty_secured, exchange_in, with_opened}
use Rattle.secured_lines.proofs.ClosedBest.{IsLeft, LinesLeave, LinesSound, lines_leave, uses_the_best_of_closed}
use Rattle.secured_lines.proofs.Telling.{secured_told}
use Rattle.secured_lines.specs.Phased.{exchange_of}
use Rattle.secured_lines.specs.ServingState.{ServingState}
use Rattle.member_lines.specs.Aims.{aim_of_said, opened_by}
use Rattle.member_lines.specs.Laws.{LeavesAll}
use Rattle.member_lines.specs.Lines.{free_said, secured_for}
use Rattle.member_lines.proofs.Passing.{allowed_as_served, refusals_are_told}
use Rattle.member_lines.proofs.Telling.{others_are_refused}
use Rattle.served_members.specs.Members.{free_body}
use Rattle.served_members.specs.Promises.{AreServed, FreeLinesTell, Saying, turn_line}
use Rattle.served_members.proofs.Bodies.{by_opened}

-- what is no line changes nothing
fault_leaves : (number : ℕ) (served : SecuredState) (line : List ℕ) (fault : Fault) → (secured_said number served line (Err fault)).1 ≡ served
fault_leaves number served line Syntax = refl
fault_leaves number served line (Range field) = refl

filler_leaves : (filler : List ℕ) (fault : Fault) → said_in SERVED filler ≡ Err fault → LeavesAll exchange_in secured_said with_opened filler
filler_leaves filler fault is session number served =
    ap (λ (r : Result Request Fault). (free_said exchange_in secured_said with_opened session number served filler r).1) is ∙ fault_leaves number served filler fault

pub members_are_served : AreServed
members_are_served = record {
  refused = refusals_are_told exchange_in secured_said with_opened;
  others = others_are_refused exchange_in secured_said with_opened;
  allowed = λ filler fault is number state bodies.
      allowed_as_served exchange_in secured_said with_opened filler number state bodies (filler_leaves filler fault is);
}

-- ---- lines, whoever says them
abbrev pub proposing_of : Saying → ProposingState
proposing_of state = state.1.serving.proposing

-- that an account is secured leaves all else
pub same_serving : (session : ℕ) (served : SecuredState) (opened : Option ℕ) → (secured_for with_opened session served opened).serving ≡ served.serving
same_serving session served opened = by_opened (λ (s : SecuredState). s.serving ≡ served.serving) session served refl opened (λ account is member. refl)

module _ (line : InputLine) (session : ℕ) (served : SecuredState) (sound : IsSound served.serving.proposing) where
  abbrev before : ProposingState
  before = served.serving.proposing

  abbrev now : List ℕ × SecuredState
  now = free_body session line.number served line.bytes

  as_line : now.1.serving ≡ (secured_line line.number served line.bytes).1.serving
  as_line =
      let behind = (secured_line line.number served line.bytes).1 in
      same_serving session behind (opened_by (exchange_in behind) (aim_of_said (exchange_in served) (said_in SERVED line.bytes)))

  free_told : IsTold before line (now.0, now.1.serving.proposing)
  free_told = subst (λ (s : ServingState). IsTold before line (now.0, s.proposing)) (sym as_line) (secured_told line served sound).line_is

  free_asked : TellsAsked before line (now.0, now.1.serving.proposing.exchange)
  free_asked = subst (λ (s : ServingState). TellsAsked before line (now.0, s.proposing.exchange)) (sym as_line) (secured_told line served sound).asked_is

turn_told : (line : InputLine) (state : Saying) → IsSound (proposing_of state) → TellsLine proposing_of turn_line line state
turn_told line ([], served) sound = record { line_is = free_told line 0 served sound; asked_is = free_asked line 0 served sound }
turn_told line (session ∷ later, served) sound = record { line_is = free_told line session served sound; asked_is = free_asked line session served sound }

pub free_lines_tell : FreeLinesTell
free_lines_tell sessions input = outputs_tell_by proposing_of turn_line turn_told (sessions, empty_secured) refl input

-- ---- closed markets
abbrev serving_of : Saying → ServingState
serving_of state = state.1.serving

-- a closed market that is there stays so, with its batch, as where accounts may be secured
turn_left : (market : ℕ) (session : ℕ) (served : SecuredState) (line : InputLine) (earlier later : List ℕ) → IsSound served.serving.proposing
    → IsLeft (λ (s : SecuredState). s.serving) market served (secured_line line.number served line.bytes).1
    → IsLeft serving_of market (earlier, served) (later, (free_body session line.number served line.bytes).1)
turn_left market session served line earlier later sound left =
    let same = as_line line session served sound in
    record {
      same = subst (λ (s : ServingState). batch_in (exchange_of s) market ≡ batch_in (exchange_in served) market) (sym same) left.same;
      shut = subst (λ (s : ServingState). is_closed s.closed market ≡ true) (sym same) left.shut;
      there = subst (λ (s : ServingState). is_market (exchange_of s).book market ≡ true) (sym same) left.there;
    }

turns_leave : LinesLeave serving_of turn_line
turns_leave market ([], served) line sound shut there elsewhere =
    turn_left market 0 served line [] [] sound (lines_leave market served line sound shut there elsewhere)
turns_leave market (session ∷ later, served) line sound shut there elsewhere =
    turn_left market session served line (session ∷ later) later sound (lines_leave market served line sound shut there elsewhere)

turns_sound : LinesSound serving_of turn_line
turns_sound line ([], served) sound = (free_told line 0 served sound).sound
turns_sound line (session ∷ later, served) sound = (free_told line session served sound).sound

pub free_lines_use_the_best : UsesTheBestOfClosed serving_of turn_line
free_lines_use_the_best = uses_the_best_of_closed serving_of turn_line turns_leave turns_sound
