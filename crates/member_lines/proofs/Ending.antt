-- What is written for a body that a session says ends with a line feed: so each message takes effect
-- once.
use Rattle.std.proofs.Common.{◌≡◌, ℕ, List, [], ◌∷◌, ◌++◌, Option, Some, None, Result, Ok, Err, refl, subst}
use Rattle.std.specs.Option.{option_map_or}
use Rattle.command_text.specs.declared.asked.Fault.{Fault}
use Rattle.command_text.specs.declared.requests.Request.{Request}
use Rattle.command_text.specs.declared.words.TheConstants.{SERVED}
use Rattle.command_text.specs.Said.{said_in}
use Rattle.exchange_core.specs.ExchangeState.{ExchangeState}
use Rattle.lists.specs.Refusals.{first_of}
use Rattle.members.specs.Refusals.{rule_refusals}
use Rattle.members.specs.declared.refusal.MemberRefusal.{MemberRefusal}
use Rattle.proposal_text.specs.Pieces.{proposal_line}
use Rattle.session_laws.specs.Laws.{EndsBodies}
use Rattle.session_laws.proofs.Taken.{messages_tell_once}
use Rattle.session_lines.specs.Served.{without_feed}
use Rattle.session_lines.proofs.Served.{feed_again}
use Rattle.member_lines.specs.Laws.{BodiesTellOnce, EndsSaid}
use Rattle.member_lines.specs.Lines.{MemberState, member_line, member_said, passed_line}
use Rattle.member_lines.specs.Refused.{refused_as, refused_text}
use Rattle.member_lines.specs.Runs.{Opens, SaidStep}

abbrev Ends : List ℕ → Type 0
Ends text = text ≡ without_feed text ++ 10 ∷ []

module _ {S : Type 0} (exchange : S → ExchangeState) (says : SaidStep S) (opens : Opens S) (ends : EndsSaid exchange says opens) where
  module _ (session number : ℕ) (state : MemberState S) (body : List ℕ) where
    -- what is inside ends its lines
    inside : (said : Result Request Fault) → said_in SERVED body ≡ said → Ends (says number state.served body said).0
    inside said is = subst (λ (r : Result Request Fault). Ends (says number state.served body r).0) is (ends number state.served body)

    ruled : (request : Request) → said_in SERVED body ≡ Ok request → (refused : Option MemberRefusal)
        → Ends (option_map_or (λ (r : MemberRefusal). (refused_text number r, state)) refused (passed_line exchange says opens session number state body request)).0
    ruled request is (Some refusal) = feed_again (proposal_line number (refused_as refusal))
    ruled request is None = inside (Ok request) is

    said : (r : Result Request Fault) → said_in SERVED body ≡ r → Ends (member_said exchange says opens session number state body r).0
    said (Ok request) is = ruled request is (first_of (rule_refusals state.members (exchange state.served) session request))
    said (Err fault) is = inside (Err fault) is

  ends_bodies : EndsBodies (member_line exchange says opens)
  ends_bodies session number state body = said session number state body (said_in SERVED body) refl

pub bodies_tell_once : {S : Type 0} (exchange : S → ExchangeState) (says : SaidStep S) (opens : Opens S) → BodiesTellOnce exchange says opens
bodies_tell_once exchange says opens ends start input = messages_tell_once (member_line exchange says opens) (ends_bodies exchange says opens ends) start input
