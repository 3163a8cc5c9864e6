-- What is asked is told as the next line would be.
use Rattle.std.specs.Prelude.{ℕ, ◌≡◌, true, List, Ok}
use Rattle.asked_lines.specs.Requests.{may_be_asked}
use Rattle.command_text.specs.declared.requests.Request.{Request}
use Rattle.command_text.specs.declared.words.TheConstants.{SERVED}
use Rattle.command_text.specs.Said.{said_in}
use Rattle.proposal_lines.specs.Answers.{TellsAsked}
use Rattle.proposal_lines.specs.Laws.{IsSound}
use Rattle.secured_lines.specs.Asked.{secured_asks}
use Rattle.secured_lines.specs.Output.{secured_line}
use Rattle.secured_lines.specs.SecuredState.{SecuredState}

-- where the line may be asked its text is what would be written for it; a quote and prices are those
-- from which on a further order raises, and a trial is what a clear with the order would tell
pub record IsToldAsNext (number : ℕ) (state : SecuredState) (body : List ℕ) : Type 0 where
  pub next : (request : Request) → said_in SERVED body ≡ Ok request → may_be_asked request ≡ true → secured_asks number state body ≡ (secured_line number state body).0
  pub told : TellsAsked state.serving.proposing (record { number = number; bytes = body })
      (secured_asks number state body, (secured_line number state body).1.serving.proposing.exchange)

abbrev pub QuestionsAreTold : Type 0
QuestionsAreTold = (number : ℕ) (state : SecuredState) (body : List ℕ) → IsSound state.serving.proposing → IsToldAsNext number state body
