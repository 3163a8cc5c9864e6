-- What is promised of the lines of `serve` stays promised where members open accounts.
use Rattle.std.specs.Prelude.{ℕ, ◌≡◌, ◌+◌, true, List, [], ◌∷◌, ◌++◌, map, Err}
use Rattle.std.specs.List.{All}
use Rattle.command_text.specs.declared.asked.Fault.{Fault}
use Rattle.command_text.specs.declared.words.TheConstants.{SERVED}
use Rattle.command_text.specs.Said.{said_in}
use Rattle.exchange_lines.specs.LineSteps.{input_lines}
use Rattle.live_lines.specs.Output.{output_of}
use Rattle.proposal_lines.specs.LaterClears.{LowersNothing}
use Rattle.proposal_lines.specs.Promises.{TellsBy}
use Rattle.proposal_lines.specs.ProposingState.{ProposingState}
use Rattle.secured_lines.specs.ClosedBest.{UsesBestOfClosed}
use Rattle.secured_lines.specs.Output.{secured_said}
use Rattle.secured_lines.specs.SecuredState.{SecuredState, empty_secured, exchange_in, with_opened, with_proposing}
use Rattle.session_gate.specs.Bodies.{is_body}
use Rattle.session_lines.specs.Laws.{as_input}
use Rattle.member_lines.specs.Laws.{AreAsServed, OthersAreRefused, RefusalsAreTold, SaidBody, body_for, rule_refusal}
use Rattle.served_members.specs.Laws.{after_body}
use Rattle.served_members.specs.Members.{ServedMembers, empty_members, free_body}

-- ---- beside what has no rule
-- a body that the rule refuses is told so, and changes nothing; of an account its owner is told, and
-- the operator. All other bodies are answered as where there is no rule, but what members open is
-- secured, with one that is no line in place of each that the rule refuses
pub record AreServed : Type 0 where
  pub refused : RefusalsAreTold exchange_in secured_said with_opened
  pub others : OthersAreRefused exchange_in secured_said with_opened
  pub allowed : (filler : List ℕ) (fault : Fault) → said_in SERVED filler ≡ Err fault
      → (number : ℕ) (state : ServedMembers) (bodies : List SaidBody) → AreAsServed exchange_in secured_said with_opened filler number state state.served bodies

-- ---- where there is no rule
-- the sessions that are to say the lines, one each, and the exchange; when all have, any other
abbrev pub Saying : Type 0
Saying = List ℕ × SecuredState

abbrev pub turn_line : ℕ → Saying → List ℕ → List ℕ × Saying
turn_line number ([], served) line = let now = free_body 0 number served line in (now.0, ([], now.1))
turn_line number (session ∷ later, served) line = let now = free_body session number served line in (now.0, (later, now.1))

-- whoever says the lines of an input, what is written keeps what is promised where proposals are
-- taken
abbrev pub FreeLinesTell : Type 0
FreeLinesTell =
    (sessions input : List ℕ)
    → TellsBy (λ (state : Saying). state.1.serving.proposing) turn_line (sessions, empty_secured) input (output_of turn_line true (sessions, empty_secured) input)

-- with this in place of the exchange that takes proposals
abbrev pub placing : Saying → ProposingState → Saying
placing state now = (state.0, with_proposing state.1 now)

-- no proposal lowers what a clear of its market tells, while its live orders stay
abbrev pub FreeLinesLowerNothing : Type 0
FreeLinesLowerNothing = LowersNothing (λ (state : Saying). state.1.serving.proposing) turn_line placing

-- ---- bodies where there is no rule
abbrev pub sessions_in : List SaidBody → List ℕ
sessions_in bodies = map (λ (said : SaidBody). said.session) bodies

abbrev pub bodies_in : List SaidBody → List (List ℕ)
bodies_in bodies = map (λ (said : SaidBody). said.body) bodies

abbrev pub AreBodies : List SaidBody → Type 0
AreBodies bodies = All (λ body. is_body body ≡ true) (bodies_in bodies)

-- what is written for them, the first of which has this number
abbrev pub free_texts : ℕ → SecuredState → List SaidBody → List ℕ
free_texts number served [] = []
free_texts number served (said ∷ more) = let now = free_body said.session number served said.body in now.0 ++ free_texts (number + 1) now.1 more

-- as the lines of one input they keep what is promised where proposals are taken, and the next clear
-- of a closed market is as good as each proposal that was taken since it was closed
pub record TellFree (bodies : List SaidBody) : Type 0 where
  pub told : TellsBy (λ (state : Saying). state.1.serving.proposing) turn_line (sessions_in bodies, empty_secured) (as_input (bodies_in bodies)) (free_texts 1 empty_secured bodies)
  pub closed : UsesBestOfClosed (λ (state : Saying). state.1.serving) turn_line (sessions_in bodies, empty_secured) (input_lines (as_input (bodies_in bodies))) told.answers

abbrev pub FreeBodiesTell : Type 0
FreeBodiesTell = (bodies : List SaidBody) → AreBodies bodies → TellFree bodies

-- ---- and what the rule lets through
-- with a body in place of each that the rule refuses
abbrev pub with_filler : List ℕ → ℕ → ServedMembers → List SaidBody → List SaidBody
with_filler filler number state [] = []
with_filler filler number state (said ∷ more) =
    let body = body_for exchange_in secured_said with_opened filler (rule_refusal exchange_in secured_said with_opened state said) said.body in
    record { session = said.session; body = body } ∷ with_filler filler (number + 1) (after_body number state said) more

-- so these do, with any body that is no line in place of each other
abbrev pub AllowedTell : List SaidBody → Type 0
AllowedTell bodies = (filler : List ℕ) (fault : Fault) → said_in SERVED filler ≡ Err fault → is_body filler ≡ true → TellFree (with_filler filler 1 empty_members bodies)

abbrev pub AllowedBodiesTell : Type 0
AllowedBodiesTell = (bodies : List SaidBody) → AreBodies bodies → AllowedTell bodies
