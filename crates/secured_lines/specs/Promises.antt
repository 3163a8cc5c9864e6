-- What is promised of the bytes that are written where accounts may be secured.
use Rattle.std.specs.Prelude.{ℕ, ◌≡◌, ⊤, true, List, [], ◌∷◌, ◌++◌, Ok}
use Rattle.std.specs.List.{All}
use Rattle.auction_phases.specs.Laws.{StandsStill}
use Rattle.auction_phases.specs.Phases.{is_closed}
use Rattle.command_text.specs.declared.requests.Request.TheVariants as asks
use Rattle.command_text.specs.declared.words.TheConstants.{SERVED}
use Rattle.command_text.specs.Said.{said_in}
use Rattle.exchange_lines.specs.LineSteps.{InputLine, input_lines}
use Rattle.proposal_lines.specs.LaterClears.{LowersNothing}
use Rattle.proposal_lines.specs.Laws.{IsSound}
use Rattle.proposal_lines.specs.Promises.{TellsBy}
use Rattle.secured_accounts.specs.Laws.{AreSafe}
use Rattle.secured_accounts.specs.Money.{AddUp}
use Rattle.serve_lines.specs.Laws.{phased_of}
use Rattle.serve_lines.specs.Output.{serving_line, serving_output}
use Rattle.serve_lines.specs.ServingState.{ServingState}
pub use Rattle.secured_lines.specs.ClosedBest.{AreMeanwhile}
use Rattle.secured_lines.specs.ClosedBest.{UsesBestOfClosed}
use Rattle.secured_lines.specs.Laws.{guarded_in, state_by_lines}
use Rattle.secured_lines.specs.Needs.{NeedsAreEnough}
use Rattle.secured_lines.specs.Output.{secured_line, secured_output}
use Rattle.secured_lines.specs.SecuredState.{SecuredState, empty_secured, exchange_in, secured_of, with_proposing}

-- they keep what is promised of an exchange that takes proposals, and after each line the balance of
-- each secured account is at or above its true need, and all balances sum to deposits less
-- withdrawals. What an account is told to need is at least what it truly does. The next clear of a closed market is as good as each proposal that was taken since it
-- was closed, and while the live orders of a market stay no proposal lowers what a clear tells
pub record TellSecured (input bytes : List ℕ) : Type 0 where
  pub told : TellsBy (λ (state : SecuredState). state.serving.proposing) secured_line empty_secured input bytes
  pub safe : (front back : List InputLine) → input_lines input ≡ front ++ back → AreSafe (guarded_in (state_by_lines empty_secured front))
  pub money : (front back : List InputLine) → input_lines input ≡ front ++ back → AddUp (exchange_in (state_by_lines empty_secured front))
  pub needs : (front back : List InputLine) → input_lines input ≡ front ++ back → NeedsAreEnough (state_by_lines empty_secured front)
  pub closed : UsesBestOfClosed (λ (state : SecuredState). state.serving) secured_line empty_secured (input_lines input) told.answers
  pub lowers : LowersNothing (λ (state : SecuredState). state.serving.proposing) secured_line with_proposing

abbrev pub OutputsTellSecured : Type 0
OutputsTellSecured = (input : List ℕ) → TellSecured input (secured_output input)

-- ---- closed markets
-- a closed market is still closed after them, and its live orders are what they were
abbrev pub ClosedMarketsStandStill : Type 0
ClosedMarketsStandStill =
    (market : ℕ) (state : SecuredState) (lines : List InputLine) → IsSound state.serving.proposing → is_closed state.serving.closed market ≡ true
    → AreMeanwhile market state lines → StandsStill market (phased_of state.serving) (phased_of (state_by_lines state lines).serving)

-- ---- where no account is secured
abbrev pub Secures : InputLine → Type 0
Secures line = (account : ℕ) × (said_in SERVED line.bytes ≡ Ok (asks.Secure account))

abbrev pub AsksNeed : InputLine → Type 0
AsksNeed line = (account : ℕ) × (said_in SERVED line.bytes ≡ Ok (asks.Need account))

-- the line neither secures an account nor asks what one needs
pub record NamesNoSecured (line : InputLine) : Type 0 where
  pub secures : Secures line → ⊥
  pub asks : AsksNeed line → ⊥

-- for an input of such lines it is written what an exchange writes that has no secured accounts
abbrev pub WithoutSecured : Type 0
WithoutSecured = (input : List ℕ) → All NamesNoSecured (input_lines input) → secured_output input ≡ serving_output input

-- line by line: what is written is the same for each that does not ask what an account needs, and
-- so is the exchange after each
abbrev pub AreAlike : ServingState → SecuredState → List InputLine → Type 0
AreAlike alone state [] = ⊤
AreAlike alone state (line ∷ lines) =
    let without = serving_line line.number alone line.bytes in
    let with = secured_line line.number state line.bytes in
    ((AsksNeed line → ⊥) → with.0 ≡ without.0) × (with.1.serving ≡ without.1) × AreAlike without.1 with.1 lines

abbrev pub AnswersAreAlike : Type 0
AnswersAreAlike = (serving : ServingState) (lines : List InputLine) → All (λ line. Secures line → ⊥) lines → AreAlike serving (secured_of serving []) lines
