-- What is promised of lines of any kind, wherever they are parted.
use Rattle.std.specs.Prelude.{ℕ, ◌≡◌, ◌≤◌, true, List, ◌++◌}
use Rattle.auction_phases.specs.Laws.{StandsStill}
use Rattle.auction_phases.specs.Phases.{is_closed}
use Rattle.cash_ledger.specs.Ledger.{is_open}
use Rattle.exchange_lines.specs.LineSteps.{InputLine, input_lines}
use Rattle.secured_accounts.specs.Laws.{AllSecured, CanPay}
use Rattle.secured_accounts.specs.Secured.{is_secured}
use Rattle.secured_lines.specs.ServeLaws.{phased_of}
use Rattle.secured_lines.specs.Laws.{guarded_in, state_by_lines}
use Rattle.secured_lines.specs.Output.{secured_output}
use Rattle.secured_lines.specs.Promises.{AreMeanwhile, TellSecured}
use Rattle.secured_lines.specs.SecuredState.{SecuredState, empty_secured, exchange_in}
use Rattle.served_members.specs.Asking.{IsToldAsNext}

-- lines, in the state that those before them left
pub record AreKeptFrom (state : SecuredState) (later : List InputLine) : Type 0 where
  -- what is asked then is told as the next line would be
  pub asks : (number : ℕ) (body : List ℕ) → IsToldAsNext number state body
  -- a closed market stands still until a line clears it, settles it or opens it again
  pub closed : (market : ℕ) (meanwhile rest : List InputLine) → later ≡ meanwhile ++ rest → is_closed state.serving.closed market ≡ true
      → AreMeanwhile market state meanwhile → StandsStill market (phased_of state.serving) (phased_of (state_by_lines state meanwhile).serving)
  -- the balance of a secured account is never below 0 again; nor is that of any trader where all are
  -- secured
  pub paying : (account : ℕ) → is_secured state.secured account ≡ true → CanPay (guarded_in (state_by_lines state later)) account
  pub traders : AllSecured (guarded_in state) → (account : ℕ) → 1 ≤ account → is_open (exchange_in state).accounts account ≡ true → CanPay (guarded_in state) account

abbrev pub AreKeptThroughout : List InputLine → Type 0
AreKeptThroughout lines = (front later : List InputLine) → lines ≡ front ++ later → AreKeptFrom (state_by_lines empty_secured front) later

-- the bytes keep what is promised where accounts may be secured
pub record TellServed (input bytes : List ℕ) : Type 0 where
  pub secured : TellSecured input bytes
  pub throughout : AreKeptThroughout (input_lines input)

abbrev pub OutputsTellServed : Type 0
OutputsTellServed = (input : List ℕ) → TellServed input (secured_output input)
