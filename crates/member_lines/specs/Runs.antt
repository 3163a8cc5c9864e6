-- Ways of answering what lines say, over an exchange: it moves by what is said, and by nothing else.
use Rattle.std.specs.Prelude.{ℕ, ◌≡◌, ◌⊎◌, List, map, None, Result, Ok}
use Rattle.clearing_model.specs.Certificate.{AreFractionFills}
use Rattle.command_text.specs.declared.asked.Fault.{Fault}
use Rattle.command_text.specs.declared.command.Command.{Command}
use Rattle.command_text.specs.declared.command.Command.TheVariants as command
use Rattle.command_text.specs.declared.requests.Request.{Request}
use Rattle.command_text.specs.declared.requests.Request.TheVariants as asks
use Rattle.command_text.specs.declared.words.TheConstants.{SERVED}
use Rattle.command_text.specs.Said.{said_in}
use Rattle.exchange_core.specs.ExchangeState.{ExchangeState}
use Rattle.exchange_core.specs.Kept.{IsKept}
use Rattle.exchange_core.specs.Refusals.{by_book}
use Rattle.exchange_core.specs.Step.{batch_in, cleared_with, step}
use Rattle.frac.specs.declared.frac128.Frac128.{Frac128}
use Rattle.frac.specs.Value.{fraction_of}
use Rattle.lists.specs.Refusals.{first_of}
use Rattle.order_book.specs.Refusals.{batch_refusals}

-- the state once an account that was just opened is secured, where accounts may be
abbrev pub Opens : Type 0 → Type 0
Opens S = S → ℕ → S

-- by what a line says: what is written for it, and the state after it
abbrev pub SaidStep : Type 0 → Type 0
SaidStep S = ℕ → S → List ℕ → Result Request Fault → List ℕ × S

abbrev pub served_line : {S : Type 0} → SaidStep S → ℕ → S → List ℕ → List ℕ × S
served_line says number state line = says number state line (said_in SERVED line)

-- a clear, whose fills may be any of its batch
abbrev pub IsCharged : Command → ExchangeState → ExchangeState → Type 0
IsCharged (command.Clear market budget) before after =
    (fills : List Frac128) × (first_of (by_book (batch_refusals before.book market)) ≡ None)
    × AreFractionFills (batch_in before market).orders (map fraction_of fills) × (after ≡ cleared_with before market fills)
IsCharged said before after = ⊥

-- a command is carried out by the exchange, or kept from it; all else leaves it as it is
abbrev pub IsMoved : Result Request Fault → ExchangeState → ExchangeState → Type 0
IsMoved (Ok (asks.Command said)) before after = (after ≡ before) ⊎ ((after ≡ (step before said).1) ⊎ IsCharged said before after)
IsMoved said before after = after ≡ before

-- in states that are sound, and stay so; an account that is secured as it is opened moves nothing
pub record RunsBy {S : Type 0} (exchange : S → ExchangeState) (says : SaidStep S) (opens : Opens S) (Sound : S → Type 0) : Type 0 where
  pub kept : (state : S) → Sound state → IsKept (exchange state)
  pub moves : (number : ℕ) (state : S) (line : List ℕ) → Sound state → IsMoved (said_in SERVED line) (exchange state) (exchange (served_line says number state line).1)
  pub stays : (number : ℕ) (state : S) (line : List ℕ) → Sound state → Sound (served_line says number state line).1
  pub left : (state : S) (account : ℕ) → exchange (opens state account) ≡ exchange state
  pub opened : (state : S) (account : ℕ) → Sound state → Sound (opens state account)
