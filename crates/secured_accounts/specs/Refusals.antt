-- The refusals of each call, each with its condition, in the order in which they are tried, and what
-- is answered.
use Rattle.std.specs.Prelude.{ℕ, Bool, not, List, [], ◌∷◌, ◌++◌, Result, Ok, Err}
use Rattle.std.specs.Option.{option_map_or}
use Rattle.cash_ledger.specs.Ledger.{is_open}
use Rattle.lists.specs.Refusals.{first_of}
use Rattle.exchange_core.specs.declared.refusal.Refusal.TheVariants.{NoAccount}
use Rattle.exchange_core.specs.ExchangeState.{ExchangeState}
use Rattle.exchange_core.specs.Refusal as exchange
use Rattle.account_need.specs.Account.{Need}
use Rattle.secured_accounts.specs.Secured.{is_enough, need_in, told_need, with_secured}
use Rattle.secured_accounts.specs.declared.accounts.ToldNeed.{ToldNeed}
use Rattle.secured_accounts.specs.declared.refusal.SecuringRefusal.{SecuringRefusal}
use Rattle.secured_accounts.specs.declared.refusal.SecuringRefusal.TheVariants.{Exchange, Uncovered}

-- the numbers in reply lines
abbrev pub number_of : SecuringRefusal → ℕ
number_of (Exchange refusal) = exchange.number_of refusal
number_of (Uncovered need) = 14

-- of an account that is to be open
abbrev pub need_refusals : ExchangeState → ℕ → List (Bool × SecuringRefusal)
need_refusals state account = (not (is_open state.accounts account), Exchange NoAccount) ∷ []

-- and of one whose balance is to be enough
abbrev pub secure_refusals : ExchangeState → ℕ → List (Bool × SecuringRefusal)
secure_refusals state account =
    need_refusals state account ++ (not (is_enough state account), Uncovered (need_in state account)) ∷ []

-- ---- the answers
-- the first refusal, or else this
abbrev pub unless_refused : {T : Type 0} → List (Bool × SecuringRefusal) → T → Result T SecuringRefusal
unless_refused refusals value = option_map_or (λ refusal. Err refusal) (first_of refusals) (Ok value)

abbrev pub need_answer : List ℕ → ExchangeState → ℕ → Result ToldNeed SecuringRefusal
need_answer secured state account = unless_refused (need_refusals state account) (told_need secured state account)

abbrev pub secure_answer : ExchangeState → ℕ → Result Need SecuringRefusal
secure_answer state account = unless_refused (secure_refusals state account) (need_in state account)

-- the secured accounts then
abbrev pub after_securing : List ℕ → ExchangeState → ℕ → List ℕ
after_securing secured state account =
    option_map_or (λ refusal. secured) (first_of (secure_refusals state account)) (with_secured secured account)
