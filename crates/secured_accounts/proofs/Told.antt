-- What is told of an account, by what the code finds of it.
use Rattle.std.proofs.Common.{◌≡◌, ℕ, Bool, true, false, ◌&&◌, List, is_none, Option, Some, None, if◌then◌else◌, ℤ, pos, neg_ℤ, ◌+ℤ◌, ◌-ℤ◌, arith, refl, sym, ap, ◌∙◌}
use Rattle.std.specs.Option.{option_map_or}
use Rattle.std.proofs.lemmas.Bool.{and_parts, eq-eqb}
use Rattle.std.proofs.lemmas.Int.{ints}
use Rattle.cash_ledger.specs.Entries.{amount_for, balance_of, withdrawal_of}
use Rattle.cash_ledger.specs.Ledger.{is_open}
use Rattle.cash_ledger.proofs.Balances.{balance_of-push}
use Rattle.form.specs.declared.orders.Side.TheVariants.{Buy}
use Rattle.lists.specs.Refusals.{first_of}
use Rattle.order_book.specs.declared.new_order.NewOrder.{NewOrder}
use Rattle.command_text.specs.declared.command.Command.{Command}
use Rattle.command_text.specs.declared.command.Command.TheVariants.{Open, Deposit, Withdraw, Market, Trade, Bundle, Cancel, Clear, Settle, Balance}
use Rattle.exchange_core.specs.ExchangeState.{ExchangeState}
use Rattle.exchange_core.specs.Orders.{order_of}
use Rattle.exchange_core.specs.Refusals.{place_refusals, refusal_of}
use Rattle.exchange_core.specs.Reserves.{free_in}
use Rattle.exchange_core.specs.Step.{withdraw_effect}
use Rattle.exchange_core.proofs.FirstRefusal.{cost_open, cost_unnamed, place_none}
use Rattle.account_need.specs.Account.{Need, Numbered, can_pay, may_be_secured, may_withdraw, need_of, portfolios}
use Rattle.secured_accounts.specs.Secured.{account_of, is_enough, need_in, uncovered, uncovered_order}

-- ---- whether an account is open
none_of : {X : Type 0} (found : Option X) → is_none found ≡ true → found ≡ None
none_of None e = refl
none_of (Some x) e = cc

-- an account whose order or withdrawal is judged is open
pub accepted_order : (state : ExchangeState) (order : NewOrder) (own : Bool) → (own && is_none (first_of (place_refusals state order))) ≡ true → first_of (place_refusals state order) ≡ None
accepted_order state order own judged = none_of (first_of (place_refusals state order)) (and_parts own (is_none (first_of (place_refusals state order))) judged).1

pub open_order : (state : ExchangeState) (order : NewOrder) → first_of (place_refusals state order) ≡ None → is_open state.accounts order.account ≡ true
open_order state order none = (place_none state order none).1

pub open_withdrawal : (state : ExchangeState) (account amount : ℕ) (own : Bool) → (own && is_none (refusal_of state (Withdraw account amount))) ≡ true → is_open state.accounts account ≡ true
open_withdrawal state account amount own judged =
    let none = none_of (refusal_of state (Withdraw account amount)) (and_parts own (is_none (refusal_of state (Withdraw account amount))) judged).1 in
    cost_open Buy state.accounts account (free_in state account) amount (cost_unnamed Buy state.accounts account (free_in state account) amount none)

-- ---- what is judged
-- by the markets that the code finds
pub need_found : (state : ExchangeState) (account : ℕ) (markets : List Numbered) → markets ≡ account_of state account → need_of (portfolios markets) ≡ need_in state account
need_found state account markets is = ap (λ (ms : List Numbered). need_of (portfolios ms)) is

pub enough_found : (state : ExchangeState) (account : ℕ) (markets : List Numbered) (balance : ℤ) → markets ≡ account_of state account → balance ≡ balance_of account state.entries
    → may_be_secured markets balance ≡ is_enough state account
enough_found state account markets balance is told = λ i. can_pay (told i) (need_of (portfolios (is i)))

-- less an amount
less_paid : (state : ExchangeState) (account amount : ℕ) → balance_of account (withdraw_effect state account amount).1.entries ≡ balance_of account state.entries -ℤ pos amount
less_paid state account amount =
    let pushed = balance_of-push account state.entries (withdrawal_of account amount) in
    let own : amount_for account (withdrawal_of account amount) ≡ neg_ℤ (pos amount) = ap (λ b. if b then neg_ℤ (pos amount) else pos 0) (eq-eqb account account refl) in
    pushed ∙ ap (λ (x : ℤ). balance_of account state.entries +ℤ x) own ∙ minus (balance_of account state.entries)
  where
    minus : (b : ℤ) → b +ℤ neg_ℤ (pos amount) ≡ b -ℤ pos amount
    minus b = omega (arith, ints)

pub enough_less : (state : ExchangeState) (account amount : ℕ) (markets : List Numbered) (balance : ℤ) → markets ≡ account_of state account → balance ≡ balance_of account state.entries
    → may_withdraw markets balance amount ≡ is_enough (withdraw_effect state account amount).1 account
enough_less state account amount markets balance is told =
    (λ i. can_pay (told i -ℤ pos amount) (need_of (portfolios (is i)))) ∙ ap (λ (b : ℤ). can_pay b (need_in state account)) (sym (less_paid state account amount))

-- what is judged is kept where the balance is not enough
pub judged_by : (judged may enough : Bool) (told need : Need) → judged ≡ true → may ≡ enough → told ≡ need
    → (if may then None else Some told) ≡ (if judged then (if enough then None else Some need) else None)
judged_by true may enough told need e same is = λ i. if same i then None else Some (is i)
judged_by false may enough told need e same is = cc

-- ---- of a command that places an order, as of its order
pub uncovered-placed : (secured : List ℕ) (state : ExchangeState) (command : Command) (order : NewOrder) → order_of command ≡ Some order → uncovered_order secured state order ≡ uncovered secured state command
uncovered-placed secured state (Trade side account market kind strike price quantity count weights) order is = ap (λ o. option_map_or (uncovered_order secured state) o None) (sym is)
uncovered-placed secured state (Bundle side account market price quantity bundle) order is = ap (λ o. option_map_or (uncovered_order secured state) o None) (sym is)
uncovered-placed secured state (Open account) order is = cc
uncovered-placed secured state (Deposit account amount) order is = cc
uncovered-placed secured state (Withdraw account amount) order is = cc
uncovered-placed secured state (Market market underlyings) order is = cc
uncovered-placed secured state (Cancel account number) order is = cc
uncovered-placed secured state (Clear market budget) order is = cc
uncovered-placed secured state (Settle market count prices) order is = cc
uncovered-placed secured state (Balance account) order is = cc
