-- The numbers that are told of refusals.
use Rattle.std.proofs.Common.{◌≡◌, List, [], ◌∷◌, ◌++◌, Bool, true, false, if◌then◌else◌, Option, None, Some, refl, subst, arith}
use Rattle.std.specs.Option.{option_map_or}
use Rattle.std.specs.List.{All}
use Rattle.std.proofs.lemmas.List.Elements.{All-nil, All-cons, All-head, All-tail, All-append}
use Rattle.cash_ledger.specs.declared.ledger.LedgerRefusal.{LedgerRefusal}
use Rattle.cash_ledger.specs.declared.ledger.LedgerRefusal.TheVariants as from_ledger
use Rattle.cash_ledger.specs.Refusals.{open_refusals, account_refusals, payment_refusals}
use Rattle.command_text.specs.declared.command.Command.{Command}
use Rattle.command_text.specs.declared.command.Command.TheVariants.{Open, Deposit, Withdraw, Market, Trade, Bundle, Cancel, Clear, Settle, Balance}
use Rattle.order_book.specs.declared.new_order.NewOrder.{NewOrder}
use Rattle.order_book.specs.declared.refusal.BookRefusal.{BookRefusal}
use Rattle.order_book.specs.declared.refusal.BookRefusal.TheVariants as from_book
use Rattle.order_book.specs.Refusals as book
use Rattle.lists.specs.Refusals.{first_of, by_name}
use Rattle.exchange_core.specs.declared.refusal.Refusal.{Refusal}
use Rattle.exchange_core.specs.ExchangeState.{ExchangeState}
use Rattle.exchange_core.specs.Orders.{order_by, order_for}
use Rattle.exchange_core.specs.Refusals.{ledger_name, book_name, by_ledger, by_book, by_account, place_refusals, refusals, refusal_of}
use Rattle.exchange_core.specs.Reply.{refused_with}
use Rattle.exchange_core.specs.Reserves.{free_in}
use Rattle.reply_print.specs.Within.{IsReplyWithin}

-- its number is that of a refusal, with a field where it is to have one
abbrev pub IsTold : Refusal → Type 0
IsTold refusal = IsReplyWithin (refused_with refusal)

abbrev IsToldIf : Option Refusal → Type 0
IsToldIf None = Unit {0}
IsToldIf (Some refusal) = IsTold refusal

abbrev pub IsOne : Bool × Refusal → Type 0
IsOne refusal = IsTold refusal.1

ledger_told : (error : LedgerRefusal) → IsToldIf (ledger_name error)
ledger_told from_ledger.NoAccount = ((omega arith, omega arith), refl)
ledger_told from_ledger.AccountExists = ((omega arith, omega arith), refl)
ledger_told from_ledger.Funds = ((omega arith, omega arith), refl)
ledger_told from_ledger.TooMany = ((omega arith, omega arith), refl)
ledger_told from_ledger.Memory = tt

book_told : (error : BookRefusal) → IsToldIf (book_name error)
book_told from_book.NoMarket = ((omega arith, omega arith), refl)
book_told from_book.MarketExists = ((omega arith, omega arith), refl)
book_told from_book.Settled = ((omega arith, omega arith), refl)
book_told from_book.WeightCount = ((omega arith, omega arith), refl)
book_told from_book.BookFull = ((omega arith, omega arith), refl)
book_told from_book.NoOrder = ((omega arith, omega arith), refl)
book_told from_book.NotOwner = ((omega arith, omega arith), refl)
book_told from_book.TooMany = ((omega arith, omega arith), refl)
book_told from_book.Memory = tt

module _ {E : Type 0} (name : E → Option Refusal) (each : (error : E) → IsToldIf (name error)) where
  all_told : (errors : List (Bool × E)) → All IsOne (by_name name errors)
  all_told [] = All-nil IsOne
  all_told (e ∷ errors) = by (name e.1) (each e.1) (all_told errors)
    where
      by : (r : Option Refusal) → IsToldIf r → All IsOne (by_name name errors) → All IsOne (option_map_or (λ r. (e.0, r) ∷ by_name name errors) r (by_name name errors))
      by None told rest = rest
      by (Some refusal) told rest = All-cons IsOne (e.0, refusal) (by_name name errors) told rest

pub of_ledger : (errors : List (Bool × LedgerRefusal)) → All IsOne (by_ledger errors)
of_ledger = all_told ledger_name ledger_told

pub of_book : (errors : List (Bool × BookRefusal)) → All IsOne (by_book errors)
of_book = all_told book_name book_told

of_order : (state : ExchangeState) (order : NewOrder) → All IsOne (place_refusals state order)
of_order state order =
    All-append IsOne (by_book (book.order_refusals state.book order)) (by_ledger (by_account state order) ++ by_book (book.room_refusals state.book order.market))
    (of_book (book.order_refusals state.book order))
    (All-append IsOne (by_ledger (by_account state order)) (by_book (book.room_refusals state.book order.market)) (of_ledger (by_account state order)) (of_book (book.room_refusals state.book order.market)))

of_command : (state : ExchangeState) (command : Command) → All IsOne (refusals state command)
of_command state (Open account) = of_ledger (open_refusals state.accounts account)
of_command state (Deposit account amount) = of_ledger (account_refusals state.accounts account)
of_command state (Withdraw account amount) = of_ledger (payment_refusals state.accounts account (free_in state account) amount)
of_command state (Market market underlyings) = of_book (book.market_refusals state.book market)
of_command state (Trade side account market kind strike price quantity count weights) = of_order state (order_by side account market kind strike price quantity count weights)
of_command state (Bundle side account market price quantity bundle) = of_order state (order_for side account market price quantity bundle)
of_command state (Cancel account order) =
    All-append IsOne (by_ledger (account_refusals state.accounts account)) (by_book (book.cancel_refusals state.book account order))
    (of_ledger (account_refusals state.accounts account)) (of_book (book.cancel_refusals state.book account order))
of_command state (Clear market budget) = of_book (book.batch_refusals state.book market)
of_command state (Settle market count prices) = of_book (book.close_refusals state.book market count)
of_command state (Balance account) = of_ledger (account_refusals state.accounts account)

pub first_told : (all : List (Bool × Refusal)) (refusal : Refusal) → All IsOne all → first_of all ≡ Some refusal → IsTold refusal
first_told [] refusal told h = cc
first_told (r ∷ others) refusal told h = by r.0 h (first_told others refusal (All-tail IsOne r others told))
  where
    by : (b : Bool) → (if b then Some r.1 else first_of others) ≡ Some refusal → (first_of others ≡ Some refusal → IsTold refusal) → IsTold refusal
    by true is later = let same : r.1 ≡ refusal = cc in subst IsTold same (All-head IsOne r others told)
    by false is later = later is

pub refusal_is_told : (state : ExchangeState) (command : Command) (refusal : Refusal) → refusal_of state command ≡ Some refusal → IsTold refusal
refusal_is_told state command refusal h = first_told (refusals state command) refusal (of_command state command) h
