-- A balance that can pay the need that is told of an account is at or above its true need.
use Rattle.std.proofs.Common.{ℕ, ◌+◌, Bool, true, false, List, [], ◌∷◌, map, filter, All, if◌then◌else◌}
use Rattle.std.proofs.lemmas.List.Elements.{All-cons, All-filter, All-nil}
use Rattle.cash_ledger.specs.Entries.{balance_of}
use Rattle.order_book.specs.Book.{live_of}
use Rattle.exchange_core.specs.ExchangeState.{ExchangeState}
use Rattle.exchange_core.specs.Held.{is_order_of, market_numbers, orders_of, underlyings_in}
use Rattle.exchange_core.specs.Kept.{IsKept}
use Rattle.exchange_core.proofs.HeldPositions.{underlyings_few}
use Rattle.account_need.specs.Account.{portfolios}
use Rattle.account_need.specs.Laws.{IsTraded}
use Rattle.account_need.specs.Prices.{IsOrderOn}
use Rattle.account_need.proofs.Accounts.{paying_secures}
use Rattle.account_need.proofs.Runs.{orders_within}
use Rattle.secured_accounts.specs.Laws.{ToldIsEnough}
use Rattle.secured_accounts.specs.Secured.{account_of, has_some, numbered_in, part_in}
use Rattle.secured_accounts.proofs.PartsFound.{orders_on}

module _ (state : ExchangeState) (account : ℕ) (kept : IsKept state) where
  -- what it has in a market
  part_traded : (number : ℕ) → IsTraded (part_in state account number)
  part_traded number =
      let within = underlyings_few state number kept in
      let on = orders_on state.book kept.orders.book number in
      record {
        some = within.0;
        few = within.1;
        orders = orders_within (underlyings_in state.book number + 1) (orders_of account number state.book)
            (All-filter (is_order_of account) (IsOrderOn (underlyings_in state.book number + 1)) (live_of state.book number) on);
      }

  -- and in all of them
  pub all_traded : (numbers : List ℕ) → All IsTraded (portfolios (filter has_some (map (numbered_in state account) numbers)))
  all_traded [] = All-nil IsTraded
  all_traded (n ∷ numbers) = by (has_some (numbered_in state account n)) (all_traded numbers)
    where
      by : (some : Bool) → All IsTraded (portfolios (filter has_some (map (numbered_in state account) numbers)))
          → All IsTraded (portfolios (if some then numbered_in state account n ∷ filter has_some (map (numbered_in state account) numbers) else filter has_some (map (numbered_in state account) numbers)))
      by true later = All-cons IsTraded (part_in state account n) (portfolios (filter has_some (map (numbered_in state account) numbers))) (part_traded n) later
      by false later = later

pub told_is_enough : ToldIsEnough
told_is_enough state account kept enough =
    paying_secures (portfolios (account_of state account)) (balance_of account state.entries) (all_traded state account kept (market_numbers state.book)) enough
