-- The order that an account cancels.
use Rattle.std.proofs.Common.{◌≡◌, ℕ, [], ◌∷◌, true, false, not, Option, None, Some, is_some, nat_eq, sym, ap, ◌∙◌, arith, if◌then◌else◌}
use Rattle.std.specs.List.{find}
use Rattle.std.specs.Option.{option_map_or}
use Rattle.std.proofs.lemmas.Bool.Decides.{nat_tests}
use Rattle.form.specs.declared.orders.Order.{Order}
use Rattle.form.specs.Limits.{IsOrderWithin}
use Rattle.order_book.specs.declared.refusal.BookRefusal.{BookRefusal}
use Rattle.order_book.specs.declared.refusal.BookRefusal.TheVariants.{NoOrder, NotOwner}
use Rattle.order_book.specs.Book.{BookState, order_of}
use Rattle.order_book.specs.Kept.{IsBookKept}
use Rattle.order_book.specs.Markets.{has_number, holder_of, live_in, with_live_in, without, without_in_each}
use Rattle.order_book.specs.Refusals.{cancel_refusals}
use Rattle.lists.specs.Refusals.{first_of}
use Rattle.order_book.proofs.BookKept.{market_kept, orders_within}
use Rattle.order_book.proofs.Holders.{Holds, holds, unheld}
use Rattle.order_book.proofs.LiveOrders.{found_within}
use Rattle.order_book.proofs.MarketLists.{live_found}

module _ (book : BookState) (account number : ℕ) where
  -- the refusals, by the order that is found
  told : Option Order → Option BookRefusal
  told found = first_of ((not (is_some found), NoOrder) ∷ (option_map_or (λ (o : Order). not (nat_eq account o.account)) found false, NotOwner) ∷ [])

  pub unknown_order : holder_of number book.markets ≡ None → Some NoOrder ≡ first_of (cancel_refusals book account number)
  unfolding told
  unknown_order none = sym (ap told (unheld number book.markets none))

  module _ (o : Order) (found : order_of book number ≡ Some o) where
    pub own_order : o.account ≡ account → None ≡ first_of (cancel_refusals book account number)
    unfolding told
    own_order own =
        let yes : nat_eq account o.account ≡ true = grind (arith, nat_tests) in
        sym (ap told found ∙ ap (λ b. if not b then Some NotOwner else None) yes)

    pub other_order : (o.account ≡ account → ⊥) → Some NotOwner ≡ first_of (cancel_refusals book account number)
    unfolding told
    other_order other =
        let no : nat_eq account o.account ≡ false = grind (arith, nat_tests) in
        sym (ap told found ∙ ap (λ b. if not b then Some NotOwner else None) no)

module _ (book : BookState) (kept : IsBookKept book) (number market : ℕ) (held : holder_of number book.markets ≡ Some market) where
  pub place : Holds number market book.markets
  place = holds number market book.markets kept.distinct (kept.numbers number) held

  pub live_there : find (has_number number) (live_in market book.markets) ≡ find (has_number number) place.state.live
  live_there = ap (find (has_number number)) (live_found market book.markets place.state place.found)

  pub order_there : order_of book number ≡ find (has_number number) (live_in market book.markets)
  order_there = place.same ∙ sym live_there

  pub order_within : (o : Order) → find (has_number number) (live_in market book.markets) ≡ Some o → IsOrderWithin o
  order_within o there =
      found_within number place.state.live o (orders_within book.accepted place.state (market_kept book kept market place.state place.found)) (sym live_there ∙ there)

  pub without_in_each-there : with_live_in market (without number (live_in market book.markets)) book.markets ≡ without_in_each number book.markets
  without_in_each-there = ap (λ l. with_live_in market (without number l) book.markets) (live_found market book.markets place.state place.found) ∙ place.alone
