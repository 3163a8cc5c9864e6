-- The market in which an order is live.
use Rattle.std.proofs.Common.{◌≡◌, ℕ, ◌+◌, ◌≤◌, Bool, true, false, cond, [], ◌∷◌, Option, None, Some, IsSome, is_some, nat_eq, refl, ap, sym, subst, ◌∙◌, arith, if◌then◌else◌}
use Rattle.std.specs.List.{AllByRecursion, IsDistinct, find}
use Rattle.std.specs.Map.{lookup, keys_of}
use Rattle.std.specs.Option.{option_or}
use Rattle.std.proofs.lemmas.Bool.Decides.{nat_tests}
use Rattle.std.proofs.lemmas.List.Folds.{find-append}
use Rattle.std.proofs.lemmas.Map.Keys.{IsDistinct-head, IsDistinct-tail}
use Rattle.std.proofs.lemmas.Bool.{eq-eqb}
use Rattle.form.specs.declared.orders.Order.{Order}
use Rattle.order_book.specs.Markets.{MarketState, Markets, has_number, with_live, with_live_in, live_orders, without, without_in_each, holder_of}
use Rattle.order_book.specs.Numbers.{number_count}
use Rattle.order_book.proofs.LiveOrders.{any_found, none_from_is_some, without_none, number_count-append, some_counted, none_counted}

-- a live order with the number is in the market, and in no other
pub record Holds (number market : ℕ) (markets : Markets) : Type 0 where
  pub state : MarketState
  pub found : lookup (nat_eq market) markets ≡ Some state
  pub there : IsSome (find (has_number number) state.live)
  pub same : find (has_number number) (live_orders markets) ≡ find (has_number number) state.live
  pub alone : with_live_in market (without number state.live) markets ≡ without_in_each number markets

apart_there : (k market : ℕ) (markets : Markets) (m : MarketState) → AllByRecursion (λ y. nat_eq k y ≡ false) (keys_of markets) → lookup (nat_eq market) markets ≡ Some m → nat_eq market k ≡ false
apart_there k market [] m apart found = cc
apart_there k market (e ∷ markets) m apart found = by (nat_eq market e.0) refl found (apart_there k market markets m apart.1)
  where
    differ : nat_eq market e.0 ≡ true → nat_eq market k ≡ false
    differ same = let other = apart.0 in grind (arith, nat_tests)

    by : (b : Bool) → nat_eq market e.0 ≡ b → cond b (Some e.1) (lookup (nat_eq market) markets) ≡ Some m → (lookup (nat_eq market) markets ≡ Some m → nat_eq market k ≡ false) → nat_eq market k ≡ false
    by true same h later = differ same
    by false same h later = later h

module _ (number : ℕ) where
  find_first : (e : ℕ × MarketState) (markets : Markets) → find (has_number number) (live_orders (e ∷ markets)) ≡ option_or (find (has_number number) e.1.live) (find (has_number number) (live_orders markets))
  find_first e markets = find-append (has_number number) e.1.live (live_orders markets)

  pub unheld : (markets : Markets) → holder_of number markets ≡ None → find (has_number number) (live_orders markets) ≡ None
  unheld [] none = refl
  unheld (e ∷ markets) none = by (find (has_number number) e.1.live) none (unheld markets) (find_first e markets)
    where
      by : (r : Option Order) → (if is_some r then Some e.0 else holder_of number markets) ≡ None → (holder_of number markets ≡ None → find (has_number number) (live_orders markets) ≡ None)
          → find (has_number number) (live_orders (e ∷ markets)) ≡ option_or r (find (has_number number) (live_orders markets)) → find (has_number number) (live_orders (e ∷ markets)) ≡ None
      by None h later whole = whole ∙ later h
      by (Some o) h later whole = cc

  stay : (markets : Markets) → number_count number (live_orders markets) ≡ 0 → without_in_each number markets ≡ markets
  stay [] none = refl
  stay (e ∷ markets) none =
      let parts = number_count-append number e.1.live (live_orders markets) in
      let first = without_none number e.1.live (none_counted number e.1.live (omega (arith, parts))) in
      let others = stay markets (omega (arith, parts)) in
      λ i. (e.0, with_live e.1 (first i)) ∷ others i

  first_option : (r s : Option Order) → IsSome r → option_or r s ≡ r
  first_option None s h = cc
  first_option (Some o) s h = refl

  pub holds : (market : ℕ) (markets : Markets) → IsDistinct nat_eq (keys_of markets) → number_count number (live_orders markets) ≤ 1 → holder_of number markets ≡ Some market → Holds number market markets
  holds market [] distinct once held = cc
  holds market (e ∷ markets) distinct once held = by (is_some (find (has_number number) e.1.live)) refl held (holds market markets (IsDistinct-tail nat_eq e.0 (keys_of markets) distinct) (omega (arith, parts)))
    where
      parts : number_count number (live_orders (e ∷ markets)) ≡ number_count number e.1.live + number_count number (live_orders markets)
      parts = number_count-append number e.1.live (live_orders markets)

      here : e.0 ≡ market → is_some (find (has_number number) e.1.live) ≡ true → Holds number market (e ∷ markets)
      here is there =
          let most = some_counted number e.1.live there in
          let same : nat_eq market e.0 ≡ true = subst (λ k. nat_eq k e.0 ≡ true) is (eq-eqb e.0 e.0 refl) in
          record {
            state = e.1;
            found = ap (λ b. cond b (Some e.1) (lookup (nat_eq market) markets)) same;
            there = there;
            same = find_first e markets ∙ first_option (find (has_number number) e.1.live) (find (has_number number) (live_orders markets)) there;
            alone = ap (λ b. if b then (e.0, with_live e.1 (without number e.1.live)) ∷ markets else e ∷ with_live_in market (without number e.1.live) markets) same
                ∙ ap (λ (ms : Markets). (e.0, with_live e.1 (without number e.1.live)) ∷ ms) (sym (stay markets (omega (arith, parts))));
          }

      later : Holds number market markets → is_some (find (has_number number) e.1.live) ≡ false → Holds number market (e ∷ markets)
      later h none =
          let other = apart_there e.0 market markets h.state (IsDistinct-head nat_eq e.0 (keys_of markets) distinct) h.found in
          let gone = sym (any_found number e.1.live) ∙ none in
          record {
            state = h.state;
            found = ap (λ b. cond b (Some e.1) (lookup (nat_eq market) markets)) other ∙ h.found;
            there = h.there;
            same = find_first e markets ∙ ap (λ r. option_or r (find (has_number number) (live_orders markets))) (none_from_is_some (find (has_number number) e.1.live) none) ∙ h.same;
            alone = ap (λ b. if b then (e.0, with_live e.1 (without number h.state.live)) ∷ markets else e ∷ with_live_in market (without number h.state.live) markets) other
                ∙ (let back = sym (without_none number e.1.live gone) in λ i. (e.0, with_live e.1 (back i)) ∷ h.alone i);
          }

      by : (b : Bool) → is_some (find (has_number number) e.1.live) ≡ b → (if b then Some e.0 else holder_of number markets) ≡ Some market → (holder_of number markets ≡ Some market → Holds number market markets) → Holds number market (e ∷ markets)
      by true there h rest = here (cc) there
      by false none h rest = later (rest h) none
