-- The accounts of the live orders, as orders come and go.
use Rattle.std.proofs.Common.{◌≡◌, ℕ, List, [], ◌∷◌, ◌++◌, Bool, true, false, ◌||◌, cond, if◌then◌else◌, nat_eq, not, Some, refl, sym, subst}
use Rattle.std.specs.List.{All}
use Rattle.std.specs.Map.{lookup}
use Rattle.std.specs.Option.{option_map_or}
use Rattle.std.proofs.lemmas.List.Elements.{All-nil, All-cons, All-head, All-tail, All-append, All-filter, All-weaker}
use Rattle.cash_ledger.specs.Ledger.{is_open}
use Rattle.form.specs.declared.orders.Order.{Order}
use Rattle.order_book.specs.Markets.{MarketState, Markets, has_number, changed_in, live_in, live_orders, without_in_each}
use Rattle.exchange_core.specs.Kept.{IsOfOpen}
use Rattle.order_book.proofs.AllLive.{live-without_in_each}

module _ {X : Type 0} (P : X → Type 0) where
  All-front : (xs ys : List X) → All P (xs ++ ys) → All P xs
  All-front [] ys all = All-nil P
  All-front (x ∷ xs) ys all = All-cons P x xs (All-head P x (xs ++ ys) all) (All-front xs ys (All-tail P x (xs ++ ys) all))

  All-back : (xs ys : List X) → All P (xs ++ ys) → All P ys
  All-back [] ys all = all
  All-back (x ∷ xs) ys all = All-back xs ys (All-tail P x (xs ++ ys) all)

module _ (P : Order → Type 0) where
  -- what holds of all live orders holds of those of one market
  pub All-live_in : (market : ℕ) (markets : Markets) → All P (live_orders markets) → All P (live_in market markets)
  All-live_in market [] all = All-nil P
  All-live_in market (m ∷ markets) all =
      elim (nat_eq market m.0) as (λ b. All P (option_map_or (λ (s : MarketState). s.live) (cond b (Some m.1) (lookup (nat_eq market) markets)) [])) [
        | true ↦ All-front P m.1.live (live_orders markets) all
        | false ↦ All-live_in market markets (All-back P m.1.live (live_orders markets) all)
      ]

  pub All-replaced : (market : ℕ) (change : MarketState → MarketState) (live : List Order) → ((m : MarketState) → (change m).live ≡ live)
      → (markets : Markets) → All P (live_orders markets) → All P live → All P (live_orders (changed_in change market markets))
  All-replaced market change live is [] all new = All-nil P
  All-replaced market change live is (m ∷ markets) all new =
      let front = All-front P m.1.live (live_orders markets) all in
      let back = All-back P m.1.live (live_orders markets) all in
      elim (nat_eq market m.0) as (λ b. All P (live_orders (if b then (m.0, change m.1) ∷ markets else m ∷ changed_in change market markets))) [
        | true ↦ All-append P (change m.1).live (live_orders markets) (subst (All P) (sym (is m.1)) new) back
        | false ↦ All-append P m.1.live (live_orders (changed_in change market markets)) front (All-replaced market change live is markets back new)
      ]

  pub All-without_in_each : (number : ℕ) (markets : Markets) → All P (live_orders markets) → All P (live_orders (without_in_each number markets))
  All-without_in_each number markets all =
      subst (All P) (sym (live-without_in_each number markets)) (All-filter (λ order. not (has_number number order)) P (live_orders markets) all)

-- open accounts stay open as another is opened
pub any-push : (account : ℕ) (accounts : List ℕ) (new : ℕ) → is_open accounts account ≡ true → is_open (accounts ++ new ∷ []) account ≡ true
any-push account [] new held = cc
any-push account (other ∷ accounts) new held =
    let Goal : Bool → Type 0 = λ b. (b || is_open accounts account) ≡ true → (b || is_open (accounts ++ new ∷ []) account) ≡ true in
    (elim (nat_eq account other) as Goal [ true ↦ λ h. refl | false ↦ λ h. any-push account accounts new h ]) held

pub stay_open : (accounts : List ℕ) (new : ℕ) (orders : List Order) → All (IsOfOpen accounts) orders → All (IsOfOpen (accounts ++ new ∷ [])) orders
stay_open accounts new orders all = All-weaker (IsOfOpen accounts) (IsOfOpen (accounts ++ new ∷ [])) (λ order each. any-push order.account accounts new each) orders all
