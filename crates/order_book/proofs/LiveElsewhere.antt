-- The live orders of a market, as other markets change.
use Rattle.std.proofs.Common.{◌≡◌, ◌≤◌, ℕ, Bool, true, false, cond, List, if◌then◌else◌, [], ◌∷◌, ◌++◌, Option, Some, None, is_some, nat_eq, refl, sym, ap, ◌∙◌, arith}
use Rattle.std.specs.List.{find}
use Rattle.std.specs.Map.{lookup}
use Rattle.std.specs.Option.{option_map_or}
use Rattle.std.proofs.lemmas.Bool.Decides.{nat_tests}
use Rattle.form.specs.declared.orders.Order.{Order}
use Rattle.order_book.specs.Markets.{MarketState, Markets, changed_in, has_number, holder_of, live_in, live_orders, with_live, without, without_in_each}
use Rattle.order_book.specs.Numbers.{number_count}
use Rattle.order_book.proofs.LiveOrders.{any_found, without_none}
use Rattle.order_book.proofs.Placed.{held}

module _ (market : ℕ) where
  abbrev live_found : Option MarketState → List Order
  live_found found = option_map_or (λ (m : MarketState). m.live) found []

  -- another market is changed
  pub live-changed : (other : ℕ) → nat_eq market other ≡ false → (change : MarketState → MarketState) (markets : Markets) → live_in market (changed_in change other markets) ≡ live_in market markets
  live-changed other differ change [] = refl
  live-changed other differ change (m ∷ markets) = by (nat_eq other m.0) refl (nat_eq market m.0) refl (live-changed other differ change markets)
    where
      neither : nat_eq other m.0 ≡ true → nat_eq market m.0 ≡ true → ⊥
      neither a b = grind (arith, nat_tests)

      by : (b : Bool) → nat_eq other m.0 ≡ b → (c : Bool) → nat_eq market m.0 ≡ c → live_in market (changed_in change other markets) ≡ live_in market markets
          → live_in market (if b then (m.0, change m.1) ∷ markets else m ∷ changed_in change other markets) ≡ live_found (cond c (Some m.1) (lookup (nat_eq market) markets))
      by true is true at later = absurd (neither is at)
      by true is false at later = ap (λ c. live_found (cond c (Some (change m.1)) (lookup (nat_eq market) markets))) at
      by false is true at later = ap (λ c. live_found (cond c (Some m.1) (lookup (nat_eq market) (changed_in change other markets)))) at
      by false is false at later = ap (λ c. live_found (cond c (Some m.1) (lookup (nat_eq market) (changed_in change other markets)))) at ∙ later

  -- a market is listed, without live orders
  pub live-listed : (other underlyings : ℕ) (markets : Markets)
      → live_in market (markets ++ (other, record { underlyings = underlyings; settled = false; live = [] }) ∷ []) ≡ live_in market markets
  live-listed other underlyings [] =
      elim (nat_eq market other) as (λ c. live_found (cond c (Some (record { underlyings = underlyings; settled = false; live = [] })) None) ≡ []) [ true ↦ refl | false ↦ refl ]
  live-listed other underlyings (m ∷ markets) =
      elim (nat_eq market m.0) as (λ c. live_found (cond c (Some m.1) (lookup (nat_eq market) (markets ++ (other, record { underlyings = underlyings; settled = false; live = [] }) ∷ [])))
      ≡ live_found (cond c (Some m.1) (lookup (nat_eq market) markets))) [
        | true ↦ refl
        | false ↦ live-listed other underlyings markets
      ]

  -- an order is taken out
  pub live-without : (number : ℕ) (markets : Markets) → live_in market (without_in_each number markets) ≡ without number (live_in market markets)
  live-without number [] = refl
  live-without number (m ∷ markets) =
      elim (nat_eq market m.0) as (λ c. live_found (cond c (Some (with_live m.1 (without number m.1.live))) (lookup (nat_eq market) (without_in_each number markets)))
      ≡ without number (live_found (cond c (Some m.1) (lookup (nat_eq market) markets)))) [
        | true ↦ refl
        | false ↦ live-without number markets
      ]

  -- one that is not live in the market
  pub live-cancelled : (number : ℕ) (markets : Markets) → number_count number (live_orders markets) ≤ 1 → (holder_of number markets ≡ Some market → ⊥) → live_in market (without_in_each number markets) ≡ live_in market markets
  live-cancelled number markets once elsewhere = live-without number markets ∙ by (is_some (find (has_number number) (live_in market markets))) refl
    where
      by : (b : Bool) → is_some (find (has_number number) (live_in market markets)) ≡ b → without number (live_in market markets) ≡ live_in market markets
      by true there = absurd (elsewhere (held number market markets once there))
      by false none = without_none number (live_in market markets) (sym (any_found number (live_in market markets)) ∙ none)
