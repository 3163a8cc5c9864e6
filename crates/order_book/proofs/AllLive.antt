-- The live orders of all markets, as those of one market change.
use Rattle.std.proofs.Common.{◌≡◌, ℕ, ◌+◌, List, [], ◌∷◌, ◌++◌, Bool, true, false, cond, not, nat_eq, Some, IsSome, refl, sym, ap, ◌∙◌, arith, if◌then◌else◌}
use Rattle.std.specs.List.{All}
use Rattle.std.specs.Map.{lookup}
use Rattle.std.specs.Option.{option_map_or}
use Rattle.std.proofs.lemmas.List.Elements.{All-head, All-tail, filter-append}
use Rattle.form.specs.declared.orders.Order.{Order}
use Rattle.order_book.specs.Kept.{IsMarketKept}
use Rattle.order_book.specs.Markets.{MarketState, Markets, has_number, changed_in, live_in, live_orders, without, without_in_each}
use Rattle.order_book.specs.Numbers.{number_count}
use Rattle.order_book.proofs.LiveOrders.{number_count-append, fresh_counted}

-- a market more, without live orders
pub live-with_market : (market underlyings : ℕ) (markets : Markets) → live_orders (markets ++ (market, record { underlyings = underlyings; settled = false; live = [] }) ∷ []) ≡ live_orders markets
live-with_market market underlyings [] = refl
live-with_market market underlyings (m ∷ markets) = ap (λ (l : List Order). m.1.live ++ l) (live-with_market market underlyings markets)

-- an order less
pub live-without_in_each : (number : ℕ) (markets : Markets) → live_orders (without_in_each number markets) ≡ without number (live_orders markets)
live-without_in_each number [] = refl
live-without_in_each number (m ∷ markets) =
    ap (λ (l : List Order). without number m.1.live ++ l) (live-without_in_each number markets)
    ∙ sym (filter-append (λ order. not (has_number number order)) m.1.live (live_orders markets))

-- a sum over orders, as the live orders of one market are others
module _ (f : List Order → ℕ) (append : (xs ys : List Order) → f (xs ++ ys) ≡ f xs + f ys) where
  pub sum-replaced : (market : ℕ) (change : MarketState → MarketState) (live : List Order) → ((m : MarketState) → (change m).live ≡ live)
      → (markets : Markets) → IsSome (lookup (nat_eq market) markets)
      → f (live_orders (changed_in change market markets)) + f (live_in market markets) ≡ f (live_orders markets) + f live
  sum-replaced market change live is [] there = cc
  sum-replaced market change live is (m ∷ markets) there =
      let more = append m.1.live (live_orders markets) in
      let Goal : Bool → Type 0 = λ b. IsSome (cond b (Some m.1) (lookup (nat_eq market) markets))
      → f (live_orders (if b then (m.0, change m.1) ∷ markets else m ∷ changed_in change market markets))
      + f (option_map_or (λ (s : MarketState). s.live) (cond b (Some m.1) (lookup (nat_eq market) markets)) [])
      ≡ f (m.1.live ++ live_orders markets) + f live in
      (elim (nat_eq market m.0) as Goal [
        | true ↦ λ h. omega (arith, more, append (change m.1).live (live_orders markets), ap f (is m.1))
        | false ↦ λ h. omega (arith, more, append m.1.live (live_orders (changed_in change market markets)), sum-replaced market change live is markets h)
      ]) there

-- no live order has the number that comes next
pub none_fresh : (accepted : ℕ) (markets : Markets) → All (λ (m : ℕ × MarketState). IsMarketKept accepted m.1) markets → number_count (accepted + 1) (live_orders markets) ≡ 0
none_fresh accepted [] kept = refl
none_fresh accepted (m ∷ markets) kept =
    let IsOne = λ (m : ℕ × MarketState). IsMarketKept accepted m.1 in
    let first = All-head IsOne m markets kept in
    omega (arith, number_count-append (accepted + 1) m.1.live (live_orders markets), fresh_counted m.1.underlyings accepted m.1.live first.live, none_fresh accepted markets (All-tail IsOne m markets kept))
