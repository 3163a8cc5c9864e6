-- An order that is live in a market is live in no other.
use Rattle.std.proofs.Common.{◌≡◌, ℕ, ◌+◌, ◌≤◌, Bool, true, false, cond, [], ◌∷◌, Option, Some, is_some, nat_eq, refl, ap, sym, arith, if◌then◌else◌}
use Rattle.std.specs.List.{find}
use Rattle.std.specs.Map.{lookup}
use Rattle.std.specs.Option.{option_map_or}
use Rattle.std.proofs.lemmas.Bool.{eqb-true}
use Rattle.order_book.specs.Markets.{MarketState, Markets, has_number, live_in, live_orders, holder_of}
use Rattle.order_book.specs.Numbers.{number_count}
use Rattle.order_book.proofs.LiveOrders.{number_count-append, some_counted}

module _ (number market : ℕ) where
  -- whether a market that may be found has the order
  abbrev HasOrder : Option MarketState → Type 0
  HasOrder found = is_some (find (has_number number) (option_map_or (λ (m : MarketState). m.live) found [])) ≡ true

  counted_there : (markets : Markets) → HasOrder (lookup (nat_eq market) markets) → 1 ≤ number_count number (live_orders markets)
  counted_there [] there = cc
  counted_there (e ∷ markets) there = by (nat_eq market e.0) there (counted_there markets)
    where
      parts : number_count number (live_orders (e ∷ markets)) ≡ number_count number e.1.live + number_count number (live_orders markets)
      parts = number_count-append number e.1.live (live_orders markets)

      by : (b : Bool) → HasOrder (cond b (Some e.1) (lookup (nat_eq market) markets)) → (HasOrder (lookup (nat_eq market) markets) → 1 ≤ number_count number (live_orders markets)) → 1 ≤ number_count number (live_orders (e ∷ markets))
      by true h later = omega (arith, parts, some_counted number e.1.live h)
      by false h later = omega (arith, parts, later h)

  -- a market with the order holds it
  pub held : (markets : Markets) → number_count number (live_orders markets) ≤ 1 → is_some (find (has_number number) (live_in market markets)) ≡ true → holder_of number markets ≡ Some market
  held [] once there = cc
  held (e ∷ markets) once there = by (nat_eq market e.0) refl (is_some (find (has_number number) e.1.live)) refl there (held markets (omega (arith, parts)))
    where
      parts : number_count number (live_orders (e ∷ markets)) ≡ number_count number e.1.live + number_count number (live_orders markets)
      parts = number_count-append number e.1.live (live_orders markets)

      by : (b : Bool) → nat_eq market e.0 ≡ b → (has : Bool) → is_some (find (has_number number) e.1.live) ≡ has → HasOrder (cond b (Some e.1) (lookup (nat_eq market) markets))
          → (is_some (find (has_number number) (live_in market markets)) ≡ true → holder_of number markets ≡ Some market)
          → (if has then Some e.0 else holder_of number markets) ≡ Some market
      by true same true is h later = ap Some (sym (eqb-true market e.0 same))
      by true same false is h later = absurd (cc)
      by false other true is h later = absurd (omega (arith, once, parts, some_counted number e.1.live is, counted_there markets h))
      by false other false is h later = later h
