-- The markets that there are, as orders come and go.
use Rattle.std.proofs.Common.{◌≡◌, ℕ, Bool, true, false, List, [], ◌∷◌, nat_eq, if◌then◌else◌, refl, ap}
use Rattle.form.specs.declared.orders.Order.{Order}
use Rattle.order_book.specs.Markets.{Markets, with_live, with_live_in, without_in_each}
use Rattle.members.specs.Laws.{listing_of}

pub listing-with_live_in : (market : ℕ) (live : List Order) (markets : Markets) → listing_of (with_live_in market live markets) ≡ listing_of markets
listing-with_live_in market live [] = refl
listing-with_live_in market live (m ∷ markets) = by (nat_eq market m.0) (listing-with_live_in market live markets)
  where
    here : ℕ × (ℕ × Bool)
    here = (m.0, (m.1.underlyings, m.1.settled))

    by : (b : Bool) → listing_of (with_live_in market live markets) ≡ listing_of markets
        → listing_of (if b then (m.0, with_live m.1 live) ∷ markets else m ∷ with_live_in market live markets) ≡ here ∷ listing_of markets
    by true later = refl
    by false later = ap (λ (others : List (ℕ × (ℕ × Bool))). here ∷ others) later

pub listing-without_in_each : (number : ℕ) (markets : Markets) → listing_of (without_in_each number markets) ≡ listing_of markets
listing-without_in_each number [] = refl
listing-without_in_each number (m ∷ markets) =
    ap (λ (others : List (ℕ × (ℕ × Bool))). (m.0, (m.1.underlyings, m.1.settled)) ∷ others) (listing-without_in_each number markets)
