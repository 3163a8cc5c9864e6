-- The trades of all bundles of a batch, in one list.
use Rattle.std.specs.Prelude.{ℕ, ◌≡◌, List, take, Bool, Some}
use Rattle.std.specs.List.{slice_get, list_any}
use Rattle.form.specs.declared.orders.Order.{Order}
use Rattle.form.specs.Vector.{is_same_bundle}
use Rattle.form.specs.Payoff.{BundleLeg, bundle_of}
use Rattle.bundle_match.specs.declared.auction.Trade.{Trade}
use Rattle.bundle_match.specs.Auction.{fill_at}
use Rattle.bundle_match.specs.Match.{fill_of}

-- whether an order before the place is of the bundle
abbrev pub is_seen : List Order → ℕ → List BundleLeg → Bool
is_seen orders place bundle =
    list_any (λ (earlier : Order). is_same_bundle (bundle_of earlier) bundle) (take place orders)

-- they fill of each order what the auction of its bundle does
abbrev pub AreTradesOf : List Order → List Trade → Type 0
AreTradesOf orders trades =
    (place : ℕ) (order : Order) → slice_get orders place ≡ Some order
    → fill_at order.side place trades ≡ fill_of orders place order
