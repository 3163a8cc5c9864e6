-- The queues of the buys and the sells of one bundle.
--
-- The buys stand by falling price, the sells by rising price. At one price the order with the
-- smaller number stands first.
use Rattle.std.specs.Prelude.{ℕ, ◌+◌, ◌==◌, nat_lt, List, [], ◌∷◌, Bool, true, false, ◌&&◌, ◌||◌, if◌then◌else◌}
use Rattle.form.specs.declared.orders.Order.{Order}
use Rattle.form.specs.declared.orders.Side.{Side}
use Rattle.form.specs.declared.orders.Side.TheVariants.{Buy, Sell}
use Rattle.form.specs.Vector.{is_same_bundle}
use Rattle.form.specs.Payoff.{BundleLeg, bundle_of}
use Rattle.bundle_match.specs.declared.queues.Offer.{Offer}

abbrev pub is_on : Side → Side → Bool
is_on Buy Buy = true
is_on Buy Sell = false
is_on Sell Buy = false
is_on Sell Sell = true

-- the higher price is the better one for a buy, the lower price for a sell
abbrev pub has_better_price : Side → Offer → Offer → Bool
has_better_price Buy x y = nat_lt y.price x.price
has_better_price Sell x y = nat_lt x.price y.price

abbrev pub stands_before : Side → Offer → Offer → Bool
stands_before side x y =
    has_better_price side x y || ((x.price == y.price) && nat_lt x.number y.number)

-- an offer behind those of a queue that stand before it, and before the others
abbrev pub put_into : Side → Offer → List Offer → List Offer
put_into side x [] = x ∷ []
put_into side x (y ∷ ys) = if stands_before side y x then y ∷ put_into side x ys else x ∷ y ∷ ys

abbrev pub in_line : Side → List Offer → List Offer
in_line side [] = []
in_line side (x ∷ xs) = put_into side x (in_line side xs)

-- an order at a place of the batch, of which nothing is filled
abbrev pub offer_of : ℕ → Order → Offer
offer_of place order =
    record { place = place; number = order.id; price = order.price; left = order.quantity }

abbrev pub belongs : Side → List BundleLeg → Order → Bool
belongs side bundle order = is_on side order.side && is_same_bundle (bundle_of order) bundle

-- the offers of a bundle on a side, from orders of which the first stands at a place of the batch
abbrev pub offers_from : Side → List BundleLeg → ℕ → List Order → List Offer
offers_from side bundle place [] = []
offers_from side bundle place (order ∷ orders) =
    let later = offers_from side bundle (place + 1) orders in
    if belongs side bundle order then offer_of place order ∷ later else later

-- the queue of a bundle on a side
abbrev pub queue_of : Side → List BundleLeg → List Order → List Offer
queue_of side bundle orders = in_line side (offers_from side bundle 0 orders)
