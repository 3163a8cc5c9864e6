-- What the auction of its bundle fills of each order.
use Rattle.std.proofs.Common.{◌≡◌, ℕ, zero, suc, ◌+◌, ◌^◌, ◌≤◌, ◌<◌, nat_lt, nat_le, List, [], ◌∷◌, ◌++◌, append_assoc, drop, Bool, true, false, cond, length, All, Some, slice_get, refl, sym, ap, subst, ◌∙◌, arith}
use Rattle.std.proofs.lemmas.Bool.{lt-ltb}
use Rattle.std.proofs.lemmas.Bool.Decides.{nat_tests}
use Rattle.std.proofs.lemmas.List.Elements.{All-nil, All-cons}
use Rattle.std.proofs.lemmas.Option.{slice_get_within, get_or_from_slice_get}
use Rattle.std.specs.List.{zip}
use Rattle.arithmetic.proofs.Lists.{item_first}
use Rattle.form.specs.declared.orders.Order.{Order}
use Rattle.form.specs.declared.orders.Side.{Side}
use Rattle.form.specs.declared.orders.Side.TheVariants.{Buy, Sell}
use Rattle.clearing_model.specs.Clearing.{Filled}
use Rattle.form.specs.Payoff.{BundleLeg, bundle_of}
use Rattle.market_laws.proofs.Balance.{bundle_is_same}
use Rattle.bundle_match.specs.declared.queues.Offer.{Offer}
use Rattle.bundle_match.specs.declared.auction.Trade.{Trade}
use Rattle.bundle_match.specs.Auction.{fill_at}
use Rattle.bundle_match.specs.Laws.{IsBetter, IsFilledAt, MatchIsTheAuction}
use Rattle.bundle_match.specs.Match.{trades_of, fill_of, fills_from, match_by_bundle}
use Rattle.bundle_match.specs.Queue.{is_on, belongs, offers_from, queue_of}
use Rattle.bundle_match.specs.Trades.{AreTradesOf}
use Rattle.bundle_match.proofs.InLine.{IsInLine, IsInLine-in_line}
use Rattle.bundle_match.proofs.Parted.{AtMost, AtLeast, first_is_most, IsParted, parted}
use Rattle.bundle_match.proofs.Waiting.{waits, waiting_of, waits-queue_of}

-- ---- each bundle has a price
high_of : (xs : List Offer) → IsInLine Buy xs → (high : ℕ) × AtMost high xs
high_of [] h = (0, tt)
high_of (x ∷ xs) h = (x.price, first_is_most x xs h)

AtLeast-zero : (xs : List Offer) → AtLeast 0 xs
AtLeast-zero [] = tt
AtLeast-zero (x ∷ xs) = (omega arith, AtLeast-zero xs)

module _ (orders : List Order) (bundle : List BundleLeg) where
  abbrev buys : List Offer
  buys = queue_of Buy bundle orders

  abbrev sells : List Offer
  sells = queue_of Sell bundle orders

  most : (high : ℕ) × AtMost high buys
  most = high_of buys (IsInLine-in_line Buy (offers_from Buy bundle 0 orders))

  has_price : IsParted 0 most.0 buys sells (trades_of orders bundle)
  has_price = parted buys sells 0 most.0 (omega arith) most.1 (AtLeast-zero sells) (IsInLine-in_line Buy (offers_from Buy bundle 0 orders)) (IsInLine-in_line Sell (offers_from Sell bundle 0 orders))

  pub price_of : ℕ
  price_of = has_price.price

  -- the tests that bound the fill of a limit on a side
  gains : Side → ℕ → Bool
  gains Buy limit = nat_lt price_of limit
  gains Sell limit = nat_lt limit price_of

  takes : Side → ℕ → Bool
  takes Buy limit = nat_le price_of limit
  takes Sell limit = nat_le limit price_of

  filled_between : (side : Side) (k : ℕ) → (waits (gains side) k (queue_of side bundle orders) ≤ fill_at side k (trades_of orders bundle)) × (fill_at side k (trades_of orders bundle) ≤ waits (takes side) k (queue_of side bundle orders))
  unfolding gains takes price_of
  filled_between Buy k = has_price.bought k
  filled_between Sell k = has_price.sold k

  -- of the orders of other bundles nothing is filled
  pub others_unfilled : (side : Side) (k : ℕ) (o : Order) → slice_get orders k ≡ Some o → belongs side bundle o ≡ false → fill_at side k (trades_of orders bundle) ≡ 0
  others_unfilled side k o at other =
      let none : waits (takes side) k (queue_of side bundle orders) ≡ 0 = waits-queue_of side bundle (takes side) k orders o at ∙ ap (λ b. cond b (waiting_of (takes side) o) 0) other in
      omega (arith, none, (filled_between side k).1)

is_on-itself : (side : Side) → is_on side side ≡ true
is_on-itself Buy = refl
is_on-itself Sell = refl

pub own_bundle : (o : Order) → belongs o.side (bundle_of o) o ≡ true
own_bundle o = rw (is_on-itself o.side, bundle_is_same (bundle_of o)) refl

between : (a b : Bool) (f q : ℕ) → cond a q 0 ≤ f → f ≤ cond b q 0 → (f ≤ q) × (a ≡ true → f ≡ q) × (b ≡ false → f ≡ 0)
between a true f q low high = (high, λ t. omega (arith, high, subst (λ a. cond a q 0 ≤ f) t low), λ no. cc)
between a false f q low high = (omega (arith, high), λ t. omega (arith, high, subst (λ a. cond a q 0 ≤ f) t low), λ _. omega (arith, high))

-- the price of its bundle parts an order from the others
pub order_is_filled : (orders : List Order) (k : ℕ) (o : Order) → slice_get orders k ≡ Some o → (fill_of orders k o ≤ o.quantity) × IsFilledAt (price_of orders (bundle_of o)) (o, fill_of orders k o)
unfolding gains takes
order_is_filled orders k o at =
    let bundle = bundle_of o in
    let price = price_of orders bundle in
    let trades = trades_of orders bundle in
    let Goal : Side → Type 0 = λ side. belongs side bundle o ≡ true → (fill_at side k trades ≤ o.quantity) × ((IsBetter side o.price price → fill_at side k trades ≡ o.quantity) × (IsBetter side price o.price → fill_at side k trades ≡ 0)) in
    let own : (side : Side) → belongs side bundle o ≡ true → (p : ℕ → Bool) → waits p k (queue_of side bundle orders) ≡ waiting_of p o =
    λ side own p. waits-queue_of side bundle p k orders o at ∙ ap (λ b. cond b (waiting_of p o) 0) own in
    let bounds : (side : Side) → belongs side bundle o ≡ true → (fill_at side k trades ≤ o.quantity) × (gains orders bundle side o.price ≡ true → fill_at side k trades ≡ o.quantity) × (takes orders bundle side o.price ≡ false → fill_at side k trades ≡ 0) =
    λ side mine. let h = filled_between orders bundle side k in
    between (gains orders bundle side o.price) (takes orders bundle side o.price) (fill_at side k trades) o.quantity (omega (arith, h.0, own side mine (gains orders bundle side))) (omega (arith, h.1, own side mine (takes orders bundle side))) in
    (elim o.side as Goal [
      | Buy ↦ λ mine. let b = bounds Buy mine in (b.0, (λ better. b.1 (lt-ltb price o.price better), λ worse. b.2 (grind (arith, nat_tests))))
      | Sell ↦ λ mine. let b = bounds Sell mine in (b.0, (λ better. b.1 (lt-ltb o.price price better), λ worse. b.2 (grind (arith, nat_tests))))
    ]) (own_bundle o)

-- ---- order by order
pub length-fills_from : (batch : List Order) (place : ℕ) (orders : List Order) → length (fills_from batch place orders) ≡ length orders
length-fills_from batch place [] = refl
length-fills_from batch place (o ∷ orders) = let rest = length-fills_from batch (place + 1) orders in omega (arith, rest)

-- what holds of the fill of each order
pub All-fills_from : (P : Filled → Type 0) (batch : List Order) (place : ℕ) (orders : List Order) → ((i k : ℕ) (o : Order) → k ≡ place + i → slice_get orders i ≡ Some o → P (o, fill_of batch k o))
    → All P (zip orders (fills_from batch place orders))
All-fills_from P batch place [] h = All-nil P
All-fills_from P batch place (o ∷ orders) h =
    All-cons P (o, fill_of batch place o) (zip orders (fills_from batch (place + 1) orders)) (h zero place o (omega arith) refl)
    (All-fills_from P batch (place + 1) orders (λ i k p is at. h (suc i) k p (omega (arith, is)) at))

pub All-matched : (P : Filled → Type 0) (orders : List Order) → ((k : ℕ) (o : Order) → slice_get orders k ≡ Some o → P (o, fill_of orders k o)) → All P (zip orders (match_by_bundle orders))
All-matched P orders h = All-fills_from P orders 0 orders (λ i k o is at. h k o (ap (slice_get orders) (let e : k ≡ i = omega (arith, is) in e) ∙ at))

fills_at : (batch : List Order) (place i k : ℕ) (orders : List Order) (o : Order) → k ≡ place + i → slice_get orders i ≡ Some o → slice_get (fills_from batch place orders) i ≡ Some (fill_of batch k o)
fills_at batch place i k [] o is at = cc
fills_at batch place zero k (p ∷ orders) o is at =
    let e : p ≡ o = cc in
    let here : place ≡ k = omega (arith, is) in
    λ j. Some (fill_of batch (here j) (e j))
fills_at batch place (suc i) k (p ∷ orders) o is at = fills_at batch (place + 1) i k orders o (omega (arith, is)) at

-- ---- as the code fills them
pub fills_more : (orders : List Order) (place : ℕ) (o : Order) (done pushed whole : List ℕ) (fill : ℕ) → slice_get orders place ≡ Some o → pushed ≡ done ++ fill ∷ [] → fill ≡ fill_of orders place o
    → done ++ fills_from orders place (drop place orders) ≡ whole → pushed ++ fills_from orders (place + 1) (drop (place + 1) orders) ≡ whole
fills_more orders place o done pushed whole fill at push is h =
    let rest = item_first orders place o (slice_get_within orders place o at) (sym (get_or_from_slice_get orders place o o at)) in
    let later = fills_from orders (place + 1) (drop (place + 1) orders) in
    (λ i. push i ++ later) ∙ append_assoc done (fill ∷ []) later ∙ (λ i. done ++ is i ∷ later) ∙ ap (λ l. done ++ fills_from orders place l) (sym rest) ∙ h

pub fill_fits : (orders : List Order) (place : ℕ) (o : Order) (trades : List Trade) → AreTradesOf orders trades → slice_get orders place ≡ Some o → o.quantity < 2 ^ 32 → fill_at o.side place trades < 2 ^ 64
fill_fits orders place o trades of at small = omega (arith, of place o at, (order_is_filled orders place o at).0, small)

pub match_is_the_auction : MatchIsTheAuction
match_is_the_auction orders place order at = fills_at orders 0 place place orders order (omega arith) at
