-- An auction has a price that parts its orders: those that would trade at a better price are filled
-- whole, and those that trade at it or better are all that is filled.
use Rattle.std.proofs.Common.{◌≡◌, ℕ, ◌+◌, ◌-◌, ◌==◌, ◌≤◌, min, max, nat_lt, nat_le, List, [], ◌∷◌, Bool, true, false, ◌&&◌, if◌then◌else◌, refl, arith}
use Rattle.std.proofs.lemmas.Bool.Decides.{nat_tests}
use Rattle.std.proofs.lemmas.Bool.{le-leb, le-ltb}
use Rattle.std.proofs.lemmas.List.Sums.{sum_by-cons}
use Rattle.std.specs.List.{AllByRecursion}
use Rattle.form.specs.declared.orders.Side.{Side}
use Rattle.form.specs.declared.orders.Side.TheVariants.{Buy, Sell}
use Rattle.bundle_match.specs.declared.queues.Offer.{Offer}
use Rattle.bundle_match.specs.declared.auction.Trade.{Trade}
use Rattle.bundle_match.specs.Auction.{fill_first, auction, amount_at, fill_at}
use Rattle.bundle_match.specs.Queue.{stands_before}
use Rattle.bundle_match.proofs.InLine.{Each-weaker, NoneBefore, IsInLine}
use Rattle.bundle_match.proofs.Turns.{with_left, first_filled, Each-fill_first, trade_of, of_auction}
use Rattle.bundle_match.proofs.Waiting.{part, waits, waits-fill_first, none_waits}

pub filled-cons : (side : Side) (k : ℕ) (t : Trade) (ts : List Trade) → fill_at side k (t ∷ ts) ≡ amount_at side k t + fill_at side k ts
filled-cons side k t ts = sum_by-cons (amount_at side k) t ts

-- ---- prices along a queue
falling : (x y : Offer) → stands_before Buy y x ≡ false → y.price ≤ x.price
falling x y h = grind (arith, nat_tests)

rising : (x y : Offer) → stands_before Sell y x ≡ false → x.price ≤ y.price
rising x y h = grind (arith, nat_tests)

abbrev pub AtMost : ℕ → List Offer → Type 0
AtMost high xs = AllByRecursion (λ x. x.price ≤ high) xs

abbrev pub AtLeast : ℕ → List Offer → Type 0
AtLeast low xs = AllByRecursion (λ x. low ≤ x.price) xs

pub first_is_most : (x : Offer) (xs : List Offer) → IsInLine Buy (x ∷ xs) → AtMost x.price (x ∷ xs)
first_is_most x xs h = (omega arith, Each-weaker (λ y. stands_before Buy y x ≡ false) (λ y. y.price ≤ x.price) (falling x) xs h.0)

first_is_least : (x : Offer) (xs : List Offer) → IsInLine Sell (x ∷ xs) → AtLeast x.price (x ∷ xs)
first_is_least x xs h = (omega arith, Each-weaker (λ y. stands_before Sell y x ≡ false) (λ y. x.price ≤ y.price) (rising x) xs h.0)

AtMost-more : (low high : ℕ) → low ≤ high → (xs : List Offer) → AtMost low xs → AtMost high xs
AtMost-more low high le = Each-weaker (λ x. x.price ≤ low) (λ x. x.price ≤ high) (λ x h. omega (arith, h, le))

AtLeast-less : (low high : ℕ) → low ≤ high → (xs : List Offer) → AtLeast high xs → AtLeast low xs
AtLeast-less low high le = Each-weaker (λ x. high ≤ x.price) (λ x. low ≤ x.price) (λ x h. omega (arith, h, le))

stays_in_line : (side : Side) (n : ℕ) (x : Offer) (xs : List Offer) → IsInLine side (x ∷ xs) → IsInLine side (fill_first n (x ∷ xs))
stays_in_line side n x xs h = first_filled (IsInLine side) n x xs (λ _. h.1) (λ _. (as_left side h.0, h.1))
  where
    as_left : (side : Side) → NoneBefore side x xs → NoneBefore side (with_left x (x.left - n)) xs
    as_left Buy h = h
    as_left Sell h = h

-- ---- the claim
pub record IsParted (low high : ℕ) (buys sells : List Offer) (trades : List Trade) : Type 0 where
  pub price : ℕ
  pub above : low ≤ price
  pub below : price ≤ high
  pub bought : (k : ℕ) → (waits (λ limit. nat_lt price limit) k buys ≤ fill_at Buy k trades) × (fill_at Buy k trades ≤ waits (λ limit. nat_le price limit) k buys)
  pub sold : (k : ℕ) → (waits (λ limit. nat_lt limit price) k sells ≤ fill_at Sell k trades) × (fill_at Sell k trades ≤ waits (λ limit. nat_le limit price) k sells)

abbrev HasPrice : List Offer → List Offer → List Trade → Type 0
HasPrice buys sells trades = (low high : ℕ) → low ≤ high → AtMost high buys → AtLeast low sells → IsInLine Buy buys → IsInLine Sell sells → IsParted low high buys sells trades

-- where no buy is above the price and no sell below it, nothing need be filled
unfilled : (low high price : ℕ) (buys sells : List Offer) → low ≤ price → price ≤ high → AtMost price buys → AtLeast price sells → IsParted low high buys sells []
unfilled low high price buys sells above below buyers sellers = record {
  price = price;
  above = above;
  below = below;
  bought = λ k. let none = none_waits (λ limit. nat_lt price limit) k buys (Each-weaker (λ x. x.price ≤ price) (λ x. nat_lt price x.price ≡ false) (λ x h. le-ltb price x.price h) buys buyers) in (omega (arith, none), omega arith);
  sold = λ k. let none = none_waits (λ limit. nat_lt limit price) k sells (Each-weaker (λ x. price ≤ x.price) (λ x. nat_lt x.price price ≡ false) (λ x h. le-ltb x.price price h) sells sellers) in (omega (arith, none), omega arith);
}

-- a trade is no less than what of it counts, and all of it where the price passes
part_below : (p : ℕ → Bool) (k n : ℕ) (x : Offer) → part p k x n ≤ (if x.place == k then n else 0)
part_below p k n x =
    elim (x.place == k) as (λ b. (if b && p x.price then n else 0) ≤ (if b then n else 0)) [
      | true ↦ elim (p x.price) as (λ b. (if b then n else 0) ≤ n) [ true ↦ omega arith | false ↦ omega arith ]
      | false ↦ omega arith
    ]

part_above : (p : ℕ → Bool) (k n : ℕ) (x : Offer) → p x.price ≡ true → (if x.place == k then n else 0) ≤ part p k x n
part_above p k n x h =
    elim (x.place == k) as (λ b. (if b then n else 0) ≤ (if b && p x.price then n else 0)) [ true ↦ rw h (omega arith) | false ↦ omega arith ]

pub parted : (buys sells : List Offer) → HasPrice buys sells (auction buys sells)
parted = of_auction HasPrice
    (λ sells low high le buyers sellers b s. unfilled low high low [] sells (omega arith) le tt sellers)
    (λ buy buys low high le buyers sellers b s. unfilled low high (max low buy.price) (buy ∷ buys) [] (omega arith) (omega (arith, le, buyers.0)) (AtMost-more buy.price (max low buy.price) (omega arith) (buy ∷ buys) (first_is_most buy buys b)) tt)
    (λ buy sell buys sells le low high le' buyers sellers b s. unfilled low high (max low buy.price) (buy ∷ buys) (sell ∷ sells) (omega arith) (omega (arith, le', buyers.0))
    (AtMost-more buy.price (max low buy.price) (omega arith) (buy ∷ buys) (first_is_most buy buys b))
    (AtLeast-less (max low buy.price) sell.price (omega (arith, le, sellers.0)) (sell ∷ sells) (first_is_least sell sells s)))
    (λ buy sell buys sells later lt rest low high le buyers sellers b s.
    let n = min buy.left sell.left in
    let t = trade_of buy sell in
    let r = rest sell.price buy.price (omega (arith, lt)) (Each-fill_first (λ x. x.price ≤ buy.price) (λ x n h. h) n (buy ∷ buys) (first_is_most buy buys b))
    (Each-fill_first (λ x. sell.price ≤ x.price) (λ x n h. h) n (sell ∷ sells) (first_is_least sell sells s)) (stays_in_line Buy n buy buys b) (stays_in_line Sell n sell sells s) in
    record {
      price = r.price;
      above = omega (arith, sellers.0, r.above);
      below = omega (arith, buyers.0, r.below);
      bought = λ k. bounds Buy k t later (λ limit. nat_lt r.price limit) (λ limit. nat_le r.price limit) n buy buys (omega arith) refl (le-leb r.price buy.price r.below) (r.bought k);
      sold = λ k. bounds Sell k t later (λ limit. nat_lt limit r.price) (λ limit. nat_le limit r.price) n sell sells (omega arith) refl (le-leb sell.price r.price r.above) (r.sold k);
    })
  where
    bounds : (side : Side) (k : ℕ) (t : Trade) (later : List Trade) (p q : ℕ → Bool) (n : ℕ) (x : Offer) (xs : List Offer) → n ≤ x.left → amount_at side k t ≡ (if x.place == k then n else 0) → q x.price ≡ true
        → (waits p k (fill_first n (x ∷ xs)) ≤ fill_at side k later) × (fill_at side k later ≤ waits q k (fill_first n (x ∷ xs)))
        → (waits p k (x ∷ xs) ≤ fill_at side k (t ∷ later)) × (fill_at side k (t ∷ later) ≤ waits q k (x ∷ xs))
    bounds side k t later p q n x xs le here passes h =
        let sum = filled-cons side k t later in (
          omega (arith, sum, here, part_below p k n x, waits-fill_first p k n x xs le, h.0),
          omega (arith, sum, here, part_above q k n x passes, waits-fill_first q k n x xs le, h.1),
        )
