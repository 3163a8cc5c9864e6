-- Of each bundle as much is bought as sold: on each side the fills of its orders add up to the
-- amounts of the trades.
use Rattle.std.proofs.Common.{◌≡◌, ℕ, zero, suc, ◌+◌, ◌==◌, ◌<◌, List, [], ◌∷◌, Bool, true, false, ◌&&◌, if◌then◌else◌, get_or, Some, slice_get, pos, ◌*ℤ◌, refl, ap, ap₂, ◌∙◌, arith}
use Rattle.std.proofs.lemmas.Bool.Decides.{nat_tests}
use Rattle.std.proofs.lemmas.Int.{ints}
use Rattle.std.specs.List.{zip, AllByRecursion}
use Rattle.arithmetic.specs.Sums.{weigh_ℤ}
use Rattle.arithmetic.proofs.Products.{products}
use Rattle.form.specs.declared.orders.Order.{Order}
use Rattle.form.specs.declared.orders.Side.{Side}
use Rattle.form.specs.declared.orders.Side.TheVariants.{Buy, Sell}
use Rattle.form.specs.Vector.{is_same_bundle}
use Rattle.clearing_model.specs.Balance.{one_if, balance_of}
use Rattle.clearing_model.specs.Clearing.{Filled, if_buy, if_sell}
use Rattle.form.specs.Payoff.{BundleLeg, bundle_of}
use Rattle.market_laws.proofs.Balance.{same_bundle_is}
use Rattle.bundle_match.specs.declared.queues.Offer.{Offer}
use Rattle.bundle_match.specs.declared.auction.Trade.{Trade}
use Rattle.bundle_match.specs.Auction.{place_on, amount_at, fill_at}
use Rattle.bundle_match.specs.Laws.{match_of, MatchIsBalanced}
use Rattle.bundle_match.specs.Match.{trades_of, fill_of, fills_from}
use Rattle.bundle_match.specs.Queue.{is_on, belongs, offer_of, offers_from, queue_of}
use Rattle.bundle_match.proofs.InLine.{Each-in_line}
use Rattle.bundle_match.proofs.Parted.{filled-cons}
use Rattle.bundle_match.proofs.Turns.{Each-fill_first, of_auction}

amount_elsewhere : (side : Side) (k : ℕ) (t : Trade) → (place_on side t ≡ k → ⊥) → amount_at side k t ≡ 0
amount_elsewhere side k t other = let e : (place_on side t == k) ≡ false = grind (arith, nat_tests) in ap (λ b. if b then t.amount else 0) e

amount_here : (side : Side) (k : ℕ) (t : Trade) → place_on side t ≡ k → amount_at side k t ≡ t.amount
amount_here side k t is = let e : (place_on side t == k) ≡ true = grind (arith, nat_tests) in ap (λ b. if b then t.amount else 0) e

total : List Trade → ℕ
total [] = 0
total (t ∷ ts) = t.amount + total ts

-- an amount, if an order on the second side is one on the first
abbrev taken : Side → Side → ℕ → ℕ
taken Buy side amount = if_buy side amount
taken Sell side amount = if_sell side amount

term : (side other : Side) (same : Bool) (f g : ℕ) → (other ≡ side → same ≡ true → f ≡ g) → (one_if same *ℤ pos (taken side other f)) ≡ pos (if is_on side other && same then g else 0)
term Buy Buy true f g h = omega (arith, ints, h refl refl)
term Sell Sell true f g h = omega (arith, ints, h refl refl)
term Buy Sell true f g h = omega (arith, ints)
term Sell Buy true f g h = omega (arith, ints)
term Buy Buy false f g h = omega (arith, ints, products)
term Sell Sell false f g h = omega (arith, ints, products)
term Buy Sell false f g h = omega (arith, ints, products)
term Sell Buy false f g h = omega (arith, ints, products)

module _ (orders : List Order) (bundle : List BundleLeg) where
  -- an order of the bundle on the side stands at the place
  abbrev IsAt : Side → ℕ → Type 0
  IsAt side place = (o : Order) × (slice_get orders place ≡ Some o) × (belongs side bundle o ≡ true)

  offers_at : (side : Side) (place : ℕ) (rest : List Order) → ((i k : ℕ) (o : Order) → k ≡ place + i → slice_get rest i ≡ Some o → slice_get orders k ≡ Some o)
      → AllByRecursion (λ x. IsAt side x.place) (offers_from side bundle place rest)
  offers_at side place [] h = tt
  offers_at side place (o ∷ rest) h =
      let P : Offer → Type 0 = λ x. IsAt side x.place in
      let later = offers_at side (place + 1) rest (λ i k p is at. h (suc i) k p (omega (arith, is)) at) in
      let Q : Bool → Type 0 = λ b. belongs side bundle o ≡ b → AllByRecursion P (if b then offer_of place o ∷ offers_from side bundle (place + 1) rest else offers_from side bundle (place + 1) rest) in
      (elim (belongs side bundle o) as Q [ true ↦ λ e. ((o, h zero place o (omega arith) refl, e), later) | false ↦ λ _. later ]) refl

  queue_at : (side : Side) → AllByRecursion (λ x. IsAt side x.place) (queue_of side bundle orders)
  queue_at side =
      Each-in_line side (λ x. IsAt side x.place) (offers_from side bundle 0 orders)
      (offers_at side 0 orders (λ i k o is at. ap (slice_get orders) (let e : k ≡ i = omega (arith, is) in e) ∙ at))

  abbrev AreAt : List Trade → Type 0
  AreAt trades = AllByRecursion (λ t. IsAt Buy t.buy × IsAt Sell t.sell) trades

  trades_at : AreAt (trades_of orders bundle)
  trades_at =
      of_auction (λ buys sells trades. AllByRecursion (λ x. IsAt Buy x.place) buys → AllByRecursion (λ x. IsAt Sell x.place) sells → AreAt trades)
      (λ sells b s. tt) (λ buy buys b s. tt) (λ buy sell buys sells le b s. tt)
      (λ buy sell buys sells later lt rest b s. (
        (b.0, s.0),
        rest (Each-fill_first (λ x. IsAt Buy x.place) (λ x n h. h) _ (buy ∷ buys) b) (Each-fill_first (λ x. IsAt Sell x.place) (λ x n h. h) _ (sell ∷ sells) s),
      ))
      (queue_of Buy bundle orders) (queue_of Sell bundle orders) (queue_at Buy) (queue_at Sell)

  -- what trades fill of the orders of the bundle on a side
  abbrev share : Side → List Trade → ℕ → List Order → ℕ
  share side ts place [] = 0
  share side ts place (o ∷ rest) = (if belongs side bundle o then fill_at side place ts else 0) + share side ts (place + 1) rest

  share-none : (side : Side) (place : ℕ) (rest : List Order) → share side [] place rest ≡ 0
  share-none side place [] = refl
  share-none side place (o ∷ rest) =
      let later = share-none side (place + 1) rest in
      elim (belongs side bundle o) as (λ b. (if b then 0 else 0) + share side [] (place + 1) rest ≡ 0) [ true ↦ omega (arith, later) | false ↦ omega (arith, later) ]

  share_before : (side : Side) (t : Trade) (ts : List Trade) (place : ℕ) (rest : List Order) → place_on side t < place → share side (t ∷ ts) place rest ≡ share side ts place rest
  share_before side t ts place [] lt = refl
  share_before side t ts place (o ∷ rest) lt =
      let here : fill_at side place (t ∷ ts) ≡ fill_at side place ts = omega (arith, filled-cons side place t ts, amount_elsewhere side place t (λ e. omega (arith, e, lt))) in
      ap₂ (λ n m. (if belongs side bundle o then n else 0) + m) here (share_before side t ts (place + 1) rest (omega (arith, lt)))

  share_at : (side : Side) (t : Trade) (ts : List Trade) (place i : ℕ) (rest : List Order) (o : Order) → place_on side t ≡ place + i → slice_get rest i ≡ Some o → belongs side bundle o ≡ true
      → share side (t ∷ ts) place rest ≡ t.amount + share side ts place rest
  share_at side t ts place i [] o is at own = cc
  share_at side t ts place zero (p ∷ rest) o is at own =
      let e : belongs side bundle p ≡ true = ap (belongs side bundle) (let same : p ≡ o = cc in same) ∙ own in
      let here = filled-cons side place t ts in
      let amount = amount_here side place t (omega (arith, is)) in
      rw e (omega (arith, here, amount, share_before side t ts (place + 1) rest (omega (arith, is))))
  share_at side t ts place (suc i) (p ∷ rest) o is at own =
      let here : fill_at side place (t ∷ ts) ≡ fill_at side place ts = omega (arith, filled-cons side place t ts, amount_elsewhere side place t (λ e. omega (arith, e, is))) in
      let later = share_at side t ts (place + 1) i rest o (omega (arith, is)) at own in
      let first : (if belongs side bundle p then fill_at side place (t ∷ ts) else 0) ≡ (if belongs side bundle p then fill_at side place ts else 0) = ap (λ n. if belongs side bundle p then n else 0) here in
      omega (arith, first, later)

  at_side : (side : Side) (t : Trade) → IsAt Buy t.buy × IsAt Sell t.sell → IsAt side (place_on side t)
  at_side Buy t h = h.0
  at_side Sell t h = h.1

  share_is : (side : Side) (ts : List Trade) → AreAt ts → share side ts 0 orders ≡ total ts
  unfolding total
  share_is side [] h = share-none side 0 orders
  share_is side (t ∷ ts) h =
      let there = at_side side t h.0 in
      omega (arith, share_at side t ts 0 (place_on side t) orders there.0 (omega arith) there.1 there.2, share_is side ts h.1)

  sum_is : (side : Side) (place : ℕ) (rest : List Order)
      → weigh_ℤ (λ (fill : Filled). taken side fill.0.side fill.1) (λ (fill : Filled). one_if (is_same_bundle (bundle_of fill.0) bundle)) (zip rest (fills_from orders place rest)) ≡ pos (share side (trades_of orders bundle) place rest)
  sum_is side place [] = refl
  sum_is side place (o ∷ rest) =
      let here = term side o.side (is_same_bundle (bundle_of o) bundle) (fill_of orders place o) (fill_at side place (trades_of orders bundle))
      (λ on same. ap₂ (λ s b. fill_at s place (trades_of orders b)) on (same_bundle_is (bundle_of o) bundle same)) in
      omega (arith, ints, here, sum_is side (place + 1) rest)

  pub balance : balance_of bundle (match_of orders) ≡ pos 0
  balance =
      let bought = sum_is Buy 0 orders in
      let sold = sum_is Sell 0 orders in
      omega (arith, ints, bought, sold, share_is Buy (trades_of orders bundle) trades_at, share_is Sell (trades_of orders bundle) trades_at)

pub match_is_balanced : MatchIsBalanced
match_is_balanced orders k d lt = balance orders (bundle_of (get_or (match_of orders) k d).0)
