-- The greatest surplus does not fall when a bid rises or an ask falls.
use Rattle.std.proofs.Common.{◌≡◌, ℕ, ◌*◌, ◌≤◌, List, [], ◌∷◌, ◌++◌, length, length-append, arith, All, zip, ℤ, pos, ◌+ℤ◌, ◌-ℤ◌, ◌*ℤ◌, ◌≤ℤ◌, refl, ap, sym, ◌∙◌}
use Rattle.std.proofs.lemmas.Int.{ints}
use Rattle.std.proofs.lemmas.List.Elements.{All-cons, All-head, All-tail}
use Rattle.arithmetic.specs.Sums.{weigh_ℤ}
use Rattle.form.specs.declared.orders.Side.{Side}
use Rattle.form.specs.declared.orders.Side.TheVariants.{Buy, Sell}
use Rattle.form.specs.declared.orders.Order.{Order}
use Rattle.form.specs.Payoff.{bundle_of, bundle_payoff}
use Rattle.clearing_model.specs.Clearing.{Filled, bought, sold, if_buy, if_sell, net, premium, AreFills}
use Rattle.arithmetic.proofs.Integers.{*ℤ_mono, *ℤ_mono_left}
use Rattle.market_laws.specs.Limits.{at_price, IsNoWorse, BetterLimitsCover, GreatestDoesNotFall}

-- a sum over fills, where one order is another
weigh_alike : (c : Filled → ℕ) (f : Filled → ℤ) (o q : Order) → ((a : ℕ) → f (q, a) *ℤ pos (c (q, a)) ≡ f (o, a) *ℤ pos (c (o, a)))
    → (front back : List Order) (g : List ℕ) → weigh_ℤ c f (zip (front ++ q ∷ back) g) ≡ weigh_ℤ c f (zip (front ++ o ∷ back) g)
weigh_alike c f o q h [] back [] = refl
weigh_alike c f o q h [] back (a ∷ g) = ap (λ (x : ℤ). x +ℤ weigh_ℤ c f (zip back g)) (h a)
weigh_alike c f o q h (p ∷ front) back [] = refl
weigh_alike c f o q h (p ∷ front) back (a ∷ g) =
    ap (λ (x : ℤ). (f (p, a) *ℤ pos (c (p, a))) +ℤ x) (weigh_alike c f o q h front back g)

weigh_grows : (c : Filled → ℕ) (f : Filled → ℤ) (o q : Order) → ((a : ℕ) → (f (o, a) *ℤ pos (c (o, a))) ≤ℤ (f (q, a) *ℤ pos (c (q, a))))
    → (front back : List Order) (g : List ℕ) → weigh_ℤ c f (zip (front ++ o ∷ back) g) ≤ℤ weigh_ℤ c f (zip (front ++ q ∷ back) g)
weigh_grows c f o q h [] back [] = omega (arith, ints)
weigh_grows c f o q h [] back (a ∷ g) = omega (arith, ints, h a)
weigh_grows c f o q h (p ∷ front) back [] = omega (arith, ints)
weigh_grows c f o q h (p ∷ front) back (a ∷ g) = omega (arith, ints, weigh_grows c f o q h front back g)

-- what is owed is the same at each state
pub net_kept : (o : Order) (price : ℕ) (front back : List Order) (g z : List ℕ) → net (zip (front ++ at_price o price ∷ back) g) z ≡ net (zip (front ++ o ∷ back) g) z
unfolding bundle_of
net_kept o price front back g z =
    let f : Filled → ℤ = λ (fill : Filled). bundle_payoff (bundle_of fill.0) z in
    let b = weigh_alike bought f o (at_price o price) (λ a. refl) front back g in
    let s = weigh_alike sold f o (at_price o price) (λ a. refl) front back g in
    ap (λ (x : ℤ). x -ℤ weigh_ℤ sold f (zip (front ++ at_price o price ∷ back) g)) b
    ∙ ap (λ (x : ℤ). weigh_ℤ bought f (zip (front ++ o ∷ back) g) -ℤ x) s

-- what a buyer pays does not fall, and what a seller gets does not rise
pays_more : (side : Side) (p q a : ℕ) → IsNoWorse side p q → (pos p *ℤ pos (if_buy side a)) ≤ℤ (pos q *ℤ pos (if_buy side a))
pays_more Buy p q a h = *ℤ_mono a (pos p) (pos q) (omega (arith, ints, h))
pays_more Sell p q a h = omega (arith, ints)

gets_less : (side : Side) (p q a : ℕ) → IsNoWorse side p q → (pos q *ℤ pos (if_sell side a)) ≤ℤ (pos p *ℤ pos (if_sell side a))
gets_less Buy p q a h = omega (arith, ints)
gets_less Sell p q a h = *ℤ_mono a (pos q) (pos p) (omega (arith, ints, h))

premium_kept : (o : Order) (price : ℕ) → IsNoWorse o.side o.price price → (front back : List Order) (g : List ℕ)
    → premium (zip (front ++ o ∷ back) g) ≤ℤ premium (zip (front ++ at_price o price ∷ back) g)
premium_kept o price h front back g =
    let f : Filled → ℤ = λ (fill : Filled). pos fill.0.price in
    let b = weigh_grows bought f o (at_price o price) (λ a. pays_more o.side o.price price a h) front back g in
    let s = weigh_grows sold f (at_price o price) o (λ a. gets_less o.side o.price price a h) front back g in
    omega (arith, ints, b, s)

-- so what covers S still does
cover_grows : (P Q N M u : ℤ) (e t f : ℕ) → P ≤ℤ Q → M ≡ N → (u *ℤ pos f) ≤ℤ (pos e *ℤ (P *ℤ pos t -ℤ N)) → (u *ℤ pos f) ≤ℤ (pos e *ℤ (Q *ℤ pos t -ℤ M))
cover_grows P Q N M u e t f le same h =
    let paid : (P *ℤ pos t -ℤ N) ≤ℤ (Q *ℤ pos t -ℤ M) = omega (arith, ints, *ℤ_mono t P Q le, same) in
    omega (arith, ints, *ℤ_mono_left e (P *ℤ pos t -ℤ N) (Q *ℤ pos t -ℤ M) paid, h)

-- each fill is within its order's quantity
within_kept : (P : Filled → Type 0) (o q : Order) → ((a : ℕ) → P (o, a) → P (q, a)) → (front back : List Order) (g : List ℕ) → All P (zip (front ++ o ∷ back) g) → All P (zip (front ++ q ∷ back) g)
within_kept P o q h [] back [] all = all
within_kept P o q h [] back (a ∷ g) all = All-cons P (q, a) (zip back g) (h a (All-head P (o, a) (zip back g) all)) (All-tail P (o, a) (zip back g) all)
within_kept P o q h (p ∷ front) back [] all = all
within_kept P o q h (p ∷ front) back (a ∷ g) all =
    All-cons P (p, a) (zip (front ++ q ∷ back) g) (All-head P (p, a) (zip (front ++ o ∷ back) g) all)
    (within_kept P o q h front back g (All-tail P (p, a) (zip (front ++ o ∷ back) g) all))

-- they are fills of the orders whatever the limits
pub fills_kept : (o : Order) (price : ℕ) (front back : List Order) (g : List ℕ) (F : ℕ) → AreFills (front ++ o ∷ back) g F → AreFills (front ++ at_price o price ∷ back) g F
fills_kept o price front back g F fills =
    let size : length (front ++ at_price o price ∷ back) ≡ length (front ++ o ∷ back) = length-append front (at_price o price ∷ back) ∙ sym (length-append front (o ∷ back)) in (
      fills.0,
      fills.1 ∙ sym size,
      within_kept (λ (fill : Filled). fill.1 ≤ fill.0.quantity * F) o (at_price o price) (λ a h. h) front back g fills.2,
    )

pub better_limits_cover : BetterLimitsCover
better_limits_cover n front back o price better g F S (fills, covers) = (
  fills_kept o price front back g F fills,
  λ t s one len.
      cover_grows (premium (zip (front ++ o ∷ back) g)) (premium (zip (front ++ at_price o price ∷ back) g))
      (net (zip (front ++ o ∷ back) g) (t ∷ s)) (net (zip (front ++ at_price o price ∷ back) g) (t ∷ s)) S.numerator S.denominator t (F * t)
      (premium_kept o price better front back g) (net_kept o price front back g (t ∷ s)) (covers t s one len),
)

pub greatest_does_not_fall : GreatestDoesNotFall
greatest_does_not_fall n front back o price better S T s t =
    let filled = s.1 in
    let still = better_limits_cover n front back o price better filled.0 filled.1 S (filled.2, filled.3) in
    t.2 filled.0 filled.1 S s.0 still.0 still.1
