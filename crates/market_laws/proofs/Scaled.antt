-- Amounts and their denominator, k times as large.
use Rattle.std.proofs.Common.{◌≡◌, ℕ, ◌*◌, ◌≤◌, List, ◌∷◌, map, zip, arith, ℤ, pos, ◌-ℤ◌, ◌*ℤ◌, ◌≤ℤ◌, refl}
use Rattle.std.proofs.lemmas.Int.{ints}
use Rattle.form.specs.declared.orders.Side.{Side}
use Rattle.form.specs.declared.orders.Side.TheVariants.{Buy, Sell}
use Rattle.form.specs.declared.orders.Order.{Order}
use Rattle.form.specs.Payoff.{bundle_of, bundle_payoff}
use Rattle.clearing_model.specs.Clearing.{bought, sold, if_buy, if_sell, buys_less_sells, net, premium}
use Rattle.market_laws.specs.Laws.{CoverIsOfFractions}
use Rattle.arithmetic.proofs.Integers.{*ℤ_cancel_le, *ℤ_mono}
use Rattle.arithmetic.proofs.Products.{products}
use Rattle.arithmetic.proofs.Sums.{weigh_ℤ-scale}

if_buy-scale : (side : Side) (k a : ℕ) → if_buy side (k * a) ≡ k * if_buy side a
if_buy-scale Buy k a = refl
if_buy-scale Sell k a = omega arith

if_sell-scale : (side : Side) (k a : ℕ) → if_sell side (k * a) ≡ k * if_sell side a
if_sell-scale Buy k a = omega arith
if_sell-scale Sell k a = refl

-- the sum over buys less that over sells
buys_less_sells-scale : (f : Order → ℤ) (k : ℕ) (os : List Order) (g : List ℕ) → buys_less_sells f (zip os (map (λ a. k * a) g)) ≡ buys_less_sells f (zip os g) *ℤ pos k
buys_less_sells-scale f k os g =
    omega (arith, ints, products, weigh_ℤ-scale bought f k (λ o a. if_buy-scale o.side k a) os g, weigh_ℤ-scale sold f k (λ o a. if_sell-scale o.side k a) os g)

pub premium-scale : (k : ℕ) (os : List Order) (g : List ℕ) → premium (zip os (map (λ a. k * a) g)) ≡ premium (zip os g) *ℤ pos k
premium-scale k os g = buys_less_sells-scale (λ o. pos o.price) k os g

pub net-scale : (k : ℕ) (os : List Order) (g : List ℕ) (z : List ℕ) → net (zip os (map (λ a. k * a) g)) z ≡ net (zip os g) z *ℤ pos k
net-scale k os g z = buys_less_sells-scale (λ o. bundle_payoff (bundle_of o) z) k os g

descale : (p n u : ℤ) (e t F k : ℕ) → 1 ≤ k → (u *ℤ pos (k * F * t)) ≤ℤ (pos e *ℤ ((p *ℤ pos k) *ℤ pos t -ℤ n *ℤ pos k)) → (u *ℤ pos (F * t)) ≤ℤ (pos e *ℤ (p *ℤ pos t -ℤ n))
descale p n u e t F k one h =
    let x = p *ℤ pos t -ℤ n in
    let same : (p *ℤ pos k) *ℤ pos t -ℤ n *ℤ pos k ≡ x *ℤ pos k = omega (arith, ints, products) in
    *ℤ_cancel_le k (u *ℤ pos (F * t)) (pos e *ℤ x) one (scaled x (rw same at h))
  where
    scaled : (x : ℤ) → (u *ℤ pos (k * F * t)) ≤ℤ (pos e *ℤ (x *ℤ pos k)) → ((u *ℤ pos (F * t)) *ℤ pos k) ≤ℤ ((pos e *ℤ x) *ℤ pos k)
    scaled x h = omega (arith, ints, products, h)

rescale : (p n u : ℤ) (e t F k : ℕ) → (u *ℤ pos (F * t)) ≤ℤ (pos e *ℤ (p *ℤ pos t -ℤ n)) → (u *ℤ pos (k * F * t)) ≤ℤ (pos e *ℤ ((p *ℤ pos k) *ℤ pos t -ℤ n *ℤ pos k))
rescale p n u e t F k h =
    let x = p *ℤ pos t -ℤ n in
    let same : (p *ℤ pos k) *ℤ pos t -ℤ n *ℤ pos k ≡ x *ℤ pos k = omega (arith, ints, products) in
    rw same (scaled x (*ℤ_mono k (u *ℤ pos (F * t)) (pos e *ℤ x) h))
  where
    scaled : (x : ℤ) → ((u *ℤ pos (F * t)) *ℤ pos k) ≤ℤ ((pos e *ℤ x) *ℤ pos k) → (u *ℤ pos (k * F * t)) ≤ℤ (pos e *ℤ (x *ℤ pos k))
    scaled x h = omega (arith, ints, products, h)

pub cover_is_of_fractions : CoverIsOfFractions
cover_is_of_fractions n os g F k S one =
    let p = premium (zip os g) in (
      λ h t s t1 len. descale p (net (zip os g) (t ∷ s)) S.numerator S.denominator t F k one
          (rw (premium-scale k os g, net-scale k os g (t ∷ s)) at (h t s t1 len)),
      λ h t s t1 len. rw (premium-scale k os g, net-scale k os g (t ∷ s))
          (rescale p (net (zip os g) (t ∷ s)) S.numerator S.denominator t F k (h t s t1 len)),
    )
