-- Weak duality: every surplus that fills cover is at most the bound of every measure.
use Rattle.std.proofs.Common.{◌≡◌, ℕ, zero, suc, ◌+◌, ◌*◌, ◌≤◌, List, [], ◌∷◌, length, map, arith, All, zip, ℤ, pos, ◌+ℤ◌, ◌-ℤ◌, ◌*ℤ◌, refl, ap, sym, ◌∙◌}
use Rattle.std.proofs.lemmas.Int.{ints}
use Rattle.std.proofs.lemmas.List.Elements.{All-cons, All-head, All-nil, All-tail}
use native.Mathlib.Nat.{mul-le-mul_left, mul-le-mul_right, le_of_mul-le-mul_left}
use borrow.Author.Differences.{up, down}
use Rattle.arithmetic.specs.Sums.{weigh}
use Rattle.form.specs.declared.orders.Side.{Side}
use Rattle.form.specs.declared.orders.Side.TheVariants.{Buy, Sell}
use Rattle.form.specs.declared.orders.Order.{Order}
use Rattle.exact_num.specs.Fraction.{Fraction, IsDefined}
use Rattle.form.specs.Payoff.{IsState, scale_of, positive_part, payoff, BundleLeg, over_legs, bundle_of, bundle_payoff}
use Rattle.clearing_model.specs.Clearing.{Filled, if_buy, if_sell, AreFills, Covers}
use Rattle.clearing_model.specs.Legs.{filled_leg, legs_of}
use Rattle.clearing_model.specs.Measure.{WeightedState, mass_of, IsWeighted, IsMeasure, price_of, gain, bound_of}
use Rattle.market_laws.specs.Laws.{WeakDuality, ProvedIsGreatest}
use Rattle.arithmetic.proofs.Integers.{*ℤ_mono}
use Rattle.arithmetic.proofs.Products.{products}
use Rattle.arithmetic.proofs.Parts.{positive_part_above, part_above}
use Rattle.arithmetic.proofs.Sums.{weigh_swap, weigh-append}
use Rattle.market_laws.proofs.Legs.{longs, shorts, long_amount, short_amount, of_option, pay, paid, got, signed, legs_of_order}
use Rattle.market_laws.proofs.Rays.{covers_nat, nothing_owed}

-- a cover holds of the weighted sum of the states
weighted : {A : Type 0} (w t b s : A → ℕ) (c e d : ℕ) (xs : List A) → All (λ x. c * t x + e * b x ≤ e * s x + d * t x) xs → c * weigh w t xs + e * weigh w b xs ≤ e * weigh w s xs + d * weigh w t xs
weighted w t b s c e d [] h = omega arith
weighted w t b s c e d (x ∷ xs) h =
    let here : c * t x + e * b x ≤ e * s x + d * t x = All-head (λ x. c * t x + e * b x ≤ e * s x + d * t x) x xs h in
    omega (arith, mul-le-mul_left (w x) here, weighted w t b s c e d xs (All-tail (λ x. c * t x + e * b x ≤ e * s x + d * t x) x xs h))

-- the cover at a state, whether a settlement or a ray
at_state : (n : ℕ) (fills : List Filled) (F : ℕ) (S : Fraction) → IsDefined S → Covers n fills F S → (z : List ℕ) → IsState n z
    → (up S.numerator * F + S.denominator * got fills) * scale_of z + S.denominator * longs (pay z) (legs_of fills) ≤ S.denominator * shorts (pay z) (legs_of fills) + (S.denominator * paid fills + down S.numerator * F) * scale_of z
at_state n fills F S defined h [] is = absurd (omega arith)
at_state n fills F S defined h (zero ∷ s) is = omega (arith, mul-le-mul_left S.denominator (nothing_owed n fills F S defined h s (omega arith)))
at_state n fills F S defined h (suc t ∷ s) is = omega (arith, covers_nat n fills F S h (suc t) s (omega arith) (omega arith))

-- the fill does not pass the order's quantity
abbrev pub IsWithin : ℕ → Filled → Type 0
IsWithin F fill = fill.1 ≤ fill.0.quantity * F

-- an order's gain is at least what its fill is worth at the price; x and y are what its legs are
-- worth, long and short
gain_is : (side : Side) (a p q F W x y : ℕ) (v : ℤ) → a ≤ q * F → pos x -ℤ pos y ≡ signed side a v
    → W * (if_buy side a * p) + y ≤ W * (if_sell side a * p) + x + F * (q * gain side (pos (p * W)) v)
gain_is Buy a p q F W x y v h e =
    let d = gain Buy (pos (p * W)) v in
    let above = *ℤ_mono a (pos (p * W) -ℤ v) (pos d) (positive_part_above (pos (p * W) -ℤ v)) in
    omega (arith, ints, products, e, above, mul-le-mul_right d h)
gain_is Sell a p q F W x y v h e =
    let d = gain Sell (pos (p * W)) v in
    let above = *ℤ_mono a (v -ℤ pos (p * W)) (pos d) (positive_part_above (v -ℤ pos (p * W))) in
    omega (arith, ints, products, e, above, mul-le-mul_right d h)

-- the weight of a state with a natural weight
abbrev natural_weight : List ℕ × ℕ → ℕ
natural_weight point = point.1

-- the points of a measure, whose weights are not below 0
naturals : List WeightedState → List (List ℕ × ℕ)
naturals [] = []
naturals (point ∷ points) = (point.0, positive_part point.1) ∷ naturals points

mass_is : (n : ℕ) (points : List WeightedState) → All (IsWeighted n) points → mass_of points ≡ pos (weigh natural_weight (λ (p : List ℕ × ℕ). scale_of p.0) (naturals points))
unfolding naturals
mass_is n [] h = refl
mass_is n (point ∷ points) h =
    let here = part_above point.1 (All-head (IsWeighted n) point points h).1 in
    omega (arith, ints, ap (λ (w : ℤ). w *ℤ pos (scale_of point.0)) here, mass_is n points (All-tail (IsWeighted n) point points h))

states_are : (n : ℕ) (points : List WeightedState) → All (IsWeighted n) points → All (λ (p : List ℕ × ℕ). IsState n p.0) (naturals points)
unfolding naturals
states_are n [] h = All-nil (λ (p : List ℕ × ℕ). IsState n p.0)
states_are n (point ∷ points) h =
    All-cons (λ (p : List ℕ × ℕ). IsState n p.0) (point.0, positive_part point.1) (naturals points) (All-head (IsWeighted n) point points h).0
    (states_are n points (All-tail (IsWeighted n) point points h))

-- the price of an option, over W
value : List (List ℕ × ℕ) → List ℤ → ℕ
value points v = weigh natural_weight (λ (point : List ℕ × ℕ). payoff v point.0) points

over_legs-zero : (bundle : List BundleLeg) → over_legs (λ v. 0) bundle ≡ pos 0
over_legs-zero [] = refl
over_legs-zero (leg ∷ legs) = omega (arith, ints, over_legs-zero legs)

over_legs-linear : (f g : List ℤ → ℕ) (k : ℕ) (bundle : List BundleLeg) → over_legs (λ v. k * f v + g v) bundle ≡ (pos k *ℤ over_legs f bundle) +ℤ over_legs g bundle
over_legs-linear f g k [] = omega (arith, ints)
over_legs-linear f g k (leg ∷ legs) = omega (arith, ints, products, over_legs-linear f g k legs)

-- the price of a bundle is the sum over its legs
price_is : (n : ℕ) (points : List WeightedState) (bundle : List BundleLeg) → All (IsWeighted n) points → price_of bundle points ≡ over_legs (value (naturals points)) bundle
unfolding value naturals
price_is n [] bundle h = sym (over_legs-zero bundle)
price_is n (point ∷ points) bundle h =
    let here = part_above point.1 (All-head (IsWeighted n) point points h).1 in
    let rest = price_is n points bundle (All-tail (IsWeighted n) point points h) in
    ap (λ (w : ℤ). (w *ℤ bundle_payoff bundle point.0) +ℤ price_of bundle points) (sym here)
    ∙ ap (λ (w : ℤ). (pos (positive_part point.1) *ℤ bundle_payoff bundle point.0) +ℤ w) rest
    ∙ sym (over_legs-linear (λ v. payoff v point.0) (value (naturals points)) (positive_part point.1) bundle)

gains : (n : ℕ) (points : List WeightedState) (W F : ℕ) (orders : List Order) (g : List ℕ) → All (IsWeighted n) points → length g ≡ length orders → All (λ (fill : Filled). fill.1 ≤ fill.0.quantity * F) (zip orders g)
    → W * paid (zip orders g) + shorts (of_option (value (naturals points))) (legs_of (zip orders g)) ≤ W * got (zip orders g) + longs (of_option (value (naturals points))) (legs_of (zip orders g)) + F * bound_of orders points W
gains n points W F [] g m len h = omega arith
gains n points W F (o ∷ os) [] m len h = absurd (omega arith)
gains n points W F (o ∷ os) (a ∷ g) m len h =
    let here = map (filled_leg o.side a) (bundle_of o) in
    let rest = legs_of (zip os g) in
    let p = of_option (value (naturals points)) in
    let worth : pos (longs p here) -ℤ pos (shorts p here) ≡ signed o.side a (price_of (bundle_of o) points) =
    legs_of_order (value (naturals points)) o.side a (bundle_of o) ∙ ap (signed o.side a) (sym (price_is n points (bundle_of o) m)) in
    omega (
      arith,
      weigh-append long_amount p here rest,
      weigh-append short_amount p here rest,
      gain_is o.side a o.price o.quantity F W (longs p here) (shorts p here) (price_of (bundle_of o) points) (All-head (IsWithin F) (o, a) (zip os g) h) worth,
      gains n points W F os g m (omega arith) (All-tail (IsWithin F) (o, a) (zip os g) h),
    )

-- the sums put together, and the common factor F taken away
finish : (U V F W e p q x y bound : ℕ) → 1 ≤ F → (U * F + e * q) * W + e * x ≤ e * y + (e * p + V * F) * W → W * p + y ≤ W * q + x + F * bound → U * W ≤ e * bound + V * W
finish U V F W e p q x y bound one h k =
    let k' = mul-le-mul_left e k in
    let l : F * (U * W) ≤ F * (e * bound + V * W) = omega (arith, h, k') in
    le_of_mul-le-mul_left l one

pub duality_nat : (n : ℕ) (orders : List Order) (points : List WeightedState) (W : ℕ) → IsMeasure n points W → (g : List ℕ) (F : ℕ) → AreFills orders g F → (S : Fraction) → IsDefined S → Covers n (zip orders g) F S
    → up S.numerator * W ≤ S.denominator * bound_of orders points W + down S.numerator * W
unfolding value
duality_nat n orders points W m g F fills S defined h =
    let zs : List Filled = zip orders g in
    let legs = legs_of zs in
    let U = up S.numerator in
    let V = down S.numerator in
    let e = S.denominator in
    let p = of_option (value (naturals points)) in
    let nats = naturals points in
    let mass : weigh natural_weight (λ (p : List ℕ × ℕ). scale_of p.0) nats ≡ W = omega (arith, ints, mass_is n points m.1, m.2) in
    let sum = weighted natural_weight (λ (p : List ℕ × ℕ). scale_of p.0) (λ (p : List ℕ × ℕ). longs (pay p.0) legs) (λ (p : List ℕ × ℕ). shorts (pay p.0) legs) (U * F + e * got zs) e (e * paid zs + V * F) nats
    (λ k d lt. at_state n zs F S defined h _ (states_are n points m.1 k d lt)) in
    let l : weigh natural_weight (λ (p : List ℕ × ℕ). longs (pay p.0) legs) nats ≡ longs p legs = weigh_swap natural_weight long_amount (λ (p : List ℕ × ℕ). pay p.0) nats legs in
    let s : weigh natural_weight (λ (p : List ℕ × ℕ). shorts (pay p.0) legs) nats ≡ shorts p legs = weigh_swap natural_weight short_amount (λ (p : List ℕ × ℕ). pay p.0) nats legs in
    finish U V F W e (paid zs) (got zs) (longs p legs) (shorts p legs) (bound_of orders points W) fills.0 (rw (mass, l, s) at sum) (gains n points W F orders g m.1 fills.1 fills.2)

pub duality : WeakDuality
duality n orders points W m g F fills S defined h = omega (arith, ints, duality_nat n orders points W m g F fills S defined h)

greatest_nat : (u⁺ u⁻ v⁺ v⁻ e d W bound : ℕ) → 1 ≤ W → v⁺ * W ≤ d * bound + v⁻ * W → bound * e + u⁻ * W ≡ u⁺ * W → v⁺ * e + u⁻ * d ≤ u⁺ * d + v⁻ * e
greatest_nat u⁺ u⁻ v⁺ v⁻ e d W bound one h k =
    let h' = mul-le-mul_left e h in
    let k' = ap (λ n. d * n) k in
    let l : W * (v⁺ * e + u⁻ * d) ≤ W * (u⁺ * d + v⁻ * e) = omega (arith, h', k') in
    le_of_mul-le-mul_left l one

pub proved_is_greatest : ProvedIsGreatest
proved_is_greatest n orders g F S points W has_value fills h m proves = (
  has_value,
  (g, F, fills, h),
  λ g' F' R defined fills' h'.
      let e = S.denominator in
      let d = R.denominator in
      let p : bound_of orders points W * e + down S.numerator * W ≡ up S.numerator * W = omega (arith, ints, proves) in
      let q = greatest_nat (up S.numerator) (down S.numerator) (up R.numerator) (down R.numerator) e d W (bound_of orders points W) m.0 (duality_nat n orders points W m g' F' fills' R defined h') p in
      omega (arith, ints, q),
)
