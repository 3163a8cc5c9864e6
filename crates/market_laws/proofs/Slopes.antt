-- The line through an optimum, whose slope is the order's fill, is nowhere above the greatest
-- surplus.
use Rattle.std.proofs.Common.{◌≡◌, ℕ, zero, suc, ◌+◌, ◌*◌, ◌-◌, ◌≤◌, List, [], ◌∷◌, ◌++◌, length, length-append, arith, zip, ℤ, pos, neg_ℤ, ◌+ℤ◌, ◌-ℤ◌, ◌*ℤ◌, ◌≤ℤ◌, refl, ap, subst, ◌∙◌}
use Rattle.std.proofs.lemmas.Int.{ints}
use native.Mathlib.Nat.{mul-le-mul_left}
use Rattle.arithmetic.specs.Sums.{weigh_ℤ}
use Rattle.exact_num.specs.Fraction.{Fraction, IsDefined, AtMost}
use Rattle.form.specs.declared.orders.Side.{Side}
use Rattle.form.specs.declared.orders.Side.TheVariants.{Buy, Sell}
use Rattle.form.specs.declared.orders.Order.{Order}
use Rattle.clearing_model.specs.Clearing.{Filled, bought, sold, if_buy, if_sell, for_side, net, premium, IsGreatest}
use Rattle.arithmetic.proofs.Integers.{*ℤ_mono, *ℤ_cancel_le}
use Rattle.arithmetic.proofs.Products.{products}
use Rattle.arithmetic.proofs.Ring.{ring, V, K, ◌⊕◌, ◌⊖◌, ◌⊗◌}
use Rattle.market_laws.specs.Limits.{at_price, FillsCoverAt}
use Rattle.market_laws.specs.Slopes.{earned_more, FillsCoverAlongLines, GreatestIsAboveLines, GreatestIsConvex}
use Rattle.market_laws.proofs.Limits.{net_kept, fills_kept}

-- a sum over fills, where one order is another
weigh_moved : (c : Filled → ℕ) (f : Filled → ℤ) (o q : Order) (front back : List Order) (before after : List ℕ) (a : ℕ) → length before ≡ length front
    → weigh_ℤ c f (zip (front ++ q ∷ back) (before ++ a ∷ after))
    ≡ weigh_ℤ c f (zip (front ++ o ∷ back) (before ++ a ∷ after)) +ℤ ((f (q, a) *ℤ pos (c (q, a))) -ℤ (f (o, a) *ℤ pos (c (o, a))))
weigh_moved c f o q [] back [] after a len = omega (arith, ints)
weigh_moved c f o q [] back (b ∷ before) after a len = absurd (omega arith)
weigh_moved c f o q (p ∷ front) back [] after a len = absurd (omega arith)
weigh_moved c f o q (p ∷ front) back (b ∷ before) after a len = omega (arith, ints, weigh_moved c f o q front back before after a (omega arith))

-- the amount of one order is bought or sold
for_one : (side : Side) (p q a : ℕ)
    → ((pos q *ℤ pos (if_buy side a)) -ℤ (pos p *ℤ pos (if_buy side a))) -ℤ ((pos q *ℤ pos (if_sell side a)) -ℤ (pos p *ℤ pos (if_sell side a)))
    ≡ earned_more side p q a
for_one Buy p q a = omega (arith, ints, products)
for_one Sell p q a = omega (arith, ints, products)

premium_moved : (o : Order) (price : ℕ) (front back : List Order) (before after : List ℕ) (a : ℕ) → length before ≡ length front
    → premium (zip (front ++ at_price o price ∷ back) (before ++ a ∷ after))
    ≡ premium (zip (front ++ o ∷ back) (before ++ a ∷ after)) +ℤ earned_more o.side o.price price a
premium_moved o price front back before after a len =
    let f : Filled → ℤ = λ (fill : Filled). pos fill.0.price in
    let b = weigh_moved bought f o (at_price o price) front back before after a len in
    let s = weigh_moved sold f o (at_price o price) front back before after a len in
    omega (arith, ints, b, s, for_one o.side o.price price a)

-- what is covered is on the line too
along : (s v P N e : ℤ) (d w t F : ℕ) → 1 ≤ d
    → v *ℤ pos (d * F) ≡ (s *ℤ pos F +ℤ e *ℤ pos d) *ℤ pos w
    → (s *ℤ pos (F * t)) ≤ℤ (pos d *ℤ (P *ℤ pos t -ℤ N))
    → (v *ℤ pos (F * t)) ≤ℤ (pos w *ℤ ((P +ℤ e) *ℤ pos t -ℤ N))
along s v P N e d w t F one line h =
    let left : (v *ℤ (pos F *ℤ pos t)) *ℤ pos d ≡ (v *ℤ (pos d *ℤ pos F)) *ℤ pos t =
    ring (v ∷ pos F ∷ pos t ∷ pos d ∷ []) ((V 0 ⊗ (V 1 ⊗ V 2)) ⊗ V 3) ((V 0 ⊗ (V 3 ⊗ V 1)) ⊗ V 2) refl in
    let middle = ap (λ x. x *ℤ pos t) line in
    let right : ((s *ℤ pos F +ℤ e *ℤ pos d) *ℤ pos w) *ℤ pos t ≡ (s *ℤ (pos F *ℤ pos t)) *ℤ pos w +ℤ ((pos w *ℤ (e *ℤ pos t)) *ℤ pos d) =
    ring (s ∷ pos F ∷ e ∷ pos d ∷ pos w ∷ pos t ∷ []) (((V 0 ⊗ V 1 ⊕ V 2 ⊗ V 3) ⊗ V 4) ⊗ V 5) ((V 0 ⊗ (V 1 ⊗ V 5)) ⊗ V 4 ⊕ (V 4 ⊗ (V 2 ⊗ V 5)) ⊗ V 3) refl in
    let more = *ℤ_mono w (s *ℤ pos (F * t)) (pos d *ℤ (P *ℤ pos t -ℤ N)) h in
    let whole : ((pos d *ℤ (P *ℤ pos t -ℤ N)) *ℤ pos w) +ℤ ((pos w *ℤ (e *ℤ pos t)) *ℤ pos d) ≡ (pos w *ℤ ((P +ℤ e) *ℤ pos t -ℤ N)) *ℤ pos d =
    ring (pos d ∷ P ∷ pos t ∷ N ∷ pos w ∷ e ∷ []) (((V 0 ⊗ (V 1 ⊗ V 2 ⊖ V 3)) ⊗ V 4) ⊕ ((V 4 ⊗ (V 5 ⊗ V 2)) ⊗ V 0)) ((V 4 ⊗ ((V 1 ⊕ V 5) ⊗ V 2 ⊖ V 3)) ⊗ V 0) refl in
    *ℤ_cancel_le d (v *ℤ pos (F * t)) (pos w *ℤ ((P +ℤ e) *ℤ pos t -ℤ N)) one (omega (arith, ints, left, middle, right, more, whole))

pub fills_cover_along_lines : FillsCoverAlongLines
fills_cover_along_lines n front back o price before after a F S T len defined line (fills, covers) = (
  fills_kept o price front back (before ++ a ∷ after) F fills,
  λ t s one size.
      let g = before ++ a ∷ after in
      let there = along S.numerator T.numerator (premium (zip (front ++ o ∷ back) g)) (net (zip (front ++ o ∷ back) g) (t ∷ s)) (earned_more o.side o.price price a)
      S.denominator T.denominator t F defined line (covers t s one size) in
      rw (premium_moved o price front back before after a len, net_kept o price front back g (t ∷ s)) there,
)

pub greatest_is_above_lines : GreatestIsAboveLines
greatest_is_above_lines n front back o price before after a F S T R len S_defined T_defined line covers greatest =
    let there = fills_cover_along_lines n front back o price before after a F S T len S_defined line covers in
    greatest.2 (before ++ a ∷ after) F T T_defined there.0 there.1

-- the amount of one order among those of all
record Among (k : ℕ) (g : List ℕ) : Type 0 where
  before : List ℕ
  amount : ℕ
  after : List ℕ
  is : g ≡ before ++ amount ∷ after
  len : length before ≡ k

among : (k m : ℕ) (g : List ℕ) → length g ≡ k + suc m → Among k g
among zero m [] e = absurd (omega arith)
among zero m (a ∷ g) e = record { before = []; amount = a; after = g; is = refl; len = refl }
among (suc k) m [] e = absurd (omega arith)
among (suc k) m (b ∷ g) e =
    let rest = among k m g (omega arith) in
    record { before = b ∷ rest.before; amount = rest.amount; after = rest.after; is = ap (λ g. b ∷ g) rest.is; len = ap suc rest.len }

-- the amount, with a minus for a sell
abbrev slope_of : Side → ℕ → ℤ
slope_of side a = for_side side (pos a)

-- at a lower limit that much less is earned, and at a higher one more
gap_below : (p q : ℕ) → p ≤ q → pos p -ℤ pos q ≡ neg_ℤ (pos (q - p))
gap_below p q le = omega (arith, ints)

gap_above : (q r : ℕ) → q ≤ r → pos r -ℤ pos q ≡ pos (r - q)
gap_above q r le = omega (arith, ints)

lower : (side : Side) (p q a : ℕ) → p ≤ q → earned_more side q p a ≡ pos 0 -ℤ (pos (q - p) *ℤ slope_of side a)
lower Buy p q a le = rw (gap_below p q le) (omega (arith, ints, products))
lower Sell p q a le = rw (gap_below p q le) (omega (arith, ints, products))

higher : (side : Side) (q r a : ℕ) → q ≤ r → earned_more side q r a ≡ pos (r - q) *ℤ slope_of side a
higher Buy q r a le = rw (gap_above q r le) refl
higher Sell q r a le = rw (gap_above q r le) (omega (arith, ints, products))

-- two lines with one slope through the same point
joined : (A B F x y z : ℕ) (s u v w : ℤ) → 1 ≤ F
    → ((u *ℤ pos F +ℤ (pos 0 -ℤ (pos B *ℤ s)) *ℤ pos y) *ℤ pos x) ≤ℤ (v *ℤ pos (y * F))
    → ((u *ℤ pos F +ℤ (pos A *ℤ s) *ℤ pos y) *ℤ pos z) ≤ℤ (w *ℤ pos (y * F))
    → ((pos (A + B) *ℤ u) *ℤ pos (x * z)) ≤ℤ (((pos A *ℤ v) *ℤ pos z +ℤ (pos B *ℤ w) *ℤ pos x) *ℤ pos y)
joined A B F x y z s u v w one low high =
    let one_side = *ℤ_mono (A * z) ((u *ℤ pos F +ℤ (pos 0 -ℤ (pos B *ℤ s)) *ℤ pos y) *ℤ pos x) (v *ℤ pos (y * F)) low in
    let other_side = *ℤ_mono (B * x) ((u *ℤ pos F +ℤ (pos A *ℤ s) *ℤ pos y) *ℤ pos z) (w *ℤ pos (y * F)) high in
    let r = pos A ∷ pos B ∷ pos F ∷ pos x ∷ pos y ∷ pos z ∷ s ∷ u ∷ v ∷ w ∷ [] in
    let left = ring r
    (((V 7 ⊗ V 2 ⊕ (K (pos 0) ⊖ V 1 ⊗ V 6) ⊗ V 4) ⊗ V 3) ⊗ (V 0 ⊗ V 5) ⊕ ((V 7 ⊗ V 2 ⊕ (V 0 ⊗ V 6) ⊗ V 4) ⊗ V 5) ⊗ (V 1 ⊗ V 3))
    ((((V 0 ⊕ V 1) ⊗ V 7) ⊗ (V 3 ⊗ V 5)) ⊗ V 2) refl in
    let right = ring r
    ((V 8 ⊗ (V 4 ⊗ V 2)) ⊗ (V 0 ⊗ V 5) ⊕ (V 9 ⊗ (V 4 ⊗ V 2)) ⊗ (V 1 ⊗ V 3))
    ((((V 0 ⊗ V 8) ⊗ V 5 ⊕ (V 1 ⊗ V 9) ⊗ V 3) ⊗ V 4) ⊗ V 2) refl in
    *ℤ_cancel_le F ((pos (A + B) *ℤ u) *ℤ pos (x * z)) (((pos A *ℤ v) *ℤ pos z +ℤ (pos B *ℤ w) *ℤ pos x) *ℤ pos y) one
    (omega (arith, ints, one_side, other_side, left, right))

-- the line of an optimum, over one denominator
abbrev on_line : Order → ℕ → ℕ → ℕ → Fraction → Fraction
on_line o price a F S = record { numerator = S.numerator *ℤ pos F +ℤ earned_more o.side o.price price a *ℤ pos S.denominator; denominator = S.denominator * F }

below : (n : ℕ) (front back : List Order) (o : Order) (price : ℕ) (before after : List ℕ) (a F : ℕ) (S R : Fraction) → length before ≡ length front → IsDefined S → 1 ≤ F
    → FillsCoverAt n (front ++ o ∷ back) (before ++ a ∷ after) F S → IsGreatest n (front ++ at_price o price ∷ back) R → AtMost (on_line o price a F S) R
below n front back o price before after a F S R len defined one covers greatest =
    greatest_is_above_lines n front back o price before after a F S (on_line o price a F S) R len defined (omega (arith, mul-le-mul_left S.denominator one)) refl covers greatest

pub greatest_is_convex : GreatestIsConvex
greatest_is_convex n front back o p q r low high P Q R at_p at_q at_r =
    let found = at_q.1 in
    let g = found.0 in
    let F = found.1 in
    let here = at_price o q in
    let cut = among (length front) (length back) g (found.2.1 ∙ length-append front (here ∷ back)) in
    let covers : FillsCoverAt n (front ++ here ∷ back) (cut.before ++ cut.amount ∷ cut.after) F Q = subst (λ g. FillsCoverAt n (front ++ here ∷ back) g F Q) cut.is (found.2, found.3) in
    let one = found.2.0 in
    let first = rw (lower o.side p q cut.amount low) at (below n front back here p cut.before cut.after cut.amount F Q P cut.len at_q.0 one covers at_p) in
    let second = rw (higher o.side q r cut.amount high) at (below n front back here r cut.before cut.after cut.amount F Q R cut.len at_q.0 one covers at_r) in
    let both = joined (r - q) (q - p) F P.denominator Q.denominator R.denominator (slope_of o.side cut.amount) Q.numerator P.numerator R.numerator one first second in
    let e : (r - q) + (q - p) ≡ r - p = omega arith in
    rw (e) at both
