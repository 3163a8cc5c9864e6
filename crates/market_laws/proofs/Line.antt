-- A line cover holds at every state. A state lies between two at which the cover holds; the two are
-- moved together, order by order, until no payoff bends between them, and there the net is linear.
use Rattle.std.proofs.Common.{◌≡◌, ℕ, zero, suc, ◌+◌, ◌-◌, ◌*◌, ◌≤◌, ◌⊎◌, inl, inr, List, [], ◌∷◌, ◌++◌, map, get_or, nat_abs, arith, ℤ, pos, negsuc, neg_ℤ, ◌+ℤ◌, ◌*ℤ◌, ◌≤ℤ◌, ◌<ℤ◌, All, refl, ap, sym, subst, ◌∙◌}
use Rattle.std.proofs.lemmas.Int.{ints}
use Rattle.std.proofs.lemmas.Bool.{cases_lt}
use Rattle.std.proofs.lemmas.List.Elements.{All-head, All-tail}
use native.Mathlib.Nat.{mul-le-mul_left, le_of_mul-le-mul_left}
use borrow.Author.Differences.{up, down}
use Rattle.arithmetic.specs.Sums.{weigh}
use Rattle.form.specs.declared.orders.Side.{Side}
use Rattle.form.specs.declared.orders.Side.TheVariants.{Buy, Sell}
use Rattle.form.specs.Vector.{strike_entry}
use Rattle.form.specs.Payoff.{dot, positive_part, payoff, BundleLeg, bundle_of, bundle_payoff}
use Rattle.clearing_model.specs.Clearing.{Filled, SignedFill, as_signed, for_side, net, signed_net}
use Rattle.clearing_model.specs.Legs.{FilledLeg, filled_leg, legs_of}
use Rattle.clearing_model.specs.Line.{weight_entry, HoldsAtPrice, HoldsAtBreak, HoldsAtBreaks}
use Rattle.market_laws.specs.Laws.{LineCoversHold, HoldsAtMultiples}
use Rattle.arithmetic.proofs.Integers.{*ℤ_mono, *ℤ_cancel_le, neg_ℤ-*ℤ}
use Rattle.arithmetic.proofs.Products.{products}
use Rattle.arithmetic.proofs.Parts.{part_above, part_below}
use Rattle.arithmetic.proofs.Sums.{weigh_same}
use Rattle.market_laws.proofs.Payoff.{bundle_payoff-scale}
use Rattle.market_laws.proofs.Legs.{longs, shorts, long_amount, short_amount, net_is, signed_sums_agree}

-- the scalar product of (a, b) and (t, s)
abbrev pub at : ℤ → ℤ → ℕ → ℕ → ℤ
at a b t s = (a *ℤ pos t) +ℤ (b *ℤ pos s)

pub at_combined : (a b : ℤ) (i j t s t' s' : ℕ) → at a b (i * t + j * t') (i * s + j * s') ≡ (at a b t s *ℤ pos i) +ℤ (at a b t' s' *ℤ pos j)
at_combined a b i j t s t' s' =
    omega (arith, ints, products)

dot-pair : (v : List ℤ) (t s : ℕ) → dot v (t ∷ s ∷ []) ≡ at (get_or v 0 (pos 0)) (get_or v 1 (pos 0)) t s
dot-pair [] t s = omega (arith, ints)
dot-pair (a ∷ []) t s = omega (arith, ints)
dot-pair (a ∷ b ∷ []) t s = omega (arith, ints)
dot-pair (a ∷ b ∷ c ∷ v) t s = omega (arith, ints)

-- both values on one side of 0
abbrev pub Agree : ℤ → ℤ → Type 0
Agree x y = ((pos 0 ≤ℤ x) × (pos 0 ≤ℤ y)) ⊎ ((x ≤ℤ pos 0) × (y ≤ℤ pos 0))

-- there the positive part is linear
pub part_combined : (x y : ℤ) (i j : ℕ) → Agree x y → positive_part ((x *ℤ pos i) +ℤ (y *ℤ pos j)) ≡ i * positive_part x + j * positive_part y
part_combined x y i j (inl h) =
    let a = part_above x h.0 in
    let b = part_above y h.1 in
    subst (λ (w : ℤ). positive_part ((w *ℤ pos i) +ℤ (y *ℤ pos j)) ≡ i * positive_part x + j * positive_part y) a
    (subst (λ (w : ℤ). positive_part ((pos (positive_part x) *ℤ pos i) +ℤ (w *ℤ pos j)) ≡ i * positive_part x + j * positive_part y) b (omega arith))
part_combined x y i j (inr h) =
    let e = part_below ((x *ℤ pos i) +ℤ (y *ℤ pos j)) (omega (arith, ints, *ℤ_mono i x (pos 0) h.0, *ℤ_mono j y (pos 0) h.1)) in
    omega (arith, e, ap (λ n. i * n) (part_below x h.0), ap (λ n. j * n) (part_below y h.1))

-- what an order pays at (t, s)
pay_at : ℕ → ℕ → FilledLeg → ℕ
pay_at t s leg = positive_part (at (strike_entry leg.option) (weight_entry leg.option) t s)

pay_at_is : (t s : ℕ) (leg : FilledLeg) → payoff leg.option (t ∷ s ∷ []) ≡ pay_at t s leg
unfolding pay_at
pay_at_is t s leg = ap positive_part (dot-pair leg.option t s)

AgreesAt : ℕ → ℕ → ℕ → ℕ → FilledLeg → Type 0
AgreesAt t s t' s' leg = Agree (at (strike_entry leg.option) (weight_entry leg.option) t s) (at (strike_entry leg.option) (weight_entry leg.option) t' s')

pay_combined : (t s t' s' i j : ℕ) (leg : FilledLeg) → AgreesAt t s t' s' leg → pay_at (i * t + j * t') (i * s + j * s') leg ≡ i * pay_at t s leg + j * pay_at t' s' leg
unfolding pay_at AgreesAt
pay_combined t s t' s' i j leg h =
    ap positive_part (at_combined (strike_entry leg.option) (weight_entry leg.option) i j t s t' s')
    ∙ part_combined (at (strike_entry leg.option) (weight_entry leg.option) t s) (at (strike_entry leg.option) (weight_entry leg.option) t' s') i j h

-- P of each item, by recursion
abbrev pub Each : {A : Type 0} → (A → Type 0) → List A → Type 0
Each P [] = Unit {0}
Each P (x ∷ xs) = P x × Each P xs

pub each_then : {A : Type 0} (P Q : A → Type 0) (xs : List A) → ((x : A) → P x → Q x) → Each P xs → Each Q xs
each_then P Q [] f h = tt
each_then P Q (x ∷ xs) f h = (f x h.0, each_then P Q xs f h.1)

weigh_combined : {A : Type 0} (c f g h : A → ℕ) (k i j : ℕ) (xs : List A) → Each (λ x. k * f x ≡ i * g x + j * h x) xs → k * weigh c f xs ≡ i * weigh c g xs + j * weigh c h xs
weigh_combined c f g h k i j [] e = omega arith
weigh_combined c f g h k i j (x ∷ xs) e = omega (arith, ap (λ n. c x * n) e.0, weigh_combined c f g h k i j xs e.1)

-- the cover at (t, s) without differences
Holds : List FilledLeg → ℤ → ℕ → ℕ → Type 0
Holds legs L t s = longs (pay_at t s) legs + down L * t ≤ shorts (pay_at t s) legs + up L * t

paid_at : (t s : ℕ) → FilledLeg → ℕ
paid_at t s leg = payoff leg.option (t ∷ s ∷ [])

holds_in : (fills : List Filled) (L : ℤ) (t s : ℕ) → HoldsAtPrice (as_signed fills) L t s → Holds (legs_of fills) L t s
unfolding Holds paid_at
holds_in fills L t s h =
    let legs = legs_of fills in
    omega (arith, ints, h, signed_sums_agree (λ o. bundle_payoff (bundle_of o) (t ∷ s ∷ [])) fills, net_is fills (t ∷ s ∷ []), weigh_same long_amount (paid_at t s) (pay_at t s) (pay_at_is t s) legs, weigh_same short_amount (paid_at t s) (pay_at t s) (pay_at_is t s) legs)

holds_out : (fills : List Filled) (L : ℤ) (t s : ℕ) → Holds (legs_of fills) L t s → net fills (t ∷ s ∷ []) ≤ℤ (L *ℤ pos t)
unfolding Holds paid_at
holds_out fills L t s h =
    let legs = legs_of fills in
    omega (arith, ints, h, net_is fills (t ∷ s ∷ []), weigh_same long_amount (paid_at t s) (pay_at t s) (pay_at_is t s) legs, weigh_same short_amount (paid_at t s) (pay_at t s) (pay_at_is t s) legs)

-- between two states at which it holds and between which no payoff bends, it holds
holds_combined : (legs : List FilledLeg) (L : ℤ) (t s p q p' q' k i j : ℕ) → 1 ≤ k → k * t ≡ i * p + j * p'
    → Each (λ leg. k * pay_at t s leg ≡ i * pay_at p q leg + j * pay_at p' q' leg) legs
    → Holds legs L p q → Holds legs L p' q' → Holds legs L t s
unfolding Holds
holds_combined legs L t s p q p' q' k i j one e each h h' =
    let b = weigh_combined long_amount (pay_at t s) (pay_at p q) (pay_at p' q') k i j legs each in
    let d = weigh_combined short_amount (pay_at t s) (pay_at p q) (pay_at p' q') k i j legs each in
    let le : k * (longs (pay_at t s) legs + down L * t) ≤ k * (shorts (pay_at t s) legs + up L * t) =
    omega (arith, b, d, mul-le-mul_left i h, mul-le-mul_left j h', ap (λ n. down L * n) e, ap (λ n. up L * n) e) in
    le_of_mul-le-mul_left le one

pay_scaled : (k t s : ℕ) (leg : FilledLeg) → pay_at (k * t) (k * s) leg ≡ k * pay_at t s leg
unfolding pay_at
pay_scaled k t s leg =
    let a = strike_entry leg.option in
    let b = weight_entry leg.option in
    let x = at a b t s in
    let e : at a b (k * t) (k * s) ≡ (x *ℤ pos k) +ℤ (x *ℤ pos 0) = omega (arith, ints, at_combined a b k 0 t s t s) in
    ap positive_part e ∙ part_combined x x k 0 (itself x) ∙ omega arith
  where
    itself : (x : ℤ) → Agree x x
    itself (pos n) = inl (omega (arith, ints), omega (arith, ints))
    itself (negsuc n) = inr (omega (arith, ints), omega (arith, ints))

-- a form with a value above 0 and one below has entries of opposite signs
pub opposite : (a b : ℤ) (t s t' s' : ℕ) → pos 0 <ℤ at a b t s → at a b t' s' <ℤ pos 0 → (a *ℤ b) <ℤ pos 0
opposite (pos a) (pos b) t s t' s' h k = absurd (omega (arith, ints))
opposite (negsuc a) (negsuc b) t s t' s' h k = absurd (omega (arith, ints))
opposite (pos zero) (negsuc b) t s t' s' h k = absurd (omega (arith, ints))
opposite (pos (suc a)) (negsuc b) t s t' s' h k = omega (arith, ints)
opposite (negsuc a) (pos zero) t s t' s' h k = absurd (omega (arith, ints))
opposite (negsuc a) (pos (suc b)) t s t' s' h k = omega (arith, ints)

-- where it is 0, the state is on the ray of the break
pub on_break : (a b : ℤ) (t s : ℕ) → (a *ℤ b) <ℤ pos 0 → at a b t s ≡ pos 0 → (1 ≤ nat_abs b) × (nat_abs b * s ≡ t * nat_abs a)
on_break (pos a) (pos b) t s h e = absurd (omega (arith, ints))
on_break (negsuc a) (negsuc b) t s h e = absurd (omega (arith, ints))
on_break (pos a) (negsuc b) t s h e = omega (arith, ints)
on_break (negsuc a) (pos zero) t s h e = absurd (omega (arith, ints))
on_break (negsuc a) (pos (suc b)) t s h e = omega (arith, ints)

Breaks : List FilledLeg → ℤ → FilledLeg → Type 0
Breaks legs L leg = (strike_entry leg.option *ℤ weight_entry leg.option) <ℤ pos 0 → Holds legs L (nat_abs (weight_entry leg.option)) (nat_abs (strike_entry leg.option))

pub each_of_all : {A : Type 0} (P : A → Type 0) → ((x : A) → P x) → (xs : List A) → Each P xs
each_of_all P f [] = tt
each_of_all P f (x ∷ xs) = (f x, each_of_all P f xs)

holds_on_break : (legs : List FilledLeg) (L : ℤ) (leg : FilledLeg) (t s : ℕ) → Breaks legs L leg → (strike_entry leg.option *ℤ weight_entry leg.option) <ℤ pos 0 → at (strike_entry leg.option) (weight_entry leg.option) t s ≡ pos 0 → Holds legs L t s
unfolding Breaks
holds_on_break legs L leg t s breaks h e =
    let a = nat_abs (strike_entry leg.option) in
    let b = nat_abs (weight_entry leg.option) in
    let on = on_break (strike_entry leg.option) (weight_entry leg.option) t s h e in
    let same : (o : FilledLeg) → b * pay_at t s o ≡ t * pay_at b a o + 0 * pay_at b a o = λ o.
    let there : pay_at (b * t) (b * s) o ≡ pay_at (t * b) (t * a) o = rw (on.1) (ap (λ n. pay_at n (t * a) o) (omega arith)) in
    omega (arith, pay_scaled b t s o, pay_scaled t b a o, there) in
    holds_combined legs L t s b a b a b t 0 on.0 (omega arith) (each_of_all (λ o. b * pay_at t s o ≡ t * pay_at b a o + 0 * pay_at b a o) same legs) (breaks h) (breaks h)

-- a state between two at which the cover holds
record Cone (legs : List FilledLeg) (L : ℤ) (t s : ℕ) : Type 0 where
  p : ℕ
  q : ℕ
  p' : ℕ
  q' : ℕ
  k : ℕ
  i : ℕ
  j : ℕ
  one : 1 ≤ k
  first : k * t ≡ i * p + j * p'
  second : k * s ≡ i * q + j * q'
  holds : Holds legs L p q
  holds' : Holds legs L p' q'

swapped : (legs : List FilledLeg) (L : ℤ) (t s : ℕ) → Cone legs L t s → Cone legs L t s
swapped legs L t s c = record { p = c.p'; q = c.q'; p' = c.p; q' = c.q; k = c.k; i = c.j; j = c.i; one = c.one; first = omega arith; second = omega arith; holds = c.holds'; holds' = c.holds }

-- a narrower cone, at whose two ends the order agrees, and each order that agreed before
record Narrower (legs : List FilledLeg) (L : ℤ) (t s : ℕ) (old : Cone legs L t s) (leg : FilledLeg) : Type 0 where
  cone : Cone legs L t s
  here : AgreesAt cone.p cone.q cone.p' cone.q' leg
  kept : (o : FilledLeg) → AgreesAt old.p old.q old.p' old.q' o → AgreesAt cone.p cone.q cone.p' cone.q' o

pub agree_left : (x y : ℤ) (i j : ℕ) → Agree x y → Agree x ((y *ℤ pos i) +ℤ (x *ℤ pos j))
agree_left x y i j (inl h) = inl (h.0, omega (arith, ints, *ℤ_mono i (pos 0) y h.1, *ℤ_mono j (pos 0) x h.0))
agree_left x y i j (inr h) = inr (h.0, omega (arith, ints, *ℤ_mono i y (pos 0) h.1, *ℤ_mono j x (pos 0) h.0))

pub agree_right : (x y : ℤ) (i j : ℕ) → Agree x y → Agree ((y *ℤ pos i) +ℤ (x *ℤ pos j)) y
agree_right x y i j (inl h) = inl (omega (arith, ints, *ℤ_mono i (pos 0) y h.1, *ℤ_mono j (pos 0) x h.0), h.1)
agree_right x y i j (inr h) = inr (omega (arith, ints, *ℤ_mono i y (pos 0) h.1, *ℤ_mono j x (pos 0) h.0), h.1)

-- the state x * (p', q') + y * (p, q), at which the order's value is 0, parts the cone in two
pub middle_is : (a b : ℤ) (p q p' q' x y : ℕ) → at a b p q ≡ pos x → at a b p' q' ≡ neg_ℤ (pos y) → at a b (x * p' + y * p) (x * q' + y * q) ≡ pos 0
middle_is a b p q p' q' x y e e' =
    at_combined a b x y p' q' p q ∙ subst (λ (w : ℤ). (at a b p' q' *ℤ pos x) +ℤ (w *ℤ pos y) ≡ pos 0) (sym e)
    (subst (λ (w : ℤ). (w *ℤ pos x) +ℤ (pos x *ℤ pos y) ≡ pos 0) (sym e') (omega (arith, ints, neg_ℤ-*ℤ (pos y) (pos x))))

kept_left : (p q p' q' x y : ℕ) (o : FilledLeg) → AgreesAt p q p' q' o → AgreesAt p q (x * p' + y * p) (x * q' + y * q) o
unfolding AgreesAt
kept_left p q p' q' x y o h =
    let a = strike_entry o.option in
    let b = weight_entry o.option in
    subst (λ (w : ℤ). Agree (at a b p q) w) (sym (at_combined a b x y p' q' p q)) (agree_left (at a b p q) (at a b p' q') x y h)

kept_right : (p q p' q' x y : ℕ) (o : FilledLeg) → AgreesAt p q p' q' o → AgreesAt (x * p' + y * p) (x * q' + y * q) p' q' o
unfolding AgreesAt
kept_right p q p' q' x y o h =
    let a = strike_entry o.option in
    let b = weight_entry o.option in
    subst (λ (w : ℤ). Agree w (at a b p' q')) (sym (at_combined a b x y p' q' p q)) (agree_right (at a b p q) (at a b p' q') x y h)

narrow_down : (legs : List FilledLeg) (L : ℤ) (t s : ℕ) (c : Cone legs L t s) (leg : FilledLeg) → Breaks legs L leg
    → (x y : ℕ) → 1 ≤ x → 1 ≤ y → at (strike_entry leg.option) (weight_entry leg.option) c.p c.q ≡ pos x → at (strike_entry leg.option) (weight_entry leg.option) c.p' c.q' ≡ neg_ℤ (pos y)
    → Narrower legs L t s c leg
unfolding AgreesAt
narrow_down legs L t s c leg breaks x y x1 y1 ex ey =
    let a = strike_entry leg.option in
    let b = weight_entry leg.option in
    let m : ℕ = x * c.p' + y * c.p in
    let n : ℕ = x * c.q' + y * c.q in
    let at_middle : at a b m n ≡ pos 0 = middle_is a b c.p c.q c.p' c.q' x y ex ey in
    let middle : Holds legs L m n =
    holds_on_break legs L leg m n breaks (opposite a b c.p c.q c.p' c.q' (omega (arith, ints)) (omega (arith, ints))) at_middle in
    elim (cases_lt (c.i * x) (c.j * y)) [
      | inl lt ↦
          let d : ℕ = c.j * y - c.i * x in
          let e : c.j * y ≡ c.i * x + d = omega arith in
          record {
            cone = record {
              p = m;
              q = n;
              p' = c.p';
              q' = c.q';
              k = y * c.k;
              i = c.i;
              j = d;
              one = omega (arith, mul-le-mul_left y c.one);
              first = omega (arith, ap (λ w. y * w) c.first, ap (λ w. w * c.p') e);
              second = omega (arith, ap (λ w. y * w) c.second, ap (λ w. w * c.q') e);
              holds = middle;
              holds' = c.holds';
            };
            here = inr (omega (arith, ints, at_middle), omega (arith, ints, ey));
            kept = λ o h. kept_right c.p c.q c.p' c.q' x y o h;
          }
      | inr le ↦
          let d : ℕ = c.i * x - c.j * y in
          let e : c.i * x ≡ c.j * y + d = omega arith in
          record {
            cone = record {
              p = c.p;
              q = c.q;
              p' = m;
              q' = n;
              k = x * c.k;
              i = d;
              j = c.j;
              one = omega (arith, mul-le-mul_left x c.one);
              first = omega (arith, ap (λ w. x * w) c.first, ap (λ w. w * c.p) e);
              second = omega (arith, ap (λ w. x * w) c.second, ap (λ w. w * c.q) e);
              holds = c.holds;
              holds' = middle;
            };
            here = inl (omega (arith, ints, ex), omega (arith, ints, at_middle));
            kept = λ o h. kept_left c.p c.q c.p' c.q' x y o h;
          }
    ]

pub agree_swap : {x y : ℤ} → Agree x y → Agree y x
agree_swap (inl h) = inl (h.1, h.0)
agree_swap (inr h) = inr (h.1, h.0)

narrow : (legs : List FilledLeg) (L : ℤ) (t s : ℕ) (c : Cone legs L t s) (leg : FilledLeg) → Breaks legs L leg → Narrower legs L t s c leg
unfolding AgreesAt swapped
narrow legs L t s c leg breaks = go (at (strike_entry leg.option) (weight_entry leg.option) c.p c.q) (at (strike_entry leg.option) (weight_entry leg.option) c.p' c.q') refl refl
  where
    stays : Agree (at (strike_entry leg.option) (weight_entry leg.option) c.p c.q) (at (strike_entry leg.option) (weight_entry leg.option) c.p' c.q') → Narrower legs L t s c leg
    stays h = record { cone = c; here = h; kept = λ o k. k }

    go : (x y : ℤ) → at (strike_entry leg.option) (weight_entry leg.option) c.p c.q ≡ x → at (strike_entry leg.option) (weight_entry leg.option) c.p' c.q' ≡ y → Narrower legs L t s c leg
    go (pos x) (pos y) e e' = stays (inl (omega (arith, ints, e), omega (arith, ints, e')))
    go (negsuc x) (negsuc y) e e' = stays (inr (omega (arith, ints, e), omega (arith, ints, e')))
    go (pos zero) (negsuc y) e e' = stays (inr (omega (arith, ints, e), omega (arith, ints, e')))
    go (negsuc x) (pos zero) e e' = stays (inr (omega (arith, ints, e), omega (arith, ints, e')))
    go (pos (suc x)) (negsuc y) e e' = narrow_down legs L t s c leg breaks (suc x) (suc y) (omega arith) (omega arith) e e'
    go (negsuc x) (pos (suc y)) e e' =
        let r = narrow_down legs L t s (swapped legs L t s c) leg breaks (suc y) (suc x) (omega arith) (omega arith) e' e in
        record { cone = r.cone; here = r.here; kept = λ o k. r.kept o (agree_swap k) }

AgreesOn : (legs : List FilledLeg) (L : ℤ) (t s : ℕ) → Cone legs L t s → FilledLeg → Type 0
AgreesOn legs L t s c o = AgreesAt c.p c.q c.p' c.q' o

narrow_all : (legs : List FilledLeg) (L : ℤ) (t s : ℕ) (rest : List FilledLeg) → Each (Breaks legs L) rest → Cone legs L t s → (c : Cone legs L t s) × Each (AgreesOn legs L t s c) rest
unfolding AgreesOn
narrow_all legs L t s [] breaks c = (c, tt)
narrow_all legs L t s (leg ∷ rest) breaks c =
    let r = narrow_all legs L t s rest breaks.1 c in
    let n = narrow legs L t s r.0 leg breaks.0 in
    (n.cone, (n.here, each_then (AgreesOn legs L t s r.0) (AgreesOn legs L t s n.cone) rest n.kept r.1))

holds_in_cone : (legs : List FilledLeg) (L : ℤ) (t s : ℕ) (c : Cone legs L t s) → Each (AgreesOn legs L t s c) legs → Holds legs L t s
unfolding AgreesOn
holds_in_cone legs L t s c agree =
    let same : (o : FilledLeg) → AgreesOn legs L t s c o → c.k * pay_at t s o ≡ c.i * pay_at c.p c.q o + c.j * pay_at c.p' c.q' o = λ o h.
    sym (pay_scaled c.k t s o) ∙ ap (λ w. pay_at w (c.k * s) o) c.first ∙ ap (λ w. pay_at (c.i * c.p + c.j * c.p') w o) c.second ∙ pay_combined c.p c.q c.p' c.q' c.i c.j o h in
    holds_combined legs L t s c.p c.q c.p' c.q' c.k c.i c.j c.one c.first
    (each_then (AgreesOn legs L t s c) (λ o. c.k * pay_at t s o ≡ c.i * pay_at c.p c.q o + c.j * pay_at c.p' c.q' o) legs same agree) c.holds c.holds'

-- the breaks of the legs are those of the orders' bundles
each_append : {A : Type 0} (P : A → Type 0) (xs ys : List A) → Each P xs → Each P ys → Each P (xs ++ ys)
each_append P [] ys h k = k
each_append P (x ∷ xs) ys h k = (h.0, each_append P xs ys h.1 k)

breaks_of_bundle : (fills : List Filled) (L : ℤ) (side : Side) (amount : ℕ) (bundle : List BundleLeg)
    → All (λ (leg : BundleLeg). HoldsAtBreak (as_signed fills) L leg.option) bundle → Each (Breaks (legs_of fills) L) (map (filled_leg side amount) bundle)
unfolding Breaks
breaks_of_bundle fills L side amount [] h = tt
breaks_of_bundle fills L side amount (leg ∷ legs) h =
    let P : BundleLeg → Type 0 = λ leg. HoldsAtBreak (as_signed fills) L leg.option in (
      λ signs. holds_in fills L (nat_abs (weight_entry leg.option)) (nat_abs (strike_entry leg.option)) (All-head P leg legs h signs),
      breaks_of_bundle fills L side amount legs (All-tail P leg legs h),
    )

breaks_of : (fills : List Filled) (L : ℤ) (rest : List Filled) → All (HoldsAtBreaks (as_signed fills) L) (as_signed rest) → Each (Breaks (legs_of fills) L) (legs_of rest)
breaks_of fills L [] h = tt
breaks_of fills L (fill ∷ rest) h =
    let P = HoldsAtBreaks (as_signed fills) L in
    each_append (Breaks (legs_of fills) L) (map (filled_leg fill.0.side fill.1) (bundle_of fill.0)) (legs_of rest)
    (breaks_of_bundle fills L fill.0.side fill.1 (bundle_of fill.0) (All-head P (fill.0, pos fill.1) (as_signed rest) h))
    (breaks_of fills L rest (All-tail P (fill.0, pos fill.1) (as_signed rest) h))

pub line_covers_hold : LineCoversHold
line_covers_hold fills L cover [] is = absurd (omega arith)
line_covers_hold fills L cover (t ∷ []) is = absurd (omega arith)
line_covers_hold fills L cover (t ∷ s ∷ u ∷ z) is = absurd (omega arith)
line_covers_hold fills L cover (t ∷ s ∷ []) is =
    let legs = legs_of fills in
    let start : Cone legs L t s = record {
      p = 1;
      q = 0;
      p' = 0;
      q' = 1;
      k = 1;
      i = t;
      j = s;
      one = omega arith;
      first = omega arith;
      second = omega arith;
      holds = holds_in fills L 1 0 cover.0;
      holds' = holds_in fills L 0 1 cover.1;
    } in
    let r = narrow_all legs L t s legs (breaks_of fills L fills cover.2) start in
    holds_out fills L t s (holds_in_cone legs L t s r.0 r.1)

-- the net at a multiple of a state
signed_net-scale : (fills : List SignedFill) (k : ℕ) (z : List ℕ) → signed_net fills (map (λ x. k * x) z) ≡ signed_net fills z *ℤ pos k
signed_net-scale [] k z = omega (arith, ints)
signed_net-scale (fill ∷ fills) k z =
    rw (bundle_payoff-scale k (bundle_of fill.0) z) (more fill.0.side fill.1 (bundle_payoff (bundle_of fill.0) z) (signed_net fills (map (λ x. k * x) z)) (signed_net fills z) (signed_net-scale fills k z))
  where
    more : (side : Side) (a x u v : ℤ) → u ≡ v *ℤ pos k → for_side side ((x *ℤ pos k) *ℤ a) +ℤ u ≡ (for_side side (x *ℤ a) +ℤ v) *ℤ pos k
    more Buy a x u v rest = omega (arith, ints, products, rest)
    more Sell a x u v rest = omega (arith, ints, products, rest)

pub holds_at_multiples : HoldsAtMultiples
holds_at_multiples fills L k t s one =
    let scaled = signed_net-scale fills k (t ∷ s ∷ []) in
    let x = signed_net fills (t ∷ s ∷ []) in (
      λ h. *ℤ_cancel_le k x (L *ℤ pos t) one (omega (arith, ints, products, scaled, h)),
      λ h. omega (arith, ints, products, scaled, *ℤ_mono k x (L *ℤ pos t) h),
    )
