-- On one underlying, what holds at the two ends of the box and wherever a payoff bends holds of two
-- states between which a given state lies and no payoff bends: the two are moved together, option by
-- option.
use Rattle.std.proofs.Common.{◌≡◌, ℕ, zero, suc, ◌+◌, ◌-◌, ◌*◌, ◌≤◌, inl, inr, List, [], ◌∷◌, nat_abs, arith, ℤ, pos, negsuc, neg_ℤ, ◌*ℤ◌, ◌<ℤ◌, refl, ap, sym, subst}
use Rattle.std.proofs.lemmas.Int.{ints}
use Rattle.std.proofs.lemmas.Bool.{cases_lt}
use native.Mathlib.Nat.{mul-le-mul_left, le_of_mul-le-mul_left}
use Rattle.form.specs.Vector.{dot, strike_entry}
use Rattle.clearing_model.specs.Line.{weight_entry}
use Rattle.market_laws.proofs.Line.{Agree, Each, agree_left, agree_right, agree_swap, at, at_combined, each_then, middle_is, on_break, opposite}
use Rattle.limits.specs.declared.TheConstants.{MAX_SETTLEMENT_PRICE}

pub dot-pair : (v : List ℤ) (t s : ℕ) → dot v (t ∷ s ∷ []) ≡ at (strike_entry v) (weight_entry v) t s
dot-pair [] t s = omega (arith, ints)
dot-pair (a ∷ []) t s = omega (arith, ints)
dot-pair (a ∷ b ∷ []) t s = omega (arith, ints)
dot-pair (a ∷ b ∷ c ∷ v) t s = omega (arith, ints)

abbrev pub AgreesAt : ℕ → ℕ → ℕ → ℕ → List ℤ → Type 0
AgreesAt t s t' s' v = Agree (at (strike_entry v) (weight_entry v) t s) (at (strike_entry v) (weight_entry v) t' s')

-- ---- a fact about states that goes by their directions
pub record IsOfDirections (P : ℕ → ℕ → Type 0) : Type 0 where
  pub up : (k t s : ℕ) → 1 ≤ k → P t s → P (k * t) (k * s)
  pub down : (k t s : ℕ) → 1 ≤ k → P (k * t) (k * s) → P t s

-- it holds where the option's payoff bends, if that is in the box
abbrev pub HoldsAtBend : (ℕ → ℕ → Type 0) → List ℤ → Type 0
HoldsAtBend P v =
    (strike_entry v *ℤ weight_entry v) <ℤ pos 0 → nat_abs (strike_entry v) ≤ MAX_SETTLEMENT_PRICE * nat_abs (weight_entry v)
    → P (nat_abs (weight_entry v)) (nat_abs (strike_entry v))

-- a state between two of the box at which it holds
pub record Between (P : ℕ → ℕ → Type 0) (t s : ℕ) : Type 0 where
  pub p : ℕ
  pub q : ℕ
  pub p' : ℕ
  pub q' : ℕ
  pub k : ℕ
  pub i : ℕ
  pub j : ℕ
  pub one : 1 ≤ k
  pub first : k * t ≡ i * p + j * p'
  pub second : k * s ≡ i * q + j * q'
  pub some : 1 ≤ p
  pub some' : 1 ≤ p'
  pub low : q ≤ MAX_SETTLEMENT_PRICE * p
  pub low' : q' ≤ MAX_SETTLEMENT_PRICE * p'
  pub holds : P p q
  pub holds' : P p' q'

module _ (P : ℕ → ℕ → Type 0) (of_directions : IsOfDirections P) (t s : ℕ) where
  swapped : Between P t s → Between P t s
  swapped c = record {
    p = c.p';
    q = c.q';
    p' = c.p;
    q' = c.q;
    k = c.k;
    i = c.j;
    j = c.i;
    one = c.one;
    first = omega (arith, c.first);
    second = omega (arith, c.second);
    some = c.some';
    some' = c.some;
    low = c.low';
    low' = c.low;
    holds = c.holds';
    holds' = c.holds;
  }

  -- where an option's value is 0 it holds
  holds_on_bend : (v : List ℤ) (m n : ℕ) → HoldsAtBend P v → (strike_entry v *ℤ weight_entry v) <ℤ pos 0 → at (strike_entry v) (weight_entry v) m n ≡ pos 0
      → 1 ≤ m → n ≤ MAX_SETTLEMENT_PRICE * m → P m n
  holds_on_bend v m n bends signs e some low =
      let a = nat_abs (strike_entry v) in
      let b = nat_abs (weight_entry v) in
      let on = on_break (strike_entry v) (weight_entry v) m n signs e in
      let times = mul-le-mul_left b low in
      let inside : m * a ≤ m * (MAX_SETTLEMENT_PRICE * b) = omega (arith, times, on.1) in
      let there = of_directions.up m b a some (bends signs (le_of_mul-le-mul_left inside some)) in
      let turned : m * b ≡ b * m = omega arith in
      of_directions.down b m n on.0 (subst (λ (w : ℕ). P w (b * n)) turned (subst (λ (w : ℕ). P (m * b) w) (sym on.1) there))

  -- two states that are closer, at which the option agrees, and each option that agreed before
  record Closer (old : Between P t s) (v : List ℤ) : Type 0 where
    new : Between P t s
    here : AgreesAt new.p new.q new.p' new.q' v
    kept : (o : List ℤ) → AgreesAt old.p old.q old.p' old.q' o → AgreesAt new.p new.q new.p' new.q' o

  kept_left : (p q p' q' x y : ℕ) (o : List ℤ) → AgreesAt p q p' q' o → AgreesAt p q (x * p' + y * p) (x * q' + y * q) o
  kept_left p q p' q' x y o h =
      let a = strike_entry o in
      let b = weight_entry o in
      subst (λ (w : ℤ). Agree (at a b p q) w) (sym (at_combined a b x y p' q' p q)) (agree_left (at a b p q) (at a b p' q') x y h)

  kept_right : (p q p' q' x y : ℕ) (o : List ℤ) → AgreesAt p q p' q' o → AgreesAt (x * p' + y * p) (x * q' + y * q) p' q' o
  kept_right p q p' q' x y o h =
      let a = strike_entry o in
      let b = weight_entry o in
      subst (λ (w : ℤ). Agree w (at a b p' q')) (sym (at_combined a b x y p' q' p q)) (agree_right (at a b p q) (at a b p' q') x y h)

  closer_down : (c : Between P t s) (v : List ℤ) → HoldsAtBend P v → (x y : ℕ) → 1 ≤ x → 1 ≤ y
      → at (strike_entry v) (weight_entry v) c.p c.q ≡ pos x → at (strike_entry v) (weight_entry v) c.p' c.q' ≡ neg_ℤ (pos y) → Closer c v
  closer_down c v bends x y x1 y1 ex ey =
      let a = strike_entry v in
      let b = weight_entry v in
      let m : ℕ = x * c.p' + y * c.p in
      let n : ℕ = x * c.q' + y * c.q in
      let some : 1 ≤ m = omega (arith, mul-le-mul_left x c.some') in
      let low : n ≤ MAX_SETTLEMENT_PRICE * m = omega (arith, mul-le-mul_left x c.low', mul-le-mul_left y c.low) in
      let at_middle : at a b m n ≡ pos 0 = middle_is a b c.p c.q c.p' c.q' x y ex ey in
      let middle : P m n = holds_on_bend v m n bends (opposite a b c.p c.q c.p' c.q' (omega (arith, ints, ex)) (omega (arith, ints, ey))) at_middle some low in
      elim (cases_lt (c.i * x) (c.j * y)) [
        | inl lt ↦
            let d : ℕ = c.j * y - c.i * x in
            let e : c.j * y ≡ c.i * x + d = omega arith in
            record {
              new = record {
                p = m;
                q = n;
                p' = c.p';
                q' = c.q';
                k = y * c.k;
                i = c.i;
                j = d;
                one = omega (arith, mul-le-mul_left y c.one);
                first = omega (arith, ap (λ w. y * w) c.first, ap (λ w. w * c.p') e);
                second = omega (arith, ap (λ w. y * w) c.second, ap (λ w. w * c.q') e);
                some = some;
                some' = c.some';
                low = low;
                low' = c.low';
                holds = middle;
                holds' = c.holds';
              };
              here = inr (omega (arith, ints, at_middle), omega (arith, ints, ey));
              kept = λ o h. kept_right c.p c.q c.p' c.q' x y o h;
            }
        | inr le ↦
            let d : ℕ = c.i * x - c.j * y in
            let e : c.i * x ≡ c.j * y + d = omega arith in
            record {
              new = record {
                p = c.p;
                q = c.q;
                p' = m;
                q' = n;
                k = x * c.k;
                i = d;
                j = c.j;
                one = omega (arith, mul-le-mul_left x c.one);
                first = omega (arith, ap (λ w. x * w) c.first, ap (λ w. w * c.p) e);
                second = omega (arith, ap (λ w. x * w) c.second, ap (λ w. w * c.q) e);
                some = c.some;
                some' = some;
                low = c.low;
                low' = low;
                holds = c.holds;
                holds' = middle;
              };
              here = inl (omega (arith, ints, ex), omega (arith, ints, at_middle));
              kept = λ o h. kept_left c.p c.q c.p' c.q' x y o h;
            }
      ]

  closer : (c : Between P t s) (v : List ℤ) → HoldsAtBend P v → Closer c v
  unfolding swapped
  closer c v bends = go (at (strike_entry v) (weight_entry v) c.p c.q) (at (strike_entry v) (weight_entry v) c.p' c.q') refl refl
    where
      stays : Agree (at (strike_entry v) (weight_entry v) c.p c.q) (at (strike_entry v) (weight_entry v) c.p' c.q') → Closer c v
      stays h = record { new = c; here = h; kept = λ o k. k }

      go : (x y : ℤ) → at (strike_entry v) (weight_entry v) c.p c.q ≡ x → at (strike_entry v) (weight_entry v) c.p' c.q' ≡ y → Closer c v
      go (pos x) (pos y) e e' = stays (inl (omega (arith, ints, e), omega (arith, ints, e')))
      go (negsuc x) (negsuc y) e e' = stays (inr (omega (arith, ints, e), omega (arith, ints, e')))
      go (pos zero) (negsuc y) e e' = stays (inr (omega (arith, ints, e), omega (arith, ints, e')))
      go (negsuc x) (pos zero) e e' = stays (inr (omega (arith, ints, e), omega (arith, ints, e')))
      go (pos (suc x)) (negsuc y) e e' = closer_down c v bends (suc x) (suc y) (omega arith) (omega arith) e e'
      go (negsuc x) (pos (suc y)) e e' =
          let r = closer_down (swapped c) v bends (suc y) (suc x) (omega arith) (omega arith) e' e in
          record { new = r.new; here = r.here; kept = λ o k. r.kept o (agree_swap k) }

  -- all options agree at two states that are close enough
  pub agree_all : (options : List (List ℤ)) → Each (HoldsAtBend P) options → Between P t s
      → (c : Between P t s) × Each (AgreesAt c.p c.q c.p' c.q') options
  agree_all [] bends c = (c, tt)
  agree_all (v ∷ options) bends c =
      let r = agree_all options bends.1 c in
      let n = closer r.0 v bends.0 in
      (n.new, (n.here, each_then (AgreesAt r.0.p r.0.q r.0.p' r.0.q') (AgreesAt n.new.p n.new.q n.new.p' n.new.q') options n.kept r.1))
