-- A run that ends with a bound: what its positions owe is at most that, at each state of the box.
use Rattle.std.proofs.Common.{◌≡◌, ℕ, ◌-◌, ◌*◌, ◌/◌, ◌≤◌, List, ◌∷◌, Ok, Err, arith, ℤ, pos, ◌*ℤ◌, ◌≤ℤ◌, refl, ap, sym, subst}
use Rattle.std.proofs.lemmas.Int.{ints}
use Rattle.std.proofs.lemmas.List.Elements.{All-cons, All-head, All-tail}
use Rattle.std.proofs.lemmas.List.Sums.{sum_by-cons}
use native.Mathlib.Nat.{mul-div_cancel'}
use Rattle.arithmetic.proofs.Integers.{*ℤ_cancel_le, *ℤ_mono, swap_factors}
use Rattle.arithmetic.proofs.Signed.{factor_out}
use Rattle.exact_num.specs.Fraction.{Fraction, IsDefined, IsLowest}
use Rattle.exact_num.specs.CommonDenominator.{amount_over, common_denominator}
use Rattle.frac.specs.Range.{limit as largest}
use Rattle.form.specs.Payoff.{IsState}
use Rattle.settlement.specs.declared.position.Position.{Position}
use Rattle.simplex_run.specs.Ending.{Ending, done, no_unit_left, unbounded, wide_at}
use Rattle.portfolio_margin.specs.Laws.{MayBeAsked}
use Rattle.portfolio_margin.specs.Need.{ceil_of}
use Rattle.portfolio_margin.specs.Owed.{Covers, IsDenominator, fills_of, owed_over}
use Rattle.portfolio_margin.specs.Run.{Margin, asked_for, endless, least, margin_run}
use Rattle.portfolio_margin.proofs.LeastMargins.{margins_are_least}
use Rattle.portfolio_margin.proofs.Owing.{Divides, common_is, fills_defined, owed_across}
use Rattle.portfolio_margin.proofs.Rounded.{liabilities_are_rounded_up}
use Rattle.account_need.specs.Exposure.{IsInBox}
use Rattle.account_need.specs.Several.{Bounded, bounded_by, need_budget, run_over}
use Rattle.account_need.proofs.Rounding.{up_over}

-- ---- answers
-- the bound that is found; 0 where there is none
abbrev pub value_in : Bounded → ℤ
value_in (Ok found) = found.0
value_in (Err word) = pos 0

box_state : (n t : ℕ) (s : List ℕ) → IsInBox n t s → IsState n (t ∷ s)
box_state n t s box = (omega (arith, box.on), omega (arith, box.settlement, sum_by-cons (λ (k : ℕ). k) t s))

-- ---- a liability rounded up, over another denominator
chain : (x y z w v u : ℤ) → x ≤ℤ y → y ≡ z → z ≤ℤ w → w ≡ v → x ≡ u → u ≤ℤ v
chain x y z w v u first turned second same across = omega (arith, ints, first, turned, second, same, across)

over_other : (x y a c : ℤ) (C D t : ℕ) → 1 ≤ C → x ≤ℤ (a *ℤ pos t) → a ≤ℤ (c *ℤ pos C) → x *ℤ pos D ≡ y *ℤ pos C → y ≤ℤ (c *ℤ pos (D * t))
over_other x y a c C D t some owed up across =
    *ℤ_cancel_le C y (c *ℤ pos (D * t)) some
    (chain (x *ℤ pos D) ((a *ℤ pos t) *ℤ pos D) (a *ℤ pos (D * t)) ((c *ℤ pos C) *ℤ pos (D * t)) ((c *ℤ pos (D * t)) *ℤ pos C) (y *ℤ pos C)
    (*ℤ_mono D x (a *ℤ pos t) owed) (sym (factor_out a D t)) (*ℤ_mono (D * t) a (c *ℤ pos C) up) (swap_factors c C (D * t)) across)

module _ (n spent : ℕ) (ps : List Position) where
  covered : (L : Fraction) → IsLowest L → Covers n ps L → (t : ℕ) (s : List ℕ) → IsInBox n t s → (D : ℕ) → IsDenominator D (fills_of ps)
      → owed_over D ps (t ∷ s) ≤ℤ (ceil_of L.numerator L.denominator *ℤ pos (D * t))
  covered L lowest covers t s box D is =
      let fills = fills_of ps in
      let C = common_denominator (L ∷ fills) in
      let common = common_is (L ∷ fills) (All-cons IsDefined L fills lowest.positive (fills_defined ps)) in
      let c = ceil_of L.numerator L.denominator in
      let whole = mul-div_cancel' L.denominator (All-head (Divides C) L fills common.divides) in
      let up = up_over L.numerator c L.denominator (C / L.denominator) C whole (liabilities_are_rounded_up L lowest.positive).not_below in
      over_other (owed_over C ps (t ∷ s)) (owed_over D ps (t ∷ s)) (amount_over C L) c C D t common.some (covers (t ∷ s) (box_state n t s box) C common) up
      (owed_across C D ps (t ∷ s) (All-tail (Divides C) L fills common.divides) is.divides)

  pub run_covers : MayBeAsked n ps → (S : ℤ) (later : ℕ) → run_over n spent ps ≡ Ok (S, later) → (t : ℕ) (s : List ℕ) → IsInBox n t s → (D : ℕ) → IsDenominator D (fills_of ps)
      → owed_over D ps (t ∷ s) ≤ℤ (S *ℤ pos (D * t))
  run_covers may S later found t s box D is = by (margin_run (asked_for largest (need_budget - spent) n ps)) refl found
    where
      by : (e : Ending Margin) → margin_run (asked_for largest (need_budget - spent) n ps) ≡ e → bounded_by spent e ≡ Ok (S, later) → owed_over D ps (t ∷ s) ≤ℤ (S *ℤ pos (D * t))
      by (done (least L at tree) units) ran h =
          let is_least = (margins_are_least largest (need_budget - spent) n units ps L at tree may ran).0 in
          subst (λ (x : ℤ). owed_over D ps (t ∷ s) ≤ℤ (x *ℤ pos (D * t))) (ap value_in h) (covered L is_least.lowest is_least.covers t s box D is)
      by (done (endless ray) units) ran h = absurd (cc)
      by (unbounded direction units) ran h = absurd (cc)
      by (wide_at units wide) ran h = absurd (cc)
      by (no_unit_left units) ran h = absurd (cc)
