-- Points of weight 0 count for nothing.
use Rattle.std.proofs.Common.{◌≡◌, ℕ, ◌*◌, ◌/◌, List, [], ◌∷◌, map, arith, Bool, true, false, ℤ, pos, ◌+ℤ◌, ◌*ℤ◌, All, refl, ap, sym, ◌∙◌, subst}
use Rattle.std.specs.Prelude.{if◌then◌else◌, unsigned_abs}
use Rattle.std.proofs.lemmas.Int.{ints}
use Rattle.std.proofs.lemmas.List.Elements.{All-cons, All-head, All-nil, All-tail}
use Rattle.arithmetic.specs.Gcd.{gcd}
use Rattle.arithmetic.proofs.GcdLaws.{zero-gcd}
use Rattle.arithmetic.proofs.Sums.{weigh_same}
use Rattle.exact_num.specs.Fraction.{Fraction, IsLowest}
use Rattle.exact_num.specs.CommonDenominator.{common_denominator, amount_over}
use Rattle.form.specs.declared.orders.Order.{Order}
use Rattle.form.specs.Payoff.{IsState, scale_of, BundleLeg, bundle_of, bundle_payoff}
use Rattle.clearing_model.specs.Measure.{mass_of, price_of, gain, gain_of, bound_of, Proves}
use Rattle.clearing_model.specs.Certificate.{Point, IsWeight, fraction_weight, points_over, HasUnitMass}
use Rattle.master_program.specs.Reading.{has_weight, points_with_weight}
use Rattle.master_program.specs.OptimumLaws.{EmptyPointsDrop}
use Rattle.arithmetic.proofs.Signed.{is_zero}

abbrev LowestWeight : Point → Type 0
LowestWeight point = IsLowest point.1

-- 0 in lowest terms stands over 1
zero_is_one : (f : Fraction) → IsLowest f → f.numerator ≡ pos 0 → f.denominator ≡ 1
zero_is_one f low e = sym (zero-gcd f.denominator) ∙ ap (λ v. gcd (unsigned_abs v) f.denominator) (sym e) ∙ low.coprime

no_amount : (f : Fraction) (W : ℕ) → f.numerator ≡ pos 0 → amount_over W f ≡ pos 0
no_amount f W e = ap (λ v. v *ℤ pos (W / f.denominator)) e ∙ zero_times (W / f.denominator)
  where
    zero_times : (q : ℕ) → pos 0 *ℤ pos q ≡ pos 0
    zero_times q = omega (arith, ints)

common_step : (b : Bool) (p : Point) (ps : List Point) → has_weight p ≡ b → LowestWeight p → IsWeight p
    → common_denominator (map fraction_weight (points_with_weight ps)) ≡ common_denominator (map fraction_weight ps)
    → common_denominator (map fraction_weight (if b then p ∷ points_with_weight ps else points_with_weight ps)) ≡ p.1.denominator * common_denominator (map fraction_weight ps)
common_step true p ps e low weight rest = ap (λ n. p.1.denominator * n) rest
common_step false p ps e low weight rest =
    let one = zero_is_one p.1 low (is_zero p.1.numerator e weight.1) in
    omega (arith, rest, ap (λ n. n * common_denominator (map fraction_weight ps)) one)

same_common : (points : List Point) → All LowestWeight points → All IsWeight points → common_denominator (map fraction_weight (points_with_weight points)) ≡ common_denominator (map fraction_weight points)
same_common [] low h = refl
same_common (p ∷ ps) low h =
    common_step (has_weight p) p ps refl (All-head LowestWeight p ps low) (All-head IsWeight p ps h) (same_common ps (All-tail LowestWeight p ps low) (All-tail IsWeight p ps h))

-- ---- sums over points
added : (w x v : ℤ) → w ≡ pos 0 → v ≡ (w *ℤ x) +ℤ v
added w x v e = zero x v ∙ ap (λ k. (k *ℤ x) +ℤ v) (sym e)
  where
    zero : (x v : ℤ) → v ≡ (pos 0 *ℤ x) +ℤ v
    zero x v = omega (arith, ints)

mass_step : (b : Bool) (W : ℕ) (p : Point) (ps : List Point) → has_weight p ≡ b → IsWeight p
    → mass_of (points_over W (points_with_weight ps)) ≡ mass_of (points_over W ps)
    → mass_of (points_over W (if b then p ∷ points_with_weight ps else points_with_weight ps)) ≡ mass_of (points_over W (p ∷ ps))
mass_step true W p ps e weight rest = ap (λ v. (amount_over W p.1 *ℤ pos (scale_of p.0)) +ℤ v) rest
mass_step false W p ps e weight rest = rest ∙ added (amount_over W p.1) (pos (scale_of p.0)) (mass_of (points_over W ps)) (no_amount p.1 W (is_zero p.1.numerator e weight.1))

same_mass : (W : ℕ) (points : List Point) → All IsWeight points → mass_of (points_over W (points_with_weight points)) ≡ mass_of (points_over W points)
same_mass W [] h = refl
same_mass W (p ∷ ps) h = mass_step (has_weight p) W p ps refl (All-head IsWeight p ps h) (same_mass W ps (All-tail IsWeight p ps h))

price_step : (b : Bool) (W : ℕ) (bundle : List BundleLeg) (p : Point) (ps : List Point) → has_weight p ≡ b → IsWeight p
    → price_of bundle (points_over W (points_with_weight ps)) ≡ price_of bundle (points_over W ps)
    → price_of bundle (points_over W (if b then p ∷ points_with_weight ps else points_with_weight ps)) ≡ price_of bundle (points_over W (p ∷ ps))
price_step true W bundle p ps e weight rest = ap (λ v. (amount_over W p.1 *ℤ bundle_payoff bundle p.0) +ℤ v) rest
price_step false W bundle p ps e weight rest = rest ∙ added (amount_over W p.1) (bundle_payoff bundle p.0) (price_of bundle (points_over W ps)) (no_amount p.1 W (is_zero p.1.numerator e weight.1))

same_price : (W : ℕ) (bundle : List BundleLeg) (points : List Point) → All IsWeight points → price_of bundle (points_over W (points_with_weight points)) ≡ price_of bundle (points_over W points)
same_price W bundle [] h = refl
same_price W bundle (p ∷ ps) h = price_step (has_weight p) W bundle p ps refl (All-head IsWeight p ps h) (same_price W bundle ps (All-tail IsWeight p ps h))

same_bound : (W : ℕ) (points : List Point) → All IsWeight points → (orders : List Order) → bound_of orders (points_over W (points_with_weight points)) W ≡ bound_of orders (points_over W points) W
same_bound W points h orders =
    weigh_same (λ (o : Order). o.quantity) (gain_of (points_over W (points_with_weight points)) W) (gain_of (points_over W points) W)
    (λ o. ap (gain o.side (pos (o.price * W))) (same_price W (bundle_of o) points h)) orders

-- ---- what holds of all points holds of these
kept_step : (b : Bool) (P : Point → Type 0) (p : Point) (ps : List Point) → P p → All P (points_with_weight ps) → All P (if b then p ∷ points_with_weight ps else points_with_weight ps)
kept_step true P p ps h rest = All-cons P p (points_with_weight ps) h rest
kept_step false P p ps h rest = rest

pub kept : (P : Point → Type 0) (points : List Point) → All P points → All P (points_with_weight points)
kept P [] h = All-nil P
kept P (p ∷ ps) h = kept_step (has_weight p) P p ps (All-head P p ps h) (kept P ps (All-tail P p ps h))

pub empty_points_drop : EmptyPointsDrop
empty_points_drop n orders S points low measure =
    let W : ℕ = common_denominator (map fraction_weight points) in
    let weights = measure.unit.weights in
    let same : W ≡ common_denominator (map fraction_weight (points_with_weight points)) = sym (same_common points low weights) in
    let mass : mass_of (points_over W (points_with_weight points)) ≡ pos W = same_mass W points weights ∙ measure.unit.mass in
    let unit : HasUnitMass (points_with_weight points) = record { weights = kept IsWeight points weights; mass = subst (λ (V : ℕ). mass_of (points_over V (points_with_weight points)) ≡ pos V) same mass } in (
      record { states = kept (λ (point : Point). IsState n point.0) points measure.states; unit = unit },
      λ proves.
          let bound : Proves orders (points_over W (points_with_weight points)) W S = proves ∙ ap (λ (b : ℕ). pos b *ℤ pos S.denominator) (sym (same_bound W points weights orders)) in
          subst (λ (V : ℕ). Proves orders (points_over V (points_with_weight points)) V S) same bound,
    )
