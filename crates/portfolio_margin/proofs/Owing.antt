-- What positions owe over one denominator and over another, and as the net of their batch.
use Rattle.std.proofs.Common.{◌≡◌, ℕ, ◌*◌, List, [], ◌∷◌, ◌++◌, arith, ℤ, pos, ◌+ℤ◌, ◌*ℤ◌, ◌≤ℤ◌, ◌<ℤ◌, All, refl, ap, sym, ◌∙◌, subst}
use Rattle.std.specs.Int.{◌∣◌}
use Rattle.std.proofs.lemmas.Int.{ints}
use Rattle.std.proofs.lemmas.List.Elements.{All-cons, All-head, All-nil, All-tail}
use Rattle.arithmetic.proofs.Integers.{*ℤ_mono, *ℤ_mono_lt, *ℤ_cancel_le, *ℤ_cancel_lt, *ℤ_distr, swap_factors}
use Rattle.arithmetic.proofs.Products.{products}
use Rattle.arithmetic.specs.Sums.{positive_part}
use Rattle.exact_num.specs.Fraction.{Fraction, IsLowest, IsDefined, IsNotBelowZero}
use Rattle.exact_num.specs.CommonDenominator.{amount_over, common_denominator}
use Rattle.exact_num.proofs.Amounts.{amount_is_natural, amount_over-scale}
use Rattle.exact_num.proofs.Fractions.{common_positive, divides}
use Rattle.form.specs.declared.orders.Side.{Side}
use Rattle.form.specs.declared.orders.Side.TheVariants.{Buy, Sell}
use Rattle.form.specs.Payoff.{bundle_legs, bundle_of, bundle_payoff, scale_of}
use Rattle.clearing_model.specs.Clearing.{as_signed, for_side, net, signed_sum}
use Rattle.clearing_model.specs.Certificate.{filled_over, signed_over}
use Rattle.market_laws.proofs.Legs.{signed_sums_agree}
use Rattle.settlement.specs.declared.position.Position.{Position}
use Rattle.portfolio_margin.specs.Owed.{CoversAt, IsDenominator, fill_of, fills_of, owed_by, owed_over}
use Rattle.portfolio_margin.specs.Run.{orders_of, opposite}

abbrev pub Divides : ℕ → Fraction → Type 0
Divides D f = f.denominator ∣ D

-- ---- the fills
pub fills_lowest : (ps : List Position) → All IsLowest (fills_of ps)
fills_lowest [] = All-nil IsLowest
fills_lowest (p ∷ ps) = All-cons IsLowest (fill_of p) (fills_of ps) p.fill.lowest (fills_lowest ps)

pub fills_defined : (ps : List Position) → All IsDefined (fills_of ps)
fills_defined [] = All-nil IsDefined
fills_defined (p ∷ ps) = All-cons IsDefined (fill_of p) (fills_of ps) p.fill.lowest.positive (fills_defined ps)

-- the product of all denominators is a common one, also of the first of them
pub front_of : (P : Fraction → Type 0) (xs ys : List Fraction) → All P (xs ++ ys) → All P xs
front_of P [] ys h = All-nil P
front_of P (x ∷ xs) ys h = All-cons P x xs (All-head P x (xs ++ ys) h) (front_of P xs ys (All-tail P x (xs ++ ys) h))

pub common_is : (fs : List Fraction) → All IsDefined fs → IsDenominator (common_denominator fs) fs
common_is fs defined = record { some = common_positive fs defined; divides = divides fs }

pub without_first : (D : ℕ) (f : Fraction) (fs : List Fraction) → IsDenominator D (f ∷ fs) → IsDenominator D fs
without_first D f fs is = record { some = is.some; divides = All-tail (Divides D) f fs is.divides }

-- ---- another denominator
side-scale : (side : Side) (x a : ℤ) (k : ℕ) → owed_by side (x *ℤ (a *ℤ pos k)) ≡ owed_by side (x *ℤ a) *ℤ pos k
side-scale Sell x a k = omega (arith, ints, products)
side-scale Buy x a k = omega (arith, ints, products)

owed-scale : (k F : ℕ) (ps : List Position) (z : List ℕ) → All (Divides F) (fills_of ps) → owed_over (k * F) ps z ≡ owed_over F ps z *ℤ pos k
owed-scale k F [] z h = omega (arith, ints)
owed-scale k F (p ∷ ps) z h =
    let pays = bundle_payoff (bundle_legs p.bundle) z in
    let first = owed_by p.side (pays *ℤ amount_over F (fill_of p)) in
    let here : owed_by p.side (pays *ℤ amount_over (k * F) (fill_of p)) ≡ first *ℤ pos k =
    ap (λ (a : ℤ). owed_by p.side (pays *ℤ a)) (amount_over-scale k F (fill_of p) p.fill.lowest.positive (All-head (Divides F) (fill_of p) (fills_of ps) h))
    ∙ side-scale p.side pays (amount_over F (fill_of p)) k in
    let rest = owed-scale k F ps z (All-tail (Divides F) (fill_of p) (fills_of ps) h) in
    (λ i. here i +ℤ rest i) ∙ sym (*ℤ_distr first (owed_over F ps z) (pos k))

-- what stands over one and over the other
pub owed_across : (C D : ℕ) (ps : List Position) (z : List ℕ) → All (Divides C) (fills_of ps) → All (Divides D) (fills_of ps) → owed_over C ps z *ℤ pos D ≡ owed_over D ps z *ℤ pos C
owed_across C D ps z c d =
    let same : D * C ≡ C * D = omega arith in
    sym (owed-scale D C ps z c) ∙ ap (λ (n : ℕ). owed_over n ps z) same ∙ owed-scale C D ps z d

amount_across : (C D : ℕ) (L : Fraction) → IsDefined L → L.denominator ∣ C → L.denominator ∣ D → amount_over C L *ℤ pos D ≡ amount_over D L *ℤ pos C
amount_across C D L defined c d =
    let same : D * C ≡ C * D = omega arith in
    sym (amount_over-scale D C L defined c) ∙ ap (λ (n : ℕ). amount_over n L) same ∙ amount_over-scale C D L defined d

-- a liability that covers over one covers over each
pub covers_over : (C : ℕ) (L : Fraction) (ps : List Position) (z : List ℕ) → IsDefined L → IsDenominator C (L ∷ fills_of ps)
    → owed_over C ps z ≤ℤ (amount_over C L *ℤ pos (scale_of z)) → CoversAt L ps z
covers_over C L ps z defined c le D d =
    let t = scale_of z in
    let a = amount_over C L in
    let b = amount_over D L in
    let owed = owed_across C D ps z (All-tail (Divides C) L (fills_of ps) c.divides) (All-tail (Divides D) L (fills_of ps) d.divides) in
    let amounts = amount_across C D L defined (All-head (Divides C) L (fills_of ps) c.divides) (All-head (Divides D) L (fills_of ps) d.divides) in
    let more : (a *ℤ pos t) *ℤ pos D ≡ (b *ℤ pos t) *ℤ pos C = swap_factors a t D ∙ ap (λ (w : ℤ). w *ℤ pos t) amounts ∙ swap_factors b C t in
    *ℤ_cancel_le C (owed_over D ps z) (b *ℤ pos t) c.some
    (subst (λ (x : ℤ). x ≤ℤ ((b *ℤ pos t) *ℤ pos C)) owed
    (subst (λ (y : ℤ). (owed_over C ps z *ℤ pos D) ≤ℤ y) more (*ℤ_mono D (owed_over C ps z) (a *ℤ pos t) le)))

-- what is above 0 over one is so over each
pub above_over : (C : ℕ) (ps : List Position) (z : List ℕ) → IsDenominator C (fills_of ps) → pos 0 <ℤ owed_over C ps z → (D : ℕ) → IsDenominator D (fills_of ps) → pos 0 <ℤ owed_over D ps z
above_over C ps z c above D d =
    let less = *ℤ_mono_lt (pos 0) (owed_over C ps z) D above d.some in
    *ℤ_cancel_lt (pos 0) (owed_over D ps z) C (subst (λ (x : ℤ). (pos 0 *ℤ pos C) <ℤ x) (owed_across C D ps z c.divides d.divides) (zero_first less))
  where
    zero_first : (pos 0 *ℤ pos D) <ℤ (owed_over C ps z *ℤ pos D) → (pos 0 *ℤ pos C) <ℤ (owed_over C ps z *ℤ pos D)
    zero_first less = omega (arith, ints, less)

-- ---- the batch
for_opposite : (side : Side) (x : ℤ) → for_side (opposite side) x ≡ owed_by side x
for_opposite Buy x = refl
for_opposite Sell x = refl

-- over signed amounts
pub signed_is_owed : (D : ℕ) (ps : List Position) (z : List ℕ) → signed_sum (λ o. bundle_payoff (bundle_of o) z) (signed_over D (orders_of ps) (fills_of ps)) ≡ owed_over D ps z
unfolding bundle_of
signed_is_owed D [] z = refl
signed_is_owed D (p ∷ ps) z =
    let here = for_opposite p.side (bundle_payoff (bundle_legs p.bundle) z *ℤ amount_over D (fill_of p)) in
    let rest = signed_is_owed D ps z in
    λ i. here i +ℤ rest i

-- over natural ones, where no fill is below 0
natural_is_owed : (D : ℕ) (ps : List Position) (z : List ℕ) → All IsNotBelowZero (fills_of ps)
    → signed_sum (λ o. bundle_payoff (bundle_of o) z) (as_signed (filled_over D (orders_of ps) (fills_of ps))) ≡ owed_over D ps z
unfolding bundle_of
natural_is_owed D [] z h = refl
natural_is_owed D (p ∷ ps) z h =
    let pays = bundle_payoff (bundle_legs p.bundle) z in
    let here = for_opposite p.side (pays *ℤ pos (positive_part (amount_over D (fill_of p))))
    ∙ ap (λ (a : ℤ). owed_by p.side (pays *ℤ a)) (sym (amount_is_natural D (fill_of p) (All-head IsNotBelowZero (fill_of p) (fills_of ps) h))) in
    let rest = natural_is_owed D ps z (All-tail IsNotBelowZero (fill_of p) (fills_of ps) h) in
    λ i. here i +ℤ rest i

pub net_is_owed : (D : ℕ) (ps : List Position) (z : List ℕ) → All IsNotBelowZero (fills_of ps) → net (filled_over D (orders_of ps) (fills_of ps)) z ≡ owed_over D ps z
net_is_owed D ps z h =
    sym (signed_sums_agree (λ o. bundle_payoff (bundle_of o) z) (filled_over D (orders_of ps) (fills_of ps))) ∙ natural_is_owed D ps z h
