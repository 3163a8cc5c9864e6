-- Whole fills as fractions.
use Rattle.std.proofs.Common.{◌≡◌, refl, ℕ, ◌*◌, ◌≤◌, ◌<◌, ◌^◌, true, List, [], ◌∷◌, map, ℤ, pos, ◌-ℤ◌, unsigned_abs, All, ap, ap₂, sym, ◌∙◌, subst, arith}
use Rattle.std.specs.List.{zip}
use Rattle.std.proofs.lemmas.Bool.{lt-ltb}
use Rattle.std.proofs.lemmas.Int.{ints}
use Rattle.std.proofs.lemmas.List.{length-map}
use Rattle.std.proofs.lemmas.List.Elements.{All-cons, All-head, All-nil, All-tail}
use Rattle.arithmetic.specs.Sums.{positive_part}
use Rattle.exact_num.specs.Fraction.{Fraction, whole}
use Rattle.exact_num.specs.CommonDenominator.{common_denominator, amount_over, amounts_over, IsRatio}
use Rattle.exact_num.proofs.Values.{whole_is_lowest}
use Rattle.frac.specs.Value.{fraction_of}
use Rattle.frac.specs.ValueOf.{value_of}
use Rattle.form.specs.declared.limits.TheConstants.{MAX_QUANTITY}
use Rattle.form.specs.declared.orders.Order.{Order}
use Rattle.clearing_model.specs.Balance.{AreBalanced}
use Rattle.clearing_model.specs.Clearing.{Filled, SignedFill, AreFills, as_signed, signed_premium, premium}
use Rattle.clearing_model.specs.Certificate.{IsFill, AreFractionFills, IsPremiumLessLiability, signed_over}
use Rattle.market_laws.proofs.Legs.{signed_sums_agree}
use Rattle.cert_check.specs.Conditions.{OwesNothing}
use Rattle.clearing.specs.Outcome.{whole_fills, is_value}
use Rattle.clearing.proofs.Values.{fraction_is}

-- the amounts as fractions
abbrev pub wholes : List ℕ → List Fraction
wholes amounts = map (λ (amount : ℕ). whole (pos amount)) amounts

is_value-whole : (v : ℤ) → unsigned_abs v < 2 ^ 127 → is_value (whole v) ≡ true
is_value-whole v fits = let lowest = whole_is_lowest v in rw (lowest.coprime, lt-ltb _ _ fits) refl

pub whole_is : (v : ℤ) → unsigned_abs v < 2 ^ 127 → fraction_of (value_of (whole v)) ≡ whole v
whole_is v fits = fraction_is (whole v) (is_value-whole v fits)

pub wholes_are : (amounts : List ℕ) → All (λ amount. amount ≤ MAX_QUANTITY) amounts → map fraction_of (whole_fills amounts) ≡ wholes amounts
wholes_are [] small = refl
wholes_are (a ∷ amounts) small =
    let P : ℕ → Type 0 = λ amount. amount ≤ MAX_QUANTITY in
    let first = All-head P a amounts small in
    ap₂ (λ (f : Fraction) (fs : List Fraction). f ∷ fs) (whole_is (pos a) (omega (arith, first))) (wholes_are amounts (All-tail P a amounts small))

-- their common denominator is 1, and over 1 they are the amounts
common_is_one : (amounts : List ℕ) → common_denominator (wholes amounts) ≡ 1
common_is_one [] = refl
common_is_one (a ∷ amounts) = omega (arith, common_is_one amounts)

at_one : (v : ℤ) → amount_over 1 (whole v) ≡ v
at_one v = omega (arith, ints)

amounts_at_one : (amounts : List ℕ) → amounts_over 1 (wholes amounts) ≡ amounts
amounts_at_one [] = refl
amounts_at_one (a ∷ amounts) = ap₂ (λ (x : ℕ) (xs : List ℕ). x ∷ xs) (ap positive_part (at_one (pos a))) (amounts_at_one amounts)

signed_at_one : (orders : List Order) (amounts : List ℕ) → signed_over 1 orders (wholes amounts) ≡ as_signed (zip orders amounts)
signed_at_one [] amounts = refl
signed_at_one (o ∷ orders) [] = refl
signed_at_one (o ∷ orders) (a ∷ amounts) = ap₂ (λ (x : ℤ) (xs : List SignedFill). (o, x) ∷ xs) (at_one (pos a)) (signed_at_one orders amounts)

pub owes_nothing : (orders : List Order) (amounts : List ℕ) → AreBalanced (zip orders amounts) → OwesNothing orders (wholes amounts) (whole (pos 0))
owes_nothing orders amounts balanced =
    let is : amounts_over (common_denominator (wholes amounts)) (wholes amounts) ≡ amounts = ap (λ D. amounts_over D (wholes amounts)) (common_is_one amounts) ∙ amounts_at_one amounts in
    (refl, subst (λ xs. AreBalanced (zip orders xs)) (sym is) balanced)

-- with nothing owed the surplus is the premium
pub premium_is_left : (orders : List Order) (amounts : List ℕ) → IsPremiumLessLiability orders (wholes amounts) (whole (pos 0)) (whole (premium (zip orders amounts)))
premium_is_left orders amounts =
    let fills = wholes amounts in
    let p = premium (zip orders amounts) in
    let one : common_denominator (whole (pos 0) ∷ fills) ≡ 1 = omega (arith, common_is_one amounts) in
    let earned : signed_premium (signed_over 1 orders fills) ≡ p = ap signed_premium (signed_at_one orders amounts) ∙ signed_sums_agree (λ o. pos o.price) (zip orders amounts) in
    let none : amount_over 1 (whole (pos 0)) ≡ pos 0 = at_one (pos 0) in
    let here : IsRatio (whole p) (signed_premium (signed_over 1 orders fills) -ℤ amount_over 1 (whole (pos 0))) 1 = omega (arith, ints, earned, none) in
    subst (λ D. IsRatio (whole p) (signed_premium (signed_over D orders fills) -ℤ amount_over D (whole (pos 0))) D) (sym one) here

each_fill : (orders : List Order) (amounts : List ℕ) → All (λ (fill : Filled). fill.1 ≤ fill.0.quantity * 1) (zip orders amounts) → All IsFill (zip orders (wholes amounts))
each_fill [] amounts h = All-nil IsFill
each_fill (o ∷ orders) [] h = All-nil IsFill
each_fill (o ∷ orders) (a ∷ amounts) h =
    let P : Filled → Type 0 = λ fill. fill.1 ≤ fill.0.quantity * 1 in
    let first = All-head P (o, a) (zip orders amounts) h in
    All-cons IsFill (o, whole (pos a)) (zip orders (wholes amounts)) (omega arith, omega (arith, ints), omega (arith, ints, first)) (each_fill orders amounts (All-tail P (o, a) (zip orders amounts) h))

pub fills_are : (orders : List Order) (amounts : List ℕ) → AreFills orders amounts 1 → AreFractionFills orders (wholes amounts)
fills_are orders amounts h = (length-map amounts (λ (amount : ℕ). whole (pos amount)) ∙ h.1, each_fill orders amounts h.2)
