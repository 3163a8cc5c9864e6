-- Certificates of fractions, brought over one denominator.
use Rattle.std.proofs.Common.{◌≡◌, ℕ, ◌*◌, ◌/◌, ◌≤◌, List, [], ◌∷◌, ◌++◌, length, map, zip, arith, ℤ, pos, ◌-ℤ◌, ◌*ℤ◌, ◌≤ℤ◌, All, refl, ap, sym, subst, ◌∙◌}
use Rattle.std.proofs.lemmas.Int.{ints}
use Rattle.std.proofs.lemmas.List.{length-map, append-nil}
use Rattle.std.proofs.lemmas.List.Elements.{All-cons, All-head, All-nil, All-tail}
use Rattle.std.specs.Int.{◌∣◌}
use native.Mathlib.Nat.{mul-div_cancel'}
use Rattle.arithmetic.specs.Sums.{positive_part}
use Rattle.exact_num.specs.Fraction.{Fraction, IsDefined, IsNotBelowZero, whole}
use Rattle.exact_num.specs.CommonDenominator.{common_denominator, amount_over, amounts_over, amounts_of, IsRatio}
use Rattle.form.specs.declared.orders.Order.{Order}
use Rattle.form.specs.Payoff.{IsState, scale_of}
use Rattle.clearing_model.specs.Clearing.{Filled, SignedFill, as_signed, net, premium, signed_premium, AreFills, Covers, HoldsAtEachState}
use Rattle.clearing_model.specs.Legs.{legs_of}
use Rattle.clearing_model.specs.Line.{IsLineCover}
use Rattle.clearing_model.specs.Measure.{IsWeighted, IsMeasure}
use Rattle.clearing_model.specs.Written.{PlacedMultiplier, tree_over}
use Rattle.clearing_model.specs.Certificate.{filled_over, signed_over, fractions_of, by_of, IsPremiumLessLiability, FillsCover, IsFill, AreFractionFills, Point, IsWeight, fraction_weight, points_over, IsFractionMeasure}
use Rattle.market_laws.specs.Laws.{TreeCertificateCovers, WrittenTreeCovers, LineCertificateCovers, BalancedFillsCover, CoverAndMeasureAreOptimal}
use Rattle.arithmetic.proofs.Integers.{*ℤ_mono, *ℤ_cancel_le}
use Rattle.arithmetic.proofs.Products.{products}
use Rattle.arithmetic.proofs.Parts.{positive_part_least}
use Rattle.exact_num.proofs.Fractions.{divides, common_positive}
use Rattle.market_laws.proofs.Payoff.{part-scale}
use Rattle.market_laws.proofs.Legs.{signed_sums_agree}
use Rattle.market_laws.proofs.Duality.{proved_is_greatest}
use Rattle.market_laws.proofs.Balance.{balanced_owes_nothing}
use Rattle.market_laws.proofs.Cover.{liability_gives_cover}
use Rattle.market_laws.proofs.Scaled.{cover_is_of_fractions, net-scale}
use Rattle.market_laws.proofs.Tree.{closed_trees_hold}
use Rattle.market_laws.proofs.Line.{line_covers_hold}
use Rattle.exact_num.proofs.Amounts.{amount_is_natural, amount_over-scale}

common-append : (xs ys : List Fraction) → common_denominator (xs ++ ys) ≡ common_denominator xs * common_denominator ys
common-append [] ys = omega arith
common-append (x ∷ xs) ys = omega (arith, ap (λ n. x.denominator * n) (common-append xs ys))

amounts-scale : (k F : ℕ) (fs : List Fraction) → All IsDefined fs → All (λ f. f.denominator ∣ F) fs → amounts_over (k * F) fs ≡ map (λ a. k * a) (amounts_over F fs)
amounts-scale k F [] defined h = refl
amounts-scale k F (f ∷ fs) defined h =
    let here = ap positive_part (amount_over-scale k F f (All-head IsDefined f fs defined) (All-head (λ g. g.denominator ∣ F) f fs h)) ∙ part-scale (amount_over F f) k in
    let rest = amounts-scale k F fs (All-tail IsDefined f fs defined) (All-tail (λ g. g.denominator ∣ F) f fs h) in
    cc

-- a liability that is enough over k times F is enough over F
holds_over : (n k F : ℕ) (orders : List Order) (fills : List Fraction) (L : Fraction) → 1 ≤ k → All IsDefined (L ∷ fills) → All (λ f. f.denominator ∣ F) (L ∷ fills)
    → HoldsAtEachState n (filled_over (k * F) orders fills) (amount_over (k * F) L) → HoldsAtEachState n (filled_over F orders fills) (amount_over F L)
holds_over n k F orders fills L one defined div holds z is =
    let same = amounts-scale k F fills (All-tail IsDefined L fills defined) (All-tail (λ f. f.denominator ∣ F) L fills div) in
    let scaled = amount_over-scale k F L (All-head IsDefined L fills defined) (All-head (λ f. f.denominator ∣ F) L fills div) in
    let there = rw (same, net-scale k orders (amounts_over F fills) z, scaled) at (holds z is) in
    *ℤ_cancel_le k (net (filled_over F orders fills) z) (amount_over F L *ℤ pos (scale_of z)) one (omega (arith, ints, products, there))

pub signed_is : (F : ℕ) (orders : List Order) (fills : List Fraction) → All IsFill (zip orders fills) → length fills ≡ length orders → signed_over F orders fills ≡ as_signed (filled_over F orders fills)
signed_is F [] fills h len = refl
signed_is F (o ∷ os) [] h len = absurd (omega arith)
signed_is F (o ∷ os) (f ∷ fs) h len =
    let here = amount_is_natural F f (All-head IsFill (o, f) (zip os fs) h).1 in
    let rest = signed_is F os fs (All-tail IsFill (o, f) (zip os fs) h) (omega arith) in
    ap (λ (a : ℤ). (o, a) ∷ signed_over F os fs) here ∙ ap (λ (fills : List SignedFill). (o, pos (positive_part (amount_over F f))) ∷ fills) rest

premium_is_signed : (F : ℕ) (orders : List Order) (fills : List Fraction) → AreFractionFills orders fills → signed_premium (signed_over F orders fills) ≡ premium (filled_over F orders fills)
premium_is_signed F orders fills is =
    ap signed_premium (signed_is F orders fills is.1 is.0) ∙ signed_sums_agree (λ o. pos o.price) (filled_over F orders fills)

-- each fill is a fraction
pub fills_defined : (orders : List Order) (fills : List Fraction) → All IsFill (zip orders fills) → length fills ≡ length orders → All IsDefined fills
fills_defined [] [] h len = All-nil IsDefined
fills_defined [] (f ∷ fs) h len = absurd (omega arith)
fills_defined (o ∷ os) [] h len = absurd (omega arith)
fills_defined (o ∷ os) (f ∷ fs) h len =
    All-cons IsDefined f fs (All-head IsFill (o, f) (zip os fs) h).0 (fills_defined os fs (All-tail IsFill (o, f) (zip os fs) h) (omega arith))

-- that is not below 0
pub fills_not_below : (orders : List Order) (fills : List Fraction) → All IsFill (zip orders fills) → length fills ≡ length orders → All IsNotBelowZero fills
fills_not_below [] [] h len = All-nil IsNotBelowZero
fills_not_below [] (f ∷ fs) h len = absurd (omega arith)
fills_not_below (o ∷ os) [] h len = absurd (omega arith)
fills_not_below (o ∷ os) (f ∷ fs) h len =
    All-cons IsNotBelowZero f fs (All-head IsFill (o, f) (zip os fs) h).1 (fills_not_below os fs (All-tail IsFill (o, f) (zip os fs) h) (omega arith))

-- so one that is enough over the denominators of a whole certificate gives the cover
pub fills_cover : (n : ℕ) (orders : List Order) (fills rest : List Fraction) (L S : Fraction)
    → AreFractionFills orders fills → IsDefined L → All IsDefined rest
    → (let D = common_denominator (L ∷ (fills ++ rest)) in HoldsAtEachState n (filled_over D orders fills) (amount_over D L))
    → IsPremiumLessLiability orders fills L S → FillsCover n orders fills S
fills_cover n orders fills rest L S is L_defined rest_defined holds surplus =
    let k = common_denominator rest in
    let D = common_denominator (L ∷ fills) in
    let defined = fills_defined orders fills is.1 is.0 in
    let all = All-cons IsDefined L fills L_defined defined in
    let e : common_denominator (L ∷ (fills ++ rest)) ≡ k * D = omega (arith, ap (λ n. L.denominator * n) (common-append fills rest)) in
    let P : ℕ → Type 0 = λ w. HoldsAtEachState n (filled_over w orders fills) (amount_over w L) in
    let here = holds_over n k D orders fills L (common_positive rest rest_defined) all (divides (L ∷ fills)) (subst P e holds) in
    let R : ℤ → Type 0 = λ p. IsRatio S (p -ℤ amount_over D L) D in
    let cover = liability_gives_cover n (filled_over D orders fills) D (amount_over D L) S (common_positive (L ∷ fills) all) here
    (subst R (premium_is_signed D orders fills is) surplus) in
    let Q : List ℕ → Type 0 = λ g. Covers n (zip orders g) D S in
    record {
      are_fills = is;
      covers = (cover_is_of_fractions n orders (amounts_of fills) (common_denominator fills) L.denominator S L_defined).0
          (subst Q (amounts-scale L.denominator (common_denominator fills) fills defined (divides fills)) cover);
    }

pub tree_certificate_covers : TreeCertificateCovers
tree_certificate_covers n orders fills L S tree is L_defined defined closes surplus =
    let D = common_denominator (L ∷ (fills ++ fractions_of tree)) in
    let zs = filled_over D orders fills in
    fills_cover n orders fills (fractions_of tree) L S is L_defined defined (closed_trees_hold n zs (amount_over D L) (tree_over D (legs_of zs) tree) closes) surplus

pub written_tree_covers : WrittenTreeCovers
written_tree_covers n orders fills L S nodes ms is L_defined defined closes surplus =
    let P : List PlacedMultiplier → Type 0 = λ xs. All IsDefined (map by_of xs) in
    tree_certificate_covers n orders fills L S closes.tree is L_defined (subst P closes.written.1 defined) closes.closes surplus

pub line_certificate_covers : LineCertificateCovers
line_certificate_covers orders fills L S is L_defined closes surplus =
    let D = common_denominator (L ∷ fills) in
    let P : List SignedFill → Type 0 = λ zs. IsLineCover zs (amount_over D L) in
    let holds = line_covers_hold (filled_over D orders fills) (amount_over D L) (subst P (signed_is D orders fills is.1 is.0) closes) in
    let Q : ℕ → Type 0 = λ w. HoldsAtEachState 1 (filled_over w orders fills) (amount_over w L) in
    let e : D ≡ common_denominator (L ∷ (fills ++ [])) = ap (λ fs. common_denominator (L ∷ fs)) (sym (append-nil fills)) in
    fills_cover 1 orders fills [] L S is L_defined (All-nil IsDefined) (subst Q e holds) surplus

amount_within : (F q : ℕ) (f : Fraction) → f.denominator ∣ F → pos 0 ≤ℤ f.numerator → f.numerator ≤ℤ pos (q * f.denominator) → positive_part (amount_over F f) ≤ q * F
amount_within F q f h low high =
    let d = f.denominator in
    let e : d * (F / d) ≡ F = mul-div_cancel' d h in
    positive_part_least (amount_over F f) (q * F) (omega (arith, ints, *ℤ_mono (F / d) f.numerator (pos (q * d)) high, ap (λ n. q * n) e))

amounts_within : (F : ℕ) (orders : List Order) (fills : List Fraction) → All (λ f. f.denominator ∣ F) fills → All IsFill (zip orders fills)
    → All (λ (fill : Filled). fill.1 ≤ fill.0.quantity * F) (zip orders (amounts_over F fills))
amounts_within F [] fills h is = λ k d lt. absurd (omega arith)
amounts_within F (o ∷ os) [] h is = λ k d lt. absurd (omega arith)
amounts_within F (o ∷ os) (f ∷ fs) h is =
    let one = All-head IsFill (o, f) (zip os fs) is in
    All-cons (λ (fill : Filled). fill.1 ≤ fill.0.quantity * F) (o, positive_part (amount_over F f)) (zip os (amounts_over F fs))
    (amount_within F o.quantity f (All-head (λ g. g.denominator ∣ F) f fs h) one.1 one.2)
    (amounts_within F os fs (All-tail (λ g. g.denominator ∣ F) f fs h) (All-tail IsFill (o, f) (zip os fs) is))

-- fills of fractions are fills
pub are_fills : (orders : List Order) (fills : List Fraction) → AreFractionFills orders fills → AreFills orders (amounts_of fills) (common_denominator fills)
are_fills orders fills h = (
  common_positive fills (fills_defined orders fills h.1 h.0),
  length-map fills (λ f. positive_part (amount_over (common_denominator fills) f)) ∙ h.0,
  amounts_within (common_denominator fills) orders fills (divides fills) h.1,
)

-- a measure of fractions is one over the product of their denominators
points_are : (n W : ℕ) (points : List Point) → All (λ (point : Point). IsState n point.0) points → All IsWeight points → All (IsWeighted n) (points_over W points)
points_are n W [] states weights = All-nil (IsWeighted n)
points_are n W (point ∷ points) states weights =
    let weight = All-head IsWeight point points weights in
    All-cons (IsWeighted n) (point.0, amount_over W point.1) (points_over W points)
    (All-head (λ (point : Point). IsState n point.0) point points states, omega (arith, ints, *ℤ_mono (W / point.1.denominator) (pos 0) point.1.numerator weight.1))
    (points_are n W points (All-tail (λ (point : Point). IsState n point.0) point points states) (All-tail IsWeight point points weights))

weights_defined : (points : List Point) → All IsWeight points → All IsDefined (map fraction_weight points)
weights_defined [] weights = All-nil IsDefined
weights_defined (point ∷ points) weights =
    All-cons IsDefined point.1 (map fraction_weight points) (All-head IsWeight point points weights).0 (weights_defined points (All-tail IsWeight point points weights))

pub is_measure : (n : ℕ) (points : List Point) → IsFractionMeasure n points
    → (let W = common_denominator (map fraction_weight points) in IsMeasure n (points_over W points) W)
is_measure n points m =
    let W = common_denominator (map fraction_weight points) in
    (common_positive (map fraction_weight points) (weights_defined points m.unit.weights), points_are n W points m.states m.unit.weights, m.unit.mass)

pub cover_and_measure_are_optimal : CoverAndMeasureAreOptimal
cover_and_measure_are_optimal n orders fills S points has_value cover measure proves =
    let W = common_denominator (map fraction_weight points) in
    proved_is_greatest n orders (amounts_of fills) (common_denominator fills) S (points_over W points) W has_value (are_fills orders fills cover.are_fills) cover.covers (is_measure n points measure) proves

pub balanced_fills_cover : BalancedFillsCover
balanced_fills_cover n orders fills S is balanced surplus =
    let L = whole (pos 0) in
    let Q : ℕ → Type 0 = λ w. HoldsAtEachState n (filled_over w orders fills) (amount_over w L) in
    let e : common_denominator fills ≡ common_denominator (L ∷ (fills ++ [])) = ap common_denominator (sym (append-nil fills)) ∙ omega arith in
    let owed : Q (common_denominator fills) = λ z state. omega (arith, ints, balanced_owes_nothing (zip orders (amounts_of fills)) balanced z) in
    fills_cover n orders fills [] L S is (omega arith) (All-nil IsDefined) (subst Q e owed) surplus
