-- Where a line leads past the price from which on the order raises, the price beside it is the one:
-- there the line is still above the base's surplus.
use Rattle.std.proofs.Common.{◌≡◌, ℕ, suc, ◌*◌, ◌-◌, ◌/◌, ◌<◌, ◌≤◌, List, [], ◌∷◌, ◌++◌, length, length-append, map, arith, Option, Some, None, slice_get, true, ℤ, pos, neg_ℤ, ◌+ℤ◌, ◌-ℤ◌, ◌*ℤ◌, ◌<ℤ◌, refl, ap, sym, subst, ◌∙◌, inl, inr}
use Rattle.std.specs.Int.{◌∣◌}
use Rattle.std.specs.Option.{option_map, option_map_or}
use Rattle.std.proofs.Math.Nat.{div-mul-le_self, mul-div_cancel', mul-le-mul_left, mul-le-mul_right, lt_of_mul-lt-mul_right}
use Rattle.std.proofs.lemmas.Bool.{cases_lt}
use Rattle.std.proofs.lemmas.Int.{ints}
use Rattle.std.proofs.lemmas.List.{map-append}
use Rattle.std.proofs.lemmas.List.Elements.{All-get_or}
use Rattle.std.proofs.lemmas.Option.{get_or_from_slice_get, slice_get-map, slice_get_within}
use Rattle.arithmetic.specs.Sums.{positive_part}
use Rattle.arithmetic.proofs.Parts.{part_above}
use Rattle.arithmetic.proofs.Products.{products}
use Rattle.exact_num.specs.Fraction.{Fraction}
use Rattle.exact_num.specs.CommonDenominator.{amount_over, amounts_of, common_denominator}
use Rattle.exact_num.proofs.Fractions.{divides}
use Rattle.frac.specs.Value.{fraction_of}
use Rattle.frac.specs.declared.frac128.Frac128.{Frac128}
use Rattle.form.specs.Limits.{IsWithinLimits}
use Rattle.form.specs.declared.orders.Side.{Side}
use Rattle.form.specs.declared.orders.Side.TheVariants.{Buy, Sell}
use Rattle.form.specs.declared.orders.Order.{Order}
use Rattle.form.specs.declared.orders.Batch.{Batch}
use Rattle.cert_check.specs.declared.outcome.Outcome.{Outcome}
use Rattle.market_laws.specs.Limits.{at_price, FillsCoverAt}
use Rattle.market_laws.specs.Slopes.{earned_more}
use Rattle.market_laws.proofs.Certificate.{are_fills}
use Rattle.market_laws.proofs.Payoff.{part-scale}
use Rattle.market_laws.proofs.Slopes.{fills_cover_along_lines}
use Rattle.option_quotes.specs.declared.ends.Ends.{Ends}
use Rattle.option_quotes.specs.declared.ends.Probed.{Probed}
use Rattle.option_quotes.specs.Ends.{AreEnds, IsBetter, IsProbed}
use Rattle.option_quotes.specs.Implied.{next_along, next_better, price_along, ticks_along, ticks_by}
use Rattle.option_quotes.specs.Probes.{gap, is_raised, with_order}
use Rattle.option_quotes.specs.Quotes.{Raises}
use Rattle.option_quotes.proofs.Raising.{less_says, probe_within, raised_where_raises}

-- ---- numbers
-- a line with slope e / f is k whole steps above a level: after fewer steps it is still above it.
-- Here the line is M / (d * d0) above, and a / D is its slope too
still_above : (M f d d0 e D a j : ℕ) → 1 ≤ M → 1 ≤ f → 1 ≤ d → 1 ≤ d0 → 1 ≤ D → j < (f * M) / (d * d0 * e) → a * f ≡ e * D → j * a * (d * d0) < M * D
still_above M f d d0 e D a j M_some f_some d_some d0_some D_some few slope =
    let k = (f * M) / (d * d0 * e) in
    let most : suc j * (d * d0 * e) ≤ k * (d * d0 * e) = mul-le-mul_right (d * d0 * e) few in
    let above : suc j * (d * d0 * e) ≤ f * M = omega (arith, most, div-mul-le_self (f * M) (d * d0 * e)) in
    let scaled : suc j * (d * d0 * e) * D ≤ f * M * D = mul-le-mul_right D above in
    let same : j * (d * d0) * (a * f) ≡ j * (d * d0) * (e * D) = ap (λ n. j * (d * d0) * n) slope in
    let level : 1 ≤ M * D = omega (arith, mul-le-mul_left M D_some, M_some) in
    elim (cases_lt 0 e) [
      | inl e_some ↦
          let one : 1 ≤ d * d0 = omega (arith, mul-le-mul_left d d0_some, d_some) in
          let two : 1 ≤ d * d0 * e = omega (arith, mul-le-mul_left (d * d0) e_some, one) in
          let three : 1 ≤ d * d0 * e * D = omega (arith, mul-le-mul_left (d * d0 * e) D_some, two) in
          let all : j * a * (d * d0) * f < M * D * f = omega (arith, scaled, same, three) in
          lt_of_mul-lt-mul_right f all
      | inr none ↦
          let zero_amount : a ≤ 0 = omega (arith, mul-le-mul_right D none, mul-le-mul_left a f_some, slope) in
          let nothing = mul-le-mul_right (j * (d * d0)) zero_amount in
          omega (arith, nothing, level)
    ]

-- so the surplus on the line, over one denominator, is above the level v0 / d0
line_above : (v v0 earned : ℤ) (d d0 D M n : ℕ) → (v *ℤ pos d0 +ℤ neg_ℤ v0 *ℤ pos d) ≡ pos M → earned ≡ neg_ℤ (pos n) → n * (d * d0) < M * D
    → (v0 *ℤ pos (d * D)) <ℤ ((v *ℤ pos D +ℤ earned *ℤ pos d) *ℤ pos d0)
line_above v v0 earned d d0 D M n above moved less =
    let scaled = ap (λ x. x *ℤ pos D) above in
    let taken = ap (λ x. (x *ℤ pos d) *ℤ pos d0) moved in
    omega (arith, ints, products, scaled, taken, less)

scaled_down : (g a : ℕ) → neg_ℤ (pos g) *ℤ pos a ≡ neg_ℤ (pos (g * a))
scaled_down g a = omega (arith, ints, products)

-- what the fill earns less at a price beside the one that the line leads to, and by how few ticks
-- that is worse
moved : (side : Side) (p q other ticks a : ℕ) → other ≡ price_along side p ticks → IsBetter side other p → q ≡ next_better side other → (q ≡ p → ⊥)
    → (gap p q < ticks) × (earned_more side p q a ≡ neg_ℤ (pos (gap p q * a)))
moved Buy p q other ticks a is better beside off = elim (cases_lt q p) [
  | inl lt ↦
      let less : (pos q -ℤ pos p) ≡ neg_ℤ (pos (gap p q)) = omega (arith, ints, lt) in
      (omega (arith, is, beside, lt), ap (λ x. x *ℤ pos a) less ∙ scaled_down (gap p q) a)
  | inr ge ↦ absurd (off (omega (arith, ge, better, beside)))
]
moved Sell p q other ticks a is better beside off = elim (cases_lt p q) [
  | inl lt ↦
      let less : neg_ℤ (pos q -ℤ pos p) ≡ neg_ℤ (pos (gap p q)) = omega (arith, ints, lt) in
      (omega (arith, is, beside, lt), ap (λ x. x *ℤ pos a) less ∙ scaled_down (gap p q) a)
  | inr ge ↦ absurd (off (omega (arith, ge, better, beside)))
]

-- ---- the fill of the last order
record Last (fills : List Frac128) (fill : Frac128) : Type 0 where
  front : List Frac128
  is : fills ≡ front ++ fill ∷ []

last_of : (fills : List Frac128) (fill : Frac128) → slice_get fills (length fills - 1) ≡ Some fill → Last fills fill
last_of [] fill at = absurd (cc)
last_of (a ∷ []) fill at =
    let k : length (a ∷ []) - 1 ≡ 0 = omega arith in
    let first : Some a ≡ Some fill = sym (ap (slice_get (a ∷ [])) k) ∙ at in
    let same : a ≡ fill = cc in
    record { front = []; is = ap (λ (f : Frac128). f ∷ []) same }
last_of (a ∷ b ∷ rest) fill at =
    let k : length (a ∷ b ∷ rest) - 1 ≡ suc (length (b ∷ rest) - 1) = omega arith in
    let more = last_of (b ∷ rest) fill (sym (ap (slice_get (a ∷ b ∷ rest)) k) ∙ at) in
    record { front = a ∷ more.front; is = ap (λ (fills : List Frac128). a ∷ fills) more.is }

abbrev amount_in : ℕ → Frac128 → ℕ
amount_in D fill = positive_part (amount_over D (fraction_of fill))

last_divides : (fills : List Frac128) (fill : Frac128) → slice_get fills (length fills - 1) ≡ Some fill → fill.denominator ∣ common_denominator (map fraction_of fills)
last_divides fills fill at =
    let fs = map fraction_of fills in
    let k = length fills - 1 in
    let x = fraction_of fill in
    let found : slice_get fs k ≡ Some x = slice_get-map fraction_of fills k ∙ ap (option_map fraction_of) at in
    let P : Fraction → Type 0 = λ f. f.denominator ∣ common_denominator fs in
    subst P (get_or_from_slice_get fs k x x found) (All-get_or P fs k x (slice_get_within fs k x found) (divides fs))

-- its amount is the fill, over the common denominator
last_amount : (fills : List Frac128) (fill : Frac128) → slice_get fills (length fills - 1) ≡ Some fill
    → (let D = common_denominator (map fraction_of fills) in amount_in D fill * fill.denominator ≡ positive_part fill.numerator * D)
last_amount fills fill at =
    let D = common_denominator (map fraction_of fills) in
    let f = fill.denominator in
    let e = positive_part fill.numerator in
    let amount = part-scale fill.numerator (D / f) in
    let whole : f * (D / f) ≡ D = mul-div_cancel' f (last_divides fills fill at) in
    omega (arith, ap (λ n. n * f) amount, ap (λ n. e * n) whole)

-- ---- the line through an outcome
abbrev on_line : Side → ℕ → ℕ → ℕ → ℕ → Fraction → Fraction
on_line side p q a D S = record { numerator = S.numerator *ℤ pos D +ℤ earned_more side p q a *ℤ pos S.denominator; denominator = S.denominator * D }

still_raises : (batch : Batch) (o : Order) (limit : ℕ) (base : Outcome) (r : Probed) (q : ℕ) (fill : Frac128) → IsWithinLimits (with_order batch o) → IsProbed batch o limit r → is_raised base r.outcome ≡ true
    → slice_get r.outcome.fills (length r.outcome.fills - 1) ≡ Some fill → gap r.price q < ticks_by base r.outcome fill
    → ((a : ℕ) → earned_more o.side r.price q a ≡ neg_ℤ (pos (gap r.price q * a))) → Raises batch o base q
still_raises batch o limit base r q fill within is raised at few earned =
    let n = batch.underlyings in
    let here = at_price o r.price in
    let orders : List Order = batch.orders ++ here ∷ [] in
    let fills : List Frac128 = r.outcome.fills in
    let fs : List Fraction = map fraction_of fills in
    let D = common_denominator fs in
    let V = r.outcome.claim.surplus in
    let V0 = base.claim.surplus in
    let cover = (probe_within batch o limit r within is).covered.covers in
    let are = are_fills orders fs cover.are_fills in
    let cut = last_of fills fill at in
    let amount : Frac128 → ℕ = amount_in D in
    let of_fraction : Fraction → ℕ = λ f. positive_part (amount_over D f) in
    let a = amount fill in
    let before : List ℕ = map of_fraction (map fraction_of cut.front) in
    let split : map fraction_of fills ≡ map fraction_of cut.front ++ fraction_of fill ∷ [] = ap (map fraction_of) cut.is ∙ map-append fraction_of cut.front (fill ∷ []) in
    let same : amounts_of fs ≡ before ++ a ∷ [] = ap (map of_fraction) split ∙ map-append of_fraction (map fraction_of cut.front) (fraction_of fill ∷ []) in
    let covers : FillsCoverAt n orders (before ++ a ∷ []) D (fraction_of V) = subst (λ (g : List ℕ). FillsCoverAt n orders g D (fraction_of V)) same (are, cover.covers) in
    let D_some : 1 ≤ D = are.0 in
    let V_some : 1 ≤ V.denominator = V.lowest.positive in
    let len : length before ≡ length batch.orders = omega (arith, covers.0.1, length-append before (a ∷ []), length-append batch.orders (here ∷ [])) in
    let T = on_line o.side r.price q a D (fraction_of V) in
    let there = fills_cover_along_lines n batch.orders [] here q before [] a D (fraction_of V) T len V_some refl covers in
    let X = V.numerator *ℤ pos V0.denominator +ℤ neg_ℤ V0.numerator *ℤ pos V.denominator in
    let M = positive_part X in
    let up = less_says (V0.numerator *ℤ pos V.denominator) (V.numerator *ℤ pos V0.denominator) raised in
    let above : pos M ≡ X = part_above X (omega (arith, ints, products, up)) in
    let M_some : 1 ≤ M = omega (arith, ints, products, up, above) in
    let steps : ticks_by base r.outcome fill ≡ (fill.denominator * M) / (V.denominator * V0.denominator * positive_part fill.numerator) =
    ap (λ m. m / (V.denominator * V0.denominator * positive_part fill.numerator)) (part-scale X fill.denominator) in
    let less = still_above M fill.denominator V.denominator V0.denominator (positive_part fill.numerator) D a (gap r.price q) M_some fill.lowest.positive V_some V0.lowest.positive D_some
    (subst (λ k. gap r.price q < k) steps few) (last_amount fills fill at) in (
      before ++ a ∷ [],
      D,
      T,
      omega (arith, mul-le-mul_left V.denominator D_some, V_some),
      line_above V.numerator V0.numerator (earned_more o.side r.price q a) V.denominator V0.denominator D M (gap r.price q * a) (sym above) (earned a) less,
      there,
    )

none_below : (n : ℕ) → n < 0 → ⊥
none_below n lt = omega (arith, lt)

-- the price beside one that does not raise, to which the line has led, raises
pub raised_beside : (batch : Batch) (o : Order) (limit : ℕ) (base : Outcome) (ends : Ends) (above : Probed) → IsWithinLimits (with_order batch o) → AreEnds batch o limit base ends
    → ends.other.price ≡ next_along base o.side ends.raising.price ends.raising.outcome → above.price ≡ next_better o.side ends.other.price → (above.price ≡ ends.raising.price → ⊥)
    → IsProbed batch o limit above → is_raised base above.outcome ≡ true
raised_beside batch o limit base ends above within are along at off is =
    let r = ends.raising in
    let ticks = ticks_along base r.outcome in
    let leads : (a : ℕ) → (gap r.price above.price < ticks) × (earned_more o.side r.price above.price a ≡ neg_ℤ (pos (gap r.price above.price * a))) =
    λ a. moved o.side r.price above.price ends.other.price ticks a along are.better at off in
    raised_where_raises batch o limit base above within is (by (slice_get r.outcome.fills (length r.outcome.fills - 1)) refl (leads 0).0 (λ a. (leads a).1))
  where
    by : (found : Option Frac128) → slice_get ends.raising.outcome.fills (length ends.raising.outcome.fills - 1) ≡ found
        → gap ends.raising.price above.price < option_map_or (ticks_by base ends.raising.outcome) found 0
        → ((a : ℕ) → earned_more o.side ends.raising.price above.price a ≡ neg_ℤ (pos (gap ends.raising.price above.price * a)))
        → Raises batch o base above.price
    by None found few earned = absurd (none_below (gap ends.raising.price above.price) few)
    by (Some fill) found few earned = still_raises batch o limit base ends.raising above.price fill within are.raising are.raised found few earned
