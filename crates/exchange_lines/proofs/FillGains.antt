-- The gain of one batch is at least its surplus: fill by fill each rounding favours the house.
use Rattle.std.proofs.Common.{◌≡◌, ℕ, ◌*◌, ◌≤◌, List, [], ◌∷◌, map, length, arith, ℤ, pos, neg_ℤ, ◌+ℤ◌, ◌-ℤ◌, ◌*ℤ◌, ◌≤ℤ◌, ap, subst, ◌∙◌}
use Rattle.std.specs.List.{All, zip}
use Rattle.std.proofs.lemmas.Int.{ints}
use Rattle.std.proofs.lemmas.List.Elements.{All-head, All-tail, All-nil, All-cons}
use Rattle.arithmetic.specs.Sums.{positive_part, total}
use Rattle.arithmetic.proofs.Integers.{*ℤ_cancel_le, *ℤ_mono_left}
use Rattle.arithmetic.proofs.Products.{products}
use Rattle.clearing_model.specs.Certificate.{IsFill, FillsCover}
use Rattle.clearing_model.specs.Clearing.{Filled, for_side, if_buy, if_sell, net, premium}
use Rattle.exact_num.specs.CommonDenominator.{IsPart, IsRatio, amount_over, amounts_over, common_denominator}
use Rattle.exact_num.specs.Fraction.{Fraction, AtMost, IsDefined, plain_product, whole}
use Rattle.exact_num.proofs.Amounts.{amount_is_natural}
use Rattle.exact_num.proofs.Fractions.{each_is_its_amount}
use Rattle.exact_num.proofs.Ratios.{at_most_part, whole_part}
use Rattle.form.specs.declared.orders.Order.{Order}
use Rattle.form.specs.declared.orders.Side.{Side}
use Rattle.form.specs.declared.orders.Side.TheVariants.{Buy, Sell}
use Rattle.form.specs.Payoff.{BundleLeg, bundle_legs, bundle_of, bundle_payoff}
use Rattle.form.proofs.BundleLegs.{bundle_of-legs}
use Rattle.frac.specs.declared.frac128.Frac128.{Frac128}
use Rattle.frac.specs.Value.{fraction_of}
use Rattle.settlement.specs.Payout.{gain_of, worth_at}
use Rattle.settlement.specs.Premium.{premium_of}
use Rattle.settlement.proofs.Gains.{gains_are_rounded_down}
use Rattle.settlement.proofs.Quotients.{premiums_are_rounded}
use Rattle.exchange_lines.specs.Gain.{premium_gain}

-- ---- one fill
times_cross : (n c x : ℤ) (D d : ℕ) → n *ℤ pos D ≡ x *ℤ pos d → (n *ℤ c) *ℤ pos D ≡ (x *ℤ c) *ℤ pos (d * 1)
times_cross n c x D d h = omega (arith, ints, products, ap (λ w. w *ℤ c) h)

module _ (D : ℕ) (fill : Fraction) (amount : ℕ) (part : IsPart D fill (pos amount)) where
  times_part : (c : ℤ) → IsPart D (plain_product fill (whole c)) (pos amount *ℤ c)
  times_part c = (omega (arith, part.0), times_cross fill.numerator c (pos amount) D fill.denominator part.1)

  at_most_whole : (c m : ℤ) → AtMost (plain_product fill (whole c)) (whole m) → (pos amount *ℤ c) ≤ℤ (m *ℤ pos D)
  at_most_whole c m le = at_most_part D (plain_product fill (whole c)) (whole m) (pos amount *ℤ c) (m *ℤ pos D) (times_part c) (whole_part D m) le

  at_least_whole : (c m : ℤ) → AtMost (whole m) (plain_product fill (whole c)) → (m *ℤ pos D) ≤ℤ (pos amount *ℤ c)
  at_least_whole c m le = at_most_part D (whole m) (plain_product fill (whole c)) (m *ℤ pos D) (pos amount *ℤ c) (whole_part D m) (times_part c) le

  -- the premium less the gain of the trader is at least what the exact fill leaves
  fill_covers : (side : Side) (price : ℕ) (legs : List BundleLeg) (prices : List ℕ) → pos 0 ≤ℤ fill.numerator
      → (for_side side (pos price *ℤ pos amount) -ℤ for_side side (worth_at prices legs *ℤ pos amount))
      ≤ℤ ((for_side side (pos (premium_of side fill price)) -ℤ gain_of side fill legs prices) *ℤ pos D)
  fill_covers Buy price legs prices low =
      let paid = at_most_whole (pos price) (pos (premium_of Buy fill price)) (premiums_are_rounded fill price part.0 low).0.not_below in
      let gained = at_least_whole (worth_at prices legs) (gain_of Buy fill legs prices) (gains_are_rounded_down Buy fill legs prices part.0).not_above in
      buys (pos price) (pos (premium_of Buy fill price)) (worth_at prices legs) (gain_of Buy fill legs prices) (pos amount) (pos D) paid gained
    where
      buys : (price premium worth gain amount D : ℤ) → (amount *ℤ price) ≤ℤ (premium *ℤ D) → (gain *ℤ D) ≤ℤ (amount *ℤ worth)
          → ((price *ℤ amount) -ℤ (worth *ℤ amount)) ≤ℤ ((premium -ℤ gain) *ℤ D)
      buys price premium worth gain amount D p g = omega (arith, ints, products, p, g)
  fill_covers Sell price legs prices low =
      let got = at_least_whole (pos price) (pos (premium_of Sell fill price)) (premiums_are_rounded fill price part.0 low).1.not_above in
      let gained = at_least_whole (neg_ℤ (worth_at prices legs)) (gain_of Sell fill legs prices) (gains_are_rounded_down Sell fill legs prices part.0).not_above in
      sells (pos price) (pos (premium_of Sell fill price)) (worth_at prices legs) (gain_of Sell fill legs prices) (pos amount) (pos D) got gained
    where
      sells : (price premium worth gain amount D : ℤ) → (premium *ℤ D) ≤ℤ (amount *ℤ price) → (gain *ℤ D) ≤ℤ (amount *ℤ neg_ℤ worth)
          → (neg_ℤ (price *ℤ amount) -ℤ neg_ℤ (worth *ℤ amount)) ≤ℤ ((neg_ℤ premium -ℤ gain) *ℤ D)
      sells price premium worth gain amount D p g = omega (arith, ints, products, p, g)

-- ---- all fills
-- what an order adds to the sum over the buys less that over the sells
by_side : (side : Side) (v : ℤ) (amount : ℕ) (b s : ℤ)
    → ((v *ℤ pos (if_buy side amount)) +ℤ b) -ℤ ((v *ℤ pos (if_sell side amount)) +ℤ s) ≡ for_side side (v *ℤ pos amount) +ℤ (b -ℤ s)
by_side Buy v amount b s = omega (arith, ints, products)
by_side Sell v amount b s = omega (arith, ints, products)

both_cover : (p n P N a g A G D all_p all_n : ℤ) → all_p ≡ p +ℤ P → all_n ≡ n +ℤ N → (p -ℤ n) ≤ℤ ((a -ℤ g) *ℤ D) → (P -ℤ N) ≤ℤ ((A -ℤ G) *ℤ D)
    → (all_p -ℤ all_n) ≤ℤ (((a +ℤ A) -ℤ (g +ℤ G)) *ℤ D)
both_cover p n P N a g A G D all_p all_n e f one others = omega (arith, ints, products, e, f, one, others)

module _ (prices : List ℕ) where
  -- what the trader gains of a fill
  abbrev pub gain_on : Order × Frac128 → ℤ
  gain_on fill = gain_of fill.0.side (fraction_of fill.1) (bundle_legs fill.0.bundle) prices

  module _ (D : ℕ) where
    abbrev amounts_in : List Order → List Frac128 → List Filled
    amounts_in orders fills = zip orders (amounts_over D (map fraction_of fills))

    abbrev IsWhole : Fraction → Type 0
    IsWhole f = IsRatio f (amount_over D f) D

    fills_cover : (orders : List Order) (fills : List Frac128) → All IsFill (zip orders (map fraction_of fills)) → All IsWhole (map fraction_of fills)
        → (premium (amounts_in orders fills) -ℤ net (amounts_in orders fills) (1 ∷ prices))
        ≤ℤ ((total premium_gain (zip orders fills) -ℤ total gain_on (zip orders fills)) *ℤ pos D)
    fills_cover [] fills are parts = omega (arith, ints, products)
    fills_cover (order ∷ orders) [] are parts = omega (arith, ints, products)
    fills_cover (order ∷ orders) (fill ∷ fills) are parts =
        let f : Fraction = fraction_of fill in
        let amount : ℕ = positive_part (amount_over D f) in
        let is = All-head IsFill (order, f) (zip orders (map fraction_of fills)) are in
        let part : IsPart D f (pos amount) = (is.0, subst (λ x. IsRatio f x D) (amount_is_natural D f is.1) (All-head IsWhole f (map fraction_of fills) parts)) in
        let later = fills_cover orders fills (All-tail IsFill (order, f) (zip orders (map fraction_of fills)) are) (All-tail IsWhole f (map fraction_of fills) parts) in
        let worth : ℤ = worth_at prices (bundle_legs order.bundle) in
        let prices_sum : premium (amounts_in (order ∷ orders) (fill ∷ fills)) ≡ for_side order.side (pos order.price *ℤ pos amount) +ℤ premium (amounts_in orders fills) =
        by_side order.side (pos order.price) amount _ _ in
        let worths_sum : net (amounts_in (order ∷ orders) (fill ∷ fills)) (1 ∷ prices) ≡ for_side order.side (worth *ℤ pos amount) +ℤ net (amounts_in orders fills) (1 ∷ prices) =
        by_side order.side (bundle_payoff (bundle_of order) (1 ∷ prices)) amount _ _
        ∙ ap (λ legs. for_side order.side (worth_at prices legs *ℤ pos amount) +ℤ net (amounts_in orders fills) (1 ∷ prices)) (bundle_of-legs order) in
        both_cover (for_side order.side (pos order.price *ℤ pos amount)) (for_side order.side (worth *ℤ pos amount))
        (premium (amounts_in orders fills)) (net (amounts_in orders fills) (1 ∷ prices)) (premium_gain (order, fill)) (gain_on (order, fill)) (total premium_gain (zip orders fills))
        (total gain_on (zip orders fills)) (pos D) _ _ prices_sum worths_sum
        (fill_covers D f amount part order.side order.price (bundle_legs order.bundle) prices is.1) later

-- ---- the batch
at_least_surplus : (S P N G : ℤ) (d D : ℕ) → 1 ≤ D → (S *ℤ pos (D * 1)) ≤ℤ (pos d *ℤ (P *ℤ pos 1 -ℤ N)) → (P -ℤ N) ≤ℤ (G *ℤ pos D) → (S *ℤ pos 1) ≤ℤ (G *ℤ pos d)
at_least_surplus S P N G d D some covers le =
    let more = *ℤ_mono_left d (P -ℤ N) (G *ℤ pos D) le in
    let most : (S *ℤ pos D) ≤ℤ ((G *ℤ pos d) *ℤ pos D) = omega (arith, ints, products, covers, more) in
    omega (arith, ints, *ℤ_cancel_le D S (G *ℤ pos d) some most)

defined_of : (orders : List Order) (fills : List Fraction) → length fills ≡ length orders → All IsFill (zip orders fills) → All IsDefined fills
defined_of orders [] same are = All-nil IsDefined
defined_of [] (f ∷ fills) same are = absurd (omega (arith, same))
defined_of (order ∷ orders) (f ∷ fills) same are =
    All-cons IsDefined f fills (All-head IsFill (order, f) (zip orders fills) are).0 (defined_of orders fills (omega (arith, same)) (All-tail IsFill (order, f) (zip orders fills) are))

-- premiums less the traders' gains, at as many prices as underlyings
pub gain_covers : (n : ℕ) (orders : List Order) (fills : List Frac128) (S : Fraction) → FillsCover n orders (map fraction_of fills) S → (prices : List ℕ) → length prices ≡ n
    → AtMost S (whole (total premium_gain (zip orders fills) -ℤ total (gain_on prices) (zip orders fills)))
gain_covers n orders fills S cover prices count =
    let fs : List Fraction = map fraction_of fills in
    let D : ℕ = common_denominator fs in
    let parts = each_is_its_amount fs (defined_of orders fs cover.are_fills.0 cover.are_fills.1) in
    let filled : List Filled = zip orders (amounts_over D fs) in
    at_least_surplus S.numerator (premium filled) (net filled (1 ∷ prices)) _ S.denominator D parts.0 (cover.covers 1 prices (omega arith) count) (fills_cover prices D orders fills cover.are_fills.1 parts.1)
