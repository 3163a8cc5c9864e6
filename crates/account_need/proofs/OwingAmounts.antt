-- What the entries of a run owe at a state: the sums what is owed of them, the live sells of one
-- option at least what these may lose, and the calls that bound nothing.
use Rattle.std.proofs.Common.{◌≡◌, ℕ, zero, suc, ◌+◌, ◌-◌, ◌*◌, ◌≤◌, ◌++◌, Bool, true, false, cond, List, [], ◌∷◌, length, map, filter, get_or, replicate, All, arith, ℤ, pos, negsuc, ◌+ℤ◌, ◌-ℤ◌, ◌*ℤ◌, ◌≤ℤ◌, unsigned_abs, refl, ap, sym, ◌∙◌, subst}
use Rattle.std.specs.Int.{◌∣◌}
use Rattle.std.specs.Ordering.{int_eq}
use Rattle.std.proofs.lemmas.Bool.Decides.{Decides-int_eq}
use Rattle.std.proofs.lemmas.Int.{ints}
use Rattle.std.proofs.lemmas.List.{length-replicate, length-append}
use Rattle.std.proofs.lemmas.List.Elements.{All-head, All-tail}
use Rattle.arithmetic.specs.Sums.{positive_part}
use Rattle.arithmetic.proofs.Integers.{*ℤ_cancel, *ℤ_mono, swap_factors}
use Rattle.arithmetic.proofs.Parts.{part_below, positive_part_is, positive_part_least}
use Rattle.arithmetic.proofs.Products.{products}
use Rattle.exact_num.specs.Fraction.{Fraction, IsDefined, IsNotBelowZero, reduced, whole}
use Rattle.exact_num.specs.CommonDenominator.{IsRatio, amount_over}
use Rattle.exact_num.proofs.Fractions.{amount_is_exact}
use Rattle.exact_num.proofs.Values.{whole_is_lowest}
use Rattle.frac.specs.Range.{limit as largest}
use Rattle.form.specs.declared.bundles.Bundle.{Bundle}
use Rattle.form.specs.declared.limits.TheConstants.{MAX_OPTIONS}
use Rattle.form.specs.declared.orders.Order.{Order}
use Rattle.form.specs.declared.orders.Side.{Side}
use Rattle.form.specs.declared.orders.Side.TheVariants.{Buy, Sell}
use Rattle.form.specs.BundleOf.{bundle_one}
use Rattle.form.specs.FormOf.{form_of}
use Rattle.form.specs.Limits.{IsOrderWithin}
use Rattle.form.specs.Payoff.{BundleLeg, bundle_legs, bundle_payoff, dot, leg_of, one, payoff, scale_of}
use Rattle.form.proofs.MadeBundles.{legs_in-bundle_one}
use Rattle.form.proofs.SameForm.{option-form_of}
use Rattle.form.proofs.Vectors.{one_pays}
use Rattle.limits.specs.declared.TheConstants.{MAX_SETTLEMENT_PRICE}
use Rattle.settlement.specs.declared.position.Position.{Position}
use Rattle.portfolio_margin.specs.Owed.{fill_of, owed_by, owed_over}
use Rattle.account_need.specs.Exposure.{cost_by, loss_at, losses_at}
use Rattle.account_need.specs.Rounded.{OptionSum, owed_of, unit}
use Rattle.account_need.specs.Several.{counts_once, if_sell, is_single_sell, option_owing, owing, owing_single, owing_sum, side_of, top_call, tops_from}
use Rattle.account_need.proofs.Entered.{fraction_is, share_of}

-- ---- amounts
-- D is a multiple of the fill's denominator
abbrev pub IsOver : ℕ → Position → Type 0
IsOver D p = (fill_of p).denominator ∣ D

-- of a fill that is k / m
amount_by : (f : Fraction) (k m D : ℕ) → IsDefined f → f.denominator ∣ D → IsRatio f (pos k) m → amount_over D f *ℤ pos m ≡ pos k *ℤ pos D
amount_by f k m D defined divides ratio =
    *ℤ_cancel f.denominator (amount_over D f *ℤ pos m) (pos k *ℤ pos D) defined
    (swap_factors (amount_over D f) m f.denominator
    ∙ ap (λ (x : ℤ). x *ℤ pos m) (sym (amount_is_exact D f divides))
    ∙ swap_factors f.numerator D m
    ∙ ap (λ (x : ℤ). x *ℤ pos D) ratio
    ∙ swap_factors (pos k) f.denominator D)

sum_amount : (side : Side) (v : List ℤ) (k D : ℕ) → k ≤ largest → IsOver D (option_owing side v (reduced (pos k) unit))
    → amount_over D (fill_of (option_owing side v (reduced (pos k) unit))) *ℤ pos unit ≡ pos k *ℤ pos D
sum_amount side v k D few divides =
    let share = share_of k few in
    let p = option_owing side v (reduced (pos k) unit) in
    let ratio = subst (λ (f : Fraction). IsRatio f (pos k) unit) (sym (fraction_is (reduced (pos k) unit) share.lowest share.above share.below)) share.same in
    amount_by (fill_of p) k unit D p.fill.lowest.positive divides ratio

whole_fill : (side : Side) (bundle : Bundle) (q : ℕ) → q ≤ 1000000 → fill_of (owing side bundle (whole (pos q))) ≡ whole (pos q)
whole_fill side bundle q few = fraction_is (whole (pos q)) (whole_is_lowest (pos q)) (omega (arith, few)) (omega arith)

pub whole_due : (side : Side) (bundle : Bundle) (q : ℕ) → q ≤ 1000000 → IsNotBelowZero (fill_of (owing side bundle (whole (pos q))))
whole_due side bundle q few = subst IsNotBelowZero (sym (whole_fill side bundle q few)) (omega (arith, ints))

pub whole_amount : (side : Side) (bundle : Bundle) (q D : ℕ) → q ≤ 1000000 → IsOver D (owing side bundle (whole (pos q)))
    → amount_over D (fill_of (owing side bundle (whole (pos q)))) ≡ pos q *ℤ pos D
whole_amount side bundle q D few divides =
    let p = owing side bundle (whole (pos q)) in
    let ratio : IsRatio (fill_of p) (pos q) 1 = subst (λ (f : Fraction). IsRatio f (pos q) 1) (sym (whole_fill side bundle q few)) refl in
    let once : amount_over D (fill_of p) *ℤ pos 1 ≡ amount_over D (fill_of p) = omega (arith, ints) in
    sym once ∙ amount_by (fill_of p) q 1 D p.fill.lowest.positive divides ratio

-- ---- an option
-- one that a form has
pub record IsEntered (v : List ℤ) : Type 0 where
  pub some : 2 ≤ length v
  pub few : length v ≤ 9

option_pays : (v : List ℤ) (z : List ℕ) → IsEntered v → bundle_payoff (bundle_legs (bundle_one (form_of v))) z ≡ pos (payoff v z)
option_pays v z is =
    ap (λ legs. bundle_payoff (map leg_of legs) z) (legs_in-bundle_one (form_of v))
    ∙ ap (λ (w : List ℤ). bundle_payoff (one w) z) (option-form_of v is.some is.few)
    ∙ one_pays v z

-- ---- the sums
by_sign : (G a : ℤ) (h D : ℕ) → a *ℤ pos unit ≡ pos (unsigned_abs G) *ℤ pos D → owed_by (side_of G) (pos h *ℤ a) *ℤ pos unit ≡ (G *ℤ pos h) *ℤ pos D
by_sign (pos n) a h D is = omega (arith, ints, products, ap (λ (x : ℤ). x *ℤ pos h) is)
by_sign (negsuc n) a h D is = omega (arith, ints, products, ap (λ (x : ℤ). x *ℤ pos h) is)

-- such a sum may stand in a batch
pub record IsSumEntered (s : OptionSum) : Type 0 where
  pub option : IsEntered s.option
  pub small : unsigned_abs s.sum ≤ MAX_OPTIONS * unit

sum_owes : (D : ℕ) (z : List ℕ) (s : OptionSum) → IsSumEntered s → IsOver D (owing_sum s)
    → owed_by (side_of s.sum) (bundle_payoff (bundle_legs (bundle_one (form_of s.option))) z *ℤ amount_over D (fill_of (owing_sum s))) *ℤ pos unit ≡ (s.sum *ℤ pos (payoff s.option z)) *ℤ pos D
sum_owes D z s is divides =
    let a = amount_over D (fill_of (owing_sum s)) in
    ap (λ (x : ℤ). owed_by (side_of s.sum) (x *ℤ a) *ℤ pos unit) (option_pays s.option z is.option)
    ∙ by_sign s.sum a (payoff s.option z) D (sum_amount (side_of s.sum) s.option (unsigned_abs s.sum) D (omega (arith, is.small)) divides)

add_scaled : (x r g R : ℤ) (D : ℕ) → x *ℤ pos unit ≡ g *ℤ pos D → r *ℤ pos unit ≡ R *ℤ pos D → (x +ℤ r) *ℤ pos unit ≡ (g +ℤ R) *ℤ pos D
add_scaled x r g R D first rest = omega (arith, ints, products, first, rest)

pub sums_owe : (D : ℕ) (z : List ℕ) (sums : List OptionSum) → All IsSumEntered sums → All (IsOver D) (map owing_sum sums)
    → owed_over D (map owing_sum sums) z *ℤ pos unit ≡ owed_of z sums *ℤ pos D
sums_owe D z [] are over = omega (arith, ints)
sums_owe D z (s ∷ sums) are over =
    add_scaled (owed_by (side_of s.sum) (bundle_payoff (bundle_legs (bundle_one (form_of s.option))) z *ℤ amount_over D (fill_of (owing_sum s)))) (owed_over D (map owing_sum sums) z)
    (s.sum *ℤ pos (payoff s.option z)) (owed_of z sums) D
    (sum_owes D z s (All-head IsSumEntered s sums are) (All-head (IsOver D) (owing_sum s) (map owing_sum sums) over))
    (sums_owe D z sums (All-tail IsSumEntered s sums are) (All-tail (IsOver D) (owing_sum s) (map owing_sum sums) over))

-- ---- the live sells of one option
one_leg_pays : (leg : BundleLeg) (z : List ℕ) → int_eq leg.count (pos 1) ≡ true → bundle_payoff (leg ∷ []) z ≡ pos (payoff leg.option z)
one_leg_pays leg z e =
    let once = (Decides-int_eq leg.count (pos 1)).0 e in
    omega (arith, ints, ap (λ (n : ℤ). n *ℤ pos (payoff leg.option z)) once)

pub single_loss_is : (side : Side) (legs : List BundleLeg) (leg : BundleLeg) (paid : ℕ) (z : List ℕ) → if_sell side (counts_once legs) ≡ true → leg ≡ get_or legs 0 leg
    → positive_part (cost_by side paid (bundle_payoff legs z)) ≡ payoff leg.option z - paid
single_loss_is Buy legs leg paid z e is = absurd (cc)
single_loss_is Sell [] leg paid z e is = absurd (cc)
single_loss_is Sell (first ∷ []) leg paid z e is =
    ap (λ (y : ℤ). positive_part (y -ℤ pos paid)) (one_leg_pays first z e ∙ ap (λ (l : BundleLeg). pos (payoff l.option z)) (sym is))
    ∙ positive_part_is (payoff leg.option z) paid
single_loss_is Sell (first ∷ next ∷ legs) leg paid z e is = absurd (cc)

less_than_paid : (pays : ℤ) (h paid : ℕ) → pays ≡ pos h → pos (positive_part (pays -ℤ pos paid)) ≤ℤ pays
less_than_paid pays h paid is =
    let most = positive_part_least (pays -ℤ pos paid) h (omega (arith, ints, is)) in
    omega (arith, ints, is, most)

single_loses : (side : Side) (legs : List BundleLeg) (paid : ℕ) (z : List ℕ) → if_sell side (counts_once legs) ≡ true → pos (positive_part (cost_by side paid (bundle_payoff legs z))) ≤ℤ bundle_payoff legs z
single_loses Buy legs paid z e = absurd (cc)
single_loses Sell [] paid z e = absurd (cc)
single_loses Sell (leg ∷ []) paid z e = less_than_paid (bundle_payoff (leg ∷ []) z) (payoff leg.option z) paid (one_leg_pays leg z e)
single_loses Sell (leg ∷ next ∷ legs) paid z e = absurd (cc)

add_single : (l W q D : ℕ) (pays a r : ℤ) → a ≡ pos q *ℤ pos D → pos l ≤ℤ pays → pos (D * W) ≤ℤ r → pos (D * (q * l + W)) ≤ℤ ((pays *ℤ a) +ℤ r)
add_single l W q D pays a r is loses rest =
    let times = *ℤ_mono (q * D) (pos l) pays loses in
    let owed = ap (λ (x : ℤ). pays *ℤ x) is in
    omega (arith, ints, products, times, owed, rest)

pub singles_owe : (D : ℕ) (z : List ℕ) (live : List Order) → All IsOrderWithin live → All (IsOver D) (map owing_single (filter is_single_sell live))
    → pos (D * losses_at z (filter is_single_sell live)) ≤ℤ owed_over D (map owing_single (filter is_single_sell live)) z
singles_owe D z [] within over = omega (arith, ints)
singles_owe D z (o ∷ live) within over = by (is_single_sell o) refl over (λ h. singles_owe D z live (All-tail IsOrderWithin o live within) h)
  where
    rest : List Order
    rest = filter is_single_sell live

    by : (b : Bool) → is_single_sell o ≡ b → All (IsOver D) (map owing_single (cond b (o ∷ rest) rest))
        → (All (IsOver D) (map owing_single rest) → pos (D * losses_at z rest) ≤ℤ owed_over D (map owing_single rest) z)
        → pos (D * losses_at z (cond b (o ∷ rest) rest)) ≤ℤ owed_over D (map owing_single (cond b (o ∷ rest) rest)) z
    by true e h later =
        add_single (loss_at z o) (losses_at z rest) o.quantity D (bundle_payoff (bundle_legs o.bundle) z) (amount_over D (fill_of (owing_single o))) (owed_over D (map owing_single rest) z)
        (whole_amount Sell o.bundle o.quantity D (All-head IsOrderWithin o live within).quantity (All-head (IsOver D) (owing_single o) (map owing_single rest) h))
        (single_loses o.side (bundle_legs o.bundle) (o.price * scale_of z) z e) (later (All-tail (IsOver D) (owing_single o) (map owing_single rest) h))
    by false e h later = later h

-- ---- the calls that bound
zeros_pay : (n : ℕ) (s : List ℕ) → dot (replicate n (pos 0)) s ≡ pos 0
zeros_pay zero s = refl
zeros_pay (suc n) [] = refl
zeros_pay (suc n) (x ∷ s) = omega (arith, ints, zeros_pay n s)

-- one price is within the limit
price_within : (before after most : ℕ) (s : List ℕ) → All (λ x. x ≤ most) s → dot (replicate before (pos 0) ++ pos 1 ∷ replicate after (pos 0)) s ≤ℤ pos most
price_within zero after most [] within = omega (arith, ints)
price_within zero after most (x ∷ s) within = omega (arith, ints, zeros_pay after s, All-head (λ x. x ≤ most) x s within)
price_within (suc before) after most [] within = omega (arith, ints)
price_within (suc before) after most (x ∷ s) within = omega (arith, ints, price_within before after most s (All-tail (λ x. x ≤ most) x s within))

top_pays : (before after t : ℕ) (s : List ℕ) → All (λ x. x ≤ MAX_SETTLEMENT_PRICE * t) s → payoff (top_call before after) (t ∷ s) ≡ 0
top_pays before after t s within =
    let within_limit = price_within before after (MAX_SETTLEMENT_PRICE * t) s within in
    part_below (dot (top_call before after) (t ∷ s)) (omega (arith, ints, within_limit))

nothing_due : (pays a r : ℤ) → pays ≡ pos 0 → r ≡ pos 0 → owed_by Buy (pays *ℤ a) +ℤ r ≡ pos 0
nothing_due pays a r none rest = omega (arith, ints, ap (λ (x : ℤ). x *ℤ a) none, rest)

pub tops_owe : (D n before after t : ℕ) (s : List ℕ) → before + after ≡ n → n ≤ 8 → All (λ x. x ≤ MAX_SETTLEMENT_PRICE * t) s → owed_over D (tops_from before after) (t ∷ s) ≡ pos 0
tops_owe D n before zero t s is few within = refl
tops_owe D n before (suc after) t s is few within =
    let v = top_call before after in
    let zeros : List ℤ = replicate before (pos 0) in
    let rest : List ℤ = replicate after (pos 0) in
    let size : length v ≡ n + 1 = omega (arith, length-append zeros (pos 1 ∷ rest), length-replicate before (pos 0), length-replicate after (pos 0), is) in
    let entered : IsEntered v = record { some = omega (arith, size, is); few = omega (arith, size, few) } in
    let pays = option_pays v (t ∷ s) entered ∙ ap (λ (h : ℕ). pos h) (top_pays before after t s within) in
    nothing_due (bundle_payoff (bundle_legs (bundle_one (form_of v))) (t ∷ s)) (amount_over D (fill_of (option_owing Buy v (whole (pos 1))))) (owed_over D (tops_from (before + 1) after) (t ∷ s)) pays
    (tops_owe D n (before + 1) after t s (omega (arith, is)) few within)

-- ---- together
pub owed_of_both : (D : ℕ) (xs ys : List Position) (z : List ℕ) → owed_over D (xs ++ ys) z ≡ owed_over D xs z +ℤ owed_over D ys z
owed_of_both D [] ys z = omega (arith, ints)
owed_of_both D (p ∷ xs) ys z = omega (arith, ints, owed_of_both D xs ys z)
