-- A clear: what is owed of the new positions is at most what their orders could lose, and the
-- premiums that were got for them.
use Rattle.std.proofs.Common.{◌≡◌, ℕ, ◌+◌, ◌*◌, ◌/◌, ◌<◌, ◌≤◌, Bool, true, false, cond, List, [], ◌∷◌, ◌++◌, length, map, filter, All, arith, ℤ, pos, negsuc, neg_ℤ, ◌+ℤ◌, ◌-ℤ◌, ◌*ℤ◌, ◌≤ℤ◌, refl, ap, sym, subst, length-append}
use Rattle.std.specs.Int.{◌∣◌, div_ceil}
use Rattle.std.proofs.lemmas.Int.{ints}
use Rattle.std.proofs.lemmas.List.{length-map}
use Rattle.std.proofs.lemmas.List.Elements.{All-cons, All-head, All-nil, All-tail}
use Rattle.std.proofs.lemmas.List.Filters.{length-filter_both}
use mathlib.Core.Bool.{not}
use Rattle.std.proofs.Math.Nat.{mul-le-mul_right}
use native.Mathlib.Nat.{mul-le-mul_left, mul-div_cancel'}
use Rattle.arithmetic.specs.Sums.{positive_part}
use Rattle.arithmetic.proofs.Integers.{*ℤ_mono}
use Rattle.arithmetic.proofs.Parts.{positive_part_above, positive_part_least}
use Rattle.arithmetic.proofs.Products.{products}
use Rattle.exact_num.specs.Fraction.{Fraction}
use Rattle.exact_num.specs.CommonDenominator.{amount_over}
use Rattle.form.specs.declared.orders.Order.{Order}
use Rattle.form.specs.declared.orders.Side.{Side}
use Rattle.form.specs.declared.orders.Side.TheVariants.{Buy, Sell}
use Rattle.form.specs.Payoff.{bundle_legs, bundle_payoff}
use Rattle.frac.specs.Value.{fraction_of}
use Rattle.clearing_model.specs.Clearing.{if_buy, if_sell}
use Rattle.settlement.specs.declared.position.Position.{Position}
use Rattle.settlement.specs.Premium.{premium_of}
use Rattle.settlement.proofs.Quotients.{ceil_least}
use Rattle.portfolio_margin.specs.Owed.{fill_of, fills_of, owed_by, owed_over}
use Rattle.account_need.specs.Exposure.{Portfolio, IsEnough, cost_by, loss_at, losses_at, reserve_for, reserve_of, asked_by}
use Rattle.account_need.specs.Moves.{OrderFill, Held, ClearsKeep, IsFilled, held_by, held_of, is_some_fill, order_in, premium_got, premiums_got}
use Rattle.account_need.proofs.OwingAmounts.{owed_of_both}
use Rattle.account_need.proofs.Portfolios.{portfolio, portfolio_is}

abbrev Divides : ℕ → Fraction → Type 0
Divides D f = f.denominator ∣ D

-- ---- one fill
-- k of at most q D bundles over D, that pay x each, at a premium of which k takes at most D (got + 1)
fill_owes : (side : Side) (price q D t k got : ℕ) (x : ℤ) → k ≤ q * D → price * k ≤ (got + 1) * D
    → owed_by side (x *ℤ pos k) ≤ℤ pos (D * (q * positive_part (cost_by side (price * t) x)) + D * t * (if_sell side got + 1))
fill_owes Buy price q D t k got x few premium =
    let above = *ℤ_mono k (neg_ℤ x) (pos (positive_part (neg_ℤ x))) (positive_part_above (neg_ℤ x)) in
    let times = mul-le-mul_left (positive_part (neg_ℤ x)) few in
    omega (arith, ints, products, above, times)
fill_owes Sell price q D t k got x few premium =
    let above = *ℤ_mono k (x -ℤ pos (price * t)) (pos (positive_part (x -ℤ pos (price * t)))) (positive_part_above (x -ℤ pos (price * t))) in
    let times = mul-le-mul_left (positive_part (x -ℤ pos (price * t))) few in
    let paid = mul-le-mul_left t premium in
    omega (arith, ints, products, above, times, paid)

-- a fraction n / d of at most q, over D
record IsPart (price q D : ℕ) (n d k : ℕ) : Type 0 where
  few : k ≤ q * D
  premium : price * k ≤ (n * price / d + 1) * D

part_over : (price q D n d : ℕ) → 0 < d → d ∣ D → n ≤ q * d → IsPart price q D n d (n * (D / d))
part_over price q D n d some divides le =
    let e = D / d in
    let whole : d * e ≡ D = mul-div_cancel' d divides in
    let few = mul-le-mul_right e le in
    let next : n * price ≤ (n * price / d + 1) * d = below (n * price) d some in
    let most = mul-le-mul_right e next in
    record {
      few = omega (arith, few, ap (λ (m : ℕ). q * m) whole);
      premium = omega (arith, most, ap (λ (m : ℕ). (n * price / d + 1) * m) whole);
    }
  where
    below : (a d : ℕ) → 0 < d → a ≤ (a / d + 1) * d
    below a d some = omega arith

-- ---- all fills
abbrev got_of : OrderFill → ℕ
got_of fill = if_sell fill.0.side (premium_of Sell (fraction_of fill.1) fill.0.price)

abbrev paid_of : OrderFill → ℕ
paid_of fill = if_buy fill.0.side (premium_of Buy (fraction_of fill.1) fill.0.price)

abbrev all_got : List OrderFill → ℕ
all_got [] = 0
all_got (fill ∷ fills) = got_of fill + all_got fills

abbrev all_paid : List OrderFill → ℕ
all_paid [] = 0
all_paid (fill ∷ fills) = paid_of fill + all_paid fills

-- what is owed of one fill
owed_of_fill : (D t : ℕ) (s : List ℕ) (fill : OrderFill) → IsFilled fill → (fraction_of fill.1).denominator ∣ D
    → owed_by fill.0.side (bundle_payoff (bundle_legs fill.0.bundle) (t ∷ s) *ℤ amount_over D (fraction_of fill.1))
    ≤ℤ pos (D * (fill.0.quantity * loss_at (t ∷ s) fill.0) + D * t * (got_of fill + 1))
owed_of_fill D t s fill filled divides =
    by (fraction_of fill.1).numerator filled.1 filled.2
  where
    d : ℕ
    d = (fraction_of fill.1).denominator

    x : ℤ
    x = bundle_payoff (bundle_legs fill.0.bundle) (t ∷ s)

    by : (n : ℤ) → pos 0 ≤ℤ n → n ≤ℤ pos (fill.0.quantity * d)
        → owed_by fill.0.side (x *ℤ (n *ℤ pos (D / d)))
        ≤ℤ pos (D * (fill.0.quantity * loss_at (t ∷ s) fill.0) + D * t * (if_sell fill.0.side (positive_part n * fill.0.price / d) + 1))
    by (pos n) not_below le =
        let part = part_over fill.0.price fill.0.quantity D n d filled.0 divides (omega (arith, ints, le)) in
        fill_owes fill.0.side fill.0.price fill.0.quantity D t (n * (D / d)) (n * fill.0.price / d) x part.few part.premium
    by (negsuc n) not_below le = absurd (omega (arith, ints, not_below))

-- what is paid for one fill
paid_for_fill : (fill : OrderFill) → IsFilled fill → paid_of fill ≤ reserve_for fill.0
paid_for_fill fill filled = by fill.0.side
  where
    d : ℕ
    d = (fraction_of fill.1).denominator

    most : (n : ℤ) → pos 0 ≤ℤ n → n ≤ℤ pos (fill.0.quantity * d) → div_ceil (positive_part n * fill.0.price) d ≤ fill.0.quantity * fill.0.price
    most (pos n) not_below le =
        let few : n ≤ fill.0.quantity * d = omega (arith, ints, le) in
        let times = mul-le-mul_left fill.0.price few in
        ceil_least (n * fill.0.price) d (fill.0.quantity * fill.0.price) filled.0 (omega (arith, times))
    most (negsuc n) not_below le = absurd (omega (arith, ints, not_below))

    by : (side : Side) → if_buy side (premium_of Buy (fraction_of fill.1) fill.0.price) ≤ if_buy side (fill.0.quantity * fill.0.price)
    by Buy = most (fraction_of fill.1).numerator filled.1 filled.2
    by Sell = omega arith

-- what an account gets of premiums is what it got less what it paid
premium_is : (fill : OrderFill) → premium_got fill ≡ pos (got_of fill) -ℤ pos (paid_of fill)
premium_is fill = by fill.0.side
  where
    by : (side : Side) → owed_by side (pos (premium_of side (fraction_of fill.1) fill.0.price))
        ≡ pos (if_sell side (premium_of Sell (fraction_of fill.1) fill.0.price)) -ℤ pos (if_buy side (premium_of Buy (fraction_of fill.1) fill.0.price))
    by Buy = omega (arith, ints)
    by Sell = omega (arith, ints)

premiums_are : (fills : List OrderFill) → premiums_got fills ≡ pos (all_got fills) -ℤ pos (all_paid fills)
premiums_are [] = refl
premiums_are (fill ∷ fills) = omega (arith, ints, premium_is fill, premiums_are fills)

all_paid_for : (fills : List OrderFill) → All IsFilled fills → all_paid fills ≤ reserve_of (map order_in fills)
all_paid_for [] filled = omega arith
all_paid_for (fill ∷ fills) filled =
    omega (arith, paid_for_fill fill (All-head IsFilled fill fills filled), all_paid_for fills (All-tail IsFilled fill fills filled))

-- ---- the new positions
-- a position of a fill owes what its order does
owes_as : (D : ℕ) (z : List ℕ) (p : Position) (fill : OrderFill) → held_of p ≡ held_by fill
    → owed_by p.side (bundle_payoff (bundle_legs p.bundle) z *ℤ amount_over D (fill_of p))
    ≡ owed_by fill.0.side (bundle_payoff (bundle_legs fill.0.bundle) z *ℤ amount_over D (fraction_of fill.1))
owes_as D z p fill is = ap (λ (h : Held). owed_by h.0 (bundle_payoff (bundle_legs h.1) z *ℤ amount_over D (fraction_of h.2))) is

denominator_as : (D : ℕ) (p : Position) (fill : OrderFill) → held_of p ≡ held_by fill → Divides D (fill_of p) → (fraction_of fill.1).denominator ∣ D
denominator_as D p fill is divides = subst (λ (h : Held). (fraction_of h.2).denominator ∣ D) is divides

first_held : (a b : Held) (xs ys : List Held) → a ∷ xs ≡ b ∷ ys → (a ≡ b) × (xs ≡ ys)
first_held a b xs ys e = (cc, cc)

abbrev OwesLess : (D t : ℕ) → List ℕ → List OrderFill → List Position → Type 0
OwesLess D t s fills held = owed_over D held (t ∷ s) ≤ℤ pos (D * losses_at (t ∷ s) (map order_in fills) + D * t * (all_got fills + length fills))

all_owed : (D t : ℕ) (s : List ℕ) (fills : List OrderFill) (held : List Position) → map held_of held ≡ map held_by (filter is_some_fill fills)
    → All IsFilled fills → All (Divides D) (fills_of held) → OwesLess D t s fills held
all_owed D t s [] [] is filled divides = omega (arith, ints)
all_owed D t s [] (p ∷ held) is filled divides = cc
all_owed D t s (fill ∷ fills) held is filled divides = by (is_some_fill fill) (λ held is divides. all_owed D t s fills held is later divides) held is divides
  where
    here : IsFilled fill
    here = All-head IsFilled fill fills filled

    later : All IsFilled fills
    later = All-tail IsFilled fill fills filled

    z : List ℕ
    z = t ∷ s

    by : (b : Bool) → ((held : List Position) → map held_of held ≡ map held_by (filter is_some_fill fills) → All (Divides D) (fills_of held) → OwesLess D t s fills held)
        → (held : List Position) → map held_of held ≡ map held_by (cond b (fill ∷ filter is_some_fill fills) (filter is_some_fill fills)) → All (Divides D) (fills_of held)
        → OwesLess D t s (fill ∷ fills) held
    by true others [] is divides = cc
    by true others (p ∷ held) is divides =
        let parts = first_held (held_of p) (held_by fill) (map held_of held) (map held_by (filter is_some_fill fills)) is in
        let rest = others held parts.1 (All-tail (Divides D) (fill_of p) (fills_of held) divides) in
        let first = owed_of_fill D t s fill here (denominator_as D p fill parts.0 (All-head (Divides D) (fill_of p) (fills_of held) divides)) in
        omega (arith, ints, owes_as D z p fill parts.0, first, rest)
    by false others held is divides =
        let rest = others held is divides in
        omega (arith, ints, rest)

few_held : (fills : List OrderFill) (held : List Position) → map held_of held ≡ map held_by (filter is_some_fill fills) → length held ≤ length fills
few_held fills held is =
    let some = filter is_some_fill fills in
    let same = ap length is in
    omega (arith, same, length-map held held_of, length-map some held_by, length-filter_both is_some_fill (λ fill. not (is_some_fill fill)) (λ fill. refl) fills)

-- ---- the clear
parts_of : (D : ℕ) (ps qs : List Position) → All (Divides D) (fills_of (ps ++ qs)) → All (Divides D) (fills_of ps) × All (Divides D) (fills_of qs)
parts_of D [] qs h = (All-nil (Divides D), h)
parts_of D (p ∷ ps) qs h =
    let rest = parts_of D ps qs (All-tail (Divides D) (fill_of p) (fills_of (ps ++ qs)) h) in
    (All-cons (Divides D) (fill_of p) (fills_of ps) (All-head (Divides D) (fill_of p) (fills_of (ps ++ qs)) h) rest.0, rest.1)

count_of_fills : (fills : List OrderFill) → length (map order_in fills) ≡ length fills
count_of_fills [] = refl
count_of_fills (fill ∷ fills) = omega (arith, count_of_fills fills)

covered : (o h S : ℤ) (D t L more : ℕ) → (o +ℤ pos (D * L)) ≤ℤ (S *ℤ pos (D * t)) → h ≤ℤ pos (D * L + D * t * more) → ((o +ℤ h) +ℤ pos (D * 0)) ≤ℤ ((S +ℤ pos more) *ℤ pos (D * t))
covered o h S D t L more first second = omega (arith, ints, products, first, second)

asked : (R P m k got paid : ℕ) (S balance : ℤ) → pos (R + positive_part (S +ℤ pos (P + 2 * m))) ≤ℤ balance → paid ≤ R → k ≤ m
    → pos (0 + positive_part ((S +ℤ pos (got + m)) +ℤ pos (P + k + 2 * 0))) ≤ℤ (balance +ℤ (pos got -ℤ pos paid))
asked R P m k got paid S balance enough low few =
    let x = S +ℤ pos (P + 2 * m) in
    let y = (S +ℤ pos (got + m)) +ℤ pos (P + k + 2 * 0) in
    let a = positive_part_above x in
    let least = positive_part_least y (positive_part x + got) (omega (arith, ints, a, few)) in
    omega (arith, ints, enough, least, low)

cleared : (n : ℕ) (ps held : List Position) (fills : List OrderFill) (balance : ℤ) → map held_of held ≡ map held_by (filter is_some_fill fills) → All IsFilled fills
    → IsEnough (portfolio n ps (map order_in fills)) balance → IsEnough (portfolio n (ps ++ held) []) (balance +ℤ premiums_got fills)
cleared n ps held fills balance is filled e =
    let more = all_got fills + length fills in
    let size = length-append ps held in
    let orders = count_of_fills fills in
    let few = few_held fills held is in
    let amount = asked (reserve_of (map order_in fills)) (length ps) (length fills) (length held) (all_got fills) (all_paid fills) e.bound balance (subst (λ (m : ℕ). pos (reserve_of (map order_in fills) + positive_part (e.bound +ℤ pos (length ps + 2 * m))) ≤ℤ balance) orders e.asked) (all_paid_for fills filled) few in
    record {
      bound = e.bound +ℤ pos more;
      covers = λ t s box D den.
          let parts = parts_of D ps held den.divides in
          let owed = all_owed D t s fills held is filled parts.1 in
          let before = e.covers t s box D (record { some = den.some; divides = parts.0 }) in
          subst (λ (o : ℤ). (o +ℤ pos (D * 0)) ≤ℤ ((e.bound +ℤ pos more) *ℤ pos (D * t))) (sym (owed_of_both D ps held (t ∷ s)))
          (covered (owed_over D ps (t ∷ s)) (owed_over D held (t ∷ s)) e.bound D t (losses_at (t ∷ s) (map order_in fills)) more before owed);
      asked = subst (λ (b : ℤ). pos (asked_by (portfolio n (ps ++ held) []) (e.bound +ℤ pos more)) ≤ℤ (balance +ℤ b)) (sym (premiums_are fills))
          (subst (λ (k : ℕ). pos (0 + positive_part ((e.bound +ℤ pos more) +ℤ pos (k + 2 * 0))) ≤ℤ (balance +ℤ (pos (all_got fills) -ℤ pos (all_paid fills)))) (sym size) amount);
    }

pub clears_keep : ClearsKeep
clears_keep before after fills balance is e =
    let same = portfolio_is after before.underlyings (before.positions ++ is.held) [] is.underlyings is.positions is.gone in
    subst (λ (p : Portfolio). IsEnough p (balance +ℤ premiums_got fills)) (sym same)
    (cleared before.underlyings before.positions is.held fills balance is.as_filled is.within
    (subst (λ (live : List Order). IsEnough (portfolio before.underlyings before.positions live) balance) (sym is.orders) e))
