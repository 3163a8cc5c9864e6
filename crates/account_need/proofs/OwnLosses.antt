-- What live orders may lose, by their kinds: the sells of one option, the buys that lose no more
-- than their premiums, and those that have runs of their own.
use Rattle.std.proofs.Common.{◌≡◌, ℕ, ◌+◌, ◌*◌, ◌≤◌, Bool, true, false, not, ◌&&◌, cond, List, [], ◌∷◌, filter, Ok, Err, if◌then◌else◌, arith, ℤ, pos, neg_ℤ, ◌+ℤ◌, ◌*ℤ◌, ◌≤ℤ◌, unsigned_abs, refl, ap}
use Rattle.std.specs.Prelude.{nat_le}
use Rattle.std.proofs.lemmas.Int.{ints}
use Rattle.std.proofs.lemmas.List.Elements.{All-head}
use native.Mathlib.Nat.{mul-le-mul_left}
use Rattle.arithmetic.specs.Sums.{positive_part}
use Rattle.arithmetic.proofs.Integers.{*ℤ_cancel_le, *ℤ_mono}
use Rattle.arithmetic.proofs.Parts.{positive_part_above, positive_part_least}
use Rattle.arithmetic.proofs.Products.{products}
use Rattle.exact_num.specs.Fraction.{whole}
use Rattle.exact_num.specs.CommonDenominator.{common_denominator}
use Rattle.frac.specs.Range.{limit as largest}
use Rattle.form.specs.declared.orders.Order.{Order}
use Rattle.form.specs.declared.orders.Side.{Side}
use Rattle.form.specs.declared.orders.Side.TheVariants.{Buy, Sell}
use Rattle.form.specs.Payoff.{bundle_legs, bundle_payoff, scale_of}
use Rattle.portfolio_margin.specs.Laws.{MayBeAsked}
use Rattle.portfolio_margin.specs.Owed.{fill_of, fills_of, owed_by, owed_over}
use Rattle.portfolio_margin.proofs.Owing.{Divides, common_is, fills_defined}
use Rattle.account_need.specs.declared.need.NoNeed.TheVariants.{Sum}
use Rattle.account_need.specs.Exposure.{IsInBox, cost_by, loss_at, losses_at}
use Rattle.account_need.specs.Several.{Bounded, and_then, is_by_itself, is_plain_buy, is_single_sell, less_price, own_loss, owing, owing_one, run_over, tops, with_one, with_own, within}
use Rattle.account_need.proofs.PlainBuys.{plain_loses}
use Rattle.account_need.proofs.OwingAmounts.{tops_owe, whole_amount}
use Rattle.account_need.proofs.RunBounds.{run_covers, value_in}

-- ---- by kinds
pub by_kinds : (z : List ℕ) (live : List Order) → losses_at z live ≤ losses_at z (filter is_single_sell live) + losses_at z (filter is_by_itself live)
by_kinds z [] = omega arith
by_kinds z (o ∷ live) = by (is_single_sell o) (is_plain_buy o) refl (by_kinds z live)
  where
    singles : List Order
    singles = filter is_single_sell live

    own : List Order
    own = filter is_by_itself live

    by : (single plain : Bool) → is_plain_buy o ≡ plain → losses_at z live ≤ losses_at z singles + losses_at z own
        → losses_at z (o ∷ live) ≤ losses_at z (cond single (o ∷ singles) singles) + losses_at z (cond (not single && not plain) (o ∷ own) own)
    by true plain e rest = omega (arith, rest)
    by false true e rest = omega (arith, rest, ap (λ (n : ℕ). o.quantity * n) (plain_loses o.side (bundle_legs o.bundle) (o.price * scale_of z) z e))
    by false false e rest = omega (arith, rest)

-- ---- a run of its own
-- what one bundle costs is at most the bound of its run, less the price of a sell
cost_within : (side : Side) (price t : ℕ) (pays L : ℤ) → owed_by side pays ≤ℤ (L *ℤ pos t) → cost_by side (price * t) pays ≤ℤ (less_price side price L *ℤ pos t)
cost_within Buy price t pays L le = omega (arith, ints, le)
cost_within Sell price t pays L le = omega (arith, ints, products, le)

loss_within : (c l : ℤ) (t : ℕ) → c ≤ℤ (l *ℤ pos t) → positive_part c ≤ positive_part l * t
loss_within c l t le =
    let times = *ℤ_mono t l (pos (positive_part l)) (positive_part_above l) in
    positive_part_least c (positive_part l * t) (omega (arith, ints, le, times))

one_owed : (side : Side) (pays a r L : ℤ) (D t : ℕ) → 1 ≤ D → a ≡ pos 1 *ℤ pos D → r ≡ pos 0 → (owed_by side (pays *ℤ a) +ℤ r) ≤ℤ (L *ℤ pos (D * t)) → owed_by side pays ≤ℤ (L *ℤ pos t)
one_owed Buy pays a r L D t some is none le = *ℤ_cancel_le D (neg_ℤ pays) (L *ℤ pos t) some (omega (arith, ints, products, ap (λ (x : ℤ). pays *ℤ x) is, none, le))
one_owed Sell pays a r L D t some is none le = *ℤ_cancel_le D pays (L *ℤ pos t) some (omega (arith, ints, products, ap (λ (x : ℤ). pays *ℤ x) is, none, le))

-- within, by its test
abbrev if_fits : Bool → ℤ → ℕ → Bounded
if_fits b S units = if b then Ok (S, units) else Err Sum

module _ (n t : ℕ) (s : List ℕ) (few : n ≤ 8) (box : IsInBox n t s) (asked : (o : Order) → MayBeAsked n (owing_one n o)) where
  z : List ℕ
  z = t ∷ s

  own_loses : (spent later : ℕ) (o : Order) (L : ℤ) → run_over n spent (owing_one n o) ≡ Ok (L, later) → o.quantity * loss_at (t ∷ s) o ≤ own_loss o L * t
  own_loses spent later o L found =
      let entries = owing_one n o in
      let first = owing o.side o.bundle (whole (pos 1)) in
      let D = common_denominator (fills_of entries) in
      let common = common_is (fills_of entries) (fills_defined entries) in
      let pays = bundle_payoff (bundle_legs o.bundle) (t ∷ s) in
      let amount = whole_amount o.side o.bundle 1 D (omega arith) (All-head (Divides D) (fill_of first) (fills_of (tops n)) common.divides) in
      let tops_nothing = tops_owe D n 0 n t s (omega arith) few box.within in
      let owed = run_covers n spent entries (asked o) L later found t s box D common in
      let cost = cost_within o.side o.price t pays L (one_owed o.side pays _ (owed_over D (tops n) (t ∷ s)) L D t common.some amount tops_nothing owed) in
      let loss = loss_within _ (less_price o.side o.price L) t cost in
      omega (arith, mul-le-mul_left o.quantity loss)

  -- one order more
  one_more : (S S' : ℤ) (own q loss : ℕ) → S +ℤ pos own ≡ S' → q * loss ≤ own * t → ((S *ℤ pos t) +ℤ pos (q * loss)) ≤ℤ (S' *ℤ pos t)
  one_more S S' own q loss is le = omega (arith, ints, products, le, ap (λ (x : ℤ). x *ℤ pos t) is)

  one_within : (o : Order) (S S' : ℤ) (spent later : ℕ) → with_one n o S spent ≡ Ok (S', later) → ((S *ℤ pos t) +ℤ pos (o.quantity * loss_at (t ∷ s) o)) ≤ℤ (S' *ℤ pos t)
  one_within o S S' spent later found = by (run_over n spent (owing_one n o)) refl found
    where
      by : (ran : Bounded) → run_over n spent (owing_one n o) ≡ ran → and_then ran (λ L units. within (S +ℤ pos (own_loss o L)) units) ≡ Ok (S', later)
          → ((S *ℤ pos t) +ℤ pos (o.quantity * loss_at (t ∷ s) o)) ≤ℤ (S' *ℤ pos t)
      by (Err word) e h = absurd (cc)
      by (Ok (L, units)) e h = fits (nat_le (unsigned_abs (S +ℤ pos (own_loss o L))) largest) h
        where
          fits : (b : Bool) → if_fits b (S +ℤ pos (own_loss o L)) units ≡ Ok (S', later) → ((S *ℤ pos t) +ℤ pos (o.quantity * loss_at (t ∷ s) o)) ≤ℤ (S' *ℤ pos t)
          fits false h = absurd (cc)
          fits true h = one_more S S' (own_loss o L) o.quantity (loss_at (t ∷ s) o) (ap value_in h) (own_loses spent units o L e)

  added : (S S1 S' : ℤ) (here rest : ℕ) → ((S *ℤ pos t) +ℤ pos here) ≤ℤ (S1 *ℤ pos t) → ((S1 *ℤ pos t) +ℤ pos rest) ≤ℤ (S' *ℤ pos t) → ((S *ℤ pos t) +ℤ pos (here + rest)) ≤ℤ (S' *ℤ pos t)
  added S S1 S' here rest first later = omega (arith, ints, first, later)

  -- all of them
  pub own_within : (live : List Order) (S S' : ℤ) (spent later : ℕ) → with_own n live S spent ≡ Ok (S', later) → ((S *ℤ pos t) +ℤ pos (losses_at (t ∷ s) live)) ≤ℤ (S' *ℤ pos t)
  own_within [] S S' spent later found =
      let same : S ≡ S' = ap value_in found in
      omega (arith, ints, ap (λ (x : ℤ). x *ℤ pos t) same)
  own_within (o ∷ live) S S' spent later found =
      by (with_one n o S spent) refl found (λ S1 units h. own_within live S1 S' units later h)
    where
      by : (one : Bounded) → with_one n o S spent ≡ one → and_then one (with_own n live) ≡ Ok (S', later)
          → ((S1 : ℤ) (units : ℕ) → with_own n live S1 units ≡ Ok (S', later) → ((S1 *ℤ pos t) +ℤ pos (losses_at (t ∷ s) live)) ≤ℤ (S' *ℤ pos t))
          → ((S *ℤ pos t) +ℤ pos (losses_at (t ∷ s) (o ∷ live))) ≤ℤ (S' *ℤ pos t)
      by (Err word) e h rest = absurd (cc)
      by (Ok (S1, units)) e h rest = added S S1 S' (o.quantity * loss_at (t ∷ s) o) (losses_at (t ∷ s) live) (one_within o S S1 spent units e) (rest S1 units h)
