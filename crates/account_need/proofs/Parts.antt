-- What a position owes of an option, rounded up.
use Rattle.std.proofs.Common.{◌≡◌, ℕ, zero, suc, ◌+◌, ◌*◌, ◌/◌, ◌<◌, ◌≤◌, Bool, true, false, List, [], ◌∷◌, map, arith, ℤ, pos, negsuc, neg_ℤ, ◌+ℤ◌, ◌*ℤ◌, ◌≤ℤ◌, ◌<ℤ◌, unsigned_abs, refl, ap, subst, ◌∙◌}
use Rattle.std.specs.Int.{div_ceil}
use Rattle.std.proofs.Math.Nat.{mul-le-mul_left}
use Rattle.std.proofs.lemmas.Int.{ints, unsigned_abs-mul}
use Rattle.std.proofs.lemmas.List.Sums.{sum_by-cons}
use Rattle.arithmetic.proofs.Products.{products}
use Rattle.exact_num.specs.Fraction.{AtMost, over, plain_product, whole}
use Rattle.form.specs.declared.bundles.Bundle.{Bundle}
use Rattle.form.specs.declared.legs.Leg.{Leg}
use Rattle.form.specs.declared.limits.TheConstants.{MAX_OPTIONS}
use Rattle.form.specs.declared.orders.Side.{Side}
use Rattle.form.specs.declared.orders.Side.TheVariants.{Buy, Sell}
use Rattle.form.specs.Payoff.{bundle_legs, count_sizes, leg_of, legs_in, option_of}
use Rattle.form.specs.Vector.{is_same_option}
use Rattle.settlement.specs.declared.position.Position.{Position}
use Rattle.settlement.specs.Positions.{IsHeldPosition}
use Rattle.settlement.proofs.Quotients.{above, above_back, ceil_least, down_fits}
use Rattle.settlement.proofs.Worth.{sizes_of}
use Rattle.portfolio_margin.specs.Need.{ceil_of}
use Rattle.portfolio_margin.specs.Owed.{fill_of, owed_by}
use Rattle.account_need.specs.Rounded.{count_if, count_of, part_owed, unit}

-- ---- how often an option counts
counts_few : (v : List ℤ) (legs : List Leg) → unsigned_abs (count_of v (map leg_of legs)) ≤ sizes_of legs
counts_few v [] = omega arith
counts_few v (leg ∷ legs) = by (is_same_option (option_of leg.form) v) (counts_few v legs)
  where
    more : sizes_of (leg ∷ legs) ≡ unsigned_abs leg.count + sizes_of legs
    more = sum_by-cons (λ (n : ℕ). n) (unsigned_abs leg.count) (map (λ (leg : Leg). unsigned_abs leg.count) legs)

    by : (b : Bool) → unsigned_abs (count_of v (map leg_of legs)) ≤ sizes_of legs → unsigned_abs (count_if b leg.count +ℤ count_of v (map leg_of legs)) ≤ sizes_of (leg ∷ legs)
    by true le = omega (arith, ints, more, le)
    by false le = omega (arith, ints, more, le)

owed_size : (side : Side) (c : ℤ) → unsigned_abs (owed_by side c) ≡ unsigned_abs c
owed_size Buy c = omega (arith, ints)
owed_size Sell c = refl

pub owed_few : (v : List ℤ) (side : Side) (bundle : Bundle) → unsigned_abs (owed_by side (count_of v (bundle_legs bundle))) ≤ count_sizes bundle
owed_few v side bundle = omega (arith, owed_size side (count_of v (bundle_legs bundle)), counts_few v (legs_in bundle))

-- ---- a fill of fewer options
fewer : (x : ℤ) (d sizes k : ℕ) → pos 0 ≤ℤ x → k ≤ sizes → AtMost (plain_product (over x d) (whole (pos sizes))) (whole (pos MAX_OPTIONS)) → AtMost (plain_product (over x d) (whole (pos k))) (whole (pos MAX_OPTIONS))
fewer (pos n) d sizes k low le counted =
    above n k d MAX_OPTIONS (omega (arith, mul-le-mul_left n le, above_back n sizes d MAX_OPTIONS counted))
fewer (negsuc n) d sizes k low le counted = absurd (omega (arith, ints, low))

pub fewer_options : (p : Position) (k : ℕ) → IsHeldPosition p → k ≤ count_sizes p.bundle → AtMost (plain_product (fill_of p) (whole (pos k))) (whole (pos MAX_OPTIONS))
fewer_options p k held le = fewer (fill_of p).numerator (fill_of p).denominator (count_sizes p.bundle) k held.not_below_zero le held.counted

-- ---- rounded up
pub ceil_above : (times x : ℤ) (n d : ℕ) → pos 0 <ℤ times → x ≡ pos n → ceil_of ((times *ℤ x) *ℤ pos unit) d ≡ pos (div_ceil (n * (unsigned_abs times * unit)) d)
ceil_above times x n d some is =
    let e : (times *ℤ x) *ℤ pos unit ≡ pos (n * (unsigned_abs times * unit)) = whole_is times x n some is in
    ap (λ (y : ℤ). ceil_of y d) e
  where
    whole_is : (times x : ℤ) (n : ℕ) → pos 0 <ℤ times → x ≡ pos n → (times *ℤ x) *ℤ pos unit ≡ pos (n * (unsigned_abs times * unit))
    whole_is (pos k) x n some is = rw is (omega (arith, ints, products))
    whole_is (negsuc k) x n some is = absurd (omega (arith, ints, some))

below_zero : (m d : ℕ) → 0 < d → ceil_of (neg_ℤ (pos m)) d ≡ neg_ℤ (pos (m / d))
below_zero zero d some = none (div_ceil 0 d) (0 / d) (ceil_least 0 d 0 some (omega arith)) (down_fits 0 d 0 (ceil_least 0 d 0 some (omega arith)))
  where
    none : (a b : ℕ) → a ≤ 0 → b ≤ 0 → pos a ≡ neg_ℤ (pos b)
    none a b la lb = omega (arith, ints, la, lb)
below_zero (suc m) d some = refl

pub ceil_below : (times x : ℤ) (n d : ℕ) → 0 < d → times ≤ℤ pos 0 → x ≡ pos n → ceil_of ((times *ℤ x) *ℤ pos unit) d ≡ neg_ℤ (pos (n * (unsigned_abs times * unit) / d))
ceil_below times x n d some low is =
    let e : (times *ℤ x) *ℤ pos unit ≡ neg_ℤ (pos (n * (unsigned_abs times * unit))) = whole_is times x n low is in
    ap (λ (y : ℤ). ceil_of y d) e ∙ below_zero (n * (unsigned_abs times * unit)) d some
  where
    whole_is : (times x : ℤ) (n : ℕ) → times ≤ℤ pos 0 → x ≡ pos n → (times *ℤ x) *ℤ pos unit ≡ neg_ℤ (pos (n * (unsigned_abs times * unit)))
    whole_is (pos zero) x n low is = rw is (omega (arith, ints, products))
    whole_is (pos (suc k)) x n low is = absurd (omega (arith, ints, low))
    whole_is (negsuc k) x n low is = rw is (omega (arith, ints, products))

-- ---- and small
pub share_small : (n k d : ℕ) → 0 < d → n * k ≤ MAX_OPTIONS * d → div_ceil (n * (k * unit)) d ≤ 4294967296000000
share_small n k d some few = ceil_least (n * (k * unit)) d 4294967296000000 some (omega (arith, few))

-- with the numbers as they are read
pub share_fits : (n r e k d : ℕ) → r ≡ k → e ≡ d → 0 < d → n * k ≤ MAX_OPTIONS * d → div_ceil (n * (r * 4294967296)) e ≤ 4294967296000000
share_fits n r e k d r_is e_is some few = rw (r_is, e_is) (share_small n k d some few)

pub few_parts : (x : ℤ) (n d k : ℕ) → x ≡ pos n → AtMost (plain_product (over x d) (whole (pos k))) (whole (pos MAX_OPTIONS)) → n * k ≤ MAX_OPTIONS * d
few_parts x n d k is few = above_back n k d MAX_OPTIONS (subst (λ (y : ℤ). AtMost (plain_product (over y d) (whole (pos k))) (whole (pos MAX_OPTIONS))) is few)

ceil_small : (y : ℤ) (d most : ℕ) → 0 < d → unsigned_abs y ≤ most * d → unsigned_abs (ceil_of y d) ≤ most
ceil_small (pos n) d most some le = ceil_least n d most some le
ceil_small (negsuc n) d most some le = omega (arith, ints, down_fits (suc n) d most (ceil_least (suc n) d most some le))

pub part_small : (v : List ℤ) (p : Position) → IsHeldPosition p → unsigned_abs (part_owed v p) ≤ 4294967296000000
part_small v p held =
    by (fill_of p).numerator held.not_below_zero (fewer_options p (unsigned_abs c) held (omega (arith, counts_few v (legs_in p.bundle))))
  where
    c : ℤ
    c = count_of v (bundle_legs p.bundle)

    d : ℕ
    d = (fill_of p).denominator

    by : (x : ℤ) → pos 0 ≤ℤ x → AtMost (plain_product (over x d) (whole (pos (unsigned_abs c)))) (whole (pos MAX_OPTIONS)) → unsigned_abs (ceil_of (owed_by p.side (c *ℤ x) *ℤ pos unit) d) ≤ 4294967296000000
    by (pos n) low few =
        let le : n * unsigned_abs c ≤ MAX_OPTIONS * d = above_back n (unsigned_abs c) d MAX_OPTIONS few in
        let size = unsigned_abs-mul (owed_by p.side (c *ℤ pos n)) (pos unit) in
        let same = owed_size p.side (c *ℤ pos n) in
        ceil_small (owed_by p.side (c *ℤ pos n) *ℤ pos unit) d 4294967296000000 p.fill.lowest.positive (omega (arith, size, same, unsigned_abs-mul c (pos n), le))
    by (negsuc n) low few = absurd (omega (arith, ints, low))
