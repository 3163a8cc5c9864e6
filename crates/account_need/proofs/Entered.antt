-- The entries of a run: their fills, their bundles, and what the code may ask of them.
use Rattle.std.proofs.Common.{◌≡◌, ◌≢◌, ℕ, zero, suc, ◌+◌, ◌-◌, ◌*◌, ◌/◌, ◌<◌, ◌≤◌, ◌^◌, ◌++◌, true, List, [], ◌∷◌, length, map, filter, take, replicate, set, length-append, append_assoc, All, arith, sum, ℤ, pos, ◌*ℤ◌, ◌≤ℤ◌, unsigned_abs, int_div, Ok, Err, refl, ap, sym, subst, ◌∙◌}
use Rattle.std.proofs.Math.Nat.{div-le_self}
use Rattle.std.proofs.lemmas.Bool.{and_from, le-leb}
use Rattle.std.proofs.lemmas.Int.{ints}
use Rattle.std.proofs.lemmas.List.{length-replicate, replicate-append-replicate, set_at, take_at}
use Rattle.std.proofs.lemmas.List.Elements.{All-append, All-cons, All-filter, All-head, All-nil, All-tail}
use Rattle.arithmetic.specs.Gcd.{gcd}
use Rattle.arithmetic.proofs.Integers.{*ℤ_cancel_le, *ℤ_mono, size_of_product}
use Rattle.arithmetic.proofs.Products.{products}
use Rattle.arithmetic.proofs.Quotients.{unsigned_abs-int_div}
use Rattle.exact_num.specs.declared.misfit.Wide.{Wide}
use Rattle.exact_num.specs.Fraction.{AtMost, Fraction, IsLowest, plain_product, reduced, whole}
use Rattle.exact_num.specs.Fits.{div_of, inverse, product_above, product_below, product_fits, product_value}
use Rattle.exact_num.proofs.Exactness.{product_within}
use Rattle.exact_num.proofs.ProductValues.{inverse_is_lowest, product_is, product_is_lowest}
use Rattle.exact_num.proofs.Values.{whole_is_lowest}
use Rattle.frac.specs.declared.frac128.Frac128.{Frac128}
use Rattle.frac.specs.Range.{limit}
use Rattle.frac.specs.Value.{fraction_of}
use Rattle.frac.specs.ValueOf.{value_of}
use Rattle.frac.proofs.Reducing.{product_reduced}
use Rattle.frac.proofs.ValueOf.{value-fraction_of}
use Rattle.form.specs.declared.bundles.Bundle.{Bundle}
use Rattle.form.specs.declared.legs.Leg.{Leg}
use Rattle.form.specs.declared.limits.TheConstants.{MAX_OPTIONS, MAX_ORDERS}
use Rattle.form.specs.declared.orders.Order.{Order}
use Rattle.form.specs.declared.orders.Side.{Side}
use Rattle.form.specs.declared.orders.Side.TheVariants.{Buy, Sell}
use Rattle.form.specs.BundleOf.{bundle_one}
use Rattle.form.specs.FormOf.{form_of}
use Rattle.form.specs.Payoff.{IsOnCount, count_sizes, option_of}
use Rattle.form.proofs.MadeBundles.{legs_in-bundle_one}
use Rattle.form.proofs.SameForm.{option-form_of}
use Rattle.form.proofs.Vectors.{length-option_of}
use Rattle.settlement.specs.Payout.{IsHolding}
use Rattle.settlement.specs.declared.position.Position.{Position}
use Rattle.settlement.specs.Positions.{IsHeldPosition}
use Rattle.account_need.specs.declared.sums.FormSum.{FormSum}
use Rattle.account_need.specs.Given.{IsBatched}
use Rattle.account_need.specs.Prices.{IsOrderOn, IsSumOn, in_code, option_sum}
use Rattle.account_need.specs.Rounded.{unit}
use Rattle.account_need.specs.Several.{is_single_sell, option_owing, owing, owing_in, owing_one, owing_single, owing_sum, side_of, top_call, tops, tops_from}

-- ---- fills
-- a fraction in lowest terms whose parts are of 128 bits is that of its value
pub fraction_is : (f : Fraction) → IsLowest f → unsigned_abs f.numerator < 2 ^ 127 → f.denominator < 2 ^ 127 → fraction_of (value_of f) ≡ f
fraction_is f low above below =
    let x : Frac128 = record { numerator = f.numerator; denominator = f.denominator; lowest = low; above_fits = above; below_fits = below } in
    ap fraction_of (value-fraction_of x)

unit_inverse : Fraction
unit_inverse = inverse (whole (pos unit))

quotient_fits : (k : ℕ) → k ≤ limit → product_fits limit (whole (pos k)) unit_inverse ≡ true
unfolding product_fits product_above product_below inverse unit_inverse
quotient_fits k le =
    let g = gcd k unit in
    let h = gcd 1 1 in
    let above : unsigned_abs (int_div (pos k) (pos g)) ≤ k = rw (unsigned_abs-int_div (pos k) g) (div-le_self k g) in
    let one : unsigned_abs (int_div (pos 1) (pos h)) ≤ 1 = rw (unsigned_abs-int_div (pos 1) h) (div-le_self 1 h) in
    let size = size_of_product (int_div (pos k) (pos g)) (int_div (pos 1) (pos h)) k 1 above one in
    and_from _ _ (le-leb _ limit (omega (arith, size, le))) (le-leb _ limit (below (1 / h) (unit / g) (div-le_self 1 h) (div-le_self unit g)))
  where
    below : (a b : ℕ) → a ≤ 1 → b ≤ unit → a * b ≤ limit
    below zero b ha hb = omega arith
    below (suc zero) b ha hb = omega (arith, hb)
    below (suc (suc a)) b ha hb = absurd (omega (arith, ha))

some_unit : pos unit ≢ pos 0
some_unit e = omega (arith, ints, e)

unit_lowest : IsLowest unit_inverse
unfolding unit_inverse
unit_lowest = inverse_is_lowest (whole (pos unit)) (whole_is_lowest (pos unit)) some_unit

quotient_is : (k : ℕ) → product_value (whole (pos k)) unit_inverse ≡ reduced (pos k) unit
unfolding inverse unit_inverse
quotient_is k =
    let one : pos k *ℤ pos 1 ≡ pos k = omega (arith, ints) in
    sym (product_reduced (whole (pos k)) unit_inverse (whole_is_lowest (pos k)) unit_lowest) ∙ ap (λ (n : ℤ). reduced n unit) one

-- so much of the unit
pub divided : (k : ℕ) → k ≤ limit → div_of limit (whole (pos k)) (whole (pos unit)) ≡ Ok (reduced (pos k) unit)
unfolding div_of unit_inverse
divided k le = rw (quotient_fits k le) (ap Ok (quotient_is k))

pub record IsShare (k : ℕ) (f : Fraction) : Type 0 where
  pub lowest : IsLowest f
  pub same : f.numerator *ℤ pos unit ≡ pos k *ℤ pos f.denominator
  pub above : unsigned_abs f.numerator < 2 ^ 127
  pub below : f.denominator < 2 ^ 127

pub share_of : (k : ℕ) → k ≤ limit → IsShare k (reduced (pos k) unit)
unfolding inverse unit_inverse
share_of k le = subst (IsShare k) (quotient_is k) share
  where
    share : IsShare k (product_value (whole (pos k)) unit_inverse)
    share =
        let x = whole (pos k) in
        let f = product_value x unit_inverse in
        let fits = product_within limit x unit_inverse (quotient_fits k le) in
        record {
          lowest = product_is_lowest x unit_inverse (whole_is_lowest (pos k)) unit_lowest;
          same = product_is x unit_inverse ∙ (let one : pos k *ℤ pos 1 ≡ pos k = omega (arith, ints) in ap (λ (n : ℤ). n *ℤ pos f.denominator) one);
          above = omega (arith, fits.above);
          below = omega (arith, fits.below);
        }

-- ---- what a position of a batch may have
pub held_whole : (side : Side) (bundle : Bundle) (q : ℕ) → q * count_sizes bundle ≤ MAX_OPTIONS → q ≤ 1000000 → IsHeldPosition (owing side bundle (whole (pos q)))
held_whole side bundle q counted few =
    subst (IsHolding bundle) (sym (fraction_is (whole (pos q)) (whole_is_lowest (pos q)) (omega (arith, few)) (omega arith)))
    (record { not_below_zero = omega (arith, ints); counted = omega (arith, ints, products, counted) })

one_counted : (v : List ℤ) → count_sizes (bundle_one (form_of v)) ≡ 1
one_counted v = ap (λ legs. sum (map (λ (leg : Leg). unsigned_abs leg.count) legs)) (legs_in-bundle_one (form_of v))

pub held_sum : (side : Side) (v : List ℤ) (k : ℕ) → k ≤ MAX_OPTIONS * unit → IsHeldPosition (option_owing side v (reduced (pos k) unit))
held_sum side v k le =
    let share = share_of k (omega (arith, le)) in
    let f = reduced (pos k) unit in
    subst (IsHolding (bundle_one (form_of v))) (sym (fraction_is f share.lowest share.above share.below))
    (record {
      not_below_zero = *ℤ_cancel_le unit (pos 0) f.numerator (omega arith) (omega (arith, ints, products, share.same));
      counted = rw (one_counted v) (counted f share.same);
    })
  where
    counted : (f : Fraction) → f.numerator *ℤ pos unit ≡ pos k *ℤ pos f.denominator → AtMost (plain_product f (whole (pos 1))) (whole (pos MAX_OPTIONS))
    counted f same =
        let most : (pos k *ℤ pos f.denominator) ≤ℤ (pos (MAX_OPTIONS * unit) *ℤ pos f.denominator) = *ℤ_mono f.denominator (pos k) (pos (MAX_OPTIONS * unit)) (omega (arith, ints, le)) in
        *ℤ_cancel_le unit ((f.numerator *ℤ pos 1) *ℤ pos 1) (pos MAX_OPTIONS *ℤ pos (f.denominator * 1)) (omega arith) (omega (arith, ints, products, same, most))

-- ---- the calls that bound
pub top_weights : (before n : ℕ) → before < n → n ≤ 8 → take n (set (replicate 8 (pos 0)) before (pos 1)) ≡ replicate before (pos 0) ++ pos 1 ∷ replicate (n - before - 1) (pos 0)
top_weights before n lt few =
    let k : ℕ = n - before - 1 in
    let m : ℕ = 8 - n in
    let p : List ℤ = replicate before (pos 0) in
    let q : List ℤ = replicate k (pos 0) in
    let r : List ℤ = replicate m (pos 0) in
    let size : 8 ≡ before + suc (k + m) = omega (arith, lt, few) in
    let zeros : replicate 8 (pos 0) ≡ p ++ pos 0 ∷ (q ++ r) =
    ap (λ (j : ℕ). replicate j (pos 0)) size
    ∙ sym (replicate-append-replicate before (suc (k + m)) (pos 0))
    ∙ ap (λ (ys : List ℤ). p ++ pos 0 ∷ ys) (sym (replicate-append-replicate k m (pos 0))) in
    let front : length (p ++ pos 1 ∷ q) ≡ n = omega (arith, length-append p (pos 1 ∷ q), length-replicate before (pos 0), length-replicate k (pos 0), lt) in
    ap (λ (xs : List ℤ). take n (set xs before (pos 1))) zeros
    ∙ ap (take n) (set_at p (pos 0) (q ++ r) (pos 1) before (length-replicate before (pos 0)) ∙ sym (append_assoc p (pos 1 ∷ q) r))
    ∙ take_at (p ++ pos 1 ∷ q) r n front

-- ---- all entries of a run
form_count : (v : List ℤ) (k : ℕ) → length v ≡ k → 2 ≤ k → k ≤ 9 → IsOnCount k (bundle_one (form_of v))
form_count v k size some few =
    let one : All (λ (leg : Leg). leg.form.count ≡ k) (record { count = pos 1; form = form_of v } ∷ []) =
    All-cons (λ (leg : Leg). leg.form.count ≡ k) (record { count = pos 1; form = form_of v }) []
    (sym (length-option_of (form_of v)) ∙ ap length (option-form_of v (omega (arith, size, some)) (omega (arith, size, few))) ∙ size) (All-nil (λ (leg : Leg). leg.form.count ≡ k)) in
    subst (All (λ (leg : Leg). leg.form.count ≡ k)) (sym (legs_in-bundle_one (form_of v))) one

abbrev pub IsOn : ℕ → Position → Type 0
IsOn count p = IsOnCount count p.bundle

one_held : (side : Side) (v : List ℤ) → IsHeldPosition (option_owing side v (whole (pos 1)))
one_held side v = held_whole side (bundle_one (form_of v)) 1 (omega (arith, one_counted v)) (omega arith)

pub tops_held : (before after : ℕ) → All IsHeldPosition (tops_from before after)
tops_held before zero = All-nil IsHeldPosition
tops_held before (suc after) =
    All-cons IsHeldPosition (option_owing Buy (top_call before after) (whole (pos 1))) (tops_from (before + 1) after) (one_held Buy (top_call before after)) (tops_held (before + 1) after)

pub tops_on : (n before after : ℕ) → before + after ≡ n → n ≤ 8 → All (IsOn (n + 1)) (tops_from before after)
tops_on n before zero is few = All-nil (IsOn (n + 1))
tops_on n before (suc after) is few =
    let zeros : List ℤ = replicate before (pos 0) in
    let rest : List ℤ = replicate after (pos 0) in
    let size : length (top_call before after) ≡ n + 1 = omega (arith, length-append zeros (pos 1 ∷ rest), length-replicate before (pos 0), length-replicate after (pos 0), is) in
    All-cons (IsOn (n + 1)) (option_owing Buy (top_call before after) (whole (pos 1))) (tops_from (before + 1) after)
    (form_count (top_call before after) (n + 1) size (omega (arith, is)) (omega (arith, few))) (tops_on n (before + 1) after (omega (arith, is)) few)

pub sums_held : (sums : List FormSum) → All IsBatched sums → All IsHeldPosition (map owing_sum (map option_sum sums))
sums_held [] small = All-nil IsHeldPosition
sums_held (s ∷ sums) small =
    All-cons IsHeldPosition (owing_sum (option_sum s)) (map owing_sum (map option_sum sums))
    (held_sum (side_of s.sum) (option_of s.form) (unsigned_abs s.sum) (All-head IsBatched s sums small)) (sums_held sums (All-tail IsBatched s sums small))

pub sums_on_count : (count : ℕ) (sums : List FormSum) → 2 ≤ count → count ≤ 9 → All (IsSumOn count) sums → All (IsOn count) (map owing_sum (map option_sum sums))
sums_on_count count [] some few on = All-nil (IsOn count)
sums_on_count count (s ∷ sums) some few on =
    All-cons (IsOn count) (owing_sum (option_sum s)) (map owing_sum (map option_sum sums))
    (form_count (option_of s.form) count (length-option_of s.form ∙ (All-head (IsSumOn count) s sums on).on) some few)
    (sums_on_count count sums some few (All-tail (IsSumOn count) s sums on))

pub singles_fit : (count : ℕ) (live : List Order) → All (IsOrderOn count) live → All IsHeldPosition (map owing_single live) × All (IsOn count) (map owing_single live)
singles_fit count [] on = (All-nil IsHeldPosition, All-nil (IsOn count))
singles_fit count (o ∷ live) on =
    let here = All-head (IsOrderOn count) o live on in
    let rest = singles_fit count live (All-tail (IsOrderOn count) o live on) in (
      All-cons IsHeldPosition (owing_single o) (map owing_single live) (held_whole Sell o.bundle o.quantity here.within.counted here.within.quantity) rest.0,
      All-cons (IsOn count) (owing_single o) (map owing_single live) here.on rest.1,
    )

-- of a market, and of a live order by itself
pub entries_fit : (n positions : ℕ) (sums : List FormSum) (live : List Order) → 1 ≤ n → n ≤ 8 → All IsBatched sums → All (IsSumOn (n + 1)) sums → All (IsOrderOn (n + 1)) live
    → All IsHeldPosition (owing_in n (in_code sums positions live)) × All (IsOn (n + 1)) (owing_in n (in_code sums positions live))
entries_fit n positions sums live some few small on orders =
    let singles = singles_fit (n + 1) (filter is_single_sell live) (All-filter is_single_sell (IsOrderOn (n + 1)) live orders) in
    let owed = map owing_sum (map option_sum sums) in
    let sold = map owing_single (filter is_single_sell live) in (
      All-append IsHeldPosition (owed ++ sold) (tops n) (All-append IsHeldPosition owed sold (sums_held sums small) singles.0) (tops_held 0 n),
      All-append (IsOn (n + 1)) (owed ++ sold) (tops n) (All-append (IsOn (n + 1)) owed sold (sums_on_count (n + 1) sums (omega (arith, some)) (omega (arith, few)) on) singles.1)
          (tops_on n 0 n (omega arith) few),
    )

pub one_fits : (n : ℕ) (o : Order) → n ≤ 8 → IsOrderOn (n + 1) o → All IsHeldPosition (owing_one n o) × All (IsOn (n + 1)) (owing_one n o)
one_fits n o few on =
    let p = owing o.side o.bundle (whole (pos 1)) in (
      All-cons IsHeldPosition p (tops n) (held_whole o.side o.bundle 1 (omega (arith, once o.quantity (count_sizes o.bundle) on.within.some on.within.counted)) (omega arith)) (tops_held 0 n),
      All-cons (IsOn (n + 1)) p (tops n) on.on (tops_on n 0 n (omega arith) few),
    )
  where
    once : (q c : ℕ) → 1 ≤ q → q * c ≤ MAX_OPTIONS → c ≤ MAX_OPTIONS
    once zero c some le = absurd (omega (arith, some))
    once (suc q) c some le = omega (arith, le)

pub sum_fill_is : (k : ℕ) (f x y : Fraction) → k ≤ limit → x ≡ whole (pos k) → y ≡ whole (pos unit) → Ok f ≡ div_of limit x y → f ≡ reduced (pos k) unit
sum_fill_is k f x y le ex ey e =
    let same : Ok f ≡ Ok (reduced (pos k) unit) = e ∙ (λ j. div_of limit (ex j) (ey j)) ∙ divided k le in
    cc

pub never_wide : (k : ℕ) (w : Wide) (x y : Fraction) → k ≤ limit → x ≡ whole (pos k) → y ≡ whole (pos unit) → Err w ≡ div_of limit x y → ⊥
never_wide k w x y le ex ey e =
    let same : Err w ≡ Ok (reduced (pos k) unit) = e ∙ (λ j. div_of limit (ex j) (ey j)) ∙ divided k le in
    cc

tops_length : (before after : ℕ) → length (tops_from before after) ≡ after
tops_length before zero = refl
tops_length before (suc after) = ap suc (tops_length (before + 1) after)

pub one_few : (n : ℕ) (o : Order) → n ≤ 8 → length (owing_one n o) ≤ MAX_ORDERS
one_few n o few = omega (arith, tops_length 0 n, few)
