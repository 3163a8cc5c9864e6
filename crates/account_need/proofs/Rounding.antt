-- What is owed of rounded sums is at least what positions owe: option by option, and for each
-- position.
use Rattle.std.proofs.Common.{◌≡◌, ℕ, ◌*◌, ◌/◌, Bool, true, false, cond, ◌⊎◌, inl, inr, List, [], ◌∷◌, ◌++◌, map, filter, All, arith, ℤ, pos, ◌+ℤ◌, ◌*ℤ◌, ◌≤ℤ◌, refl, ap, sym, subst, ◌∙◌}
use Rattle.std.specs.List.{flat_map}
use Rattle.std.specs.Ordering.{int_eq}
use mathlib.Core.Bool.{not}
use Rattle.std.proofs.lemmas.Bool.Decides.{Decides-int_eq}
use Rattle.std.proofs.lemmas.Int.{ints}
use Rattle.std.proofs.lemmas.List.Elements.{All-head, All-tail}
use native.Mathlib.Nat.{mul-div_cancel'}
use Rattle.arithmetic.specs.Sums.{total}
use Rattle.arithmetic.proofs.Integers.{*ℤ_mono}
use Rattle.arithmetic.proofs.Products.{products}
use Rattle.exact_num.specs.Fraction.{over}
use Rattle.exact_num.specs.CommonDenominator.{amount_over}
use Rattle.form.specs.declared.orders.Side.{Side}
use Rattle.form.specs.declared.orders.Side.TheVariants.{Buy, Sell}
use Rattle.form.specs.Payoff.{BundleLeg, bundle_legs, bundle_payoff, over_legs, payoff}
use Rattle.form.specs.Vector.{is_same_option}
use Rattle.form.proofs.SameOption.{same_option_is, option_is_same}
use Rattle.settlement.specs.declared.position.Position.{Position}
use Rattle.portfolio_margin.specs.Owed.{fill_of, fills_of, owed_by, owed_over}
use Rattle.portfolio_margin.proofs.Owing.{Divides}
use Rattle.portfolio_margin.proofs.Rounded.{liabilities_are_rounded_up}
use Rattle.account_need.specs.Rounded.{OptionSum, count_if, count_of, each_once, is_some_sum, options_held, options_of, owed_of, part_owed, sum_of, sums_held, unit}
use Rattle.account_need.specs.Laws.{RoundedOwesMore}

-- ---- how often an option stands in a list
one_if : List ℤ → List ℤ → ℤ
one_if u v = count_if (is_same_option u v) (pos 1)

times_in : List ℤ → List (List ℤ) → ℤ
times_in u options = total (one_if u) options

not_same : (u v : List ℤ) → (u ≡ v → ⊥) → is_same_option u v ≡ false
not_same u v ne = by (is_same_option u v) refl
  where
    by : (b : Bool) → is_same_option u v ≡ b → is_same_option u v ≡ false
    by true e = absurd (ne (same_option_is u v e))
    by false e = e

taken_out : (u : List ℤ) (options : List (List ℤ)) → times_in u (filter (λ w. not (is_same_option w u)) options) ≡ pos 0
unfolding times_in one_if
taken_out u [] = refl
taken_out u (w ∷ options) = by (is_same_option w u) refl (taken_out u options)
  where
    rest : List (List ℤ)
    rest = filter (λ w. not (is_same_option w u)) options

    by : (b : Bool) → is_same_option w u ≡ b → times_in u rest ≡ pos 0 → times_in u (cond (not b) (w ∷ rest) rest) ≡ pos 0
    by true e h = h
    by false e h =
        let other : is_same_option u w ≡ false = not_same u w (λ same. let itself : is_same_option w w ≡ true = option_is_same w in let turned : is_same_option w w ≡ false = subst (λ (x : List ℤ). is_same_option w x ≡ false) same e in cc) in
        rw other (omega (arith, ints, h))

kept_others : (u v : List ℤ) (options : List (List ℤ)) → is_same_option u v ≡ false → times_in u (filter (λ w. not (is_same_option w v)) options) ≡ times_in u options
unfolding times_in one_if
kept_others u v [] ne = refl
kept_others u v (w ∷ options) ne = by (is_same_option w v) refl (kept_others u v options ne)
  where
    rest : List (List ℤ)
    rest = filter (λ w. not (is_same_option w v)) options

    by : (b : Bool) → is_same_option w v ≡ b → times_in u rest ≡ times_in u options → times_in u (cond (not b) (w ∷ rest) rest) ≡ times_in u (w ∷ options)
    by true e h =
        let same : w ≡ v = same_option_is w v e in
        let other : is_same_option u w ≡ false = subst (λ (x : List ℤ). is_same_option u x ≡ false) (sym same) ne in
        rw other (omega (arith, ints, h))
    by false e h = ap (λ (n : ℤ). count_if (is_same_option u w) (pos 1) +ℤ n) h

abbrev IsIn : List ℤ → List (List ℤ) → Type 0
IsIn u [] = ⊥
IsIn u (v ∷ options) = (u ≡ v) ⊎ IsIn u options

stands_once : (u : List ℤ) (options : List (List ℤ)) → IsIn u options → times_in u (each_once options) ≡ pos 1
unfolding times_in one_if
stands_once u [] is = absurd is
stands_once u (v ∷ options) is = go is (λ is. stands_once u options is)
  where
    rest : List (List ℤ)
    rest = filter (λ w. not (is_same_option w v)) (each_once options)

    first : u ≡ v → count_if (is_same_option u v) (pos 1) +ℤ times_in u rest ≡ pos 1
    first same =
        let yes : is_same_option u v ≡ true = subst (λ (x : List ℤ). is_same_option u x ≡ true) same (option_is_same u) in
        let none : times_in u rest ≡ pos 0 = subst (λ (x : List ℤ). times_in x rest ≡ pos 0) (sym same) (taken_out v (each_once options)) in
        rw yes (omega (arith, ints, none))

    go : (u ≡ v) ⊎ IsIn u options → (IsIn u options → times_in u (each_once options) ≡ pos 1) → count_if (is_same_option u v) (pos 1) +ℤ times_in u rest ≡ pos 1
    go (inl same) h = first same
    go (inr is) h = by (is_same_option u v) refl (h is)
      where
        by : (b : Bool) → is_same_option u v ≡ b → times_in u (each_once options) ≡ pos 1 → count_if (is_same_option u v) (pos 1) +ℤ times_in u rest ≡ pos 1
        by true e h = first (same_option_is u v e)
        by false e h = rw e (omega (arith, ints, h, kept_others u v (each_once options) e))

-- ---- the options of positions
in_front : (u : List ℤ) (xs ys : List (List ℤ)) → IsIn u xs → IsIn u (xs ++ ys)
in_front u [] ys is = absurd is
in_front u (v ∷ xs) ys (inl same) = inl same
in_front u (v ∷ xs) ys (inr is) = inr (in_front u xs ys is)

in_back : (u : List ℤ) (xs ys : List (List ℤ)) → IsIn u ys → IsIn u (xs ++ ys)
in_back u [] ys is = is
in_back u (v ∷ xs) ys is = inr (in_back u xs ys is)

-- each leg's option stands once among the options
Onces : List (List ℤ) → List BundleLeg → Type 0
Onces options [] = Unit {0}
Onces options (leg ∷ legs) = (times_in leg.option options ≡ pos 1) × Onces options legs

EachOnces : List (List ℤ) → List Position → Type 0
EachOnces options [] = Unit {0}
EachOnces options (p ∷ ps) = Onces options (bundle_legs p.bundle) × EachOnces options ps

legs_once : (options : List (List ℤ)) (legs : List BundleLeg) → ((u : List ℤ) → IsIn u (options_of legs) → times_in u options ≡ pos 1) → Onces options legs
unfolding Onces
legs_once options [] h = tt
legs_once options (leg ∷ legs) h = (h leg.option (inl refl), legs_once options legs (λ u is. h u (inr is)))

positions_once : (options : List (List ℤ)) (ps : List Position) → ((u : List ℤ) → IsIn u (flat_map (λ (p : Position). options_of (bundle_legs p.bundle)) ps) → times_in u options ≡ pos 1) → EachOnces options ps
unfolding EachOnces
positions_once options [] h = tt
positions_once options (p ∷ ps) h =
    let first = options_of (bundle_legs p.bundle) in
    let rest = flat_map (λ (p : Position). options_of (bundle_legs p.bundle)) ps in (
      legs_once options (bundle_legs p.bundle) (λ u is. h u (in_front u first rest is)),
      positions_once options ps (λ u is. h u (in_back u first rest is)),
    )

held_once : (ps : List Position) → EachOnces (options_held ps) ps
held_once ps = positions_once (options_held ps) ps (λ u is. stands_once u (flat_map (λ (p : Position). options_of (bundle_legs p.bundle)) ps) is)

-- ---- a bundle pays option by option
total_zero : {A : Type 0} (f : A → ℕ) (xs : List A) → total (λ x. pos 0 *ℤ pos (f x)) xs ≡ pos 0
total_zero f [] = refl
total_zero f (x ∷ xs) = omega (arith, ints, total_zero f xs)

total_sum : {A : Type 0} (a b : A → ℤ) (f : A → ℕ) (xs : List A) → total (λ x. (a x +ℤ b x) *ℤ pos (f x)) xs ≡ total (λ x. a x *ℤ pos (f x)) xs +ℤ total (λ x. b x *ℤ pos (f x)) xs
total_sum a b f [] = refl
total_sum a b f (x ∷ xs) = omega (arith, ints, products, total_sum a b f xs)

leg_pays : (f : List ℤ → ℕ) (u : List ℤ) (c : ℤ) (options : List (List ℤ)) → total (λ v. count_if (is_same_option u v) c *ℤ pos (f v)) options ≡ (c *ℤ pos (f u)) *ℤ times_in u options
unfolding times_in one_if
leg_pays f u c [] = omega (arith, ints)
leg_pays f u c (v ∷ options) = by (is_same_option u v) refl (leg_pays f u c options)
  where
    by : (b : Bool) → is_same_option u v ≡ b → total (λ v. count_if (is_same_option u v) c *ℤ pos (f v)) options ≡ (c *ℤ pos (f u)) *ℤ times_in u options
        → (count_if b c *ℤ pos (f v)) +ℤ total (λ v. count_if (is_same_option u v) c *ℤ pos (f v)) options ≡ (c *ℤ pos (f u)) *ℤ (count_if b (pos 1) +ℤ times_in u options)
    by true e h =
        let same = ap (λ (w : List ℤ). c *ℤ pos (f w)) (same_option_is u v e) in
        omega (arith, ints, products, h, same)
    by false e h = omega (arith, ints, products, h)

bundle_pays : (f : List ℤ → ℕ) (options : List (List ℤ)) (legs : List BundleLeg) → Onces options legs → total (λ v. count_of v legs *ℤ pos (f v)) options ≡ over_legs f legs
unfolding Onces
bundle_pays f options [] once = total_zero f options
bundle_pays f options (leg ∷ legs) once =
    let parts = total_sum (λ v. count_if (is_same_option leg.option v) leg.count) (λ v. count_of v legs) f options in
    let first = leg_pays f leg.option leg.count options in
    let one = ap (λ (n : ℤ). (leg.count *ℤ pos (f leg.option)) *ℤ n) once.0 in
    omega (arith, ints, parts, first, one, bundle_pays f options legs once.1)

-- ---- one position
turned : (side : Side) (c n : ℤ) (q : ℕ) → owed_by side (c *ℤ (n *ℤ pos q)) *ℤ pos unit ≡ (owed_by side (c *ℤ n) *ℤ pos unit) *ℤ pos q
turned Buy c n q = omega (arith, ints, products)
turned Sell c n q = omega (arith, ints, products)

pub up_over : (x m : ℤ) (d q D : ℕ) → d * q ≡ D → (x *ℤ pos 1) ≤ℤ (m *ℤ pos d) → (x *ℤ pos q) ≤ℤ (m *ℤ pos D)
up_over x m d q D whole le =
    let times = *ℤ_mono q (x *ℤ pos 1) (m *ℤ pos d) le in
    let same = ap (λ (k : ℕ). m *ℤ pos k) whole in
    omega (arith, ints, products, times, same)

part_bounds : (D : ℕ) (v : List ℤ) (p : Position) → Divides D (fill_of p)
    → (owed_by p.side (count_of v (bundle_legs p.bundle) *ℤ amount_over D (fill_of p)) *ℤ pos unit) ≤ℤ (part_owed v p *ℤ pos D)
part_bounds D v p divides =
    let f = fill_of p in
    let c = count_of v (bundle_legs p.bundle) in
    let x = owed_by p.side (c *ℤ f.numerator) *ℤ pos unit in
    let up = (liabilities_are_rounded_up (over x f.denominator) p.fill.lowest.positive).not_below in
    subst (λ (y : ℤ). y ≤ℤ (part_owed v p *ℤ pos D)) (sym (turned p.side c f.numerator (D / f.denominator)))
    (up_over x (part_owed v p) f.denominator (D / f.denominator) D (mul-div_cancel' f.denominator divides) up)

one_option : (side : Side) (c T a m M : ℤ) (h D : ℕ) → (owed_by side (c *ℤ a) *ℤ pos unit) ≤ℤ (m *ℤ pos D) → (owed_by side (T *ℤ a) *ℤ pos unit) ≤ℤ (M *ℤ pos D)
    → (owed_by side (((c *ℤ pos h) +ℤ T) *ℤ a) *ℤ pos unit) ≤ℤ (((m *ℤ pos h) +ℤ M) *ℤ pos D)
one_option side c T a m M h D first rest = by side (*ℤ_mono h (owed_by side (c *ℤ a) *ℤ pos unit) (m *ℤ pos D) first) rest
  where
    by : (side : Side) → ((owed_by side (c *ℤ a) *ℤ pos unit) *ℤ pos h) ≤ℤ ((m *ℤ pos D) *ℤ pos h) → (owed_by side (T *ℤ a) *ℤ pos unit) ≤ℤ (M *ℤ pos D)
        → (owed_by side (((c *ℤ pos h) +ℤ T) *ℤ a) *ℤ pos unit) ≤ℤ (((m *ℤ pos h) +ℤ M) *ℤ pos D)
    by Buy first rest = omega (arith, ints, products, first, rest)
    by Sell first rest = omega (arith, ints, products, first, rest)

nothing : (side : Side) (a : ℤ) (D : ℕ) → (owed_by side (pos 0 *ℤ a) *ℤ pos unit) ≤ℤ (pos 0 *ℤ pos D)
nothing Buy a D = omega (arith, ints)
nothing Sell a D = omega (arith, ints)

options_bound : (D : ℕ) (f : List ℤ → ℕ) (p : Position) → Divides D (fill_of p) → (options : List (List ℤ))
    → (owed_by p.side (total (λ v. count_of v (bundle_legs p.bundle) *ℤ pos (f v)) options *ℤ amount_over D (fill_of p)) *ℤ pos unit) ≤ℤ (total (λ v. part_owed v p *ℤ pos (f v)) options *ℤ pos D)
options_bound D f p divides [] = nothing p.side (amount_over D (fill_of p)) D
options_bound D f p divides (v ∷ options) =
    let T = total (λ v. count_of v (bundle_legs p.bundle) *ℤ pos (f v)) options in
    let M = total (λ v. part_owed v p *ℤ pos (f v)) options in
    one_option p.side (count_of v (bundle_legs p.bundle)) T (amount_over D (fill_of p)) (part_owed v p) M (f v) D (part_bounds D v p divides) (options_bound D f p divides options)

-- ---- all positions
more_owed : (o r a b : ℤ) (D : ℕ) → (o *ℤ pos unit) ≤ℤ (a *ℤ pos D) → (r *ℤ pos unit) ≤ℤ (b *ℤ pos D) → ((o +ℤ r) *ℤ pos unit) ≤ℤ ((a +ℤ b) *ℤ pos D)
more_owed o r a b D first rest = omega (arith, ints, products, first, rest)

positions_bound : (D : ℕ) (z : List ℕ) (options : List (List ℤ)) (ps : List Position) → All (Divides D) (fills_of ps) → EachOnces options ps
    → (owed_over D ps z *ℤ pos unit) ≤ℤ (total (λ v. total (part_owed v) ps *ℤ pos (payoff v z)) options *ℤ pos D)
unfolding EachOnces
positions_bound D z options [] divides once =
    let none = total_zero (λ v. payoff v z) options in
    omega (arith, ints, ap (λ (n : ℤ). n *ℤ pos D) none)
positions_bound D z options (p ∷ ps) divides once =
    let h : List ℤ → ℕ = λ v. payoff v z in
    let here = options_bound D h p (All-head (Divides D) (fill_of p) (fills_of ps) divides) options in
    let pays = bundle_pays h options (bundle_legs p.bundle) once.0 in
    let o = owed_by p.side (bundle_payoff (bundle_legs p.bundle) z *ℤ amount_over D (fill_of p)) in
    let a = total (λ v. part_owed v p *ℤ pos (h v)) options in
    let b = total (λ v. total (part_owed v) ps *ℤ pos (h v)) options in
    let first : (o *ℤ pos unit) ≤ℤ (a *ℤ pos D) = subst (λ (x : ℤ). (owed_by p.side (x *ℤ amount_over D (fill_of p)) *ℤ pos unit) ≤ℤ (a *ℤ pos D)) pays here in
    subst (λ (x : ℤ). ((o +ℤ owed_over D ps z) *ℤ pos unit) ≤ℤ (x *ℤ pos D)) (sym (total_sum (λ v. part_owed v p) (λ v. total (part_owed v) ps) h options))
    (more_owed o (owed_over D ps z) a b D first (positions_bound D z options ps (All-tail (Divides D) (fill_of p) (fills_of ps) divides) once.1))

-- ---- sums that are 0 owe nothing
owed_without_zeros : (z : List ℕ) (sums : List OptionSum) → owed_of z (filter is_some_sum sums) ≡ owed_of z sums
owed_without_zeros z [] = refl
owed_without_zeros z (s ∷ sums) = by (int_eq s.sum (pos 0)) refl (owed_without_zeros z sums)
  where
    by : (b : Bool) → int_eq s.sum (pos 0) ≡ b → owed_of z (filter is_some_sum sums) ≡ owed_of z sums
        → owed_of z (cond (not b) (s ∷ filter is_some_sum sums) (filter is_some_sum sums)) ≡ owed_of z (s ∷ sums)
    by true e h =
        let zero : s.sum ≡ pos 0 = (Decides-int_eq s.sum (pos 0)).0 e in
        omega (arith, ints, h, ap (λ (n : ℤ). n *ℤ pos (payoff s.option z)) zero)
    by false e h = omega (arith, ints, h)

owed_by_options : (z : List ℕ) (ps : List Position) (options : List (List ℤ)) → owed_of z (map (sum_of ps) options) ≡ total (λ v. total (part_owed v) ps *ℤ pos (payoff v z)) options
owed_by_options z ps [] = refl
owed_by_options z ps (v ∷ options) = omega (arith, ints, owed_by_options z ps options)

pub rounded_owes_more : RoundedOwesMore
rounded_owes_more ps z D den =
    subst (λ (x : ℤ). (owed_over D ps z *ℤ pos unit) ≤ℤ (x *ℤ pos D)) (sym (owed_without_zeros z (sums_held ps) ∙ owed_by_options z ps (options_held ps)))
    (positions_bound D z (options_held ps) ps den.divides (held_once ps))
