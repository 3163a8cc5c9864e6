-- Options and sums of positions, one more at a time.
use Rattle.std.proofs.Common.{◌≡◌, ℕ, ◌+◌, ◌<◌, ◌≤◌, Bool, true, false, cond, List, [], ◌∷◌, ◌++◌, length, map, filter, take, get_or, ℤ, pos, ◌+ℤ◌, ◌*ℤ◌, append_assoc, arith, refl, ap, sym, ◌∙◌}
use mathlib.Core.Bool.{not}
use Rattle.std.specs.Int.{div_ceil}
use Rattle.std.specs.List.{flat_map}
use Rattle.std.specs.Ordering.{int_eq}
use Rattle.std.proofs.lemmas.Bool.Decides.{Decides-int_eq}
use Rattle.std.proofs.lemmas.Grind.{flat_map-append}
use Rattle.std.proofs.lemmas.Int.{ints}
use Rattle.std.proofs.lemmas.List.{append-nil, take_more}
use Rattle.std.proofs.lemmas.List.Elements.{filter-append}
use Rattle.std.proofs.lemmas.List.Folds.{list_any-append}
use Rattle.std.proofs.lemmas.Bool.{or_parts}
use Rattle.arithmetic.specs.Sums.{total}
use Rattle.arithmetic.proofs.Products.{products}
use Rattle.form.specs.declared.orders.Side.{Side}
use Rattle.form.specs.declared.orders.Side.TheVariants.{Buy, Sell}
use Rattle.form.specs.Payoff.{BundleLeg, bundle_legs}
use Rattle.form.specs.Vector.{is_same_option}
use Rattle.settlement.specs.declared.position.Position.{Position}
use Rattle.settlement.proofs.Quotients.{ceil_least}
use Rattle.portfolio_margin.specs.Need.{ceil_of}
use Rattle.portfolio_margin.specs.Owed.{fill_of, owed_by}
use Rattle.account_need.specs.Prices.{is_of_another}
use Rattle.account_need.specs.Rounded.{OptionSum, count_if, count_of, each_once, is_some_sum, option_in, options_at, options_held, options_of, part_owed, sum_of, unit}
use Rattle.account_need.proofs.EachOnce.{has, has_once}

-- a place more of a list
pub one_taken : {A : Type 0} (xs : List A) (i : ℕ) (x : A) → i < length xs → x ≡ get_or xs i x → take (i + 1) xs ≡ take i xs ++ x ∷ []
one_taken {A} xs i x lt is = take_more xs i x lt ∙ ap (λ (y : A). take i xs ++ y ∷ []) (sym is)

pub looked_at : (options os : List (List ℤ)) (i : ℕ) (u : List ℤ) → i < length os → u ≡ get_or os i u → (options ++ take i os) ++ u ∷ [] ≡ options ++ take (i + 1) os
looked_at options os i u lt is =
    append_assoc options (take i os) (u ∷ []) ∙ ap (λ (xs : List (List ℤ)). options ++ xs) (sym (one_taken os i u lt is))

pub held_more : (ps : List Position) (i : ℕ) (p : Position) → i < length ps → p ≡ get_or ps i p
    → each_once (options_at (take i ps) ++ options_of (bundle_legs p.bundle)) ≡ options_held (take (i + 1) ps)
held_more ps i p lt is =
    let f : Position → List (List ℤ) = λ p. options_of (bundle_legs p.bundle) in
    ap each_once
    (sym (ap (flat_map f) (one_taken ps i p lt is)
    ∙ flat_map-append f (take i ps) (p ∷ [])
    ∙ ap (λ (xs : List (List ℤ)). flat_map f (take i ps) ++ xs) (append-nil (f p))))

pub options_back : (ps : List Position) (options : List (List ℤ)) → map option_in (map (sum_of ps) options) ≡ options
options_back ps [] = refl
options_back ps (v ∷ options) = ap (λ (xs : List (List ℤ)). v ∷ xs) (options_back ps options)

-- ---- positions that have none of an option

none_counted : (v : List ℤ) (legs : List BundleLeg) → has (options_of legs) v ≡ false → count_of v legs ≡ pos 0
none_counted v [] none = refl
none_counted v (leg ∷ legs) none =
    let parts = or_parts (is_same_option leg.option v) (has (options_of legs) v) none in
    (λ j. count_if (parts.0 j) leg.count +ℤ none_counted v legs parts.1 j)

ceil_none : (d : ℕ) → 0 < d → ceil_of (pos 0) d ≡ pos 0
ceil_none d some = by (div_ceil 0 d) (ceil_least 0 d 0 some (omega arith))
  where
    by : (n : ℕ) → n ≤ 0 → pos n ≡ pos 0
    by n le = omega (arith, ints, le)

none_by : (side : Side) (n : ℤ) → owed_by side (pos 0 *ℤ n) *ℤ pos unit ≡ pos 0
none_by Buy n = omega (arith, ints, products)
none_by Sell n = omega (arith, ints, products)

pub none_owed : (v : List ℤ) (p : Position) → count_of v (bundle_legs p.bundle) ≡ pos 0 → part_owed v p ≡ pos 0
none_owed v p none =
    let n = (fill_of p).numerator in
    let d = (fill_of p).denominator in
    ap (λ (k : ℤ). ceil_of (owed_by p.side (k *ℤ n) *ℤ pos unit) d) none
    ∙ ap (λ (y : ℤ). ceil_of y d) (none_by p.side n)
    ∙ ceil_none d p.fill.lowest.positive

pub another_counts : (v : List ℤ) (legs : List BundleLeg) → is_of_another legs v ≡ true → count_of v legs ≡ pos 0
another_counts v [] e = absurd (cc)
another_counts v (leg ∷ []) e = by (is_same_option leg.option v) e
  where
    by : (b : Bool) → not b ≡ true → count_if b leg.count +ℤ pos 0 ≡ pos 0
    by true e = absurd (cc)
    by false e = refl
another_counts v (leg ∷ next ∷ legs) e = absurd (cc)

none_more : (x : ℤ) → pos 0 +ℤ x ≡ x
none_more x = omega (arith, ints)

owed_from_here : (v : List ℤ) (before left : List Position) → has (options_at before) v ≡ false → total (part_owed v) (before ++ left) ≡ total (part_owed v) left
owed_from_here v [] left none = refl
owed_from_here v (p ∷ before) left none =
    let here = options_of (bundle_legs p.bundle) in
    let parts = or_parts (has here v) (has (options_at before) v) (sym (list_any-append (λ w. is_same_option w v) here (options_at before)) ∙ none) in
    let none_here = none_owed v p (none_counted v (bundle_legs p.bundle) parts.0) in
    (λ j. none_here j +ℤ owed_from_here v before left parts.1 j) ∙ none_more (total (part_owed v) left)

abbrev pub summed_as : List ℤ → ℤ → OptionSum
summed_as v s = record { option = v; sum = s }

-- where the option is none of those so far, the positions from here on owe all of it
pub sum_from_here : (v : List ℤ) (before left : List Position) (more : List (List ℤ)) (s : ℤ) → has (each_once (options_at before ++ more)) v ≡ false → s ≡ total (part_owed v) left
    → summed_as v s ≡ sum_of (before ++ left) v
sum_from_here v before left more s none is =
    let all : has (options_at before ++ more) v ≡ false = sym (has_once (options_at before ++ more) v) ∙ none in
    let parts = or_parts (has (options_at before) v) (has more v) (sym (list_any-append (λ w. is_same_option w v) (options_at before) more) ∙ all) in
    let e = is ∙ sym (owed_from_here v before left parts.0) in
    ap (summed_as v) e

-- the test for 0
pub is_zero : (s : ℤ) → s ≡ pos 0 → int_eq s (pos 0) ≡ true
is_zero s e = (Decides-int_eq s (pos 0)).1 e

pub not_zero : (s : ℤ) → (s ≡ pos 0 → ⊥) → int_eq s (pos 0) ≡ false
not_zero s ne = by (int_eq s (pos 0)) refl
  where
    by : (b : Bool) → int_eq s (pos 0) ≡ b → int_eq s (pos 0) ≡ false
    by true e = absurd (ne ((Decides-int_eq s (pos 0)).0 e))
    by false e = e

-- a sum that is not 0 goes last, and one that is 0 is left out
module _ (held : List OptionSum) (i : ℕ) (s : OptionSum) (lt : i < length held) (is : s ≡ get_or held i s) where
  by_test : (b : Bool) → int_eq s.sum (pos 0) ≡ b → filter is_some_sum (take (i + 1) held) ≡ filter is_some_sum (take i held) ++ cond (not b) (s ∷ []) []
  by_test b e =
      ap (filter is_some_sum) (one_taken held i s lt is)
      ∙ filter-append is_some_sum (take i held) (s ∷ [])
      ∙ ap (λ (t : Bool). filter is_some_sum (take i held) ++ cond (not t) (s ∷ []) []) e

  pub sum_added : (xs : List OptionSum) → int_eq s.sum (pos 0) ≡ false → xs ≡ filter is_some_sum (take i held) → xs ++ s ∷ [] ≡ filter is_some_sum (take (i + 1) held)
  sum_added xs some so_far = ap (λ (ys : List OptionSum). ys ++ s ∷ []) so_far ∙ sym (by_test false some)

  pub sum_left_out : (xs : List OptionSum) → int_eq s.sum (pos 0) ≡ true → xs ≡ filter is_some_sum (take i held) → xs ≡ filter is_some_sum (take (i + 1) held)
  sum_left_out xs none so_far =
      so_far ∙ sym (append-nil (filter is_some_sum (take i held))) ∙ sym (by_test true none)
