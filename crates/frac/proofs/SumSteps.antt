-- The steps of a sum.
use Rattle.std.proofs.Common.{◌≡◌, ℕ, ◌*◌, ◌/◌, ◌<◌, ◌≤◌, true, false, ◌&&◌, ℤ, pos, ◌*ℤ◌, ◌+ℤ◌, arith, refl, sym, ap, ◌∙◌}
use Rattle.std.specs.Prelude.{Option, Some, None, unsigned_abs, nat_le, int_div}
use Rattle.std.proofs.lemmas.Bool.{and_parts, leb-true, le-leb}
use Rattle.std.proofs.lemmas.Int.{ints}
use Rattle.std.proofs.Math.Nat.{le_trans, div-le_self, div_self}
use Rattle.arithmetic.specs.Gcd.{gcd}
use Rattle.arithmetic.proofs.Quotients.{unsigned_abs-int_div}
use Rattle.exact_num.specs.declared.misfit.Operator.TheVariants.{Add}
use Rattle.exact_num.specs.Fraction.{Fraction, IsLowest, over}
use Rattle.exact_num.specs.Fits.{size_fits, sum_divisor, sum_left, sum_right, sum_total, sum_common, sum_below, sum_fits, sum_value, add_of, misfit, sum_within}
use Rattle.exact_num.specs.Laws.{IsWithin}
use Rattle.exact_num.proofs.Exactness.{sums_are_exact}
use Rattle.frac.specs.Range.{within, within_natural, total_within}
use Rattle.exact_num.proofs.Answered.{some_answers}
use Rattle.frac.proofs.Choices.{chosen_none, chosen_some}
use Rattle.arithmetic.proofs.GcdLaws.{gcd_self}
use Rattle.std.proofs.Math.Bool.{and-true}

-- ---- the total: what the code's two numerators are
pub record IsParts (limit : ℕ) (x y : Fraction) (left right : Option ℤ) : Type 0 where
  pub is_left : left ≡ within limit (sum_left x y)
  pub is_right : right ≡ within limit (sum_right x y)

pub parts_of_sum : (limit : ℕ) (x y : Fraction) (g : ℕ) (left right : Option ℤ) → g ≡ sum_divisor x y
    → left ≡ within limit (x.numerator *ℤ pos (y.denominator / g)) → right ≡ within limit (y.numerator *ℤ pos (x.denominator / g)) → IsParts limit x y left right
unfolding sum_left sum_right
parts_of_sum limit x y g left right eg el er =
    record {
      is_left = el ∙ ap (λ (m : ℕ). within limit (x.numerator *ℤ pos (y.denominator / m))) eg;
      is_right = er ∙ ap (λ (m : ℕ). within limit (y.numerator *ℤ pos (x.denominator / m))) eg;
    }

pub left_stops : (limit : ℕ) (x y : Fraction) (g : ℕ) (left : Option ℤ) → g ≡ sum_divisor x y → left ≡ within limit (x.numerator *ℤ pos (y.denominator / g)) → left ≡ None → None ≡ total_within limit x y
unfolding sum_left
left_stops limit x y g left eg el n =
    let e : size_fits limit (sum_left x y) ≡ false = chosen_none _ _ left (el ∙ ap (λ (m : ℕ). within limit (x.numerator *ℤ pos (y.denominator / m))) eg) n in
    rw e refl

pub right_stops : (limit : ℕ) (x y : Fraction) (left right : Option ℤ) (l : ℤ) → IsParts limit x y left right → left ≡ Some l → right ≡ None → None ≡ total_within limit x y
right_stops limit x y left right l p s n =
    let e : size_fits limit (sum_left x y) ≡ true = (chosen_some _ _ l left p.is_left s).0 in
    let f : size_fits limit (sum_right x y) ≡ false = chosen_none _ _ right p.is_right n in
    rw (e, f) refl

pub total_ends : (limit : ℕ) (x y : Fraction) (left right : Option ℤ) (l r : ℤ) → IsParts limit x y left right → left ≡ Some l → right ≡ Some r → within limit (l +ℤ r) ≡ total_within limit x y
unfolding sum_total
total_ends limit x y left right l r p s t =
    let e = chosen_some _ _ l left p.is_left s in
    let f = chosen_some _ _ r right p.is_right t in
    let first : size_fits limit (sum_left x y) ≡ true = e.0 in
    let second : size_fits limit (sum_right x y) ≡ true = f.0 in
    rw (first, second, e.1, f.1) refl

-- ---- the sum
pub above_stops : (limit : ℕ) (x y : Fraction) (above : Option ℤ) → above ≡ total_within limit x y → above ≡ None → None ≡ sum_within limit x y
unfolding sum_fits
above_stops limit x y above ea n =
    let e : (size_fits limit (sum_left x y) && size_fits limit (sum_right x y) && size_fits limit (sum_total x y)) ≡ false = chosen_none _ _ above ea n in
    rw e refl

-- where the total t is in range, with the divisor that it shares and the denominator
pub record IsTotal (limit : ℕ) (x y : Fraction) (t : ℤ) (shared : ℕ) (below : Option ℕ) : Type 0 where
  pub front : (size_fits limit (sum_left x y) && size_fits limit (sum_right x y) && size_fits limit (sum_total x y)) ≡ true
  pub value : t ≡ sum_total x y
  pub is_shared : shared ≡ sum_common x y
  pub is_below : below ≡ within_natural limit (sum_below x y)

pub total_is : (limit : ℕ) (x y : Fraction) (g : ℕ) (above : Option ℤ) (t : ℤ) (shared b d : ℕ) (below : Option ℕ) → g ≡ sum_divisor x y → above ≡ total_within limit x y → above ≡ Some t
    → shared ≡ gcd (unsigned_abs t) g → b ≡ x.denominator / g → d ≡ y.denominator / shared → below ≡ within_natural limit (b * d) → IsTotal limit x y t shared below
unfolding sum_below sum_common
total_is limit x y g above t shared b d below eg ea s es eb ed en =
    let e = chosen_some _ _ t above ea s in
    let same : shared ≡ sum_common x y = es ∙ ap (λ (z : ℤ). gcd (unsigned_abs z) g) e.1 ∙ ap (λ (m : ℕ). gcd (unsigned_abs (sum_total x y)) m) eg in
    let left : b ≡ x.denominator / sum_divisor x y = eb ∙ ap (λ (m : ℕ). x.denominator / m) eg in
    let right : d ≡ y.denominator / sum_common x y = ed ∙ ap (λ (m : ℕ). y.denominator / m) same in
    record {
      front = e.0;
      value = e.1;
      is_shared = same;
      is_below = en ∙ ap (λ (m : ℕ). within_natural limit (m * d)) left ∙ ap (λ (m : ℕ). within_natural limit (x.denominator / sum_divisor x y * m)) right;
    }

pub below_stops : (limit : ℕ) (x y : Fraction) (t : ℤ) (shared : ℕ) (below : Option ℕ) → IsTotal limit x y t shared below → below ≡ None → None ≡ sum_within limit x y
unfolding sum_fits
below_stops limit x y t shared below p n =
    let f : nat_le (sum_below x y) limit ≡ false = chosen_none _ _ below p.is_below n in
    let front : (size_fits limit (sum_left x y) && size_fits limit (sum_right x y) && size_fits limit (sum_total x y)) ≡ true = p.front in
    rw (front, f) refl

-- what is known where all steps of a sum are in range
pub record SumEnds (limit : ℕ) (x y : Fraction) (n : ℤ) (b : ℕ) : Type 0 where
  pub fits : sum_fits limit x y ≡ true
  pub value : over n b ≡ sum_value x y
  pub above : unsigned_abs n ≤ limit
  pub below : b ≤ limit

pub sum_ends : (limit : ℕ) (x y : Fraction) (t n : ℤ) (shared : ℕ) (below : Option ℕ) (b : ℕ) → IsTotal limit x y t shared below → below ≡ Some b → n ≡ int_div t (pos shared) → SumEnds limit x y n b
unfolding sum_fits sum_value
sum_ends limit x y t n shared below b p e en =
    let f = chosen_some _ _ b below p.is_below e in
    let second : nat_le (sum_below x y) limit ≡ true = f.0 in
    let front : (size_fits limit (sum_left x y) && size_fits limit (sum_right x y) && size_fits limit (sum_total x y)) ≡ true = p.front in
    let size : unsigned_abs t ≤ limit = rw p.value (leb-true _ _ (and_parts (size_fits limit (sum_left x y) && size_fits limit (sum_right x y)) _ p.front).1) in
    record {
      fits = rw (front, second) refl;
      value =
          ap (λ (z : ℤ). over z b) (en ∙ ap (λ (z : ℤ). int_div z (pos shared)) p.value ∙ ap (λ (m : ℕ). int_div (sum_total x y) (pos m)) p.is_shared)
          ∙ ap (λ (m : ℕ). over (int_div (sum_total x y) (pos (sum_common x y))) m) f.1;
      above = rw (en, unsigned_abs-int_div t shared) (le_trans (div-le_self (unsigned_abs t) shared) size);
      below = rw f.1 (leb-true _ _ f.0);
    }

pub sum_answers : (limit : ℕ) (x y : Fraction) (n : ℤ) (b : ℕ) → SumEnds limit x y n b → Some (over n b) ≡ sum_within limit x y
sum_answers limit x y n b h =
    let fits : sum_fits limit x y ≡ true = h.fits in
    rw fits (ap Some h.value)

-- a sum that is found is within the limit
pub sum_is_within : (limit : ℕ) (x y s : Fraction) → IsLowest x → IsLowest y → Some s ≡ sum_within limit x y → IsWithin limit s
unfolding add_of
sum_is_within limit x y s p q e = (sums_are_exact limit x y s p q (sym (some_answers (sum_fits limit x y) s (sum_value x y) (misfit Add x y) e))).within

-- ---- the sum over one denominator
left_is : (a b : ℤ) (d : ℕ) → 0 < d → sum_left (over a d) (over b d) ≡ a
unfolding sum_left sum_divisor
left_is a b d positive = rw (gcd_self d, div_self positive) (omega (arith, ints))

right_is : (a b : ℤ) (d : ℕ) → 0 < d → sum_right (over a d) (over b d) ≡ b
unfolding sum_right sum_divisor
right_is a b d positive = rw (gcd_self d, div_self positive) (omega (arith, ints))

total_over_one : (a b : ℤ) (d : ℕ) → 0 < d → sum_total (over a d) (over b d) ≡ a +ℤ b
unfolding sum_total
total_over_one a b d positive = rw (left_is a b d positive, right_is a b d positive) refl

common_is : (a b : ℤ) (d : ℕ) → 0 < d → sum_common (over a d) (over b d) ≡ gcd (unsigned_abs (a +ℤ b)) d
unfolding sum_common sum_divisor
common_is a b d positive = rw (total_over_one a b d positive, gcd_self d) refl

below_is : (a b : ℤ) (d : ℕ) → 0 < d → sum_below (over a d) (over b d) ≡ d / gcd (unsigned_abs (a +ℤ b)) d
unfolding sum_below sum_divisor
below_is a b d positive = rw (common_is a b d positive, gcd_self d, div_self positive) (omega arith)

fits_over_one : (limit : ℕ) (a b : ℤ) (d : ℕ) → 0 < d → d ≤ limit → unsigned_abs a ≤ limit → unsigned_abs b ≤ limit → sum_fits limit (over a d) (over b d) ≡ size_fits limit (a +ℤ b)
unfolding sum_fits
fits_over_one limit a b d positive low left right =
    rw (
      left_is a b d positive,
      right_is a b d positive,
      total_over_one a b d positive,
      below_is a b d positive,
      le-leb (unsigned_abs a) limit left,
      le-leb (unsigned_abs b) limit right,
      le-leb (d / gcd (unsigned_abs (a +ℤ b)) d) limit (le_trans (div-le_self d (gcd (unsigned_abs (a +ℤ b)) d)) low),
      and-true (size_fits limit (a +ℤ b)),
    ) refl

value_over_one : (a b : ℤ) (d : ℕ) → 0 < d
    → sum_value (over a d) (over b d) ≡ over (int_div (a +ℤ b) (pos (gcd (unsigned_abs (a +ℤ b)) d))) (d / gcd (unsigned_abs (a +ℤ b)) d)
unfolding sum_value
value_over_one a b d positive = rw (total_over_one a b d positive, common_is a b d positive, below_is a b d positive) refl

-- the sum, by what the total shares with the denominator
pub over_one_value : (x y : Fraction) (n : ℤ) (shared e : ℕ) → 0 < x.denominator → y.denominator ≡ x.denominator
    → shared ≡ gcd (unsigned_abs (x.numerator +ℤ y.numerator)) x.denominator → n ≡ int_div (x.numerator +ℤ y.numerator) (pos shared) → e ≡ x.denominator / shared → over n e ≡ sum_value x y
over_one_value x y n shared e positive same es en ee =
    let a = x.numerator in
    let b = y.numerator in
    let d = x.denominator in
    ap (λ (z : ℤ). over z e) (en ∙ ap (λ (m : ℕ). int_div (a +ℤ b) (pos m)) es)
    ∙ ap (λ (m : ℕ). over (int_div (a +ℤ b) (pos (gcd (unsigned_abs (a +ℤ b)) d))) m) (ee ∙ ap (λ (m : ℕ). d / m) es)
    ∙ sym (value_over_one a b d positive)
    ∙ ap (λ (i : ℕ). sum_value x (over b i)) (sym same)

pub over_one_stops : (limit : ℕ) (x y : Fraction) (r : Option ℤ) → 0 < x.denominator → y.denominator ≡ x.denominator → IsWithin limit x → IsWithin limit y
    → r ≡ within limit (x.numerator +ℤ y.numerator) → r ≡ None → None ≡ sum_within limit x y
over_one_stops limit x y r positive same p q h n =
    let off : size_fits limit (x.numerator +ℤ y.numerator) ≡ false = chosen_none _ _ r h n in
    let fits : sum_fits limit x y ≡ false =
    ap (λ (d : ℕ). sum_fits limit x (over y.numerator d)) same ∙ fits_over_one limit x.numerator y.numerator x.denominator positive p.below p.above q.above ∙ off in
    rw fits refl

pub over_one_ends : (limit : ℕ) (x y : Fraction) (r : Option ℤ) (s n : ℤ) (shared e : ℕ) → 0 < x.denominator → y.denominator ≡ x.denominator → IsWithin limit x → IsWithin limit y
    → r ≡ within limit (x.numerator +ℤ y.numerator) → r ≡ Some s → shared ≡ gcd (unsigned_abs s) x.denominator → n ≡ int_div s (pos shared) → e ≡ x.denominator / shared → SumEnds limit x y n e
over_one_ends limit x y r s n shared e positive same p q h is_s es en ee =
    let a = x.numerator in
    let b = y.numerator in
    let d = x.denominator in
    let one = chosen_some _ _ s r h is_s in
    let on : size_fits limit (a +ℤ b) ≡ true = one.0 in
    let is_shared : shared ≡ gcd (unsigned_abs (a +ℤ b)) d = es ∙ ap (λ (z : ℤ). gcd (unsigned_abs z) d) one.1 in
    let size : unsigned_abs s ≤ limit = rw one.1 (leb-true _ _ on) in
    record {
      fits = ap (λ (i : ℕ). sum_fits limit x (over b i)) same ∙ fits_over_one limit a b d positive p.below p.above q.above ∙ on;
      value = over_one_value x y n shared e positive same is_shared (en ∙ ap (λ (z : ℤ). int_div z (pos shared)) one.1) ee;
      above = rw (en, unsigned_abs-int_div s shared) (le_trans (div-le_self (unsigned_abs s) shared) size);
      below = rw ee (le_trans (div-le_self d shared) p.below);
    }
