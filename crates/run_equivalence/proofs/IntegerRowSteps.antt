-- A row of whole numbers, and the steps of the run over fractions on what it stands for.
use Rattle.exact_num.specs.Rationals.{reduced_is_lowest}
use Rattle.std.proofs.Common.{◌≡◌, ℕ, zero, suc, ◌+◌, ◌*◌, ◌/◌, ◌<◌, ◌≤◌, List, [], ◌∷◌, length, map, set, arith, refl, sym, ◌∙◌, ap, subst, ℤ, pos, ◌+ℤ◌, ◌*ℤ◌, ◌-ℤ◌, neg_ℤ, unsigned_abs, int_div, Bool, true, false, nat_eq}
use Rattle.std.specs.Prelude.{Ok, if◌then◌else◌, nat_le}
use Rattle.std.specs.Int.{◌∣◌}
use Rattle.std.proofs.lemmas.Int.{ints}
use Rattle.std.proofs.lemmas.Bool.{and_from, and_parts, le-leb, leb-true}
use Rattle.std.proofs.lemmas.List.{length-map, length-set}
use Rattle.std.proofs.lemmas.Nat.Gcd.{dvd_antisymm, dvd_refl, dvd_trans, dvd-zero}
use Rattle.std.proofs.Math.Nat.{mul-pos, mul-le-mul, mul-le-mul_left, div-mul_cancel, div-le_self, pos_of_dvd_of_pos}
use Rattle.arithmetic.specs.Gcd.{gcd}
use Rattle.arithmetic.proofs.GcdLaws.{dvd_gcd, gcd_dvd_left, gcd_dvd_right, gcd_pos_right, pos_of_quotient}
use Rattle.arithmetic.proofs.Integers.{size_of_product, unsigned_abs-neg}
use Rattle.arithmetic.proofs.Quotients.{int_div-mul_cancel, unsigned_abs-int_div}
use Rattle.arithmetic.proofs.Ring.{ring, V, K, ◌⊗◌, ◌⊖◌}
use Rattle.arithmetic.proofs.Tests.{both_so}
use Rattle.exact_num.specs.Fraction.{Fraction, IsLowest, whole, reduced, negated}
use Rattle.exact_num.specs.CommonDenominator.{IsRatio}
use Rattle.exact_num.specs.Fits.{size_fits, add_of, mul_of}
use Rattle.exact_num.proofs.Values.{whole_is_lowest}
use Rattle.simplex_run.specs.Places.{at}
use Rattle.simplex_run.specs.Pivot.{less_product}
use Rattle.run_equivalence.specs.IntegerRows.{IntegerRow, AreSizes, IsShaped, IsIntegerRow, number_at, fractions_over, fractions_of, greatest_size, row_size, numbers_fit, row_fits, widest}
use Rattle.run_equivalence.specs.WholePivoting.{common_of, cross_difference, content, cut, cut_where_wide, row_mixed, without, row_eliminated, step_size}
use Rattle.run_equivalence.specs.WholeLaws.{IntegerRowsFit, EliminatedRowsFit, NumbersBetweenFit, StepsWithinRoom, SizesBound, SizesLeast, CrossProductsFit, ContentInOrder}
use Rattle.run_equivalence.proofs.Multiples.{reduced_is, is_reduced, ratio_moved, reduced_same, reduced_negated}
use Rattle.run_equivalence.proofs.StepsFit.{sums_fit, products_fit}

-- ---- sizes of numbers
pub sizes_of_fit : (bound : ℕ) (zs : List ℤ) → numbers_fit bound zs ≡ true → AreSizes bound zs
unfolding numbers_fit
sizes_of_fit bound [] h j = omega arith
sizes_of_fit bound (z ∷ zs) h zero = leb-true _ _ (and_parts (size_fits bound z) (numbers_fit bound zs) h).0
sizes_of_fit bound (z ∷ zs) h (suc j) = sizes_of_fit bound zs (and_parts (size_fits bound z) (numbers_fit bound zs) h).1 j

pub fit_of_sizes : (bound : ℕ) (zs : List ℤ) → ((j : ℕ) → j < length zs → unsigned_abs (number_at zs j) ≤ bound) → numbers_fit bound zs ≡ true
unfolding numbers_fit
fit_of_sizes bound [] h = refl
fit_of_sizes bound (z ∷ zs) h =
    let first : size_fits bound z ≡ true = le-leb (unsigned_abs z) bound (h 0 (omega arith)) in
    let later = fit_of_sizes bound zs (λ j p. h (suc j) (omega (arith, p))) in
    rw (first, later) refl

pub row_of_fit : (bound n : ℕ) (l : IntegerRow) → IsShaped n l → row_fits bound l ≡ true → IsIntegerRow bound n l
row_of_fit bound n l s h =
    let parts = and_parts _ (numbers_fit bound l.numbers) h in
    record { positive = s.positive; below = leb-true _ _ parts.0; sizes = sizes_of_fit bound l.numbers parts.1; count = s.count }

-- ---- the size of a row
denominator_in : (d : ℕ) (zs : List ℤ) → d ≤ greatest_size d zs
unfolding greatest_size
denominator_in d [] = omega arith
denominator_in d (z ∷ zs) = let later = denominator_in d zs in omega (arith, later)

sizes_in : (d : ℕ) (zs : List ℤ) → AreSizes (greatest_size d zs) zs
unfolding greatest_size
sizes_in d [] j = omega arith
sizes_in d (z ∷ zs) zero = omega arith
sizes_in d (z ∷ zs) (suc j) = let later : unsigned_abs (number_at zs j) ≤ greatest_size d zs = sizes_in d zs j in omega (arith, later)

pub size_at_most : (bound d : ℕ) (zs : List ℤ) → d ≤ bound → AreSizes bound zs → greatest_size d zs ≤ bound
unfolding greatest_size
size_at_most bound d [] h s = h
size_at_most bound d (z ∷ zs) h s =
    let first : unsigned_abs z ≤ bound = s 0 in
    let later = size_at_most bound d zs h (λ j. s (suc j)) in
    omega (arith, first, later)

pub sizes_bound : SizesBound
sizes_bound n l s = record { positive = s.positive; below = denominator_in l.denominator l.numbers; sizes = sizes_in l.denominator l.numbers; count = s.count }

pub sizes_least : SizesLeast
sizes_least bound l =
    both_so (row_fits bound l) (nat_le (row_size l) bound)
    (λ h.
    let parts = and_parts (nat_le l.denominator bound) (numbers_fit bound l.numbers) h in
    le-leb (row_size l) bound (size_at_most bound l.denominator l.numbers (leb-true _ _ parts.0) (sizes_of_fit bound l.numbers parts.1)))
    (λ h.
    let low : row_size l ≤ bound = leb-true (row_size l) bound h in
    let below = denominator_in l.denominator l.numbers in
    and_from (nat_le l.denominator bound) (numbers_fit bound l.numbers) (le-leb l.denominator bound (omega (arith, low, below)))
    (fit_of_sizes bound l.numbers (λ j p. let size = sizes_in l.denominator l.numbers j in omega (arith, low, size))))

-- ---- the entries of a row
pub reduced_zero : (d : ℕ) → 0 < d → reduced (pos 0) d ≡ whole (pos 0)
reduced_zero d p = sym (is_reduced (whole (pos 0)) (pos 0) d (whole_is_lowest (pos 0)) p (omega (arith, ints)))

pub fraction_at : (d : ℕ) (zs : List ℤ) (j : ℕ) → 0 < d → at (fractions_over d zs) j ≡ reduced (number_at zs j) d
unfolding fractions_over
fraction_at d [] j p = sym (reduced_zero d p)
fraction_at d (z ∷ zs) zero p = refl
fraction_at d (z ∷ zs) (suc j) p = fraction_at d zs j p

-- ---- a row eliminated

size_of_sum : (x y : ℤ) (a b limit : ℕ) → unsigned_abs x ≤ a → unsigned_abs y ≤ b → a + b ≤ limit → unsigned_abs (x +ℤ y) ≤ limit
size_of_sum x y a b limit p q h = omega (arith, ints, p, q, h)

-- what the number in column c and the pivot have in common goes away: x is f * g, and a is p * g
pub record IsShared (x f : ℤ) (a p g : ℕ) : Type 0 where
  pub above : f *ℤ pos g ≡ x
  pub below : p * g ≡ a
  pub positive : 0 < p

pub shared_by : (x : ℤ) (a : ℕ) → 0 < a → IsShared x (int_div x (pos (gcd (unsigned_abs x) a))) a (a / gcd (unsigned_abs x) a) (gcd (unsigned_abs x) a)
shared_by x a pa =
    let g = gcd (unsigned_abs x) a in
    let divides = gcd_dvd_right (unsigned_abs x) a in
    record { above = int_div-mul_cancel x g (gcd_dvd_left (unsigned_abs x) a); below = div-mul_cancel g divides; positive = pos_of_quotient a g pa (gcd_pos_right (unsigned_abs x) a pa) divides }

-- one entry: z * p - f * q over d * p
pub entry_cleared : (limit size most d a p g : ℕ) (r : Fraction) (x f z q : ℤ) → size * p + unsigned_abs f * most ≤ limit → 0 < d → 0 < a → d ≤ size → IsShared x f a p g → IsLowest r → IsRatio r x d → unsigned_abs z ≤ size → unsigned_abs q ≤ most
    → less_product limit r (reduced z d) (reduced q a) ≡ Ok (reduced ((z *ℤ pos p) -ℤ (f *ℤ q)) (d * p))
entry_cleared limit size most d a p g r x f z q room pd pa ld s lr rr sz sq =
    let M : ℕ = d * p in
    let pM : 0 < M = mul-pos pd s.positive in
    let same : p ≤ p = omega arith in
    let same_f : unsigned_abs f ≤ unsigned_abs f = omega arith in
    let small_M : M ≤ size * p = mul-le-mul ld same in
    let small_z : unsigned_abs (z *ℤ pos p) ≤ size * p = size_of_product z (pos p) size p sz same in
    let small_q : unsigned_abs (f *ℤ q) ≤ unsigned_abs f * most = size_of_product f q (unsigned_abs f) most same_f sq in
    let small_neg : unsigned_abs (neg_ℤ (f *ℤ q)) ≤ unsigned_abs f * most = subst (λ w. w ≤ unsigned_abs f * most) (sym (unsigned_abs-neg (f *ℤ q))) small_q in
    let moved : (x *ℤ q) *ℤ pos (d * p) ≡ (f *ℤ q) *ℤ pos (d * a) =
    ap (λ (w : ℤ). (w *ℤ q) *ℤ pos (d * p)) (sym s.above)
    ∙ ring (f ∷ pos g ∷ q ∷ pos d ∷ pos p ∷ []) (((V 0 ⊗ V 1) ⊗ V 2) ⊗ (V 3 ⊗ V 4)) ((V 0 ⊗ V 2) ⊗ (V 3 ⊗ (V 4 ⊗ V 1))) refl
    ∙ ap (λ (w : ℕ). (f *ℤ q) *ℤ pos (d * w)) s.below in
    let product : mul_of limit r (reduced q a) ≡ Ok (reduced (f *ℤ q) M) = products_fit limit d a M r (reduced q a) x q (f *ℤ q) lr (reduced_is_lowest q a pa) pd pa pM rr (reduced_is q a) moved (omega (arith, small_q, room)) (omega (arith, small_M, room)) in
    let turned : negated (reduced (f *ℤ q) M) ≡ reduced (neg_ℤ (f *ℤ q)) M = reduced_negated (f *ℤ q) M pM in
    let over_M : IsRatio (reduced z d) (z *ℤ pos p) M = ratio_moved (reduced z d) z (z *ℤ pos p) d M pd (ring (z ∷ pos d ∷ pos p ∷ []) (V 0 ⊗ (V 1 ⊗ V 2)) ((V 0 ⊗ V 2) ⊗ V 1) refl) (reduced_is z d) in
    let sum : add_of limit (reduced z d) (reduced (neg_ℤ (f *ℤ q)) M) ≡ Ok (reduced ((z *ℤ pos p) +ℤ neg_ℤ (f *ℤ q)) M) =
    sums_fit limit M (reduced z d) (reduced (neg_ℤ (f *ℤ q)) M) (z *ℤ pos p) (neg_ℤ (f *ℤ q)) (reduced_is_lowest z d pd) (reduced_is_lowest _ M pM) pM over_M (reduced_is _ M)
    (omega (arith, small_z, room)) (omega (arith, small_neg, room)) (size_of_sum (z *ℤ pos p) (neg_ℤ (f *ℤ q)) (size * p) (unsigned_abs f * most) limit small_z small_neg room) (omega (arith, small_M, room)) in
    rw (product, turned) sum

-- the number at a place
pub cross_at : (p : ℕ) (f : ℤ) (zs qs : List ℤ) (k : ℕ) → k < length zs → length zs ≡ length qs → number_at (cross_difference p f zs qs) k ≡ (number_at zs k *ℤ pos p) -ℤ (f *ℤ number_at qs k)
unfolding cross_difference
cross_at p f [] qs k h w = absurd (omega (arith, h))
cross_at p f (z ∷ zs) [] k h w = absurd (omega (arith, w))
cross_at p f (z ∷ zs) (q ∷ qs) zero h w = refl
cross_at p f (z ∷ zs) (q ∷ qs) (suc k) h w = cross_at p f zs qs k (omega (arith, h)) (omega (arith, w))

-- with 0 in column c nothing changes
pub mixed_none : (d a : ℕ) (zs qs : List ℤ) → 0 < d → 0 < a → length zs ≡ length qs → fractions_over (d * a) (cross_difference a (pos 0) zs qs) ≡ fractions_over d zs
unfolding fractions_over cross_difference
mixed_none d a [] qs pd pa h = refl
mixed_none d a (z ∷ zs) [] pd pa h = absurd (omega (arith, h))
mixed_none d a (z ∷ zs) (q ∷ qs) pd pa h =
    let first : reduced ((z *ℤ pos a) -ℤ (pos 0 *ℤ q)) (d * a) ≡ reduced z d =
    reduced_same ((z *ℤ pos a) -ℤ (pos 0 *ℤ q)) z (d * a) d (mul-pos pd pa) pd (ring (z ∷ pos a ∷ q ∷ pos d ∷ []) ((V 0 ⊗ V 1 ⊖ K (pos 0) ⊗ V 2) ⊗ V 3) (V 0 ⊗ (V 3 ⊗ V 1)) refl) in
    let others = mixed_none d a zs qs pd pa (omega (arith, h)) in
    λ i. first i ∷ others i

-- ---- a row cut
pub content_denominator : (d : ℕ) (zs : List ℤ) → content d zs ∣ d
unfolding content
content_denominator d [] = dvd_refl d
content_denominator d (z ∷ zs) = dvd_trans (gcd (unsigned_abs z) (content d zs)) (gcd_dvd_right (unsigned_abs z) (content d zs)) (content_denominator d zs)

pub content_numbers : (d : ℕ) (zs : List ℤ) (j : ℕ) → content d zs ∣ unsigned_abs (number_at zs j)
unfolding content
content_numbers d [] j = dvd-zero d
content_numbers d (z ∷ zs) zero = gcd_dvd_left (unsigned_abs z) (content d zs)
content_numbers d (z ∷ zs) (suc j) = dvd_trans (gcd (unsigned_abs z) (content d zs)) (gcd_dvd_right (unsigned_abs z) (content d zs)) (content_numbers d zs j)

divided_same : (c d : ℕ) (zs : List ℤ) → 0 < c → 0 < d → c ∣ d → ((j : ℕ) → c ∣ unsigned_abs (number_at zs j)) → fractions_over (d / c) (map (λ z. int_div z (pos c)) zs) ≡ fractions_over d zs
unfolding fractions_over
divided_same c d [] pc pd h k = refl
divided_same c d (z ∷ zs) pc pd h k =
    let above : int_div z (pos c) *ℤ pos c ≡ z = int_div-mul_cancel z c (k 0) in
    let below : d / c * c ≡ d = div-mul_cancel c h in
    let q : ℤ = int_div z (pos c) in
    let first : reduced q (d / c) ≡ reduced z d =
    reduced_same q z (d / c) d (pos_of_quotient d c pd pc h) pd
    (ap (λ w. q *ℤ pos w) (sym below) ∙ ring (q ∷ pos (d / c) ∷ pos c ∷ []) (V 0 ⊗ (V 1 ⊗ V 2)) ((V 0 ⊗ V 2) ⊗ V 1) refl ∙ ap (λ w. w *ℤ pos (d / c)) above) in
    let others = divided_same c d zs pc pd h (λ j. k (suc j)) in
    λ i. first i ∷ others i

pub cut_same : (l : IntegerRow) → 0 < l.denominator → fractions_of (cut l) ≡ fractions_of l
unfolding cut
cut_same l p =
    let h = content_denominator l.denominator l.numbers in
    divided_same (content l.denominator l.numbers) l.denominator l.numbers (pos_of_dvd_of_pos h p) p h (content_numbers l.denominator l.numbers)

pub cut_shaped : (n : ℕ) (l : IntegerRow) → IsShaped n l → IsShaped n (cut l)
unfolding cut
cut_shaped n l s =
    let h = content_denominator l.denominator l.numbers in
    record {
      positive = pos_of_quotient l.denominator (content l.denominator l.numbers) s.positive (pos_of_dvd_of_pos h s.positive) h;
      count = length-map l.numbers (λ z. int_div z (pos (content l.denominator l.numbers))) ∙ s.count;
    }

divided_sizes : (bound c : ℕ) (zs : List ℤ) → AreSizes bound zs → AreSizes bound (map (λ z. int_div z (pos c)) zs)
divided_sizes bound c [] s j = s j
divided_sizes bound c (z ∷ zs) s zero = let size = unsigned_abs-int_div z c in let less = div-le_self (unsigned_abs z) c in let h = s 0 in omega (arith, size, less, h)
divided_sizes bound c (z ∷ zs) s (suc j) = divided_sizes bound c zs (λ i. s (suc i)) j

pub cut_within : (bound n : ℕ) (l : IntegerRow) → IsIntegerRow bound n l → IsIntegerRow bound n (cut l)
unfolding cut
cut_within bound n l g =
    let s = cut_shaped n l (record { positive = g.positive; count = g.count }) in
    let less = div-le_self l.denominator (content l.denominator l.numbers) in
    let low = g.below in
    record {
      positive = s.positive;
      below = omega (arith, less, low);
      sizes = divided_sizes bound (content l.denominator l.numbers) l.numbers g.sizes;
      count = s.count;
    }

-- ---- a row cut where it is wide
pub wide_same : (l : IntegerRow) → 0 < l.denominator → fractions_of (cut_where_wide l) ≡ fractions_of l
unfolding cut_where_wide
wide_same l p = step (row_fits widest l)
  where
    step : (b : Bool) → fractions_of (if b then l else cut l) ≡ fractions_of l
    step true = refl
    step false = cut_same l p

pub wide_shaped : (n : ℕ) (l : IntegerRow) → IsShaped n l → IsShaped n (cut_where_wide l)
unfolding cut_where_wide
wide_shaped n l s = step (row_fits widest l)
  where
    step : (b : Bool) → IsShaped n (if b then l else cut l)
    step true = s
    step false = cut_shaped n l s

pub length-mixed : (a : ℕ) (x : ℤ) (zs qs : List ℤ) → length zs ≡ length qs → length (cross_difference a x zs qs) ≡ length zs
unfolding cross_difference
length-mixed a x [] qs h = refl
length-mixed a x (z ∷ zs) [] h = absurd (omega (arith, h))
length-mixed a x (z ∷ zs) (q ∷ qs) h = ap suc (length-mixed a x zs qs (omega (arith, h)))

-- ---- the row that a pivot leaves
mixed_row : (n a : ℕ) (x : ℤ) (pivot : List ℤ) (l : IntegerRow) → IsShaped n l → 0 < a → length pivot ≡ n → IsShaped n (row_mixed a x (gcd (unsigned_abs x) a) pivot l)
mixed_row n a x pivot l s pa wide =
    let g = gcd (unsigned_abs x) a in
    record {
      positive = mul-pos s.positive (pos_of_quotient a g pa (gcd_pos_right (unsigned_abs x) a pa) (gcd_dvd_right (unsigned_abs x) a));
      count = length-mixed (a / g) (int_div x (pos g)) l.numbers pivot (s.count ∙ sym wide) ∙ s.count;
    }

pub cleared_shaped : (n c a : ℕ) (pivot : List ℤ) (l : IntegerRow) → IsShaped n l → 0 < a → length pivot ≡ n → IsShaped n (row_eliminated c a pivot l)
cleared_shaped n c a pivot l s pa wide = step (nat_eq (unsigned_abs (number_at l.numbers c)) 0)
  where
    set_row : IsShaped n (without c l)
    set_row = record { positive = s.positive; count = length-set l.numbers c (pos 0) ∙ s.count }

    step : (b : Bool) → IsShaped n (if b then l else cut_where_wide (row_mixed a (number_at l.numbers c) (gcd (unsigned_abs (number_at l.numbers c)) a) pivot (without c l)))
    step true = s
    step false = wide_shaped n _ (mixed_row n a (number_at l.numbers c) pivot (without c l) set_row pa wide)

-- the size of what the number in column c is without what it has in common with the pivot
pub factor_size : (size x a most limit : ℕ) (f : ℤ) → unsigned_abs f ≡ x / gcd x a → step_size size x a most ≤ limit → size * (a / gcd x a) + unsigned_abs f * most ≤ limit
factor_size size x a most limit f e room = subst (λ w. size * (a / gcd x a) + w * most ≤ limit) (sym e) room

-- ---- the numbers between the steps
pub numbers_between_fit : NumbersBetweenFit
numbers_between_fit size most limit n a x pivot l room s hq =
    let g = gcd (unsigned_abs x) a in
    let p : ℕ = a / g in
    let f : ℤ = int_div x (pos g) in
    let same : p ≤ p = omega arith in
    let small_f : unsigned_abs f ≤ unsigned_abs x / g = (let e = unsigned_abs-int_div x g in omega (arith, e)) in
    let left : (j : ℕ) → unsigned_abs (number_at l.numbers j *ℤ pos p) ≤ size * p = λ j. size_of_product (number_at l.numbers j) (pos p) size p (s.sizes j) same in
    let right : (j : ℕ) → unsigned_abs (f *ℤ number_at pivot j) ≤ unsigned_abs x / g * most = λ j. size_of_product f (number_at pivot j) (unsigned_abs x / g) most small_f (hq j) in
    let below : l.denominator * p ≤ size * p = mul-le-mul s.below same in
    record {
      denominator = omega (arith, below, room);
      left = λ j. let h = left j in omega (arith, h, room);
      right = λ j. let h = right j in omega (arith, h, room);
      difference = λ j. size_of_sum (number_at l.numbers j *ℤ pos p) (neg_ℤ (f *ℤ number_at pivot j)) (size * p) (unsigned_abs x / g * most) limit (left j) (subst (λ w. w ≤ unsigned_abs x / g * most) (sym (unsigned_abs-neg (f *ℤ number_at pivot j))) (right j)) room;
    }

-- no step is above twice the product of both sizes
pub steps_below_twice : (size x a most : ℕ) → x ≤ size → a ≤ most → step_size size x a most ≤ 2 * (size * most)
steps_below_twice size x a most hx ha =
    let g = gcd x a in
    let p_less = div-le_self a g in
    let f_less = div-le_self x g in
    let same : size ≤ size = omega arith in
    let same_most : most ≤ most = omega arith in
    let p_small : a / g ≤ most = omega (arith, p_less, ha) in
    let f_small : x / g ≤ size = omega (arith, f_less, hx) in
    let left : size * (a / g) ≤ size * most = mul-le-mul same p_small in
    let right : x / g * most ≤ size * most = mul-le-mul f_small same_most in
    omega (arith, left, right)

pub steps_within_room : StepsWithinRoom
steps_within_room limit c pivot l room =
    let twice = steps_below_twice (row_size l) (unsigned_abs (number_at l.numbers c)) (unsigned_abs (number_at pivot.numbers c)) (row_size pivot) (sizes_in l.denominator l.numbers c) (sizes_in pivot.denominator pivot.numbers c) in
    le-leb _ limit (omega (arith, twice, room))

mixed_sizes : (limit p : ℕ) (f : ℤ) (zs qs : List ℤ) → ((j : ℕ) → unsigned_abs ((number_at zs j *ℤ pos p) -ℤ (f *ℤ number_at qs j)) ≤ limit) → AreSizes limit (cross_difference p f zs qs)
unfolding cross_difference
mixed_sizes limit p f [] qs h j = omega arith
mixed_sizes limit p f (z ∷ zs) [] h j = omega arith
mixed_sizes limit p f (z ∷ zs) (q ∷ qs) h zero = h 0
mixed_sizes limit p f (z ∷ zs) (q ∷ qs) h (suc j) = mixed_sizes limit p f zs qs (λ i. h (suc i)) j

pub mixed_within : (size most limit n a : ℕ) (x : ℤ) (pivot : List ℤ) (l : IntegerRow) → step_size size (unsigned_abs x) a most ≤ limit → IsIntegerRow size n l → AreSizes most pivot → length pivot ≡ n → 0 < a
    → IsIntegerRow limit n (cut_where_wide (row_mixed a x (gcd (unsigned_abs x) a) pivot l))
unfolding cut_where_wide
mixed_within size most limit n a x pivot l room s hq wide pa = step (row_fits widest raw)
  where
    raw : IntegerRow
    raw = row_mixed a x (gcd (unsigned_abs x) a) pivot l

    within : IsIntegerRow limit n (row_mixed a x (gcd (unsigned_abs x) a) pivot l)
    within =
        let between = numbers_between_fit size most limit n a x pivot l room s hq in
        let shaped = mixed_row n a x pivot l (record { positive = s.positive; count = s.count }) pa wide in
        record {
          positive = shaped.positive;
          below = between.denominator;
          sizes = mixed_sizes limit (a / gcd (unsigned_abs x) a) (int_div x (pos (gcd (unsigned_abs x) a))) l.numbers pivot between.difference;
          count = shaped.count;
        }

    step : (b : Bool) → IsIntegerRow limit n (if b then row_mixed a x (gcd (unsigned_abs x) a) pivot l else cut (row_mixed a x (gcd (unsigned_abs x) a) pivot l))
    step true = within
    step false = cut_within limit n raw within

pub cross_products_fit : CrossProductsFit
cross_products_fit bound limit a b room hb ha = let h = size_of_product b (pos a) bound bound hb ha in omega (arith, h, room)

-- ---- the rows that a pivot mixes
pub set_sizes : (bound : ℕ) (zs : List ℤ) (c : ℕ) (z : ℤ) → AreSizes bound zs → unsigned_abs z ≤ bound → AreSizes bound (set zs c z)
set_sizes bound [] c z h k j = h j
set_sizes bound (y ∷ zs) zero z h k zero = k
set_sizes bound (y ∷ zs) zero z h k (suc j) = h (suc j)
set_sizes bound (y ∷ zs) (suc c) z h k zero = h 0
set_sizes bound (y ∷ zs) (suc c) z h k (suc j) = set_sizes bound zs c z (λ i. h (suc i)) k j

pub integer_rows_fit : IntegerRowsFit
integer_rows_fit bound n c l s = (
  record { positive = s.positive; below = s.below; sizes = set_sizes bound l.numbers c (pos 0) s.sizes (omega arith); count = length-set l.numbers c (pos 0) ∙ s.count },
  set_sizes bound l.numbers c (pos l.denominator) s.sizes s.below,
)

pub eliminated_rows_fit : EliminatedRowsFit
eliminated_rows_fit size most limit n c a pivot l room s hq wide pa = step (nat_eq (unsigned_abs (number_at l.numbers c)) 0)
  where
    low : size ≤ limit
    low =
        let x : ℕ = unsigned_abs (number_at l.numbers c) in
        let one : 0 < a / gcd x a = pos_of_quotient a (gcd x a) pa (gcd_pos_right x a pa) (gcd_dvd_right x a) in
        let more : size * 1 ≤ size * (a / gcd x a) = mul-le-mul_left size one in
        omega (arith, more, room)

    step : (b : Bool) → IsIntegerRow limit n (if b then l else cut_where_wide (row_mixed a (number_at l.numbers c) (gcd (unsigned_abs (number_at l.numbers c)) a) pivot (without c l)))
    step true =
        let below = s.below in
        record { positive = s.positive; below = omega (arith, low, below); sizes = λ j. let h = s.sizes j in omega (arith, low, h); count = s.count }
    step false = mixed_within size most limit n a (number_at l.numbers c) pivot (without c l) room (integer_rows_fit size n c l s).0 hq wide pa

-- ---- what a row has in common, number after number
pub content_greatest : (d c : ℕ) (zs : List ℤ) → c ∣ d → ((j : ℕ) → c ∣ unsigned_abs (number_at zs j)) → c ∣ content d zs
unfolding content
content_greatest d c [] h k = h
content_greatest d c (z ∷ zs) h k = dvd_gcd c (unsigned_abs z) (content d zs) (k 0) (content_greatest d c zs h (λ j. k (suc j)))

pub content_in_order : ContentInOrder
unfolding common_of content
content_in_order d [] = refl
content_in_order d (z ∷ zs) =
    content_in_order (gcd (unsigned_abs z) d) zs
    ∙ dvd_antisymm
    (dvd_gcd (content (gcd (unsigned_abs z) d) zs) (unsigned_abs z) (content d zs)
    (dvd_trans (content (gcd (unsigned_abs z) d) zs) (content_denominator (gcd (unsigned_abs z) d) zs) (gcd_dvd_left (unsigned_abs z) d))
    (content_greatest d (content (gcd (unsigned_abs z) d) zs) zs (dvd_trans (content (gcd (unsigned_abs z) d) zs) (content_denominator (gcd (unsigned_abs z) d) zs) (gcd_dvd_right (unsigned_abs z) d)) (content_numbers (gcd (unsigned_abs z) d) zs)))
    (content_greatest (gcd (unsigned_abs z) d) (gcd (unsigned_abs z) (content d zs)) zs
    (dvd_gcd (gcd (unsigned_abs z) (content d zs)) (unsigned_abs z) d (gcd_dvd_left (unsigned_abs z) (content d zs)) (dvd_trans (gcd (unsigned_abs z) (content d zs)) (gcd_dvd_right (unsigned_abs z) (content d zs)) (content_denominator d zs)))
    (λ j. dvd_trans (gcd (unsigned_abs z) (content d zs)) (gcd_dvd_right (unsigned_abs z) (content d zs)) (content_numbers d zs j)))
