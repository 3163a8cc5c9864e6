-- A row of whole numbers in a pivot, and the row of fractions that it stands for.
use Rattle.exact_num.specs.Rationals.{reduced_is_lowest}
use Rattle.std.proofs.Common.{◌≡◌, ℕ, zero, suc, ◌*◌, ◌/◌, ◌<◌, ◌≤◌, List, [], ◌∷◌, length, map, set, arith, refl, sym, ◌∙◌, ap, subst, ℤ, pos, unsigned_abs, int_div, Bool, true, false, nat_eq}
use Rattle.std.specs.Prelude.{Ok, if◌then◌else◌}
use Rattle.std.proofs.lemmas.Bool.{eqb-true}
use Rattle.std.proofs.lemmas.List.{length-set, length-map}
use Rattle.std.proofs.Math.Nat.{mul-pos, div-le_self}
use Rattle.arithmetic.specs.Gcd.{gcd}
use Rattle.arithmetic.proofs.Quotients.{unsigned_abs-int_div}
use Rattle.arithmetic.proofs.Ring.{ring, V, K, ◌⊗◌}
use Rattle.arithmetic.proofs.Integers.{zero_of_size}
use Rattle.exact_num.specs.Fraction.{Fraction, IsLowest, whole, reduced}
use Rattle.exact_num.specs.CommonDenominator.{IsRatio}
use Rattle.exact_num.specs.Fits.{div_of}
use Rattle.exact_num.proofs.Values.{whole_is_lowest}
use Rattle.simplex_run.specs.Places.{at, fraction_zero}
use Rattle.simplex_run.specs.Pivot.{less_product, divided, eliminated}
use Rattle.simplex_run.proofs.StepsOf.{steps_told}
use Rattle.run_equivalence.specs.IntegerRows.{IntegerRow, AreSizes, IsIntegerRow, number_at, fractions_over, fractions_of}
use Rattle.run_equivalence.specs.WholePivoting.{cross_difference, cut_where_wide, row_mixed, exchanged_in, without, row_eliminated, step_size}
use Rattle.run_equivalence.proofs.Multiples.{reduced_is, is_reduced}
use Rattle.run_equivalence.proofs.StepsFit.{quotients_fit}
use Rattle.run_equivalence.proofs.IntegerRowSteps.{IsShared, shared_by, factor_size, entry_cleared, cross_at, length-mixed, mixed_none, reduced_zero, fraction_at, wide_same, set_sizes}

-- ---- a number that is set
set_over : (d : ℕ) (zs : List ℤ) (c : ℕ) (z : ℤ) (x : Fraction) → reduced z d ≡ x → set (fractions_over d zs) c x ≡ fractions_over d (set zs c z)
unfolding fractions_over
set_over d [] c z x h = refl
set_over d (y ∷ zs) zero z x h = ap (λ w. w ∷ map (λ z. reduced z d) zs) (sym h)
set_over d (y ∷ zs) (suc c) z x h = ap (λ w. reduced y d ∷ w) (set_over d zs c z x h)

reduced_one : (d : ℕ) → 0 < d → reduced (pos d) d ≡ whole (pos 1)
reduced_one d p = sym (is_reduced (whole (pos 1)) (pos d) d (whole_is_lowest (pos 1)) p (ring (pos d ∷ []) (K (pos 1) ⊗ V 0) (V 0 ⊗ K (pos 1)) refl))

set_itself : (zs : List ℤ) (c : ℕ) (z : ℤ) → number_at zs c ≡ z → c < length zs → set zs c z ≡ zs
set_itself [] c z h p = refl
set_itself (y ∷ zs) zero z h p = ap (λ w. w ∷ zs) (sym h)
set_itself (y ∷ zs) (suc c) z h p = ap (λ w. y ∷ w) (set_itself zs c z h (omega (arith, p)))

over_count : (d : ℕ) (zs : List ℤ) → length (fractions_over d zs) ≡ length zs
unfolding fractions_over
over_count d zs = length-map zs (λ z. reduced z d)

-- ---- the pivot row: its numbers stay, over the one in column c
pub divided_is : (limit n c a : ℕ) (labels : List ℕ) (l : IntegerRow) → IsIntegerRow limit n l → length labels ≡ n → 0 < a → number_at l.numbers c ≡ pos a → a ≤ limit → divided limit c labels (fractions_of l) ≡ Ok (fractions_over a (exchanged_in c l))
unfolding divided
divided_is limit n c a labels l line wide pa is_a la =
    let d = l.denominator in
    let f : Fraction = at (fractions_of l) c in
    let zs = exchanged_in c l in
    let is_f : f ≡ reduced (pos a) d = fraction_at d l.numbers c line.positive ∙ ap (λ z. reduced z d) is_a in
    let low = subst IsLowest (sym is_f) (reduced_is_lowest (pos a) d line.positive) in
    let is_ratio = subst (λ (w : Fraction). IsRatio w (pos a) d) (sym is_f) (reduced_is (pos a) d) in
    let sizes = set_sizes limit l.numbers c (pos d) line.sizes line.below in
    let entry : (k : ℕ) → at (set (fractions_of l) c (whole (pos 1))) k ≡ reduced (number_at zs k) d = λ k. ap (λ xs. at xs k) (set_over d l.numbers c (pos d) (whole (pos 1)) (reduced_one d line.positive)) ∙ fraction_at d zs k line.positive in
    steps_told (λ k. div_of limit (at (set (fractions_of l) c (whole (pos 1))) k) f) labels (fractions_over a zs)
    (over_count a zs ∙ length-set l.numbers c (pos d) ∙ line.count ∙ sym wide)
    (λ k p.
    ap (λ x. div_of limit x f) (entry k)
    ∙ quotients_fit limit d a (reduced (number_at zs k) d) f (number_at zs k) (reduced_is_lowest (number_at zs k) d line.positive) low line.positive pa (reduced_is (number_at zs k) d) is_ratio (sizes k) la
    ∙ ap Ok (sym (fraction_at a zs k pa)))

-- ---- another row
pub cleared_is : (limit size most n c a : ℕ) (labels : List ℕ) (pivot : List ℤ) (l : IntegerRow) → step_size size (unsigned_abs (number_at l.numbers c)) a most ≤ limit → IsIntegerRow size n l → c < n → length labels ≡ n → 0 < a → length pivot ≡ n → AreSizes most pivot
    → eliminated limit c labels (fractions_over a pivot) (fractions_of l) ≡ Ok (fractions_of (row_eliminated c a pivot l))
unfolding eliminated
cleared_is limit size most n c a labels pivot l room line in_c many pa wide hq =
    steps_told (λ k. less_product limit r (at (set (fractions_of l) c fraction_zero) k) (at (fractions_over a pivot) k)) labels (fractions_over (l.denominator * p) (cross_difference p f zs pivot))
    (over_count (l.denominator * p) (cross_difference p f zs pivot) ∙ length-mixed p f zs pivot (count ∙ sym wide) ∙ count ∙ sym many) (λ k h. all k (omega (arith, h, many)))
    ∙ ap Ok (step (nat_eq (unsigned_abs x) 0) refl)
  where
    x : ℤ
    x = number_at l.numbers c

    g : ℕ
    g = gcd (unsigned_abs x) a

    p : ℕ
    p = a / g

    f : ℤ
    f = int_div x (pos g)

    zs : List ℤ
    zs = set l.numbers c (pos 0)

    size_f : unsigned_abs f ≡ unsigned_abs x / g
    size_f = unsigned_abs-int_div x g

    s : IsShared x f a p g
    s = shared_by x a pa

    r : Fraction
    r = at (fractions_of l) c

    is_r : r ≡ reduced x l.denominator
    is_r = fraction_at l.denominator l.numbers c line.positive

    count : length (set l.numbers c (pos 0)) ≡ n
    count = length-set l.numbers c (pos 0) ∙ line.count

    sizes : AreSizes size (set l.numbers c (pos 0))
    sizes = set_sizes size l.numbers c (pos 0) line.sizes (omega arith)

    entry : (k : ℕ) → at (set (fractions_of l) c fraction_zero) k ≡ reduced (number_at zs k) l.denominator
    entry k = ap (λ xs. at xs k) (set_over l.denominator l.numbers c (pos 0) fraction_zero (reduced_zero l.denominator line.positive)) ∙ fraction_at l.denominator zs k line.positive

    all : (k : ℕ) → k < n → less_product limit r (at (set (fractions_of l) c fraction_zero) k) (at (fractions_over a pivot) k) ≡ Ok (at (fractions_over (l.denominator * p) (cross_difference p f zs pivot)) k)
    all k h =
        ap (λ y. less_product limit r y (at (fractions_over a pivot) k)) (entry k) ∙ ap (less_product limit r (reduced (number_at zs k) l.denominator)) (fraction_at a pivot k pa)
        ∙ entry_cleared limit size most l.denominator a p g r x f (number_at zs k) (number_at pivot k) (factor_size size (unsigned_abs x) a most limit f size_f room) line.positive pa line.below s (subst IsLowest (sym is_r) (reduced_is_lowest x l.denominator line.positive)) (subst (λ (w : Fraction). IsRatio w x l.denominator) (sym is_r) (reduced_is x l.denominator)) (sizes k) (hq k)
        ∙ ap Ok (ap (λ z. reduced z (l.denominator * p)) (sym (cross_at p f zs pivot k (omega (arith, h, count)) (count ∙ sym wide))) ∙ sym (fraction_at (l.denominator * p) (cross_difference p f zs pivot) k (mul-pos line.positive s.positive)))

    none : unsigned_abs x ≡ 0 → f ≡ pos 0
    none h = let less = div-le_self (unsigned_abs x) g in zero_of_size f (omega (arith, size_f, less, h))

    step : (b : Bool) → nat_eq (unsigned_abs x) 0 ≡ b → fractions_over (l.denominator * p) (cross_difference p f zs pivot) ≡ fractions_of (if b then l else cut_where_wide (row_mixed a x g pivot (without c l)))
    step true h =
        ap (λ w. fractions_over (l.denominator * p) (cross_difference p w zs pivot)) (none (eqb-true _ _ h)) ∙ mixed_none l.denominator p zs pivot line.positive s.positive (count ∙ sym wide)
        ∙ ap (fractions_over l.denominator) (set_itself l.numbers c (pos 0) (zero_of_size x (eqb-true _ _ h)) (omega (arith, in_c, line.count)))
    step false h = sym (wide_same (row_mixed a x g pivot (without c l)) (mul-pos line.positive s.positive))
