-- The front of a row: its denominator and so many numbers.
use Rattle.std.proofs.Common.{◌≡◌, ℕ, zero, suc, ◌+◌, ◌<◌, ◌≤◌, List, [], ◌∷◌, length, map, take, drop, set, add-one, refl, sym, ◌∙◌, ap, subst, arith, true, ℤ, pos, unsigned_abs}
use Rattle.std.specs.Int.{int_signum}
use Rattle.std.proofs.Math.ListN.{get_or-map}
use Rattle.std.proofs.lemmas.List.{map-id, take-take, get_or-take}
use Rattle.run_equivalence.specs.IntegerRows.{AreSizes, IsIntegerRow, IntegerRow, integer_row, row_size, number_at, numbers_fit}
use Rattle.run_equivalence.specs.WholePivoting.{cut}
use Rattle.run_equivalence.proofs.IntegerRowSteps.{cut_within, fit_of_sizes, size_at_most, sizes_bound}
use Rattle.integer_tableau.specs.Rows.{row_in, pivot_row_after}
use Rattle.integer_tableau.specs.Stored.{HasSigns}
use Rattle.integer_tableau.proofs.Numbers.{fits_empty}
use Rattle.integer_tableau.proofs.Stored.{sign_of_sign}
use Rattle.integer_tableau.proofs.Turned.{front_sizes, pivot_within, pivoted_front, size_below}

front_of : (w : ℕ) (x : List ℤ) → row_in w x ≡ row_in w (take (w + 1) x)
front_of w [] = rw (add-one w) refl
front_of w (z ∷ x) = rw (add-one w) (ap (integer_row (unsigned_abs z)) (sym (take-take w w x (omega arith))))

pub row_of_front : (w : ℕ) (y z : List ℤ) → take (w + 1) y ≡ take (w + 1) z → row_in w y ≡ row_in w z
row_of_front w y z e = front_of w y ∙ ap (row_in w) e ∙ sym (front_of w z)

front_number : (w j : ℕ) (x : List ℤ) → j ≤ w → number_at (take (w + 1) x) j ≡ number_at x j
front_number w j x low = get_or-take (w + 1) x j (pos 0) (omega (arith, low))

pub signs_of_same : (w : ℕ) (y z : List ℤ) → take (w + 1) y ≡ take (w + 1) z → HasSigns w y z
signs_of_same w y z e j low = ap int_signum (sym (front_number w j y low) ∙ ap (λ (x : List ℤ). number_at x j) e ∙ front_number w j z low)

pub signs_of_signs : (w : ℕ) (y z : List ℤ) → take (w + 1) y ≡ map int_signum (take (w + 1) z) → HasSigns w y z
signs_of_signs w y z e j low =
    let here : number_at y j ≡ int_signum (number_at (take (w + 1) z) j) = sym (front_number w j y low) ∙ ap (λ (x : List ℤ). number_at x j) e ∙ get_or-map int_signum (take (w + 1) z) j (pos 0) in
    ap int_signum here ∙ sign_of_sign (number_at (take (w + 1) z) j) ∙ ap int_signum (front_number w j z low)

pub front_fits : (b w : ℕ) (x : List ℤ) → IsIntegerRow b w (row_in w x) → numbers_fit b (take (w + 1) x) ≡ true
front_fits b w [] g = rw (add-one w) (fits_empty b)
front_fits b w (d ∷ x) g = rw (add-one w) (fit_of_sizes b (d ∷ take w x) each)
  where
    each : (j : ℕ) → j < length (d ∷ take w x) → unsigned_abs (number_at (d ∷ take w x) j) ≤ b
    each zero _ = g.below
    each (suc j) _ = g.sizes j

pub size_of_front : (b w : ℕ) (x : List ℤ) → AreSizes b (take (w + 1) x) → row_size (row_in w x) ≤ b
size_of_front b w x s =
    let parts = front_sizes b w x s in
    size_at_most b (unsigned_abs (number_at x 0)) (take w (drop 1 x)) parts.1 parts.0

-- ---- a row that is cut or exchanges two numbers is no greater
pub cut_size : (b w : ℕ) (l : IntegerRow) → IsIntegerRow b w l → row_size (cut l) ≤ row_size l
cut_size b w l g = size_below (row_size l) w (cut l) (cut_within (row_size l) w l (sizes_bound w l (record { positive = g.positive; count = g.count })))

pub pivot_size : (b w c a : ℕ) (l : IntegerRow) → c < w → IsIntegerRow b w l → 0 < a → a ≡ unsigned_abs (number_at l.numbers c) → row_size (pivot_row_after c a l) ≤ row_size l
pivot_size b w c a l column g above is =
    let own = sizes_bound w l (record { positive = g.positive; count = g.count }) in
    let within = pivot_within (row_size l) w c l column own (subst (λ (k : ℕ). 0 < k) is above) in
    subst (λ (k : ℕ). row_size (pivot_row_after c k l) ≤ row_size l) (sym is) (size_below (row_size l) w (pivot_row_after c (unsigned_abs (number_at l.numbers c)) l) within)

-- the front after its denominator and the number in column c are exchanged, each being its own
-- value
pub exchanged : (w c : ℕ) (x y : List ℤ) → c < w → c + 1 < length x
    → map (λ (z : ℤ). z) y ≡ set (set (map (λ (z : ℤ). z) x) 0 (number_at (map (λ (z : ℤ). z) x) (c + 1))) (c + 1) (pos (unsigned_abs (number_at (map (λ (z : ℤ). z) x) 0)))
    → row_in w y ≡ pivot_row_after c (unsigned_abs (number_at (row_in w x).numbers c)) (row_in w x)
exchanged w c x y column low e =
    let whole = sym (map-id y) ∙ e ∙ ap (λ (z : List ℤ). set (set z 0 (number_at z (c + 1))) (c + 1) (pos (unsigned_abs (number_at z 0)))) (map-id x) in
    ap (row_in w) whole ∙ pivoted_front w c x column low
