-- A row that is cut, number after number.
use Rattle.std.proofs.Common.{◌≡◌, ℕ, ◌<◌, ◌≤◌, List, [], ◌∷◌, map, arith, refl, sym, ◌∙◌, ap, subst, ℤ, pos, int_div, true, false}
use Rattle.std.specs.Int.{◌∣◌}
use Rattle.std.proofs.lemmas.Bool.{le-leb}
use Rattle.std.proofs.lemmas.Nat.Gcd.{le_of_dvd}
use Rattle.std.proofs.Math.Nat.{pos_of_dvd_of_pos, div-one}
use Rattle.arithmetic.proofs.Quotients.{int_div-one}
use Rattle.run_equivalence.specs.IntegerRows.{IntegerRow, integer_row, row_fits, row_size, widest}
use Rattle.run_equivalence.specs.WholePivoting.{common_of, cut, cut_where_wide, divided_by}
use Rattle.run_equivalence.proofs.IntegerRowSteps.{content_denominator, content_in_order, sizes_least}

common_divides : (d : ℕ) (zs : List ℤ) → common_of d zs ∣ d
common_divides d zs = subst (λ (c : ℕ). c ∣ d) (sym (content_in_order d zs)) (content_denominator d zs)

pub common_above : (d c : ℕ) (zs : List ℤ) → 0 < d → c ≡ common_of d zs → 0 < c
common_above d c zs p e = subst (λ w. 0 < w) (sym e) (pos_of_dvd_of_pos (common_divides d zs) p)

pub common_below : (d c n : ℕ) (zs : List ℤ) → 0 < d → d < n → c ≡ common_of d zs → c < n
common_below d c n zs p h e = let l : common_of d zs ≤ d = le_of_dvd p (common_divides d zs) in omega (arith, l, h, e)

-- the row that is written
abbrev pub quotients : ℕ → List ℤ → List ℤ
quotients c zs = map (λ z. int_div z (pos c)) zs

pub cut_is : (d c : ℕ) (zs : List ℤ) → c ≡ common_of d zs → divided_by c (integer_row d zs) ≡ cut (integer_row d zs)
unfolding cut
cut_is d c zs e = ap (λ w. divided_by w (integer_row d zs)) (e ∙ content_in_order d zs)

pub whole_is : (d : ℕ) (zs : List ℤ) → divided_by 1 (integer_row d zs) ≡ integer_row d zs
whole_is d zs = (λ i. integer_row (div-one d i) (quotients_of_one zs i))
  where
    quotients_of_one : (zs : List ℤ) → quotients 1 zs ≡ zs
    quotients_of_one [] = refl
    quotients_of_one (z ∷ zs) = λ i. int_div-one z i ∷ quotients_of_one zs i

-- ---- a row that 64 bits hold stays, and any other is cut
pub short_row_stays : (d : ℕ) (zs : List ℤ) → row_fits widest (integer_row d zs) ≡ true → integer_row d zs ≡ cut_where_wide (integer_row d zs)
unfolding cut_where_wide
short_row_stays d zs h = rw h refl

pub wide_row_cut : (d : ℕ) (zs : List ℤ) → row_fits widest (integer_row d zs) ≡ false → cut (integer_row d zs) ≡ cut_where_wide (integer_row d zs)
unfolding cut_where_wide
wide_row_cut d zs h = rw h refl

pub size_stays : (l : IntegerRow) → row_size l ≤ widest → l ≡ cut_where_wide l
unfolding cut_where_wide
size_stays l h = let short : row_fits widest l ≡ true = sizes_least widest l ∙ le-leb (row_size l) widest h in rw short refl
