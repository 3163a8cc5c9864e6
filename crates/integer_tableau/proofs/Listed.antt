-- The rows that are listed for a column, and those between them.
use Rattle.std.proofs.Common.{◌≡◌, ℕ, zero, suc, ◌+◌, ◌<◌, ◌≤◌, List, [], ◌∷◌, length, ℤ, pos, arith, refl, sym, ◌∙◌, ap, subst, slice_index_or}
use Rattle.std.proofs.lemmas.List.{length-map, get_or_default}
use Rattle.exact_num.specs.Fraction.{whole}
use Rattle.fraction_tableau.proofs.Nonzero.{place_below}
use Rattle.run_equivalence.specs.IntegerRows.{number_at}
use Rattle.integer_tableau.specs.Rows.{column_in, nonzero_in, row_at}
use Rattle.integer_tableau.proofs.Sparse.{rising, zero_first, zero_between}

at_most : (xs : List ℕ) (t d : ℕ) → (t < length xs → slice_index_or xs t 0 < d) → slice_index_or xs t d ≤ d
at_most [] t d h = omega arith
at_most (x ∷ xs) zero d h = let low = h (omega arith) in omega (arith, low)
at_most (x ∷ xs) (suc t) d h = at_most xs t d (λ low. h (omega (arith, low)))

at_least : (xs : List ℕ) (t d m : ℕ) → (t < length xs → m ≤ slice_index_or xs t 0) → m ≤ d → m ≤ slice_index_or xs t d
at_least [] t d m h high = high
at_least (x ∷ xs) zero d m h high = h (omega arith)
at_least (x ∷ xs) (suc t) d m h high = at_least xs t d m (λ low. h (omega (arith, low))) high

past_end : (xs : List ℕ) (t d : ℕ) → length xs ≤ t → d ≤ slice_index_or xs t d
past_end [] t d h = omega arith
past_end (x ∷ xs) zero d h = absurd (omega (arith, h))
past_end (x ∷ xs) (suc t) d h = past_end xs t d (omega (arith, h))

pub column_number : (c : ℕ) (rows : List (List ℤ)) (j : ℕ) → number_at (column_in c rows) j ≡ number_at (row_at rows j) (c + 1)
column_number c [] j = refl
column_number c (x ∷ rows) zero = refl
column_number c (x ∷ rows) (suc j) = column_number c rows j

-- the rows from i to k are 0 in the column
pub record IsGap (c i k : ℕ) (rows : List (List ℤ)) : Type 0 where
  pub low : i ≤ k
  pub high : k ≤ length rows
  pub zero : (j : ℕ) → i ≤ j → j < k → number_at (row_at rows j) (c + 1) ≡ pos 0

-- the row at place t of the list, or the number of rows
abbrev pub next_row : List ℕ → ℕ → List (List ℤ) → ℕ
next_row places t rows = slice_index_or places t (length rows)

module _ (c : ℕ) (rows : List (List ℤ)) (places : List ℕ) (is : places ≡ nonzero_in (column_in c rows)) where
  count : length (column_in c rows) ≡ length rows
  count = length-map rows (λ row. number_at row (c + 1))

  pub row_inside : (t : ℕ) → t < length places → slice_index_or places t 0 < length rows
  row_inside t low = place_below whole (column_in c rows) places (length rows) is count t low

  pub row_is : (t : ℕ) → t < length places → next_row places t rows ≡ slice_index_or places t 0
  row_is t low = get_or_default places t (length rows) 0 low

  pub first_gap : IsGap c 0 (next_row places 0 rows) rows
  first_gap =
      let zs = column_in c rows in
      record {
        low = omega arith;
        high = at_most places 0 (length rows) (row_inside 0);
        zero = λ j p q. sym (column_number c rows j) ∙ zero_first zs j (subst (λ (n : ℕ). j < slice_index_or (nonzero_in zs) 0 n) (sym count) (subst (λ (js : List ℕ). j < slice_index_or js 0 (length rows)) is q));
      }

  pub later_gap : (t : ℕ) → t < length places → IsGap c (slice_index_or places t 0 + 1) (next_row places (t + 1) rows) rows
  later_gap t few =
      let zs = column_in c rows in
      let place = slice_index_or places t 0 in
      let in_list : t < length (nonzero_in zs) = (rw is at few) in
      let same : slice_index_or places t 0 ≡ slice_index_or (nonzero_in zs) t 0 = ap (λ (js : List ℕ). slice_index_or js t 0) is in
      record {
        low = at_least places (t + 1) (length rows) (place + 1) (λ low. let rises = rising zs t (t + 1) (omega arith) (rw is at low) in rw is (omega (arith, rises))) (let inside = row_inside t few in omega (arith, inside));
        high = at_most places (t + 1) (length rows) (row_inside (t + 1));
        zero = λ j p q.
            sym (column_number c rows j) ∙ zero_between zs t j in_list (omega (arith, p, same))
            (subst (λ (n : ℕ). j < slice_index_or (nonzero_in zs) (t + 1) n) (sym count) (subst (λ (js : List ℕ). j < slice_index_or js (t + 1) (length rows)) is q));
      }

  pub no_row : (t : ℕ) → length places ≤ t → length rows ≤ next_row places t rows
  no_row t high = past_end places t (length rows) high
