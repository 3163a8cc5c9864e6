-- The rows of a pivot.
use Rattle.std.proofs.Common.{◌≡◌, ℕ, zero, suc, ◌+◌, ◌-◌, ◌<◌, ◌≤◌, List, [], ◌∷◌, length, take, drop, set, add-one, refl, sym, ◌∙◌, ap, subst, arith, true, ℤ, pos, unsigned_abs, to_z, length-set}
use mir.Syntax.{Width}
use Rattle.std.specs.Prelude.{nat_le}
use Rattle.std.proofs.lemmas.Bool.{and_parts, le-leb, leb-true, ne_eqb}
use Rattle.std.proofs.lemmas.List.{map-set, get_or-set_same}
use Rattle.std.proofs.lemmas.Slice.{take-put_mid}
use borrow.Rule.Slice.PartMut.{put_mid}
use Rattle.run_equivalence.specs.IntegerRows.{IntegerRow, IsIntegerRow, AreSizes, row_size, integer_row, number_at, row_fits, numbers_fit, widest}
use Rattle.run_equivalence.specs.WholePivoting.{cut}
use Rattle.run_equivalence.proofs.IntegerRowSteps.{cut_within, fit_of_sizes, size_at_most, sizes_bound, sizes_least, set_sizes}
use Rattle.run_equivalence.proofs.PivotSteps.{size_above, cut_above}
use Rattle.integer_tableau.specs.Eliminating.{IsEliminatedBy, IsKept, IsPivotRow, IsShort}
use Rattle.integer_tableau.specs.declared.mix.PivotRow.{PivotRow}
use Rattle.integer_tableau.specs.Rows.{column_in, row_in, nonzero_in, row_at, pivot_row_after, AreRowsIn, IsPivot}
use Rattle.integer_tableau.proofs.Listed.{column_number}
use Rattle.integer_tableau.proofs.Eliminating.{left_within}
use Rattle.integer_tableau.proofs.Sparse.{nonzero_set}

-- ---- the pivot row
take_set : {A : Type 0} (w c : ℕ) (xs : List A) (v : A) → c < w → take w (set xs c v) ≡ set (take w xs) c v
take_set zero c xs v h = absurd (omega (arith, h))
take_set (suc w) c [] v h = refl
take_set (suc w) zero (x ∷ xs) v h = refl
take_set (suc w) (suc c) (x ∷ xs) v h = ap (λ ys. x ∷ ys) (take_set w c xs v (omega (arith, h)))

taken_number : (w : ℕ) (xs : List ℤ) (c : ℕ) → c < w → number_at (take w xs) c ≡ number_at xs c
taken_number zero xs c h = absurd (omega (arith, h))
taken_number (suc w) [] c h = refl
taken_number (suc w) (x ∷ xs) zero h = refl
taken_number (suc w) (x ∷ xs) (suc c) h = taken_number w xs c (omega (arith, h))

pub pivoted_front : (w c : ℕ) (row : List ℤ) → c < w → c + 1 < length row
    → row_in w (set (set row 0 (number_at row (c + 1))) (c + 1) (pos (unsigned_abs (number_at row 0)))) ≡ pivot_row_after c (unsigned_abs (number_at (row_in w row).numbers c)) (row_in w row)
pivoted_front w c [] h low = absurd (omega (arith, low))
pivoted_front w c (d ∷ xs) h low =
    let next = add-one c in
    let number = taken_number w xs c h in
    rw (next, number) (ap (integer_row (unsigned_abs (number_at xs c))) (take_set w c xs (pos (unsigned_abs d)) h))

-- ---- rows within the bound
pub row_of_sizes : (b n : ℕ) (l : IntegerRow) → IsIntegerRow b n l → row_fits b l ≡ true
row_of_sizes b n l g =
    let first = le-leb l.denominator b g.below in
    let later = fit_of_sizes b l.numbers (λ j _. g.sizes j) in
    rw (first, later) refl

pub row_wider : (b c n : ℕ) (l : IntegerRow) → b ≤ c → IsIntegerRow b n l → IsIntegerRow c n l
row_wider b c n l low g = record { positive = g.positive; below = (let p = g.below in omega (arith, low, p)); sizes = λ j. (let p = g.sizes j in omega (arith, low, p)); count = g.count }

pub pivot_within : (b n c : ℕ) (l : IntegerRow) → c < n → IsIntegerRow b n l → 0 < unsigned_abs (number_at l.numbers c) → IsIntegerRow b n (pivot_row_after c (unsigned_abs (number_at l.numbers c)) l)
pivot_within b n c l h g p =
    record {
      positive = p;
      below = g.sizes c;
      sizes = set_sizes b l.numbers c (pos l.denominator) g.sizes g.below;
      count = length-set l.numbers c (pos l.denominator) ∙ g.count;
    }

-- the pivot row, once it is placed
pub record IsPlaced (b w a : ℕ) (y : List ℤ) : Type 0 where
  pub line : IsIntegerRow b w (row_in w y)
  pub above : 0 < a
  pub below : a ≤ b

pub placed : (b w c r a : ℕ) (rows : List (List ℤ)) (y : List ℤ) → IsPivot w c r rows → AreRowsIn b w rows → a ≡ unsigned_abs (number_at (cut (row_in w (row_at rows r))).numbers c)
    → row_in w y ≡ pivot_row_after c a (cut (row_in w (row_at rows r))) → IsPlaced b w a y
placed b w c r a rows y p lines is_a is_y =
    let x = row_in w (row_at rows r) in
    let l = cut x in
    let before = lines r p.row in
    let old : IsIntegerRow b w l = cut_within b w x before in
    let above = (size_above (number_at l.numbers c) (cut_above x c before.positive p.above)).1 in
    record {
      line = subst (IsIntegerRow b w) (sym (is_y ∙ ap (λ (q : ℕ). pivot_row_after c q l) is_a)) (pivot_within b w c l p.column old above);
      above = subst (λ (k : ℕ). 0 < k) (sym is_a) above;
      below = subst (λ (k : ℕ). k ≤ b) (sym is_a) (old.sizes c);
    }

-- a size of the front is one of the row there
pub front_sizes : (b w : ℕ) (row : List ℤ) → AreSizes b (take (w + 1) row) → AreSizes b (take w (drop 1 row)) × (unsigned_abs (number_at row 0) ≤ b)
front_sizes b w [] s = (none_at w, omega arith)
  where
    none_at : (w j : ℕ) → unsigned_abs (number_at (take w []) j) ≤ b
    none_at zero zero = omega arith
    none_at zero (suc j) = omega arith
    none_at (suc w) zero = omega arith
    none_at (suc w) (suc j) = omega arith
front_sizes b w (d ∷ xs) s =
    let same = rw (add-one w) at s in
    (λ j. same (suc j), same 0)

-- the sizes of a row whose number in column c is exchanged for the denominator
pub unset_sizes : (b c : ℕ) (v : ℤ) (zs : List ℤ) → AreSizes b (set zs c v) → unsigned_abs (number_at zs c) ≤ b → AreSizes b zs
unset_sizes b c v [] s q j = s j
unset_sizes b zero v (z ∷ zs) s q zero = q
unset_sizes b zero v (z ∷ zs) s q (suc j) = s (suc j)
unset_sizes b (suc c) v (z ∷ zs) s q zero = s 0
unset_sizes b (suc c) v (z ∷ zs) s q (suc j) = unset_sizes b c v zs (λ i. s (suc i)) q j

-- the row that leaves is no greater than its row, once that is placed
pub placed_size : (b w c a most : ℕ) (l : IntegerRow) (y : List ℤ) → IsIntegerRow b w l → c < w → a ≡ unsigned_abs (number_at l.numbers c) → row_in w y ≡ pivot_row_after c a l → AreSizes most (row_in w y).numbers → a ≤ most → row_size l ≤ most
placed_size b w c a most l y g column is_a is_y sizes low =
    let set_sizes : AreSizes most (set l.numbers c (pos l.denominator)) = subst (λ (m : IntegerRow). AreSizes most m.numbers) is_y sizes in
    let inside : c < length l.numbers = (let count = g.count in omega (arith, column, count)) in
    let own : number_at (set l.numbers c (pos l.denominator)) c ≡ pos l.denominator = get_or-set_same l.numbers c (pos l.denominator) (pos 0) inside in
    let numbers = unset_sizes most c (pos l.denominator) l.numbers set_sizes (subst (λ (k : ℕ). k ≤ most) is_a low) in
    size_at_most most l.denominator l.numbers (subst (λ (z : ℤ). unsigned_abs z ≤ most) own (set_sizes c)) numbers

pub integer_rows_set : (b w : ℕ) (rows : List (List ℤ)) (i : ℕ) (ys : List ℤ) → AreRowsIn b w rows → IsIntegerRow b w (row_in w ys) → AreRowsIn b w (set rows i ys)
integer_rows_set b w rows i ys g l = λ j p. at_place rows i j ys g l p
  where
    at_place : (rows : List (List ℤ)) (i j : ℕ) (ys : List ℤ) → AreRowsIn b w rows → IsIntegerRow b w (row_in w ys) → j < length (set rows i ys) → IsIntegerRow b w (row_in w (row_at (set rows i ys) j))
    at_place [] i j ys g l p = absurd (omega (arith, p))
    at_place (x ∷ rows) zero zero ys g l p = l
    at_place (x ∷ rows) zero (suc j) ys g l p = g (suc j) p
    at_place (x ∷ rows) (suc i) zero ys g l p = g 0 (omega arith)
    at_place (x ∷ rows) (suc i) (suc j) ys g l p = at_place rows i j ys (λ k q. g (suc k) (omega (arith, q))) l (omega (arith, p))

front_number : (w c : ℕ) (row : List ℤ) → c < w → number_at (take w (drop 1 row)) c ≡ number_at row (c + 1)
front_number w c [] h = taken_number w [] c h
front_number w c (d ∷ xs) h = let next = add-one c in rw next (taken_number w xs c h)

-- the pivot row's number in the column is not 0 before it is placed, nor then
pub listed_still : (w c r a : ℕ) (rows : List (List ℤ)) (y : List ℤ) (l : IntegerRow) → IsPivot w c r rows → row_in w y ≡ pivot_row_after c a l → 0 < l.denominator → length l.numbers ≡ w
    → nonzero_in (column_in c (set rows r y)) ≡ nonzero_in (column_in c rows)
listed_still w c r a rows y l p is_pivot above wide =
    let column = p.column in
    let old : number_at (row_in w (row_at rows r)).numbers c ≡ number_at (column_in c rows) r = front_number w c (row_at rows r) column ∙ sym (column_number c rows r) in
    let size = (size_above (number_at (row_in w (row_at rows r)).numbers c) p.above).1 in
    let is_new : number_at y (c + 1) ≡ pos l.denominator = sym (front_number w c y column) ∙ ap (λ (m : IntegerRow). number_at m.numbers c) is_pivot ∙ get_or-set_same l.numbers c (pos l.denominator) (pos 0) (omega (arith, column, wide)) in
    let new_size : unsigned_abs (number_at y (c + 1)) ≡ l.denominator = ap unsigned_abs is_new in
    ap nonzero_in (map-set (λ row. number_at row (c + 1)) rows r y)
    ∙ nonzero_set 0 (column_in c rows) r (number_at y (c + 1)) (ne_eqb _ 0 (λ e. omega (arith, e, new_size, above))) (ne_eqb _ 0 (λ e. omega (arith, e, size, ap unsigned_abs old)))

-- ---- numbers that are written behind the denominator
pub front_of_mid : (w k : ℕ) (row ns : List ℤ) → 0 < length row → length ns ≡ w → take (suc w) (put_mid 1 k row ns) ≡ number_at row 0 ∷ ns
front_of_mid w k [] ns p e = absurd (omega (arith, p))
front_of_mid w k (x ∷ xs) ns p e = take-put_mid 1 k (x ∷ xs) ns (suc w) (omega (arith, e)) (omega arith)

pub written_front : (w : ℕ) (row ns : List ℤ) (x d : ℤ) → take (suc w) row ≡ x ∷ ns → row_in w (set row 0 d) ≡ integer_row (unsigned_abs d) ns
written_front w [] ns x d e = absurd cc
written_front w (y ∷ row) ns x d e = ap (λ (zs : List ℤ). integer_row (unsigned_abs d) (drop 1 zs)) e

pub taken_front : (w : ℕ) (row ns : List ℤ) (d : ℤ) → take (suc w) row ≡ d ∷ ns → row_in w row ≡ integer_row (unsigned_abs d) ns
taken_front w [] ns d e = absurd cc
taken_front w (y ∷ row) ns d e = ap (λ (zs : List ℤ). integer_row (unsigned_abs (number_at zs 0)) (drop 1 zs)) e

-- ---- the objective row
pub size_below : (size n : ℕ) (l : IntegerRow) → IsIntegerRow size n l → row_size l ≤ size
size_below size n l g = size_at_most size l.denominator l.numbers g.below g.sizes

pub row_below : (limit size n : ℕ) (l : IntegerRow) → IsIntegerRow limit n l → row_size l ≤ size → IsIntegerRow size n l
row_below limit size n l g low = row_wider (row_size l) size n l low (sizes_bound n l (record { positive = g.positive; count = g.count }))

pub short_denominator : (d size : ℕ) (ns : List ℤ) → IsShort size (integer_row d ns) → d ≤ widest
short_denominator d size ns g =
    let fits : row_fits widest (integer_row d ns) ≡ true = sizes_least widest (integer_row d ns) ∙ le-leb (row_size (integer_row d ns)) widest g.short in
    leb-true _ _ (and_parts (nat_le d widest) (numbers_fit widest ns) fits).0

-- ---- the part of a row behind its denominator, as code takes it
pub part_count : (bound w : ℕ) (row : List ℤ) → IsIntegerRow bound w (row_in w row) → length (take (w + 1 - 1) (drop 1 row)) ≡ w
part_count bound w row g = let same : w + 1 - 1 ≡ w = omega arith in rw same g.count

pub row_part : (bound w kept b : ℕ) (row : List ℤ) → b ≡ unsigned_abs (number_at row 0) → IsKept bound w kept (row_in w row)
    → IsKept bound (length (take (w + 1 - 1) (drop 1 row))) kept (integer_row b (take (w + 1 - 1) (drop 1 row)))
row_part bound w kept b row size g =
    let same : w + 1 - 1 ≡ w = omega arith in
    subst (λ (n : ℕ). IsKept bound n kept (integer_row b (take (w + 1 - 1) (drop 1 row)))) (sym (part_count bound w row g.line)) (rw (size, same) g)

pub pivot_part : (k : PivotRow) (w n : ℕ) (pivot : List ℤ) → n ≡ w → IsPivotRow k w (row_in w pivot).numbers → IsPivotRow k n (take (w + 1 - 1) (drop 1 pivot))
pivot_part k w n pivot e g = let same : w + 1 - 1 ≡ w = omega arith in rw (e, same) g

-- the row whose row is written back over the denominator d
pub record IsRowWritten (k : PivotRow) (w : ℕ) (row pivot ns : List ℤ) (d : ℕ) (v : Width) : Type 0 where
  pub left : IsEliminatedBy k (row_in w pivot).numbers (row_in w row) (integer_row d ns)
  pub below : d ≤ k.step.limit
  pub written : (to_z v d ≡ pos d) → row_in w (set (put_mid 1 (w + 1 - 1) row ns) 0 (to_z v d)) ≡ integer_row d ns

-- where its row over b is eliminated by a pivot row of these numbers
pub row_written : (k : PivotRow) (w b d : ℕ) (row pivot ps ns : List ℤ) (v : Width) → b ≡ unsigned_abs (number_at row 0) → ps ≡ take (w + 1 - 1) (drop 1 pivot) → w < length row → IsPivotRow k w (row_in w pivot).numbers → IsIntegerRow k.step.limit w (row_in w row)
    → IsEliminatedBy k ps (integer_row b (take (w + 1 - 1) (drop 1 row))) (integer_row d ns) → IsRowWritten k w row pivot ns d v
row_written k w b d row pivot ps ns v size is wide g line told =
    let same : w + 1 - 1 ≡ w = omega arith in
    let left : IsEliminatedBy k (row_in w pivot).numbers (row_in w row) (integer_row d ns) = rw (size, is, same) at told in
    let within = left_within k w (row_in w pivot).numbers (row_in w row) (integer_row d ns) g line left in
    let front = front_of_mid w (w + 1 - 1) row ns (omega (arith, wide)) within.count in
    record { left = left; below = within.below; written = λ signed. rw signed (written_front w (put_mid 1 (w + 1 - 1) row ns) ns (number_at row 0) (pos d) front) }

pub sizes_more : (b j : ℕ) (zs : List ℤ) (v : ℤ) → j < length zs → ((k : ℕ) → k < j → unsigned_abs (number_at zs k) ≤ b) → unsigned_abs v ≤ b → (k : ℕ) → k < j + 1 → unsigned_abs (number_at (set zs j v) k) ≤ b
sizes_more b j [] v low h q k lt = absurd (omega (arith, low))
sizes_more b zero (z ∷ zs) v low h q zero lt = q
sizes_more b zero (z ∷ zs) v low h q (suc k) lt = absurd (omega (arith, lt))
sizes_more b (suc j) (z ∷ zs) v low h q zero lt = h 0 (omega arith)
sizes_more b (suc j) (z ∷ zs) v low h q (suc k) lt = sizes_more b j zs v (omega (arith, low)) (λ i p. h (suc i) (omega (arith, p))) q k (omega (arith, lt))
