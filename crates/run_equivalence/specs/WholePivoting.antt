-- One pivot over rows of whole numbers: no fraction is made.
use Rattle.std.specs.Prelude.{ℕ, ◌+◌, ◌*◌, ◌/◌, List, [], ◌∷◌, map, length, ℤ, pos, ◌-ℤ◌, ◌*ℤ◌, int_lt, int_div, unsigned_abs, slice_set, if◌then◌else◌, nat_eq, nat_le, ◌&&◌, Bool, true, Option, Some, None}
use Rattle.arithmetic.specs.Gcd.{gcd}
use Rattle.exact_num.specs.Fraction.{over}
use Rattle.simplex_run.specs.Table.{label_at}
use Rattle.simplex_run.specs.Choice.{Column, smaller, Ratio, ratio_of, least}
use Rattle.run_equivalence.specs.IntegerRows.{IntegerRow, WholeRow, IntegerTable, integer_row, whole_row, number_at, integer_row_at, basic_of, row_size, row_fits, widest}

-- ---- the entering column: of those whose objective number is below 0 that of the smallest variable
unfoldable pub least_column : ℕ → List ℕ → List ℤ → Option Column
least_column k [] zs = None
least_column k (v ∷ vs) [] = None
least_column k (v ∷ vs) (z ∷ zs) =
    let later = least_column (k + 1) vs zs in
    let here = Some (smaller (record { place = k; label = v }) later) in
    if int_lt z (pos 0) then here else later

unfoldable pub whole_entering : IntegerTable → Option Column
whole_entering t = least_column 0 t.labels t.objective.numbers

-- ---- the ratio test: the denominators fall away, and no division is made. `least` compares cross products,
-- and of equal ones the basic variables
unfoldable pub whole_ratios : ℕ → ℕ → ℕ → List WholeRow → List Ratio
whole_ratios columns e i [] = []
whole_ratios columns e i (row ∷ rows) =
    let later = whole_ratios columns e (i + 1) rows in
    let here = ratio_of i row.basic (over (number_at row.line.numbers columns) (unsigned_abs (number_at row.line.numbers e))) in
    if int_lt (pos 0) (number_at row.line.numbers e) then here ∷ later else later

-- ---- the rows
-- numbers times p, less f times those of the pivot row
unfoldable pub cross_difference : ℕ → ℤ → List ℤ → List ℤ → List ℤ
cross_difference p f [] qs = []
cross_difference p f (z ∷ zs) [] = []
cross_difference p f (z ∷ zs) (q ∷ qs) = ((z *ℤ pos p) -ℤ (f *ℤ q)) ∷ cross_difference p f zs qs

-- what a denominator and numbers have in common
unfoldable pub content : ℕ → List ℤ → ℕ
content d [] = d
content d (z ∷ zs) = gcd (unsigned_abs z) (content d zs)

-- the same, from the first number to the last
unfoldable pub common_of : ℕ → List ℤ → ℕ
common_of d [] = d
common_of d (z ∷ zs) = common_of (gcd (unsigned_abs z) d) zs

-- a row divided by c
abbrev pub divided_by : ℕ → IntegerRow → IntegerRow
divided_by c l = integer_row (l.denominator / c) (map (λ z. int_div z (pos c)) l.numbers)

unfoldable pub cut : IntegerRow → IntegerRow
cut l = divided_by (content l.denominator l.numbers) l

-- a row that 64 bits do not hold is divided by what it has in common, and any other is left as it
-- is: by value that is the same, and no row that 64 bits hold in lowest terms becomes too wide
unfoldable pub cut_where_wide : IntegerRow → IntegerRow
cut_where_wide l = let other = cut l in if row_fits widest l then l else other

-- a row whose number in column c is x, by pivot numbers whose own is a, before it is cut: g is
-- what both have in common
abbrev pub row_mixed : ℕ → ℤ → ℕ → List ℤ → IntegerRow → IntegerRow
row_mixed a x g pivot l = integer_row (l.denominator * (a / g)) (cross_difference (a / g) (int_div x (pos g)) l.numbers pivot)

-- column c is from now on that of the variable that leaves
-- the pivot row's numbers, with its denominator in column c
abbrev pub exchanged_in : ℕ → IntegerRow → List ℤ
exchanged_in c l = slice_set l.numbers c (pos l.denominator)

abbrev pub without : ℕ → IntegerRow → IntegerRow
without c l = integer_row l.denominator (slice_set l.numbers c (pos 0))

-- a row eliminated in column c, where the pivot row's number is a: with 0 there it stays
abbrev pub row_eliminated : ℕ → ℕ → List ℤ → IntegerRow → IntegerRow
row_eliminated c a pivot l =
    let x = number_at l.numbers c in
    let other = cut_where_wide (row_mixed a x (gcd (unsigned_abs x) a) pivot (without c l)) in
    if nat_eq (unsigned_abs x) 0 then l else other

abbrev pub whole_row_after : ℕ → ℕ → ℕ → ℕ → List ℤ → ℕ → WholeRow → WholeRow
whole_row_after c e r a pivot i row =
    let other = whole_row row.basic (row_eliminated c a pivot row.line) in
    if nat_eq i r then whole_row e (integer_row a pivot) else other

unfoldable pub whole_rows_after : ℕ → ℕ → ℕ → ℕ → List ℤ → ℕ → List WholeRow → List WholeRow
whole_rows_after c e r a pivot i [] = []
whole_rows_after c e r a pivot i (row ∷ rows) = whole_row_after c e r a pivot i row ∷ whole_rows_after c e r a pivot (i + 1) rows

abbrev pub pivoted_by : ℕ → ℕ → ℕ → List ℤ → IntegerTable → IntegerTable
pivoted_by c r a pivot t =
    record {
      columns = t.columns;
      labels = slice_set t.labels c (basic_of t.rows r);
      rows = whole_rows_after c (label_at t.labels c) r a pivot 0 t.rows;
      objective = row_eliminated c a pivot t.objective;
    }

-- the table after column c enters in row r, whose row is brought to lowest terms first
unfoldable pub whole_pivoted : ℕ → ℕ → IntegerTable → IntegerTable
whole_pivoted c r t =
    let l = cut (integer_row_at t.rows r) in
    pivoted_by c r (unsigned_abs (number_at l.numbers c)) (exchanged_in c l) t

-- none where no row limits the entering variable
abbrev pub whole_leave : ℕ → IntegerTable → List Ratio → Option IntegerTable
whole_leave c t [] = None
whole_leave c t (q ∷ qs) = Some (whole_pivoted c (least q qs).place t)

unfoldable pub whole_pivot : ℕ → IntegerTable → Option IntegerTable
whole_pivot c t = whole_leave c t (whole_ratios (length t.labels) c 0 t.rows)

-- ---- what must fit is not each number but each step of a pivot
-- a size that no step is above where numbers up to one size are eliminated by pivot numbers up to
-- another: x and a stand in the column, and what they have in common goes away
abbrev pub step_size : ℕ → ℕ → ℕ → ℕ → ℕ
step_size size x a pivot_size = size * (a / gcd x a) + x / gcd x a * pivot_size

-- each step of a row eliminated in column c by a pivot row is within the limit
abbrev pub steps_within : ℕ → ℕ → IntegerRow → IntegerRow → Bool
steps_within limit c pivot l =
    nat_le (step_size (row_size l) (unsigned_abs (number_at l.numbers c)) (unsigned_abs (number_at pivot.numbers c)) (row_size pivot)) limit

-- row r leaves, and stays as it is
abbrev pub row_steps_within : ℕ → ℕ → ℕ → IntegerRow → ℕ → IntegerRow → Bool
row_steps_within limit c r pivot i l = let other = steps_within limit c pivot l in if nat_eq i r then true else other

unfoldable pub rows_steps_within : ℕ → ℕ → ℕ → IntegerRow → ℕ → List WholeRow → Bool
rows_steps_within limit c r pivot i [] = true
rows_steps_within limit c r pivot i (row ∷ rows) = row_steps_within limit c r pivot i row.line && rows_steps_within limit c r pivot (i + 1) rows

abbrev pub table_steps_within : ℕ → ℕ → ℕ → IntegerRow → List WholeRow → Bool
table_steps_within limit c r objective rows =
    steps_within limit c (cut (integer_row_at rows r)) objective && rows_steps_within limit c r (cut (integer_row_at rows r)) 0 rows

abbrev pub leaving_fits : ℕ → ℕ → IntegerRow → List WholeRow → List Ratio → Bool
leaving_fits limit c objective rows [] = true
leaving_fits limit c objective rows (q ∷ qs) = table_steps_within limit c (least q qs).place objective rows

-- where no row limits the entering variable no step is made
unfoldable pub pivot_fits : ℕ → ℕ → IntegerTable → Bool
pivot_fits limit c t = leaving_fits limit c t.objective t.rows (whole_ratios (length t.labels) c 0 t.rows)
