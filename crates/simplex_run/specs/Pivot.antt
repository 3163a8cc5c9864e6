-- The pivot: the entering variable becomes basic in the leaving row, and its column becomes that of
-- the variable that leaves.
use Rattle.std.specs.Prelude.{ℕ, ◌+◌, List, [], ◌∷◌, pos, slice_set, if◌then◌else◌, nat_eq, nat_lt, Result, Ok, Err}
use Rattle.exact_num.specs.declared.misfit.Wide.{Wide}
use Rattle.exact_num.specs.Fraction.{Fraction, whole}
use Rattle.exact_num.specs.Fits.{sub_of, mul_of, div_of, after}
use Rattle.simplex_run.specs.Places.{at, fraction_zero}
use Rattle.simplex_run.specs.Table.{Table, Row, row_of, label_at, with_right, entries_at, basic_at}

-- ---- the steps of a row, one for each column: what they give, or the step that does not fit. Of
-- several it is that of the smallest variable
pub record Stop : Type 0 where
  pub label : ℕ
  pub wide : Wide

abbrev pub stop_of : ℕ → Wide → Stop
stop_of label wide = record { label = label; wide = wide }

abbrev pub beside : ℕ → Result Fraction Wide → Result (List Fraction) Stop → Result (List Fraction) Stop
beside v (Ok x) (Ok xs) = Ok (x ∷ xs)
beside v (Ok x) (Err s) = Err s
beside v (Err w) (Ok xs) = Err (stop_of v w)
beside v (Err w) (Err s) = Err (if nat_lt s.label v then s else stop_of v w)

-- the columns from place k on
unfoldable pub steps_of : (ℕ → Result Fraction Wide) → ℕ → List ℕ → Result (List Fraction) Stop
steps_of f k [] = Ok []
steps_of f k (v ∷ vs) = beside v (f k) (steps_of f (k + 1) vs)

abbrev pub told : Result (List Fraction) Stop → Result (List Fraction) Wide
told (Ok xs) = Ok xs
told (Err s) = Err s.wide

-- ---- the rows, where `labels` are those after the pivot, with the right side
-- the pivot row, in which the leaving variable has the entry 1, over its entry in column c
unfoldable pub divided : ℕ → ℕ → List ℕ → List Fraction → Result (List Fraction) Wide
divided limit c labels entries =
    told (steps_of (λ k. div_of limit (at (slice_set entries c (whole (pos 1))) k) (at entries c)) 0 labels)

-- an entry less f times the entry of the pivot row
abbrev pub less_product : ℕ → Fraction → Fraction → Fraction → Result Fraction Wide
less_product limit f x p = after (mul_of limit f p) (λ product. sub_of limit x product)

-- another row, in which it has the entry 0, less the pivot row as often as its entry in column c
unfoldable pub eliminated : ℕ → ℕ → List ℕ → List Fraction → List Fraction → Result (List Fraction) Wide
eliminated limit c labels pivot entries =
    told (steps_of (λ k. less_product limit (at entries c) (at (slice_set entries c fraction_zero) k) (at pivot k)) 0 labels)

-- row i where variable e enters in row r
abbrev pub row_after : ℕ → ℕ → List ℕ → ℕ → ℕ → List Fraction → ℕ → Row → Result Row Wide
row_after limit c labels e r pivot i row =
    let other = after (eliminated limit c labels pivot row.entries) (λ es. Ok (row_of row.basic es)) in
    if nat_eq i r then Ok (row_of e pivot) else other

-- the rows in rising order, the first row being row i
unfoldable pub rows_after : ℕ → ℕ → List ℕ → ℕ → ℕ → List Fraction → ℕ → List Row → Result (List Row) Wide
rows_after limit c labels e r pivot i [] = Ok []
rows_after limit c labels e r pivot i (row ∷ rows) =
    after (row_after limit c labels e r pivot i row)
    (λ first. after (rows_after limit c labels e r pivot (i + 1) rows) (λ others. Ok (first ∷ others)))

-- the table with these labels after the pivot in column c and row r, the objective row last
abbrev pub pivoted_to : ℕ → ℕ → ℕ → List ℕ → Table → Result Table Wide
pivoted_to limit c r labels t =
    after (divided limit c (with_right t.columns labels) (entries_at t.rows r))
    (λ pivot. after (rows_after limit c (with_right t.columns labels) (label_at t.labels c) r pivot 0 t.rows)
    (λ rows. after (eliminated limit c (with_right t.columns labels) pivot t.objective)
    (λ objective. Ok (record { columns = t.columns; labels = labels; rows = rows; objective = objective }))))

unfoldable pub after_pivot : ℕ → ℕ → ℕ → Table → Result Table Wide
after_pivot limit c r t = pivoted_to limit c r (slice_set t.labels c (basic_at t.rows r)) t
