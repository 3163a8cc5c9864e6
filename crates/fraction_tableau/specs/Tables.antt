-- What the table of the code stands for, and what its calls answer.
use Rattle.std.specs.Prelude.{◌≡◌, ℕ, ◌+◌, List, [], ◌∷◌, ◌++◌, length, take, map, pos, Bool, true, false, nat_eq, if◌then◌else◌, Result, Ok, Err}
use Rattle.std.specs.List.{All}
use Rattle.exact_num.specs.declared.misfit.Wide.{Wide}
use Rattle.exact_num.specs.Fraction.{Fraction, whole, negated}
use Rattle.simplex_run.specs.Places.{at, fraction_zero, numbers}
use Rattle.simplex_run.specs.Program.{LinearProgram}
use Rattle.simplex_run.specs.Table.{Table as TableOf, where_basic}
use Rattle.simplex_run.specs.Choice.{Column}
use Rattle.simplex_run.specs.Run.{PivotEnd, moved, unlimited, stopped}
use Rattle.fraction_tableau.specs.declared.table.Table.{Table}
use Rattle.fraction_tableau.specs.Lists.{fronts}
use Rattle.fraction_tableau.specs.Candidates.{apart}
use Rattle.fraction_tableau.specs.Programs.{program_of}

-- with `value` the fraction that a number means: the rows and the objective row
abbrev pub lists_of : {A : Type 0} → (A → Fraction) → Table A → List (List Fraction)
lists_of value t = fronts value (length t.labels.items + 1) t.rows.rows

abbrev pub objective_of : {A : Type 0} → (A → Fraction) → Table A → List Fraction
objective_of value t = map value t.objective.items

-- the number of variables, basic or not
abbrev pub columns_of : {A : Type 0} → Table A → ℕ
columns_of t = length t.labels.items + length t.basics.items

abbrev pub as_table : {A : Type 0} → (A → Fraction) → Table A → TableOf
as_table value t = apart (columns_of t) t.labels.items t.basics.items (lists_of value t) (objective_of value t)

-- ---- room
-- how many rows have room, those there among them
abbrev pub room_of : {A : Type 0} → Table A → ℕ
room_of t = length t.rows.rows + t.rows.spare

pub record SameRoom {A : Type 0} (old new : Table A) : Type 0 where
  pub rows : room_of new ≡ room_of old
  pub width : new.rows.width ≡ old.rows.width

-- as many columns and rows, and the same room
pub record SameShape {A : Type 0} (old new : Table A) : Type 0 where
  pub columns : length new.labels.items ≡ length old.labels.items
  pub rows : length new.rows.rows ≡ length old.rows.rows
  pub spare : new.rows.spare ≡ old.rows.spare
  pub width : new.rows.width ≡ old.rows.width

-- ---- the program that is given
abbrev pub program_in : {A : Type 0} → (A → Fraction) → Table A → LinearProgram
program_in value t =
    program_of (length t.labels.items) (lists_of value t) (take (length t.labels.items) (objective_of value t))

-- a program is being given: the variables have columns, and each row has its own slack
pub record IsGiven {A : Type 0} (value : A → Fraction) (t : Table A) : Type 0 where
  pub labels : t.labels.items ≡ numbers 0 (length t.labels.items)
  pub basics : t.basics.items ≡ numbers (length t.labels.items) (length t.rows.rows)
  pub widths : All (λ row. length row ≡ t.rows.width) t.rows.rows
  pub objective : objective_of value t ≡ take (length t.labels.items) (objective_of value t) ++ (fraction_zero ∷ [])

-- ---- a pivot: whether a row limited the entering variable, and the table after it
abbrev pub pivot_answer : Result Bool Wide → TableOf → PivotEnd
pivot_answer (Ok true) t = moved t
pivot_answer (Ok false) t = unlimited
pivot_answer (Err w) t = stopped w

-- what a step of 1 in the column that enters changes in variable j
abbrev pub direction_entry : Column → TableOf → ℕ → Fraction
direction_entry c t j =
    if nat_eq j c.label then whole (pos 1) else where_basic (λ row. negated (at row.entries c.place)) j t.rows
