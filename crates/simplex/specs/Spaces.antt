-- What a space is to its callers.
use Rattle.std.specs.Prelude.{◌≡◌, ℕ, ◌+◌, ◌<◌, ◌≤◌, List, [], length, Bool, true, false, Result, Ok, Err}
use Rattle.exact_num.specs.Fraction.{Fraction}
use Rattle.simplex_run.specs.Places.{fraction_zero, values_at}
use Rattle.simplex_run.specs.Program.{LinearProgram}
use Rattle.simplex_run.specs.Ending.{Ending, done, unbounded, wide_at, no_unit_left}
use Rattle.simplex_run.specs.Optimum.{IsProgram}
use Rattle.simplex_run.specs.Table.{Table as TableOf}
use Rattle.simplex_run.specs.Run.{Optimum, optimum, solution, dual, reduced_costs, value_of as value_in, direction}
use Rattle.simplex_run.specs.Units.{units_of}
use Rattle.fraction_tableau.specs.declared.table.Table.{Table}
use Rattle.fraction_tableau.specs.Programs.{empty_program}
use Rattle.fraction_tableau.specs.Tables.{as_table, room_of}
use Rattle.fraction_tableau.specs.declared.sparse.SparseProgram.{SparseProgram}
use Rattle.fraction_tableau.specs.SparseRows.{program_in, HasRoom}
use Rattle.simplex.specs.declared.stop.RunStop.{RunStop}
use Rattle.simplex.specs.declared.stop.RunStop.TheVariants.{Wide, Budget}
use Rattle.simplex.specs.declared.stage.Stage.{Stage}
use Rattle.simplex.specs.declared.stage.Stage.TheVariants.{Empty, Given, Optimal, Unbounded, WholeOptimal, WholeUnbounded, Stopped}
use Rattle.run_equivalence.specs.IntegerRows.{entry_of, IntegerTable}
use Rattle.run_equivalence.specs.WholeRunning.{whole_reduced_cost, whole_solution, whole_direction}
use Rattle.integer_tableau.specs.declared.table.WholeTable.{WholeTable}
use Rattle.fraction_tableau.specs.Labels.{as_column}
use Rattle.integer_tableau.specs.Tables.{as_whole, IsWithin}

-- the program given since the last begin; or what the last run since then told: its optimum, a
-- direction, or that it stopped
pub data Contents : Type 0 where
  nothing : Contents
  given : (program : LinearProgram) → Contents
  found : (answer : Optimum) → Contents
  rising : (direction : List Fraction) → Contents
  stopped : Contents

-- room for so many rows of so many variables, and what stands there
pub record Workspace : Type 0 where
  pub rows : ℕ
  pub columns : ℕ
  pub contents : Contents

abbrev pub workspace : ℕ → ℕ → Contents → Workspace
workspace rows columns contents = record { rows = rows; columns = columns; contents = contents }

-- ---- the program
abbrev pub IsProgramGiven : Contents → Type 0
IsProgramGiven nothing = ⊥
IsProgramGiven (given p) = Unit {0}
IsProgramGiven (found o) = ⊥
IsProgramGiven (rising d) = ⊥
IsProgramGiven stopped = ⊥

abbrev pub program_given : Contents → LinearProgram
program_given nothing = empty_program []
program_given (given p) = p
program_given (found o) = empty_program []
program_given (rising d) = empty_program []
program_given stopped = empty_program []

-- ---- what a run tells
abbrev pub IsFound : Contents → Type 0
IsFound nothing = ⊥
IsFound (given p) = ⊥
IsFound (found o) = Unit {0}
IsFound (rising d) = ⊥
IsFound stopped = ⊥

abbrev pub IsRising : Contents → Type 0
IsRising nothing = ⊥
IsRising (given p) = ⊥
IsRising (found o) = ⊥
IsRising (rising d) = Unit {0}
IsRising stopped = ⊥

abbrev pub x_of : Contents → List Fraction
x_of nothing = []
x_of (given p) = []
x_of (found (optimum x y reduced value)) = x
x_of (rising d) = []
x_of stopped = []

abbrev pub y_of : Contents → List Fraction
y_of nothing = []
y_of (given p) = []
y_of (found (optimum x y reduced value)) = y
y_of (rising d) = []
y_of stopped = []

abbrev pub reduced_of : Contents → List Fraction
reduced_of nothing = []
reduced_of (given p) = []
reduced_of (found (optimum x y reduced value)) = reduced
reduced_of (rising d) = []
reduced_of stopped = []

abbrev pub value_of : Contents → Fraction
value_of nothing = fraction_zero
value_of (given p) = fraction_zero
value_of (found (optimum x y reduced value)) = value
value_of (rising d) = fraction_zero
value_of stopped = fraction_zero

abbrev pub direction_of : Contents → List Fraction
direction_of nothing = []
direction_of (given p) = []
direction_of (found o) = []
direction_of (rising d) = d
direction_of stopped = []

-- true at an optimum, false where the objective rises without an end, or the stop
abbrev pub answer_of : Ending Optimum → Result Bool RunStop
answer_of (done answer spent) = Ok true
answer_of (unbounded direction spent) = Ok false
answer_of (wide_at spent wide) = Err (Wide spent wide)
answer_of (no_unit_left spent) = Err Budget

-- what stands there afterwards
abbrev pub contents_after : Ending Optimum → Contents
contents_after (done answer spent) = found answer
contents_after (unbounded direction spent) = rising direction
contents_after (wide_at spent wide) = stopped
contents_after (no_unit_left spent) = stopped

-- what a run answers, what stands there afterwards and the units spent are those of its end
pub record EndsAs (run : Ending Optimum) (told : Result Bool RunStop) (there : Contents) (spent : ℕ) : Type 0 where
  pub answer : told ≡ answer_of run
  pub contents : there ≡ contents_after run
  pub units : spent ≡ units_of run

-- ---- what the fields of a space stand for
abbrev pub optimum_in : ℕ → ℕ → TableOf → Optimum
optimum_in n m t = optimum (solution n t) (dual n m t) (reduced_costs n t) (value_in t)

abbrev pub whole_optimum_in : ℕ → ℕ → IntegerTable → Optimum
whole_optimum_in n m t = optimum (whole_solution n t) (values_at (whole_reduced_cost t) n m) (values_at (whole_reduced_cost t) 0 n) (entry_of t.objective (length t.labels))

-- p is the program that is given
abbrev pub contents_of : {A : Type 0} → (A → Fraction) → Stage → LinearProgram → Table A → WholeTable → Contents
contents_of value Empty p t w = nothing
contents_of value Given p t w = given p
contents_of value Optimal p t w = found (optimum_in (length t.labels.items) (length t.rows.rows) (as_table value t))
contents_of value (Unbounded c) p t w = rising (direction (length t.labels.items) (as_column c) (as_table value t))
contents_of value WholeOptimal p t w = found (whole_optimum_in (length w.labels.items) (length w.basics.items) (as_whole w))
contents_of value (WholeUnbounded c) p t w = rising (whole_direction (length w.labels.items) (as_column c) (as_whole w))
contents_of value Stopped p t w = stopped

abbrev pub workspace_of : {A : Type 0} → (A → Fraction) → ℕ → ℕ → Stage → SparseProgram A → Table A → WholeTable → Workspace
workspace_of value rows columns stage s t w = workspace rows columns (contents_of value stage (program_in value s) t w)

abbrev pub IsAt : {A : Type 0} → ℕ → Stage → LinearProgram → Table A → WholeTable → Type 0
IsAt limit Empty p t w = Unit {0}
IsAt limit Given p t w = IsProgram p
IsAt limit Optimal p t w = Unit {0}
IsAt limit (Unbounded c) p t w = c.place < length t.labels.items
IsAt limit WholeOptimal p t w = IsWithin limit w
IsAt limit (WholeUnbounded c) p t w = IsWithin limit w × (c.place < length w.labels.items)
IsAt limit Stopped p t w = Unit {0}

-- the program has room, and so has the table for a run over fractions; `buffer` is room for one row
pub record IsSpace {A : Type 0} (value : A → Fraction) (limit rows columns : ℕ) (here : Stage) (s : SparseProgram A) (buffer : List A) (t : Table A) (w : WholeTable) : Type 0 where
  pub program : HasRoom rows columns s
  pub costs : here ≡ Given → length s.costs.items ≤ columns
  pub ends : here ≡ Given → length s.ends.items ≤ rows
  pub line : length buffer ≡ columns + 1
  pub width : t.rows.width ≡ columns + 1
  pub room : rows ≤ room_of t
  pub stage : IsAt limit here (program_in value s) t w
