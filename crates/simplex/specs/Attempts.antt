-- What a run of the program that was given leaves.
use Rattle.std.specs.Prelude.{◌≡◌, ℕ, Bool, true, false, Option, Some, None, Result, Ok, Err}
use Rattle.exact_num.specs.Fraction.{Fraction}
use Rattle.simplex_run.specs.Ending.{Ending}
use Rattle.simplex_run.specs.Program.{LinearProgram}
use Rattle.simplex_run.specs.Run.{Optimum}
use Rattle.simplex_run.specs.Units.{units_of}
use Rattle.fraction_tableau.specs.declared.table.Table.{Table}
use Rattle.integer_tableau.specs.declared.table.WholeTable.{WholeTable}
use Rattle.simplex.specs.declared.stage.Stage.{Stage}
use Rattle.simplex.specs.declared.stage.Stage.TheVariants.{Empty, Given, Optimal, Unbounded, WholeOptimal, WholeUnbounded, Stopped}
use Rattle.simplex.specs.declared.stop.RunStop.{RunStop}
use Rattle.simplex.specs.Spaces.{contents_of, answer_of, contents_after, EndsAs, IsAt, stopped}

-- whether an optimum stands there
abbrev pub is_optimum : Stage → Bool
is_optimum Empty = false
is_optimum Given = false
is_optimum Optimal = true
is_optimum (Unbounded h) = false
is_optimum WholeOptimal = true
is_optimum (WholeUnbounded c) = false
is_optimum Stopped = false

-- the stage is that of a run of the program that ended so
pub record IsStageOf {A : Type 0} (value : A → Fraction) (limit : ℕ) (p : LinearProgram) (run : Ending Optimum) (stage : Stage) (spent : ℕ) (t : Table A) (w : WholeTable) : Type 0 where
  pub answer : Ok (is_optimum stage) ≡ answer_of run
  pub contents : contents_of value stage p t w ≡ contents_after run
  pub units : spent ≡ units_of run
  pub there : IsAt limit stage p t w

abbrev pub IsEndOf : {A : Type 0} → (A → Fraction) → ℕ → LinearProgram → Ending Optimum → Result Stage RunStop → ℕ → Table A → WholeTable → Type 0
IsEndOf value limit p run (Ok stage) spent t w = IsStageOf value limit p run stage spent t w
IsEndOf value limit p run (Err stop) spent t w = EndsAs run (Err stop) stopped spent

-- the same, where it was not given up
abbrev pub IsTried : {A : Type 0} → (A → Fraction) → ℕ → LinearProgram → Ending Optimum → Option (Result Stage RunStop) → ℕ → Table A → WholeTable → Type 0
IsTried value limit p run (Some end) spent t w = IsEndOf value limit p run end spent t w
IsTried value limit p run None spent t w = Unit {0}
