-- What the answers of the code say of the run.
use Rattle.std.specs.Prelude.{◌≡◌, ℕ, map, Result, Ok, Err}
use Rattle.exact_num.specs.Fraction.{Fraction}
use Rattle.simplex_run.specs.Program.{LinearProgram}
use Rattle.simplex_run.specs.Ending.{Ending, done, unbounded, wide_at, no_unit_left}
use Rattle.simplex_run.specs.Run.{Optimum, optimum}
use Rattle.simplex_run.specs.Optimum.{IsOptimum, IsDirection}
use Rattle.simplex.specs.Spaces.{Contents, found, rising}
use Rattle.linear_programs.specs.declared.solved.Solved.{Solved}
use Rattle.linear_programs.specs.declared.solved.Solved.TheVariants.{Optimal, Unbounded}
use Rattle.simplex.specs.declared.stop.SolveStop.{SolveStop}
use Rattle.simplex.specs.declared.stop.SolveStop.TheVariants.{Wide, Budget, Memory}

-- the end that is read off, with the units spent
abbrev pub solved_ending : {A : Type 0} → (A → Fraction) → Solved A → ℕ → Ending Optimum
solved_ending value (Optimal x y reduced v) spent =
    done (optimum (map value x.items) (map value y.items) (map value reduced.items) (value v)) spent
solved_ending value (Unbounded d) spent = unbounded (map value d.items) spent

-- the same, as what stands in a space after the run
abbrev pub solved_contents : {A : Type 0} → (A → Fraction) → Solved A → Contents
solved_contents value (Optimal x y reduced v) =
    found (optimum (map value x.items) (map value y.items) (map value reduced.items) (value v))
solved_contents value (Unbounded d) = rising (map value d.items)

-- the answer of a call is the end of the run, and the units are those spent; want of memory says
-- nothing. What a value of the call ends a run with is `end_with`
abbrev pub IsAnswerBy : {A X : Type 0} → (X → ℕ → Ending A) → Ending A → Result X SolveStop → ℕ → Type 0
IsAnswerBy end_with ending (Ok x) spent = ending ≡ end_with x spent
IsAnswerBy end_with ending (Err (Wide unit wide)) spent = (ending ≡ wide_at unit wide) × (spent ≡ unit)
IsAnswerBy end_with ending (Err Budget) spent = ending ≡ no_unit_left spent
IsAnswerBy end_with ending (Err Memory) spent = Unit {0}

abbrev pub IsAnswer : {A : Type 0} → (A → Fraction) → Ending Optimum → Result (Solved A) SolveStop → ℕ → Type 0
IsAnswer value ending result spent = IsAnswerBy (solved_ending value) ending result spent

-- what the answer says of the program is so
abbrev pub HoldsOf : {A : Type 0} → (A → Fraction) → LinearProgram → Result (Solved A) SolveStop → Type 0
HoldsOf value p (Ok (Optimal x y reduced v)) =
    IsOptimum p (map value x.items) (map value y.items) (map value reduced.items) (value v)
HoldsOf value p (Ok (Unbounded d)) = IsDirection p (map value d.items)
HoldsOf value p (Err stop) = Unit {0}
