-- What the columns of the code stand for, and the step of a row that is told.
use Rattle.std.specs.Prelude.{◌≢◌, ℕ, List, [], ◌∷◌, pos, nat_lt, Bool, if◌then◌else◌, Option, Some, Result, Ok, Err}
use Rattle.exact_num.specs.declared.misfit.Wide.{Wide}
use Rattle.exact_num.specs.Fraction.{Fraction}
use Rattle.exact_num.specs.Fits.{div_of}
use Rattle.simplex_run.specs.Places.{at}
use Rattle.simplex_run.specs.Table.{label_at}
use Rattle.simplex_run.specs.Choice.{Column, smaller}
use Rattle.simplex_run.specs.Pivot.{Stop as StopOf, stop_of, less_product}
use Rattle.fraction_tableau.specs.declared.columns.Entering.{Entering}
use Rattle.fraction_tableau.specs.declared.stops.ColumnStop.{ColumnStop}
use Rattle.fraction_tableau.specs.declared.stops.Step.{Step}
use Rattle.fraction_tableau.specs.declared.stops.Step.TheVariants.{Over, Less}

abbrev pub as_column : Entering → Column
as_column c = record { place = c.place; label = c.label }

-- this column, where its entry is below 0, or the best of later ones
abbrev pub with_column : Bool → Column → Option Column → Option Column
with_column below c later = let here = Some (smaller c later) in if below then here else later

-- ---- the step that is told
abbrev pub as_stop : ColumnStop → StopOf
as_stop s = stop_of s.label s.wide

-- the stop so far, or that of a smaller variable, where its step does not fit
abbrev pub smaller_stop : ℕ → Result Fraction Wide → StopOf → StopOf
smaller_stop v (Ok x) s = s
smaller_stop v (Err w) s = if nat_lt v s.label then stop_of v w else s

-- of the steps f at these places that do not fit, and of s, that of the smallest variable
unfoldable pub least_stop : (ℕ → Result Fraction Wide) → List ℕ → StopOf → List ℕ → StopOf
least_stop f labels s [] = s
least_stop f labels s (k ∷ ks) = least_stop f labels (smaller_stop (label_at labels k) (f k) s) ks

-- the step with an entry and that of the pivot row
abbrev pub step_with : {A : Type 0} → (A → Fraction) → ℕ → Step A → Fraction → Fraction → Result Fraction Wide
step_with value limit (Over d) x p = div_of limit x (value d)
step_with value limit (Less f) x p = less_product limit (value f) x p

abbrev pub IsDivisor : {A : Type 0} → (A → Fraction) → Step A → Type 0
IsDivisor value (Over d) = (value d).numerator ≢ pos 0
IsDivisor value (Less f) = Unit {0}

-- the steps at each place
abbrev pub steps_with : {A : Type 0} → (A → Fraction) → ℕ → Step A → List Fraction → List Fraction → ℕ → Result Fraction Wide
steps_with value limit step row pivot k = step_with value limit step (at row k) (at pivot k)
