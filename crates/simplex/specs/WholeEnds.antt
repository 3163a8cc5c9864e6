-- How a run over rows of whole numbers ends.
use Rattle.std.specs.Prelude.{◌≡◌, ℕ, ◌<◌, length, Option, Some}
use Rattle.simplex_run.specs.Ending.{Ending, unbounded, no_unit_left}
use Rattle.simplex_run.specs.Run.{Optimum}
use Rattle.run_equivalence.specs.WholeRunning.{whole_read_off, whole_direction}
use Rattle.integer_tableau.specs.declared.table.WholeTable.{WholeTable}
use Rattle.fraction_tableau.specs.Labels.{as_column}
use Rattle.integer_tableau.specs.Tables.{as_whole, IsWithin}
use Rattle.simplex.specs.declared.whole_run.WholeEnd.{WholeEnd}
use Rattle.simplex.specs.declared.whole_run.WholeEnd.TheVariants.{Optimal, Unbounded, NoUnit, GivenUp}

-- the run of n variables and m rows, by how it ended, the units spent and the table at the end;
-- nothing where it is given up
abbrev pub IsWholeEnd : ℕ → ℕ → ℕ → WholeEnd → ℕ → WholeTable → Option (Ending Optimum) → Type 0
IsWholeEnd limit n m Optimal spent t run = (run ≡ Some (whole_read_off n m (as_whole t) spent)) × IsWithin limit t
IsWholeEnd limit n m (Unbounded c) spent t run =
    (run ≡ Some (unbounded (whole_direction n (as_column c) (as_whole t)) spent)) × IsWithin limit t × (c.place < length t.labels.items)
IsWholeEnd limit n m NoUnit spent t run = run ≡ Some (no_unit_left spent)
IsWholeEnd limit n m GivenUp spent t run = Unit {0}
