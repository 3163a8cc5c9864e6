-- Rows by their entries that are not 0.
use Rattle.std.specs.Prelude.{◌≡◌, ℕ, ◌-◌, ◌<◌, ◌≤◌, List, [], ◌∷◌, ◌++◌, length, take, drop, map, replicate, slice_set}
use Rattle.std.specs.List.{All}
use Rattle.exact_num.specs.Fraction.{Fraction}
use Rattle.simplex_run.specs.Places.{fraction_zero}
use Rattle.fraction_tableau.specs.declared.sparse_entry.Entry.{Entry}

-- the row in which each entry is written at its place
unfoldable pub written : {A : Type 0} → (A → Fraction) → List (Entry A) → List Fraction → List Fraction
written value [] row = row
written value (e ∷ es) row = written value es (slice_set row e.place (value e.number))

-- the row of so many numbers, 0 where no entry is
abbrev pub row_with : {A : Type 0} → (A → Fraction) → ℕ → List (Entry A) → List Fraction
row_with value width es = written value es (replicate width fraction_zero)

-- the entries are these numbers at the front of a row, however wide it is
pub record StandsFor {A : Type 0} (value : A → Fraction) (numbers : List A) (es : List (Entry A)) : Type 0 where
  pub places : (width : ℕ) → length numbers ≤ width → All (λ e. e.place < width) es
  pub row :
      (width : ℕ) → length numbers ≤ width
      → row_with value width es ≡ map value numbers ++ replicate (width - length numbers) fraction_zero

-- entries for these numbers are added
pub record HasAdded {A : Type 0} (value : A → Fraction) (numbers : List A) (old new : List (Entry A)) : Type 0 where
  pub added : List (Entry A)
  pub items : new ≡ old ++ added
  pub stand : StandsFor value numbers added

-- the rows one after another, each of the entries from where it starts up to its end
unfoldable pub rows_from : {A : Type 0} → (A → Fraction) → ℕ → List (Entry A) → ℕ → List ℕ → List (List Fraction)
rows_from value width es start [] = []
rows_from value width es start (end ∷ ends) =
    row_with value width (take (end - start) (drop start es)) ∷ rows_from value width es end ends
