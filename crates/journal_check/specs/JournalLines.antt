-- The lines of a journal.
use Rattle.std.specs.Prelude.{ℕ, List, [], ◌∷◌, ◌==◌, if◌then◌else◌, length}
use Rattle.std.specs.List.{slice_split}

-- what follows the last line feed is a line unless it is empty
abbrev pub without_last_empty : List (List ℕ) → List (List ℕ)
without_last_empty [] = []
without_last_empty (line ∷ []) = if length line == 0 then [] else line ∷ []
without_last_empty (line ∷ next ∷ more) = line ∷ without_last_empty (next ∷ more)

-- the pieces between line feeds
abbrev pub lines_of : List ℕ → List (List ℕ)
lines_of bytes = without_last_empty (slice_split (λ b. b == 10) bytes)
