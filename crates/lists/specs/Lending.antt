-- The rows after one of them is written.
use Rattle.std.specs.Prelude.{ℕ, List, [], slice_index_or, slice_set}
use Rattle.lists.specs.Parts.{refit}
use Rattle.lists.specs.Rows.{Rows}

-- the rows where row i is what was written there
abbrev pub with_row : {A : Type 0} → Rows A → ℕ → List A → Rows A
with_row s i ws = record s { rows = slice_set s.rows i (refit s.width (slice_index_or s.rows i []) ws) }
