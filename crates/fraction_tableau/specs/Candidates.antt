-- The search for the least ratio over rows whose basic variables stand in a list of their own.
use Rattle.std.specs.Prelude.{◌≢◌, ℕ, ◌<◌, List, [], ◌∷◌, length, pos, slice_index_or, Option, Some, None, Result, Ok}
use Rattle.exact_num.specs.declared.misfit.Wide.{Wide}
use Rattle.exact_num.specs.Fraction.{Fraction}
use Rattle.exact_num.specs.Fits.{after}
use Rattle.simplex_run.specs.Places.{at}
use Rattle.simplex_run.specs.Table.{Row, Table, row_of}
use Rattle.simplex_run.specs.Choice.{Ratio, ratio_of, lesser, least, ratios}
use Rattle.fraction_tableau.specs.declared.candidate.Candidate.{Candidate}

abbrev pub as_ratio : {A : Type 0} → (A → Fraction) → Candidate A → Ratio
as_ratio value candidate = ratio_of candidate.place candidate.basic (value candidate.ratio)

-- the best so far, and one more
abbrev pub better_of : Option Ratio → Ratio → Ratio
better_of None q = q
better_of (Some best) q = lesser best q

-- the best so far, and one more row, where it has a ratio
abbrev pub with_ratio : Option Ratio → ℕ → ℕ → Option Fraction → Option Ratio
with_ratio best place basic None = best
with_ratio best place basic (Some q) = Some (better_of best (ratio_of place basic q))

-- the place of the least of the ratios and of the best before them
abbrev pub best_with : Option Ratio → List Ratio → Option ℕ
best_with None [] = None
best_with None (q ∷ qs) = Some (least q qs).place
best_with (Some best) qs = Some (least best qs).place

abbrev pub beside_basics : List ℕ → List (List Fraction) → List Row
beside_basics [] rows = []
beside_basics (b ∷ bs) [] = []
beside_basics (b ∷ bs) (xs ∷ rows) = row_of b xs ∷ beside_basics bs rows

-- the place of the row that leaves where the column at place c enters
abbrev pub leaving_of : ℕ → ℕ → ℕ → List Row → Result (Option ℕ) Wide
leaving_of limit columns c rows = after (ratios limit columns c 0 rows) (λ qs. Ok (best_with None qs))

-- the table of lists that are kept apart
abbrev pub apart : ℕ → List ℕ → List ℕ → List (List Fraction) → List Fraction → Table
apart columns labels basics lists objective =
    record { columns = columns; labels = labels; rows = beside_basics basics lists; objective = objective }

-- row r is there, and its entry at place c is not 0
pub record IsPivot (c r : ℕ) (lists : List (List Fraction)) : Type 0 where
  pub row : r < length lists
  pub nonzero : (at (slice_index_or lists r []) c).numerator ≢ pos 0
