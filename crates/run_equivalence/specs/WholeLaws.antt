-- What the run over rows of whole numbers has to do with the run over fractions.
use Rattle.std.specs.Prelude.{◌≡◌, ℕ, ◌^◌, ◌-◌, ◌*◌, ◌/◌, ◌≤◌, ◌<◌, List, length, ℤ, pos, ◌+ℤ◌, ◌-ℤ◌, ◌*ℤ◌, int_div, unsigned_abs, Option, Some, None, Ok, true, nat_le}
use Rattle.arithmetic.specs.Gcd.{gcd}
use Rattle.exact_num.specs.Fraction.{Fraction, IsLowest, reduced}
use Rattle.exact_num.specs.CommonDenominator.{IsRatio}
use Rattle.exact_num.specs.Fits.{add_of, mul_of, div_of}
use Rattle.simplex_run.specs.Program.{LinearProgram}
use Rattle.simplex_run.specs.Choice.{entering}
use Rattle.simplex_run.specs.Ending.{Ending, HasNoMisfit}
use Rattle.simplex_run.specs.Run.{Optimum, run, PivotEnd, moved, unlimited, pivoted}
use Rattle.simplex_run.specs.Pivots.{table_after, IsTableAfter}
use Rattle.simplex_run.specs.Optimum.{IsProgram}
use Rattle.simplex_run.specs.Limits.{IsFound}
use Rattle.simplex_run.specs.Choose.{bases_of}
use Rattle.run_equivalence.specs.IntegerRows.{IntegerRow, IntegerTable, number_at, table_for, row_size, row_fits, AreSizes, IsShaped, IsIntegerRow, IsWithin}
use Rattle.run_equivalence.specs.WholePivoting.{whole_entering, exchanged_in, without, row_eliminated, whole_pivot, content, common_of, step_size, steps_within, pivot_fits}
use Rattle.run_equivalence.specs.WholeRunning.{whole_run, whole_table_after}

-- ---- steps on fractions that stand for whole numbers fit where those do
-- the sum, over a common multiple of the denominators
abbrev pub SumsFit : Type 0
SumsFit =
    (limit M : ℕ) (x y : Fraction) (a c : ℤ) → IsLowest x → IsLowest y → 0 < M → IsRatio x a M → IsRatio y c M
    → unsigned_abs a ≤ limit → unsigned_abs c ≤ limit → unsigned_abs (a +ℤ c) ≤ limit → M ≤ limit
    → add_of limit x y ≡ Ok (reduced (a +ℤ c) M)

-- the product, by any numbers b / M that it is
abbrev pub ProductsFit : Type 0
ProductsFit =
    (limit D E M : ℕ) (x y : Fraction) (a c b : ℤ) → IsLowest x → IsLowest y → 0 < D → 0 < E → 0 < M → IsRatio x a D → IsRatio y c E
    → (a *ℤ c) *ℤ pos M ≡ b *ℤ pos (D * E) → unsigned_abs b ≤ limit → M ≤ limit
    → mul_of limit x y ≡ Ok (reduced b M)

-- the quotient of two numbers over one denominator, the lower above 0
abbrev pub QuotientsFit : Type 0
QuotientsFit =
    (limit D c : ℕ) (x y : Fraction) (a : ℤ) → IsLowest x → IsLowest y → 0 < D → 0 < c → IsRatio x a D → IsRatio y (pos c) D
    → unsigned_abs a ≤ limit → c ≤ limit
    → div_of limit x y ≡ Ok (reduced a c)

-- ---- the numbers between the steps of a pivot, before a row is cut: as wide as the limit at most
pub record AreBetween (limit a : ℕ) (x : ℤ) (pivot : List ℤ) (l : IntegerRow) : Type 0 where
  pub denominator : l.denominator * (a / gcd (unsigned_abs x) a) ≤ limit
  pub left : (j : ℕ) → unsigned_abs (number_at l.numbers j *ℤ pos (a / gcd (unsigned_abs x) a)) ≤ limit
  pub right : (j : ℕ) → unsigned_abs (int_div x (pos (gcd (unsigned_abs x) a)) *ℤ number_at pivot j) ≤ limit
  pub difference : (j : ℕ) → unsigned_abs ((number_at l.numbers j *ℤ pos (a / gcd (unsigned_abs x) a)) -ℤ (int_div x (pos (gcd (unsigned_abs x) a)) *ℤ number_at pivot j)) ≤ limit

-- where the size that no step is above is
abbrev pub NumbersBetweenFit : Type 0
NumbersBetweenFit =
    (size most limit n a : ℕ) (x : ℤ) (pivot : List ℤ) (l : IntegerRow) → step_size size (unsigned_abs x) a most ≤ limit → IsIntegerRow size n l → AreSizes most pivot
    → AreBetween limit a x pivot l

-- which it is where twice the product of both sizes is
abbrev pub StepsWithinRoom : Type 0
StepsWithinRoom = (limit c : ℕ) (pivot l : IntegerRow) → 2 * (row_size l * row_size pivot) ≤ limit → steps_within limit c pivot l ≡ true

-- the rows that a pivot mixes are within the same bounds
abbrev pub IntegerRowsFit : Type 0
IntegerRowsFit =
    (bound n c : ℕ) (l : IntegerRow) → IsIntegerRow bound n l → IsIntegerRow bound n (without c l) × AreSizes bound (exchanged_in c l)

-- a row eliminated is within the limit where the size that no step is above is
abbrev pub EliminatedRowsFit : Type 0
EliminatedRowsFit =
    (size most limit n c a : ℕ) (pivot : List ℤ) (l : IntegerRow) → step_size size (unsigned_abs (number_at l.numbers c)) a most ≤ limit → IsIntegerRow size n l → AreSizes most pivot → length pivot ≡ n → 0 < a
    → IsIntegerRow limit n (row_eliminated c a pivot l)

-- the size of a row is the least bound that it is within
abbrev pub SizesBound : Type 0
SizesBound = (n : ℕ) (l : IntegerRow) → IsShaped n l → IsIntegerRow (row_size l) n l

abbrev pub SizesLeast : Type 0
SizesLeast = (bound : ℕ) (l : IntegerRow) → row_fits bound l ≡ nat_le (row_size l) bound

-- the cross products of the ratio test
abbrev pub CrossProductsFit : Type 0
CrossProductsFit =
    (bound limit a : ℕ) (b : ℤ) → 2 * (bound * bound) ≤ limit → unsigned_abs b ≤ bound → a ≤ bound
    → unsigned_abs (b *ℤ pos a) ≤ limit

-- what a row has in common, number after number
abbrev pub ContentInOrder : Type 0
ContentInOrder = (d : ℕ) (zs : List ℤ) → common_of d zs ≡ content d zs

-- ---- the tables and the run
-- what the run over fractions makes of a pivot
abbrev pub as_pivot : Option IntegerTable → PivotEnd
as_pivot None = unlimited
as_pivot (Some u) = moved (table_for u)

-- from a table within the limit a pivot whose steps are meets no misfit, also where it leaves the
-- limit: it leaves the same row
abbrev pub PivotsAgree : Type 0
PivotsAgree =
    (limit n c : ℕ) (w : IntegerTable) → IsWithin limit n w → c < n → pivot_fits limit c w ≡ true
    → pivoted limit c (table_for w) ≡ as_pivot (whole_pivot c w)

-- each table of the run is, as fractions, that of the run over fractions with the same limit: so no
-- step before it misfits, the same columns entered and the same rows left
abbrev pub TablesAgree : Type 0
TablesAgree =
    (limit : ℕ) (p : LinearProgram) (k : ℕ) (w : IntegerTable) → IsProgram p
    → whole_table_after limit p k ≡ Some w
    → (whole_entering w ≡ entering (table_for w)) × (table_after limit p k ≡ Some (table_for w))

-- without a limit: each is the table of the run after as many pivots
abbrev pub TablesStand : Type 0
TablesStand =
    (limit : ℕ) (p : LinearProgram) (k : ℕ) (w : IntegerTable) → IsProgram p
    → whole_table_after limit p k ≡ Some w → IsTableAfter p k (table_for w)

-- a run that is not given up ends as the run over fractions does, number for number and unit for
-- unit
abbrev pub RunsAgree : Type 0
RunsAgree =
    (limit : ℕ) (p : LinearProgram) (left spent : ℕ) (end : Ending Optimum) → IsProgram p
    → whole_run limit p left spent ≡ Some end
    → run limit p left spent ≡ end

-- the run over fractions where the other is given up: in either case the run over fractions
abbrev pub or_fractions : Option (Ending Optimum) → Ending Optimum → Ending Optimum
or_fractions (Some end) other = end
or_fractions None other = other

abbrev pub EitherWayTheSame : Type 0
EitherWayTheSame =
    (limit : ℕ) (p : LinearProgram) (left spent : ℕ) → IsProgram p
    → or_fractions (whole_run limit p left spent) (run limit p left spent) ≡ run limit p left spent

-- and that met no misfit
abbrev pub NoStepMisfits : Type 0
NoStepMisfits =
    (limit : ℕ) (p : LinearProgram) (left spent : ℕ) (end : Ending Optimum) → IsProgram p
    → whole_run limit p left spent ≡ Some end
    → HasNoMisfit (run limit p left spent)

-- some limit is enough: with it the run ends with an optimum or a direction
pub record SomeLimitSuffices (p : LinearProgram) : Type 0 where
  pub limit : ℕ
  pub end : Ending Optimum
  pub ends : whole_run limit p (bases_of p) 0 ≡ Some end
  pub found : IsFound end

abbrev pub WholeRunsEnd : Type 0
WholeRunsEnd = (p : LinearProgram) → IsProgram p → SomeLimitSuffices p

-- the bounds for numbers of 128 and of 64 bits, and that the first is the greatest
pub record BoundsInUse : Type 0 where
  pub wide : 2 * ((2 ^ 63 - 1) * (2 ^ 63 - 1)) ≤ 2 ^ 127 - 1
  pub narrow : 2 * ((2 ^ 31 - 1) * (2 ^ 31 - 1)) ≤ 2 ^ 63 - 1
  pub no_more : 2 ^ 127 - 1 < 2 * (2 ^ 63 * 2 ^ 63)
