-- The numbers of what a run clears, and of the step at which it stops: all are numbers of 128 bits.
use Rattle.std.specs.Prelude.{◌≡◌, ℕ, ◌≤◌, List, pos}
use Rattle.std.specs.List.{All}
use Rattle.exact_num.specs.declared.misfit.Wide.{Wide}
use Rattle.exact_num.specs.Fraction.{Fraction, IsLowest}
use Rattle.exact_num.specs.Laws.{IsWithin}
use Rattle.frac.specs.Range.{limit as largest}
use Rattle.clearing_model.specs.Certificate.{Point}
use Rattle.clearing_model.specs.Written.{PlacedMultiplier, WrittenTree, Ends as EndsTree, Parts}
use Rattle.simplex_run.specs.Ending.{Ending, EndsBy}
use Rattle.master_program.specs.Reading.{Reading}
use Rattle.constraint_generation.specs.Run.{CoveredReading, WrittenCover, by_line, by_tree}

-- in lowest terms, with both parts at most 2^127 - 1
pub record IsValue (x : Fraction) : Type 0 where
  pub lowest : IsLowest x
  pub small : IsWithin largest x

abbrev pub AreValues : List Fraction → Type 0
AreValues xs = All IsValue xs

-- the operands of a step that does not fit are such numbers
pub record AreOperands (w : Wide) : Type 0 where
  pub left : Fraction
  pub right : Fraction
  pub left_is : w.left ≡ (left.numerator, pos left.denominator)
  pub right_is : w.right ≡ (right.numerator, pos right.denominator)
  pub left_value : IsValue left
  pub right_value : IsValue right

-- an end with an answer of which P holds, or at a step whose operands are numbers of the code
abbrev pub Ends : {A : Type 0} → (A → Type 0) → Ending A → Type 0
Ends P e = EndsBy (λ answer units. P answer) (Unit {0}) (λ wide units. AreOperands wide) e

-- ---- what is read off
-- no entry of a state is above 2^127 - 1
abbrev pub IsSmall : ℕ → Type 0
IsSmall x = x ≤ largest

abbrev pub IsSmallState : List ℕ → Type 0
IsSmallState z = All IsSmall z

abbrev pub IsPointOf : Point → Type 0
IsPointOf point = IsSmallState point.0 × IsValue point.1

pub record IsReadingOf (r : Reading) : Type 0 where
  pub fills : AreValues r.fills
  pub liability : IsValue r.liability
  pub surplus : IsValue r.surplus
  pub points : All IsPointOf r.measure

-- ---- trees over so many legs
abbrev pub IsPlaceOf : ℕ → ℕ → Type 0
IsPlaceOf legs place = (1 ≤ place) × (place ≤ legs)

pub record IsPlacedOf (legs : ℕ) (m : PlacedMultiplier) : Type 0 where
  pub place : IsPlaceOf legs m.place
  pub by : IsValue m.by

abbrev pub IsTreeOf : ℕ → WrittenTree → Type 0
IsTreeOf legs (EndsTree ms) = All (IsPlacedOf legs) ms
IsTreeOf legs (Parts place plus minus) = IsPlaceOf legs place × IsTreeOf legs plus × IsTreeOf legs minus

-- ---- what a run clears
abbrev pub IsCoverOf : WrittenCover → Type 0
IsCoverOf by_line = Unit {0}
IsCoverOf (by_tree tree) = IsTreeOf 1024 tree

abbrev pub IsSolutionOf : CoveredReading → Type 0
IsSolutionOf s = IsReadingOf s.0 × IsCoverOf s.1
