-- Classes of the code, with their entries as rows of fractions.
use Rattle.std.specs.Prelude.{ℕ, ◌+◌, Bool, true, false, ◌&&◌, if◌then◌else◌, nat_lt, List, [], ◌∷◌, ◌++◌, length, map, ℤ, pos, Result}
use Rattle.exact_num.specs.declared.misfit.Wide.{Wide}
use Rattle.exact_num.specs.Fraction.{Fraction, whole}
use Rattle.exact_num.specs.Tests.{is_same}
use Rattle.frac.specs.Value.{fraction_of}
use Rattle.sign_tree.specs.Legs.{FractionLeg}
use Rattle.cell_cover.specs.declared.vectors.Row.{Row}
use Rattle.cell_cover.specs.declared.vectors.Class.{Class}
use Rattle.cell_cover.specs.Classes.{class_of}
use Rattle.cell_cover.specs.Walk.{WalkClass, KinksAndSlope, leg_step_at}
use Rattle.cell_cover.specs.Rows.{row_of}

abbrev pub is_same_row : List Fraction → List Fraction → Bool
is_same_row [] [] = true
is_same_row [] (y ∷ ys) = false
is_same_row (x ∷ xs) [] = false
is_same_row (x ∷ xs) (y ∷ ys) = is_same x y && is_same_row xs ys

-- how many rows come before this one
abbrev pub row_index : List Fraction → List (List Fraction) → ℕ
row_index row [] = 0
row_index row (other ∷ rows) = if is_same_row row other then 0 else row_index row rows + 1

abbrev pub row_in : ℕ → Class → List Fraction
row_in count class = row_of count class.entries

abbrev pub rows_in : ℕ → List Class → List (List Fraction)
rows_in count classes = map (row_in count) classes

abbrev pub kink_in : Class → Fraction
kink_in class = fraction_of class.kink

abbrev pub kinks_in : List Class → List Fraction
kinks_in classes = map kink_in classes

abbrev pub class_row : List ℤ → List Fraction
class_row v = map whole (class_of v)

abbrev pub entries_in : WalkClass → List Fraction
entries_in class = class.entries

-- a class that nothing is owed of yet
abbrev pub fresh : List ℤ → WalkClass
fresh u = record { entries = map whole u; kink = whole (pos 0) }

abbrev pub with_one : List WalkClass → List ℤ → List WalkClass
with_one classes v = if nat_lt (row_index (class_row v) (map entries_in classes)) (length classes) then classes else classes ++ fresh (class_of v) ∷ []

-- the classes, and those of the options that are not among them, as they first come
abbrev pub with_fresh : List WalkClass → List (List ℤ) → List WalkClass
with_fresh classes [] = classes
with_fresh classes (v ∷ vs) = with_fresh (with_one classes v) vs

-- what a leg adds, where these are the rows of the classes
abbrev pub row_step : ℕ → List (List Fraction) → KinksAndSlope → FractionLeg → Result KinksAndSlope Wide
row_step limit rows so_far leg = leg_step_at limit (row_index (class_row leg.option) rows) so_far leg

abbrev pub kinked_so_far : ℕ → List Class → Row → KinksAndSlope
kinked_so_far count classes slope = record { kinks = kinks_in classes; slope = row_of count slope }
