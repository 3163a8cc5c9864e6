-- Steps of the walk, as the code takes them.
use Rattle.std.specs.Prelude.{ℕ, ◌-◌, ◌≡◌, ◌&&◌, if◌then◌else◌, true, nat_lt, slice_get, List, length, replicate, pos, Option, Some, None, Result, Ok}
use Rattle.exact_num.specs.declared.misfit.Wide.{Wide}
use Rattle.exact_num.specs.Fraction.{Fraction, whole}
use Rattle.exact_num.specs.Fits.{after}
use Rattle.exact_num.specs.Tests.{is_above_zero}
use Rattle.cell_cover.specs.declared.vectors.Row.{Row}
use Rattle.cell_cover.specs.declared.vectors.Class.{Class}
use Rattle.cell_cover.specs.declared.vectors.Sign.{Sign}
use Rattle.cell_cover.specs.declared.vectors.Knowledge.{Knowledge}
use Rattle.cell_cover.specs.declared.vectors.Knowledge.TheVariants.{Bounded as KnownBounded}
use Rattle.cell_cover.specs.Cells.{ClassMultiplier}
use Rattle.cell_cover.specs.Closed.{Known, Plus, Minus, Bounded, known_at}
use Rattle.cell_cover.specs.Rows.{sign_as}
use Rattle.cell_cover.specs.Walk.{WalkClass, walk_class_at, add_each, may_mix, mixed, then_with, greater_each, with_bound, without_bound}

-- the sign of a class, where it has one
abbrev pub sign_in : Known (List Fraction) → Option (Known (List Fraction))
sign_in Plus = Some Plus
sign_in Minus = Some Minus
sign_in (Bounded w) = None

-- the sign with which a multiplier counts: minus without one
abbrev pub counted_sign : Known (List Fraction) → Known (List Fraction)
counted_sign Plus = Plus
counted_sign Minus = Minus
counted_sign (Bounded w) = Minus

-- the sums with the bound, or less it
abbrev pub bound_by : ℕ → Known (List Fraction) → Fraction → List Fraction → List Fraction → Result (List Fraction) Wide
bound_by limit it K w sums = if is_above_zero K then add_each limit it sums K w else Ok sums

-- the first multiple of a mixture
abbrev pub mix_one : ℕ → List WalkClass → List (Known (List Fraction)) → List Fraction → ClassMultiplier → Result (Option (List Fraction)) Wide
mix_one limit classes known totals m =
    if nat_lt (m.class - 1) (length classes) && may_mix known m
    then after (add_each limit (known_at known m.class) totals m.by (walk_class_at classes m.class).entries) (λ next. Ok (Some next))
    else Ok None

-- the multiplier may be mixed, with this sign
pub record MixesWith (known : List (Known (List Fraction))) (m : ClassMultiplier) (sign : Sign) : Type 0 where
  pub may : may_mix known m ≡ true
  pub sign_is : sign_as sign ≡ known_at known m.class

-- the greater of what `plus` adds to one vector, and of what `minus` adds to the other
abbrev pub greater_mixed : ℕ → List WalkClass → List (Known (List Fraction)) → List Fraction → List Fraction → List ClassMultiplier → List ClassMultiplier → Result (Option (List Fraction)) Wide
greater_mixed limit classes known start u minus plus =
    then_with (mixed limit classes known start plus) None
    (λ A. then_with (mixed limit classes known u minus) None (λ B. Ok (Some (greater_each A B))))

-- the bound of the class with the entries u
abbrev pub mixed_bound : ℕ → ℕ → List WalkClass → List (Known (List Fraction)) → List Fraction → List ClassMultiplier → List ClassMultiplier → Result (Option (List Fraction)) Wide
mixed_bound limit count classes known u minus plus = greater_mixed limit classes known (replicate count (whole (pos 0))) u minus plus

-- another bound of the class with the kink K, and the sums with it
abbrev pub rebound : ℕ → Fraction → List Fraction → List Fraction → Result (Option (List Fraction)) Wide → Result (Option (List Fraction × List Fraction)) Wide
rebound limit K w sums made =
    then_with made None (λ next. after (after (without_bound limit K w sums) (with_bound limit K next)) (λ sums. Ok (Some (next, sums))))

-- the class of the number k has no sign, and this bound
pub record IsUnsigned (classes : List Class) (known : List Knowledge) (k : ℕ) (found : Class × Row) : Type 0 where
  pub class : slice_get classes (k - 1) ≡ Some found.0
  pub bound : slice_get known (k - 1) ≡ Some (KnownBounded found.1)
