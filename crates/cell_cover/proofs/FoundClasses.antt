-- Classes by their numbers.
use Rattle.std.proofs.Common.{◌≡◌, ℕ, zero, suc, ◌-◌, ◌≤◌, List, [], ◌∷◌, length, map, Option, Some, None, true, false, refl, ap, sym, ◌∙◌, arith}
use Rattle.std.specs.Prelude.{slice_get, is_some, nat_lt, MatchOption}
use Rattle.std.specs.Option.{option_map}
use Rattle.std.proofs.lemmas.List.{length-map}
use Rattle.std.proofs.lemmas.Option.{get_or_from_slice_get, slice_get-map, slice_get_within}
use Rattle.std.proofs.lemmas.Bool.{le-ltb, lt-ltb}
use Rattle.std.proofs.Math.Bool.{and-false}
use Rattle.exact_num.specs.Fraction.{Fraction}
use Rattle.exact_num.specs.Tests.{is_not_below_zero}
use Rattle.cell_cover.specs.declared.vectors.Row.{Row}
use Rattle.cell_cover.specs.declared.vectors.Class.{Class}
use Rattle.cell_cover.specs.declared.vectors.Sign.{Sign}
use Rattle.cell_cover.specs.declared.vectors.Knowledge.{Knowledge}
use Rattle.cell_cover.specs.declared.vectors.Knowledge.TheVariants.{Bounded as KnownBounded}
use Rattle.cell_cover.specs.Closed.{Known, Plus, Minus, Bounded, has_sign, known_at}
use Rattle.cell_cover.specs.Cells.{ClassMultiplier}
use Rattle.cell_cover.specs.Mixed.{MixesWith, counted_sign, sign_in}
use Rattle.cell_cover.specs.Rows.{row_of, class_as, known_as, sign_as}
use Rattle.cell_cover.specs.Walk.{may_mix, no_walk_class, walk_class_at}

pub known_is : (count : ℕ) (known : List Knowledge) (k : ℕ) (row : Row) → slice_get known (k - 1) ≡ Some (KnownBounded row) → known_at (map (known_as count) known) k ≡ Bounded (row_of count row)
known_is count known k row at =
    get_or_from_slice_get (map (known_as count) known) (k - 1) (Bounded (row_of count row)) Minus (slice_get-map (known_as count) known (k - 1) ∙ ap (option_map (known_as count)) at)

pub class_is : (count : ℕ) (classes : List Class) (k : ℕ) (class : Class) → slice_get classes (k - 1) ≡ Some class → walk_class_at (map (class_as count) classes) k ≡ class_as count class
class_is count classes k class at =
    get_or_from_slice_get (map (class_as count) classes) (k - 1) (class_as count class) no_walk_class (slice_get-map (class_as count) classes (k - 1) ∙ ap (option_map (class_as count)) at)

-- ---- signs
pub counted_some : (it s : Known (List Fraction)) → Some s ≡ sign_in it → s ≡ counted_sign it
counted_some Plus s h = cc
counted_some Minus s h = cc
counted_some (Bounded w) s h = cc

pub counted_none : (it : Known (List Fraction)) → None ≡ sign_in it → Minus ≡ counted_sign it
counted_none Plus h = cc
counted_none Minus h = refl
counted_none (Bounded w) h = refl

pub some_sign : (it : Known (List Fraction)) (r : Option Sign) → option_map sign_as r ≡ sign_in it → is_some r ≡ has_sign it
some_sign Plus None h = cc
some_sign Plus (Some s) h = refl
some_sign Minus None h = cc
some_sign Minus (Some s) h = refl
some_sign (Bounded w) None h = refl
some_sign (Bounded w) (Some s) h = cc

pub mixes_with : (known : List (Known (List Fraction))) (m : ClassMultiplier) (it : Known (List Fraction)) (r : Option Sign) → known_at known m.class ≡ it → is_not_below_zero m.by ≡ true → option_map sign_as r ≡ sign_in it
    → MatchOption r (may_mix known m ≡ false) (MixesWith known m)
mixes_with known m Plus None is low h = cc
mixes_with known m Plus (Some s) is low h = let e : sign_as s ≡ Plus = cc in record { may = rw (is, low) refl; sign_is = e ∙ sym is }
mixes_with known m Minus None is low h = cc
mixes_with known m Minus (Some s) is low h = let e : sign_as s ≡ Minus = cc in record { may = rw (is, low) refl; sign_is = e ∙ sym is }
mixes_with known m (Bounded w) None is low h = rw is refl
mixes_with known m (Bounded w) (Some s) is low h = cc

pub mixes_not : (known : List (Known (List Fraction))) (m : ClassMultiplier) → is_not_below_zero m.by ≡ false → may_mix known m ≡ false
mixes_not known m low = rw low (and-false (has_sign (known_at known m.class)))

-- ---- a class that there is not
beyond : (xs : List Class) (i : ℕ) → slice_get xs i ≡ None → length xs ≤ i
beyond [] i h = omega arith
beyond (x ∷ xs) zero h = cc
beyond (x ∷ xs) (suc i) h = omega (arith, beyond xs i h)

pub class_none : (count : ℕ) (classes : List Class) (k : ℕ) → slice_get classes (k - 1) ≡ None → nat_lt (k - 1) (length (map (class_as count) classes)) ≡ false
class_none count classes k none = le-ltb (k - 1) (length (map (class_as count) classes)) (omega (arith, length-map classes (class_as count), beyond classes (k - 1) none))

pub class_some : (count : ℕ) (classes : List Class) (k : ℕ) (class : Class) → slice_get classes (k - 1) ≡ Some class → nat_lt (k - 1) (length (map (class_as count) classes)) ≡ true
class_some count classes k class at = lt-ltb (k - 1) (length (map (class_as count) classes)) (omega (arith, length-map classes (class_as count), slice_get_within classes (k - 1) class at))
