-- Tests and what they say.
use Rattle.std.proofs.Common.{◌≡◌, ℕ, Bool, true, false, ℤ, ◌<ℤ◌, ◌≤ℤ◌, arith, refl, sym}
use Rattle.std.specs.Prelude.{int_lt, int_le, nat_eq}
use Rattle.std.specs.Int.Signed.{le_z_yes, lt_z_yes, lt_z_no}
use Rattle.std.proofs.lemmas.Bool.Decides.{nat_tests}
use Rattle.std.proofs.lemmas.Float.{T_from_true}
use Rattle.std.proofs.lemmas.Int.{ints}
use mathlib.Core.Bool.{not}

-- tests that pass together are one
pub both_so : (a b : Bool) → (a ≡ true → b ≡ true) → (b ≡ true → a ≡ true) → a ≡ b
both_so true b f g = sym (f refl)
both_so false true f g = g refl
both_so false false f g = refl

pub int_le-true : (a b : ℤ) → a ≤ℤ b → int_le a b ≡ true
int_le-true a b h = grind (arith, ints)

pub int_le-yes : (a b : ℤ) → int_le a b ≡ true → a ≤ℤ b
int_le-yes a b h = le_z_yes {a = a} {b = b} (T_from_true (int_le a b) h)

pub int_le-no : (a b : ℤ) → int_le a b ≡ false → b ≤ℤ a
int_le-no a b h = grind (arith, ints)

pub int_lt-true : (a b : ℤ) → a <ℤ b → int_lt a b ≡ true
int_lt-true a b h = grind (arith, ints)

pub int_lt-yes : (a b : ℤ) → int_lt a b ≡ true → a <ℤ b
int_lt-yes a b h = lt_z_yes {a = a} {b = b} (T_from_true (int_lt a b) h)

pub int_lt-no : (a b : ℤ) → int_lt a b ≡ false → b ≤ℤ a
int_lt-no a b h = lt_z_no {a = a} {b = b} (T_from_true (not (int_lt a b)) (rw h refl))

-- a test of two numbers, from either side
pub nat_eq-turned : (a b : ℕ) (t : Bool) → nat_eq a b ≡ t → nat_eq b a ≡ t
nat_eq-turned a b true e = grind (arith, nat_tests)
nat_eq-turned a b false e = grind (arith, nat_tests)
