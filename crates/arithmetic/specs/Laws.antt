-- Laws of whole numbers that the crates above stand on.
use Rattle.std.specs.Prelude.{ℕ, ◌≤◌, ℤ, pos, ◌≤ℤ◌}
use Rattle.std.specs.Int.{IsGcd}
use Rattle.arithmetic.specs.Gcd.{gcd}
use Rattle.arithmetic.specs.Sums.{positive_part}

-- gcd a b divides both a and b, and each number that does divides it
abbrev pub GcdIsGreatest : Type 0
GcdIsGreatest = (a b : ℕ) → IsGcd a b (gcd a b)

-- the positive part is the least natural number that is not below
abbrev pub PositivePartIsLeast : Type 0
PositivePartIsLeast = (y : ℤ) → (y ≤ℤ pos (positive_part y)) × ((m : ℕ) → y ≤ℤ pos m → positive_part y ≤ m)
