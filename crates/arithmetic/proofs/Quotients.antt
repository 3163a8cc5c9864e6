-- Quotients of whole numbers by a divisor of their size.
use Rattle.std.proofs.Common.{◌≡◌, ℕ, suc, ◌*◌, ◌/◌, ℤ, pos, negsuc, ◌*ℤ◌, unsigned_abs, int_div, arith, refl, ap}
use Rattle.std.specs.Int.{◌∣◌}
use Rattle.std.proofs.lemmas.Int.{ints}
use borrow.Author.Differences.{quot_is}
use Rattle.std.proofs.Math.Nat.{div-mul_cancel}
use Rattle.arithmetic.proofs.Integers.{unsigned_abs-neg}

-- a number divided by a divisor of its size, times that divisor, is the number
pub int_div-mul_cancel : (n : ℤ) (g : ℕ) → g ∣ unsigned_abs n → int_div n (pos g) *ℤ pos g ≡ n
int_div-mul_cancel (pos n) g h = ap pos (div-mul_cancel g h)
int_div-mul_cancel (negsuc n) g h =
    let e : suc n / g * g ≡ suc n = div-mul_cancel g h in
    let q = quot_is (negsuc n) g in
    omega (arith, ints, ap (λ (m : ℕ). m * g) q.0, ap (λ (m : ℕ). m * g) q.1)

-- the size of such a quotient
pub unsigned_abs-int_div : (n : ℤ) (g : ℕ) → unsigned_abs (int_div n (pos g)) ≡ unsigned_abs n / g
unsigned_abs-int_div (pos n) g = refl
unsigned_abs-int_div (negsuc n) g = unsigned_abs-neg (pos (suc n / g))

pub int_div-one : (n : ℤ) → int_div n (pos 1) ≡ n
int_div-one n = omega (arith, ints)
