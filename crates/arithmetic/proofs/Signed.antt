-- Sums and products of signed numbers.
use Rattle.std.proofs.Common.{◌≡◌, ℕ, ◌*◌, ◌≤◌, arith, ℤ, pos, negsuc, ◌*ℤ◌, ◌≤ℤ◌, ◌<ℤ◌, zero, suc, false, refl}
use Rattle.std.specs.Prelude.{int_lt}
use Rattle.std.proofs.lemmas.Int.{ints}
use Rattle.arithmetic.proofs.Integers.{*ℤ_mono, *ℤ_cancel_le}
use Rattle.arithmetic.proofs.Products.{products}

-- a factor of a factor
pub factor_out : (n : ℤ) (k m : ℕ) → n *ℤ pos (k * m) ≡ (n *ℤ pos m) *ℤ pos k
factor_out n k m = omega (arith, ints, products)

-- neither above nor below 0
pub is_zero : (v : ℤ) → int_lt (pos 0) v ≡ false → pos 0 ≤ℤ v → v ≡ pos 0
is_zero (pos zero) h k = refl
is_zero (pos (suc n)) h k = absurd (omega (arith, ints, h))
is_zero (negsuc n) h k = absurd (omega (arith, ints, k))

-- what stands over F as something not above 0 is not above 0
pub no_gain : (n v : ℤ) (F d : ℕ) → 1 ≤ F → n *ℤ pos F ≡ v *ℤ pos d → v ≤ℤ pos 0 → pos 0 <ℤ n → ⊥
no_gain n v F d one e h k = let m = *ℤ_cancel_le F n (pos 0) one (omega (arith, ints, e, *ℤ_mono d v (pos 0) h)) in omega (arith, ints, m, k)
