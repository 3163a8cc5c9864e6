-- Options and the legs of bundles on one underlying, as the code has them.
use Rattle.std.proofs.Common.{ℕ, ◌≤◌, arith, ℤ, pos, ◌*ℤ◌, unsigned_abs}
use Rattle.std.proofs.lemmas.Int.{unsigned_abs-mul}
use native.Mathlib.Nat.{mul-le-mul_left}
use Rattle.std.proofs.Math.Nat.{mul-le-mul_right}

-- the parts of what an option would pay
pub value_small : (a b : ℤ) (t s : ℕ) → unsigned_abs a ≤ 1000000000 → unsigned_abs b ≤ 1000 → t ≤ 1000 → s ≤ 1000000000
    → (unsigned_abs (a *ℤ pos t) ≤ 1000000000000) × (unsigned_abs (b *ℤ pos s) ≤ 1000000000000)
value_small a b t s ha hb ht hs = (
  omega (arith, unsigned_abs-mul a (pos t), mul-le-mul_left (unsigned_abs a) ht, mul-le-mul_right 1000 ha),
  omega (arith, unsigned_abs-mul b (pos s), mul-le-mul_left (unsigned_abs b) hs, mul-le-mul_right 1000000000 hb),
)

-- a sum of so many options
pub amount_small : (s : ℤ) (p : ℕ) → unsigned_abs s ≤ 72057594037927936000000 → p ≤ 2000000000000 → unsigned_abs (s *ℤ pos p) ≤ 144115188075855872000000000000000000
amount_small s p hs hp =
    omega (arith, unsigned_abs-mul s (pos p), mul-le-mul_left (unsigned_abs s) hp, mul-le-mul_right 2000000000000 hs)

-- a leg of at most 1,000 options
pub leg_small : (n : ℤ) (h : ℕ) → unsigned_abs n ≤ 1000 → h ≤ 2000000000000 → unsigned_abs (n *ℤ pos h) ≤ 2000000000000000
leg_small n h few low =
    omega (arith, unsigned_abs-mul n (pos h), mul-le-mul_left (unsigned_abs n) low, mul-le-mul_right 2000000000000 few)
