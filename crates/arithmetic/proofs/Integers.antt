-- Laws of whole numbers that `omega (arith, ints)` does not find by itself.
use Rattle.std.proofs.Common.{◌≡◌, ℕ, ◌+◌, ◌-◌, ◌*◌, ◌<◌, ◌≤◌, arith, ℤ, pos, neg_ℤ, ◌+ℤ◌, ◌-ℤ◌, ◌*ℤ◌, ◌<ℤ◌, ◌≤ℤ◌, unsigned_abs, ap, subst, sym, ◌∙◌}
use Rattle.std.proofs.lemmas.Int.{ints, unsigned_abs-mul}
use borrow.Author.Differences.{up, down, sum_is_lem, product_is, neg_is, le_out, below_in}
use native.Mathlib.Nat.{mul-le-mul_left, le_of_mul-le-mul_left}
use Rattle.std.proofs.Math.Nat.{lt_of_mul-lt-mul_right, mul_comm, mul-le-mul}

pub plus_negative : (a b : ℤ) → a +ℤ neg_ℤ b ≡ a -ℤ b
plus_negative a b = omega (arith, ints)

pub *ℤ_distl : (a b c : ℤ) → a *ℤ (b +ℤ c) ≡ (a *ℤ b) +ℤ (a *ℤ c)
*ℤ_distl a b c = omega (arith, ints, ap (λ n. up a * n) (sum_is_lem b c), ap (λ n. down a * n) (sum_is_lem b c))

pub *ℤ_assoc : (a b c : ℤ) → (a *ℤ b) *ℤ c ≡ a *ℤ (b *ℤ c)
*ℤ_assoc a b c =
    let p = product_is a b in
    let q = product_is b c in
    omega (arith, ints, ap (λ n. n * up c) p.0, ap (λ n. n * up c) p.1, ap (λ n. n * down c) p.0, ap (λ n. n * down c) p.1, ap (λ n. up a * n) q.0, ap (λ n. up a * n) q.1, ap (λ n. down a * n) q.0, ap (λ n. down a * n) q.1)

-- a factor that is not negative keeps an order
pub *ℤ_mono : (n : ℕ) (a b : ℤ) → a ≤ℤ b → (a *ℤ pos n) ≤ℤ (b *ℤ pos n)
*ℤ_mono n a b h = omega (arith, ints, mul-le-mul_left n (le_out a b h))

pub *ℤ_distr : (a b c : ℤ) → (a +ℤ b) *ℤ c ≡ (a *ℤ c) +ℤ (b *ℤ c)
*ℤ_distr a b c = omega (arith, ints, ap (λ n. n * up c) (sum_is_lem a b), ap (λ n. n * down c) (sum_is_lem a b))

pub neg_ℤ-*ℤ : (a b : ℤ) → neg_ℤ a *ℤ b ≡ neg_ℤ (a *ℤ b)
neg_ℤ-*ℤ a b =
    let e = neg_is a in
    omega (arith, ints, ap (λ n. n * up b) e.0, ap (λ n. n * up b) e.1, ap (λ n. n * down b) e.0, ap (λ n. n * down b) e.1)

pub *ℤ_mono_left : (n : ℕ) (a b : ℤ) → a ≤ℤ b → (pos n *ℤ a) ≤ℤ (pos n *ℤ b)
*ℤ_mono_left n a b h = omega (arith, ints, mul-le-mul_left n (le_out a b h))

-- a factor that is above 0 goes away
pub *ℤ_cancel_le : (n : ℕ) (a b : ℤ) → 1 ≤ n → (a *ℤ pos n) ≤ℤ (b *ℤ pos n) → a ≤ℤ b
*ℤ_cancel_le n a b one h =
    let k : n * (up a + down b) ≤ n * (up b + down a) = omega (arith, ints, h) in
    omega (arith, ints, le_of_mul-le-mul_left k one)

pub *ℤ_cancel : (n : ℕ) (a b : ℤ) → 1 ≤ n → a *ℤ pos n ≡ b *ℤ pos n → a ≡ b
*ℤ_cancel n a b one h = omega (arith, ints, *ℤ_cancel_le n a b one (omega (arith, ints, h)), *ℤ_cancel_le n b a one (omega (arith, ints, h)))

-- ---- strict order
pub *ℤ_mono_lt : (a b : ℤ) (n : ℕ) → a <ℤ b → 0 < n → (a *ℤ pos n) <ℤ (b *ℤ pos n)
*ℤ_mono_lt a b n h p = grind (arith, ints)

pub *ℤ_cancel_lt : (a b : ℤ) (n : ℕ) → (a *ℤ pos n) <ℤ (b *ℤ pos n) → a <ℤ b
*ℤ_cancel_lt a b n h =
    let e : (up a + down b) * n < (up b + down a) * n = omega (arith, ints) in
    below_in a b (lt_of_mul-lt-mul_right n e)

-- two factors change their places
pub swap_factors : (z : ℤ) (m n : ℕ) → (z *ℤ pos m) *ℤ pos n ≡ (z *ℤ pos n) *ℤ pos m
swap_factors z m n = *ℤ_assoc z (pos m) (pos n) ∙ ap (λ (k : ℕ). z *ℤ pos k) (mul_comm m n) ∙ sym (*ℤ_assoc z (pos n) (pos m))

-- ---- sizes
pub zero_of_size : (z : ℤ) → unsigned_abs z ≡ 0 → z ≡ pos 0
zero_of_size z h = omega (arith, ints, h)

pub size_of_product : (x y : ℤ) (size bound : ℕ) → unsigned_abs x ≤ size → unsigned_abs y ≤ bound → unsigned_abs (x *ℤ y) ≤ size * bound
size_of_product x y size bound p q = subst (λ w. w ≤ size * bound) (sym (unsigned_abs-mul x y)) (mul-le-mul p q)

pub unsigned_abs-neg : (z : ℤ) → unsigned_abs (neg_ℤ z) ≡ unsigned_abs z
unsigned_abs-neg z = omega (arith, ints)

-- ---- bounds
pub le_pred : (m n : ℕ) → n < m → n ≤ m - 1
le_pred m n h = omega arith

pub le_pos : (m n : ℕ) → m ≤ n → pos m ≤ℤ pos n
le_pos m n h = omega (arith, ints)
