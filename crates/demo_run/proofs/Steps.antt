-- Draws one after another.
use Rattle.std.proofs.Common.{◌≡◌, ℕ, zero, suc, ◌+◌, ◌*◌, ◌%◌, ap, arith, refl, ◌∙◌}
use Rattle.std.proofs.Math.Nat.{mod-add-mod, mul_comm}
use Rattle.demo_run.specs.Draws.{next, after}

-- a step in wrapping arithmetic
pub wrapped_step : (x : ℕ) → (x * 6364136223846793005 % 18446744073709551616 + 1442695040888963407) % 18446744073709551616 ≡ next x
unfolding next
wrapped_step x = mod-add-mod (x * 6364136223846793005) 18446744073709551616 1442695040888963407 ∙ ap (λ (n : ℕ). (n + 1442695040888963407) % 18446744073709551616) (mul_comm x 6364136223846793005)

-- draws after draws
pub after_after : (m n x : ℕ) → after m (after n x) ≡ after (m + n) x
after_after zero n x = let e : 0 + n ≡ n = omega arith in rw e refl
after_after (suc m) n x = let e : suc m + n ≡ suc (m + n) = omega arith in rw e (ap next (after_after m n x))

-- the seven draws of one order more
pub seven_more : (k x : ℕ) → after 7 (after (7 * k) x) ≡ after (7 * (k + 1)) x
seven_more k x = let e : 7 + 7 * k ≡ 7 * (k + 1) = omega arith in after_after 7 (7 * k) x ∙ ap (λ (n : ℕ). after n x) e
