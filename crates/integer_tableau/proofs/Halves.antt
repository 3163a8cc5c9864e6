-- A product of two numbers by their halves.
use Rattle.std.proofs.Common.{◌≡◌, ℕ, ◌+◌, ◌*◌, ◌/◌, ◌%◌, ◌<◌, arith, sym, ap, ◌∙◌}

parts : (h x : ℕ) → 0 < h → h * (x / h) + x % h ≡ x
parts h x above = omega arith

-- each product of halves with what the lower ones carry over
joined : (h a1 a0 b1 b0 l1 l0 f1 f0 s1 s0 : ℕ) → h * l1 + l0 ≡ a0 * b0 → h * f1 + f0 ≡ a1 * b0 + l1 → h * s1 + s0 ≡ a0 * b1 + f0 → (a1 * b1 + f1 + s1) * (h * h) + (s0 * h + l0) ≡ (h * a1 + a0) * (h * b1 + b0)
joined h a1 a0 b1 b0 l1 l0 f1 f0 s1 s0 low first second =
    let first' = ap (λ (x : ℕ). x * h) first in
    let second' = ap (λ (x : ℕ). x * h) second in
    omega (arith, low, first', second')

pub product_in_words : (h a b l f s : ℕ) → 0 < h → a % h * (b % h) ≡ l → a / h * (b % h) + l / h ≡ f → a % h * (b / h) + f % h ≡ s → (a / h * (b / h) + f / h + s / h) * (h * h) + (s % h * h + l % h) ≡ a * b
product_in_words h a b l f s above low first second =
    joined h (a / h) (a % h) (b / h) (b % h) (l / h) (l % h) (f / h) (f % h) (s / h) (s % h) (parts h l above ∙ sym low) (parts h f above ∙ sym first) (parts h s above ∙ sym second)
    ∙ ap (λ (x : ℕ). x * (h * (b / h) + b % h)) (parts h a above) ∙ ap (λ (x : ℕ). a * x) (parts h b above)
