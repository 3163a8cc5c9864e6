-- One turn of the comparison by quotients.
use Rattle.std.proofs.Common.{◌≡◌, ℕ, ◌+◌, ◌*◌, ◌/◌, ◌%◌, ◌<◌, ◌≤◌, ap, sym, ◌∙◌, ◌⊎◌, inl, inr, arith}
use Rattle.std.proofs.lemmas.Bool.{cases_order}
use Rattle.std.proofs.lemmas.Bool.Decides.{nat_tests}
use Rattle.std.specs.declared.cmp.Ordering.TheVariants.{Less, Equal, Greater}
use Rattle.std.specs.Ordering.{nat_cmp}
use Rattle.std.proofs.Math.Nat.{lt-mul-div-succ, mul-div-le, div-add-mod, mul-lt-mul_of_pos_right, mul-le-mul_left, mul-le-mul_right, eq-zero-or-pos, mul-pos, zero-mul}

less_by_quotient : (a b c d : ℕ) → 0 < b → 0 < d → a / b < c / d → a * d < c * b
less_by_quotient a b c d p q h =
    let first : a * d < b * (a / b + 1) * d = mul-lt-mul_of_pos_right (lt-mul-div-succ a p) q in
    let second : b * (a / b + 1) * d ≤ b * (c / d) * d = mul-le-mul_right d (mul-le-mul_left b (omega arith)) in
    let third : b * (d * (c / d)) ≤ b * c = mul-le-mul_left b (mul-div-le c d) in
    omega arith

pub cmp_less : (m n : ℕ) → m < n → nat_cmp m n ≡ Less
cmp_less m n h = grind (arith, nat_tests)

pub cmp_greater : (m n : ℕ) → n < m → nat_cmp m n ≡ Greater
cmp_greater m n h = grind (arith, nat_tests)

pub cmp_equal : (m n : ℕ) → m ≡ n → nat_cmp m n ≡ Equal
cmp_equal m n h = grind (arith, nat_tests)

-- quotients that differ decide
pub by_quotients : (a b c d p q : ℕ) → p ≡ a / b → q ≡ c / d → 0 < b → 0 < d → (p ≡ q → ⊥) → nat_cmp p q ≡ nat_cmp (a * d) (c * b)
by_quotients a b c d p q ep eq above_b above_d ne =
    elim (cases_order p q) [
      | inl e ↦ absurd (ne e)
      | inr w ↦ elim w [
        | inl h ↦ cmp_less _ _ h ∙ sym (cmp_less _ _ (less_by_quotient a b c d above_b above_d (rw (ep, eq) at h)))
        | inr h ↦ cmp_greater _ _ h ∙ sym (cmp_greater _ _ (less_by_quotient c d a b above_d above_b (rw (ep, eq) at h)))
      ]
    ]

cmp_shift : (k m n : ℕ) → nat_cmp (k + m) (k + n) ≡ nat_cmp m n
cmp_shift k m n = grind (arith, nat_tests)

-- equal quotients leave the remainders to compare
pub by_remainders : (a b c d p q r s : ℕ) → p ≡ a / b → q ≡ c / d → r ≡ a % b → s ≡ c % d → p ≡ q → nat_cmp (a * d) (c * b) ≡ nat_cmp (r * d) (s * b)
by_remainders a b c d p q r s ep eq er es e =
    let left : a * d ≡ b * p * d + r * d = ap (λ (n : ℕ). n * d) (sym (div-add-mod a b)) ∙ rw (ep, er) (omega arith) in
    let right : c * b ≡ d * q * b + s * b = ap (λ (n : ℕ). n * b) (sym (div-add-mod c d)) ∙ rw (eq, es) (omega arith) in
    let same : d * q * b ≡ b * p * d = ap (λ (n : ℕ). d * n * b) (sym e) ∙ omega arith in
    ap (λ (n : ℕ). nat_cmp n (c * b)) left ∙ ap (λ (n : ℕ). nat_cmp (b * p * d + r * d) n) (right ∙ ap (λ (n : ℕ). n + s * b) same) ∙ cmp_shift (b * p * d) (r * d) (s * b)

-- where one remainder is 0, the remainders decide
pub by_zero : (r s b d : ℕ) → 0 < b → 0 < d → (r ≡ 0) ⊎ (s ≡ 0) → nat_cmp r s ≡ nat_cmp (r * d) (s * b)
by_zero r s b d p q (inl e) =
    let gone : r * d ≡ 0 = ap (λ (n : ℕ). n * d) e ∙ zero-mul d in
    elim (eq-zero-or-pos s) [
      | inl f ↦ cmp_equal r s (e ∙ sym f) ∙ sym (cmp_equal (r * d) (s * b) (gone ∙ sym (ap (λ (n : ℕ). n * b) f ∙ zero-mul b)))
      | inr h ↦ cmp_less r s (omega arith) ∙ sym (cmp_less (r * d) (s * b) (rw gone (mul-pos h p)))
    ]
by_zero r s b d p q (inr e) =
    let gone : s * b ≡ 0 = ap (λ (n : ℕ). n * b) e ∙ zero-mul b in
    elim (eq-zero-or-pos r) [
      | inl f ↦ cmp_equal r s (f ∙ sym e) ∙ sym (cmp_equal (r * d) (s * b) (ap (λ (n : ℕ). n * d) f ∙ zero-mul d ∙ sym gone))
      | inr h ↦ cmp_greater r s (omega arith) ∙ sym (cmp_greater (r * d) (s * b) (rw gone (mul-pos h q)))
    ]
