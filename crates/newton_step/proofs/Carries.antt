-- A multiple of a difference of two mixed numbers, rounded down.
use Rattle.std.proofs.Common.{◌≡◌, ℕ, suc, ◌+◌, ◌*◌, ◌<◌, ◌≤◌, ap, arith, inl, inr}
use Rattle.std.proofs.Math.Nat.{mul-le-mul_left, mul-le-mul_right, lt_of_mul-lt-mul_right}
use Rattle.std.proofs.lemmas.Bool.{cases_lt}

-- the share of a part is below the whole
pub share_is_less : (n d h q r : ℕ) → n < d → 1 ≤ h → q * d + r ≡ n * h → q < h
share_is_less n d h q r part some is =
    let le : suc n * h ≤ d * h = mul-le-mul_right h part in
    let below : q * d < h * d = omega (arith, le, is, some) in
    lt_of_mul-lt-mul_right d below

-- the whole parts of a difference
pub whole_parts : (x y added taken factor : ℕ) → added < factor → taken ≤ added → y * factor + taken ≤ x * factor + added → y ≤ x
whole_parts x y added taken factor small some le =
    elim (cases_lt x y) [
      | inl lt ↦ absurd (let more : suc x * factor ≤ y * factor = mul-le-mul_right factor lt in omega (arith, small, more, le))
      | inr fine ↦ fine
    ]

pub whole_parts_borrow : (x y added taken factor : ℕ) → added < taken → y * factor + taken ≤ x * factor + added → y < x
whole_parts_borrow x y added taken factor few le =
    elim (cases_lt y x) [
      | inl fine ↦ fine
      | inr ge ↦ absurd (let more : x * factor ≤ y * factor = mul-le-mul_right factor ge in omega (arith, few, more, le))
    ]

-- what is left of a difference, and where one more is borrowed
pub joined : (n m x y added taken factor : ℕ) → n + y ≡ x → m + taken ≡ added → n * factor + m + (y * factor + taken) ≡ x * factor + added
joined n m x y added taken factor wholes parts = omega (arith, ap (λ k. k * factor) wholes, parts)

pub joined_borrow : (n m x y added taken factor : ℕ) → n + y + 1 ≡ x → m + taken ≡ added + factor → n * factor + m + (y * factor + taken) ≡ x * factor + added
joined_borrow n m x y added taken factor wholes parts = omega (arith, ap (λ k. k * factor) wholes, parts)

-- added / b is the part's share without what is left, as is taken / d; t is what is carried
module _ (xw xa yw ya b d f q r p s t : ℕ) (added : q * b + r ≡ xa * f) (taken : p * d + s ≡ ya * f) where
  left : f * ((xw * b + xa) * d) ≡ (xw * f + q) * (b * d) + r * d
  left = omega (arith, ap (λ n. n * d) added)

  right : f * ((yw * d + ya) * b) ≡ (yw * f + p) * (b * d) + s * b
  right = omega (arith, ap (λ n. n * b) taken)

  pub in_order : r * d + t * (b * d) < s * b + b * d → (yw * d + ya) * b ≤ (xw * b + xa) * d → yw * f + (p + t) ≤ xw * f + q
  in_order below le =
      elim (cases_lt (xw * f + q) (yw * f + (p + t))) [
        | inl lt ↦
            absurd (
            let more : suc (xw * f + q) * (b * d) ≤ (yw * f + (p + t)) * (b * d) = mul-le-mul_right (b * d) lt in
            let all : f * ((yw * d + ya) * b) ≤ f * ((xw * b + xa) * d) = mul-le-mul_left f le in
            omega (arith, left, right, more, all, below)
            )
        | inr fine ↦ fine
      ]

  pub is_down : (n : ℕ) → n + (yw * f + (p + t)) ≡ xw * f + q → s * b ≤ r * d + t * (b * d) → n * (b * d) + f * ((yw * d + ya) * b) ≤ f * ((xw * b + xa) * d)
  is_down n is not_below = omega (arith, left, right, ap (λ m. m * (b * d)) is, not_below)

  pub is_next : (n : ℕ) → n + (yw * f + (p + t)) ≡ xw * f + q → r * d + t * (b * d) < s * b + b * d → f * ((xw * b + xa) * d) < (n + 1) * (b * d) + f * ((yw * d + ya) * b)
  is_next n is below = omega (arith, left, right, ap (λ m. m * (b * d)) is, below)
