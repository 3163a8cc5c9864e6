-- A fill that covers a surplus owes nothing at a ray.
use Rattle.std.proofs.Common.{◌≡◌, ℕ, ◌+◌, ◌*◌, ◌≤◌, inl, inr, List, ◌∷◌, map, length, arith, ℤ, pos, ◌-ℤ◌, ◌*ℤ◌, ◌≤ℤ◌, ◌∙◌}
use Rattle.std.proofs.lemmas.Int.{ints}
use Rattle.std.proofs.lemmas.Bool.{cases_lt}
use Rattle.std.proofs.lemmas.List.{length-map}
use native.Mathlib.Nat.{mul-le-mul_left}
use borrow.Author.Differences.{up, down}
use Rattle.exact_num.specs.Fraction.{Fraction, IsDefined}
use Rattle.clearing_model.specs.Clearing.{Filled, Covers}
use Rattle.clearing_model.specs.Legs.{FilledLeg, legs_of}
use Rattle.market_laws.specs.Laws.{NothingOwedAtRays}
use Rattle.arithmetic.proofs.Products.{products}
use Rattle.arithmetic.proofs.Sums.{weigh-le}
use Rattle.market_laws.proofs.Legs.{longs, shorts, long_amount, short_amount, pay, paid, got, net_is, premium_is}
use Rattle.market_laws.proofs.Payoff.{first_size, payoff_at_ray}

-- the inequality of a cover without differences: a and c are due to the house, b and d from it
pub cover_nat : (a b c d e t f : ℕ) (u : ℤ) → (u *ℤ pos f) ≤ℤ (pos e *ℤ ((pos a -ℤ pos b) *ℤ pos t -ℤ (pos c -ℤ pos d))) → up u * f + e * (b * t + c) ≤ e * (a * t + d) + down u * f
cover_nat a b c d e t f u h =
    omega (arith, ints, products, h)

pub covers_nat : (n : ℕ) (fills : List Filled) (F : ℕ) (S : Fraction) → Covers n fills F S → (t : ℕ) (s : List ℕ) → 1 ≤ t → length s ≡ n
    → up S.numerator * (F * t) + S.denominator * (got fills * t + longs (pay (t ∷ s)) (legs_of fills)) ≤ S.denominator * (paid fills * t + shorts (pay (t ∷ s)) (legs_of fills)) + down S.numerator * (F * t)
covers_nat n fills F S h t s one len =
    let legs = legs_of fills in
    cover_nat (paid fills) (got fills) (longs (pay (t ∷ s)) legs) (shorts (pay (t ∷ s)) legs) S.denominator t (F * t) S.numerator
    (rw (premium_is fills, net_is fills (t ∷ s)) at (h t s one len))

-- what is at most a constant above, however often it is taken, is not above
ray_bound : (e b s m : ℕ) → 1 ≤ e → ((k : ℕ) → e * (k * b) ≤ e * (k * s) + m) → b ≤ s
ray_bound e b s m one h = elim (cases_lt s b) [
  | inl lt ↦ absurd (omega (arith, h (m + 1), mul-le-mul_left (e * (m + 1)) lt, mul-le-mul_left (m + 1) one))
  | inr le ↦ le
]

pub nothing_owed : (n : ℕ) (fills : List Filled) (F : ℕ) (S : Fraction) → IsDefined S → Covers n fills F S → (s : List ℕ) → length s ≡ n → longs (pay (0 ∷ s)) (legs_of fills) ≤ shorts (pay (0 ∷ s)) (legs_of fills)
nothing_owed n fills F S defined h s len =
    ray_bound e (longs (pay (0 ∷ s)) legs) (shorts (pay (0 ∷ s)) legs)
    (e * paid fills + down S.numerator * F + e * longs first legs + e * shorts first legs) defined far
  where
    e : ℕ
    e = S.denominator

    legs : List FilledLeg
    legs = legs_of fills

    first : FilledLeg → ℕ
    first leg = first_size leg.option

    far : (k : ℕ) → e * (k * longs (pay (0 ∷ s)) legs) ≤ e * (k * shorts (pay (0 ∷ s)) legs) + (e * paid fills + down S.numerator * F + e * longs first legs + e * shorts first legs)
    far k =
        let z = 1 ∷ map (λ x. k * x) s in
        let p : k * longs (pay (0 ∷ s)) legs ≤ 1 * longs (pay z) legs + longs first legs = weigh-le long_amount (pay (0 ∷ s)) (pay z) k 1 first (λ leg. omega (arith, payoff_at_ray leg.option s k)) legs in
        let q : 1 * shorts (pay z) legs ≤ k * shorts (pay (0 ∷ s)) legs + shorts first legs = weigh-le short_amount (pay z) (pay (0 ∷ s)) 1 k first (λ leg. omega (arith, payoff_at_ray leg.option s k)) legs in
        omega (arith, mul-le-mul_left e p, mul-le-mul_left e q, covers_nat n fills F S h 1 (map (λ x. k * x) s) (omega arith) (length-map s (λ x. k * x) ∙ len))

pub rays : NothingOwedAtRays
rays n fills F S defined h s len = omega (arith, ints, net_is fills (0 ∷ s), nothing_owed n fills F S defined h s len)
