-- The steps of a share bit by bit.
use Rattle.std.proofs.Common.{◌≡◌, ℕ, suc, ◌+◌, ◌-◌, ◌*◌, ◌/◌, ◌%◌, ◌^◌, ◌<◌, ◌≤◌, sym, ◌∙◌, ap, arith}
use Rattle.std.proofs.Math.Nat.{le-div_iff_mul-le, div-add-mod, div-div-eq-div-mul, pow-suc, mul-le-mul_left, div-le_self, div-one, mod-lt}
use Rattle.std.proofs.lemmas.Nat.{div-mul-add, mod-mul-add}

-- a quotient that fits in a share fits
pub quotient_fits : (x y d m top : ℕ) → 0 < d → (x + y) * d ≤ m → m / d < top → x + y < top
quotient_fits x y d m top p h f = let le : x + y ≤ m / d = (le-div_iff_mul-le p).1 h in omega arith

-- one more bit of h
pub next_bit : (h bits : ℕ) → 0 < bits → h / 2 ^ (bits - 1) ≡ h / 2 ^ bits + h / 2 ^ bits + h / 2 ^ (bits - 1) % 2
next_bit h bits p =
    let e : bits ≡ suc (bits - 1) = omega arith in
    let half : h / 2 ^ (bits - 1) / 2 ≡ h / 2 ^ bits = div-div-eq-div-mul h (2 ^ (bits - 1)) 2 ∙ ap (λ n. h / n) (sym (pow-suc 2 (bits - 1))) ∙ ap (λ n. h / 2 ^ n) (sym e) in
    omega (arith, div-add-mod (h / 2 ^ (bits - 1)) 2, half)

-- no share of a part of h is above that of h
pub below_share : (n h bits : ℕ) → n * (h / 2 ^ bits) ≤ n * h
below_share n h bits = mul-le-mul_left n (div-le_self h (2 ^ bits))

-- ---- the double
pub double_fits : (n h bits q r d top : ℕ) → 0 < d → 0 < bits → q * d + r ≡ n * (h / 2 ^ bits) → n * h / d < top → q + q < top
double_fits n h bits q r d top p b e f =
    let more : n * (h / 2 ^ bits + h / 2 ^ bits) ≤ n * (h / 2 ^ (bits - 1)) = mul-le-mul_left n (omega (arith, next_bit h bits b)) in
    quotient_fits q q d (n * h) top p (omega (arith, e, more, below_share n h (bits - 1))) f

-- the bit is not set
pub double_is : (n h bits v w : ℕ) → 0 < bits → v ≡ n * (h / 2 ^ bits) → w ≡ v + v → h / 2 ^ (bits - 1) % 2 < 1 → w ≡ n * (h / 2 ^ (bits - 1))
double_is n h bits v w b e f z =
    let even : h / 2 ^ (bits - 1) ≡ h / 2 ^ bits + h / 2 ^ bits = omega (arith, next_bit h bits b, z) in
    rw even (omega (arith, e, f))

-- the bit is set
pub added_is : (n h bits v w x : ℕ) → 0 < bits → v ≡ n * (h / 2 ^ bits) → w ≡ v + v → x ≡ w + n → h / 2 ^ (bits - 1) % 2 ≡ 1 → x ≡ n * (h / 2 ^ (bits - 1))
added_is n h bits v w x b e f g o =
    let odd : h / 2 ^ (bits - 1) ≡ h / 2 ^ bits + h / 2 ^ bits + 1 = omega (arith, next_bit h bits b, o) in
    rw odd (omega (arith, e, f, g))

pub added_fits : (n h bits v w q r p s d top : ℕ) → 0 < d → 0 < bits → v ≡ n * (h / 2 ^ bits) → w ≡ v + v → w ≡ q * d + r → n ≡ p * d + s
    → h / 2 ^ (bits - 1) % 2 ≡ 1 → n * h / d < top → q + p < top
added_fits n h bits v w q r p s d top above b e f g k o t =
    let all : w + n ≡ n * (h / 2 ^ (bits - 1)) = added_is n h bits v w (w + n) b e f (omega arith) o in
    quotient_fits q p d (n * h) top above (omega (arith, all, g, k, below_share n h (bits - 1))) t

-- ---- the end
pub share_quotient : (n h bits q r d : ℕ) → bits ≡ 0 → r < d → q * d + r ≡ n * (h / 2 ^ bits) → q ≡ n * h / d
share_quotient n h bits q r d z lt e =
    let all : q * d + r ≡ n * h = e ∙ ap (λ b. n * (h / 2 ^ b)) z ∙ ap (λ m. n * m) (div-one h) in
    sym (div-mul-add q d r lt) ∙ ap (λ m. m / d) all

pub share_rest : (n h bits q r d : ℕ) → bits ≡ 0 → r < d → q * d + r ≡ n * (h / 2 ^ bits) → r ≡ (n * h) % d
share_rest n h bits q r d z lt e =
    let all : q * d + r ≡ n * h = e ∙ ap (λ b. n * (h / 2 ^ b)) z ∙ ap (λ m. n * m) (div-one h) in
    sym (mod-mul-add q d r lt) ∙ ap (λ m. m % d) all

-- a number from its quotient and remainder
pub divided_is : (n d q r : ℕ) → q ≡ n / d → r ≡ n % d → q * d + r ≡ n
divided_is n d q r eq er = rw (eq, er) (omega (arith, div-add-mod n d))

-- the bit is 0 where it is not 1
pub bit_off : (n : ℕ) → (n % 2 ≡ 1 → ⊥) → n % 2 < 1
bit_off n h = let small : n % 2 < 2 = mod-lt n (omega arith) in omega (arith, h, small)
