-- The whole steps, from the rounded difference.
use Rattle.std.proofs.Common.{◌≡◌, ℕ, ◌+◌, ◌-◌, ◌*◌, ◌/◌, ◌%◌, ◌^◌, ◌<◌, ◌≤◌, min, pos, ◌*ℤ◌, ◌+ℤ◌, ◌-ℤ◌, ◌≤ℤ◌, neg_ℤ, sym, ◌∙◌, ap, arith}
use Rattle.std.proofs.Math.Nat.{div-add-mod, div-div-eq-div-mul, mod-lt}
use Rattle.std.proofs.lemmas.Int.{ints}
use Rattle.std.proofs.lemmas.Nat.{div-mul-add}
use Rattle.arithmetic.specs.Sums.{positive_part}
use Rattle.arithmetic.proofs.Parts.{part_above, positive_part_is}
use Rattle.arithmetic.proofs.Products.{products}
use Rattle.exact_num.specs.Fraction.{Fraction, over}
use Rattle.newton_step.specs.Step.{whole_steps}

-- a quotient by its three parts
pub quotient_by_parts : (times rest factor divisor q r p s : ℕ) → 1 ≤ divisor → q * divisor + r ≡ times → p * divisor + s ≡ r * factor
    → q * factor + p + (s + rest) / divisor ≡ (times * factor + rest) / divisor
quotient_by_parts times rest factor divisor q r p s some wholes part =
    let last = div-add-mod (s + rest) divisor in
    let all : (q * factor + p + (s + rest) / divisor) * divisor + (s + rest) % divisor ≡ times * factor + rest =
    omega (arith, last, ap (λ n. n * factor) wholes, part) in
    sym (div-mul-add (q * factor + p + (s + rest) / divisor) divisor ((s + rest) % divisor) (mod-lt (s + rest) some)) ∙ ap (λ n. n / divisor) all

-- between so many times a number and one more
between : (n m k : ℕ) → k * m ≤ n → n < (k + 1) * m → n / m ≡ k
between n m k down next =
    let all : k * m + (n - k * m) ≡ n = omega (arith, down) in
    sym (ap (λ i. i / m) all) ∙ div-mul-add k m (n - k * m) (omega (arith, down, next))

-- with each saturated sum at most the most that a number of 128 bits is
pub capped : (a p l first second third all most result : ℕ) → first ≡ min a (2 ^ 128 - 1) → second ≡ min (first + p) (2 ^ 128 - 1) → third ≡ min (second + l) (2 ^ 128 - 1)
    → most < 2 ^ 64 → a + p + l ≡ all → result ≡ min third most → result ≡ min all most
capped a p l first second third all most result e f g small h k = omega (arith, e, f, g, small, h, k)

steps_are : (n x y b d e f : ℕ) → n * (b * d) + f * (y * b) ≤ f * (x * d) → f * (x * d) < (n + 1) * (b * d) + f * (y * b)
    → n / e ≡ whole_steps (over (pos x) b) (over (pos y) d) (over (pos e) f)
steps_are n x y b d e f down next =
    let parts : (pos x *ℤ pos d +ℤ neg_ℤ (pos y) *ℤ pos b) *ℤ pos f ≡ pos (f * (x * d)) -ℤ pos (f * (y * b)) = omega (arith, ints, products) in
    let above = ap positive_part parts ∙ positive_part_is (f * (x * d)) (f * (y * b)) in
    let whole : (f * (x * d) - f * (y * b)) / (b * d) ≡ n = between (f * (x * d) - f * (y * b)) (b * d) n (omega (arith, down)) (omega (arith, down, next)) in
    ap (λ m. m / e) (sym whole) ∙ div-div-eq-div-mul (f * (x * d) - f * (y * b)) (b * d) e ∙ ap (λ m. m / (b * d * e)) (sym above)

pub steps_of : (value level slope : Fraction) (n x y b d e f : ℕ) → x ≡ positive_part value.numerator → y ≡ positive_part level.numerator → e ≡ positive_part slope.numerator
    → b ≡ value.denominator → d ≡ level.denominator → f ≡ slope.denominator → pos 0 ≤ℤ value.numerator → pos 0 ≤ℤ level.numerator → pos 0 ≤ℤ slope.numerator
    → n * (b * d) + f * (y * b) ≤ f * (x * d) → f * (x * d) < (n + 1) * (b * d) + f * (y * b)
    → n / e ≡ whole_steps value level slope
steps_of value level slope n x y b d e f ex ey ee eb ed ef hx hy he down next =
    let v = ap pos ex ∙ part_above value.numerator hx in
    let l = ap pos ey ∙ part_above level.numerator hy in
    let s = ap pos ee ∙ part_above slope.numerator he in
    steps_are n x y b d e f down next ∙ (λ i. whole_steps (over (v i) (eb i)) (over (l i) (ed i)) (over (s i) (ef i)))
