-- The steps to whole entries: the common multiple of the denominators, and each entry times it.
use Rattle.std.proofs.Common.{◌≡◌, ℕ, ◌+◌, ◌*◌, ◌/◌, ◌^◌, ◌<◌, ◌≤◌, List, [], ◌∷◌, ◌++◌, length, get_or, map, set, take, drop, append_assoc, append-nil, arith, refl, sym, ap, ◌∙◌, ℤ, pos, negsuc, ◌*ℤ◌, ◌≤ℤ◌, ◌<ℤ◌, unsigned_abs, inl, inr, Result, Ok, Err, FitsSigned}
use mir.Syntax.{w128}
use Rattle.std.proofs.Math.Nat.{div-le_self}
use Rattle.std.specs.List.{sum, All}
use Rattle.std.proofs.lemmas.Int.{ints}
use Rattle.std.proofs.lemmas.Nat.{mul-lt}
use Rattle.std.proofs.lemmas.Bool.{cases_lt}
use Rattle.std.proofs.lemmas.Grind.{common_steps}
use Rattle.std.proofs.lemmas.List.{drop_all, length-map, take_more_set}
use Rattle.std.proofs.lemmas.List.Elements.{All-head, All-tail, All-nil, All-cons}
use Rattle.std.proofs.lemmas.List.Sums.{sum_by-cons}
use Rattle.arithmetic.specs.Gcd.{gcd}
use Rattle.arithmetic.specs.Sums.{positive_part}
use Rattle.arithmetic.proofs.Integers.{*ℤ_cancel_le, *ℤ_cancel_lt}
use Rattle.arithmetic.proofs.GcdLaws.{gcd_dvd_left, gcd_pos_left, pos_of_quotient}
use Rattle.exact_num.specs.declared.misfit.Wide.{Wide}
use Rattle.exact_num.specs.Fraction.{Fraction, IsLowest}
use Rattle.exact_num.specs.Fits.{mul_of, after}
use Rattle.exact_num.proofs.After.{after_value}
use Rattle.exact_num.proofs.Exactness.{products_are_exact}
use Rattle.exact_num.proofs.WholeNumbers.{mul_whole_is}
use Rattle.form.specs.Primitive.{IsDirection, multiple_with, common_multiple_of, multiples_of, primitive_vector, primitive_of}

-- ---- the common multiple
pub quotient_small : (p : ℤ) (g : ℕ) → FitsSigned w128 p → pos 1 ≤ℤ p → unsigned_abs p / g < 2 ^ 127
quotient_small (pos n) g fits above = omega (arith, fits.sfits, div-le_self n g)
quotient_small (negsuc n) g fits above = absurd (omega (arith, ints))

pub quotient_fits : (p : ℤ) (g : ℕ) → FitsSigned w128 p → pos 1 ≤ℤ p → FitsSigned w128 (pos (unsigned_abs p / g))
quotient_fits p g fits above = record { sfits = omega (arith, quotient_small p g fits above) }

pub multiple_positive : (limit : ℕ) (D f m : Fraction) → pos 1 ≤ℤ D.numerator → multiple_with limit D f ≡ Ok m → 1 ≤ f.denominator → pos 1 ≤ℤ m.numerator
multiple_positive limit D f m above ok one =
    let n = unsigned_abs D.numerator in
    let g = gcd n f.denominator in
    let some : 0 < n = omega (arith, ints) in
    let q : 0 < n / g = pos_of_quotient n g some (gcd_pos_left n f.denominator some) (gcd_dvd_left n f.denominator) in
    let e : m.numerator ≡ pos (n / g) *ℤ pos f.denominator = ap (λ (x : Fraction). x.numerator) (mul_whole_is limit (pos (n / g)) (pos f.denominator) m ok) in
    let e' : m.numerator ≡ pos ((n / g) * f.denominator) = e in
    let above : 0 < (n / g) * f.denominator = mul-lt 0 0 (n / g) f.denominator q one in
    omega (arith, ints)

-- ---- the sign of a product
sign_plain : (p : ℤ) (n a b c : ℕ) → 1 ≤ n → p *ℤ pos n ≡ (pos a *ℤ pos b) *ℤ pos c → pos 0 ≤ℤ p
sign_plain p n a b c one h =
    let e : p *ℤ pos n ≡ pos ((a * b) * c) = h in
    *ℤ_cancel_le n (pos 0) p one (omega (arith, ints))

above_plain : (p : ℤ) (n a b c : ℕ) → 1 ≤ a → 1 ≤ b → 1 ≤ c → p *ℤ pos n ≡ (pos a *ℤ pos b) *ℤ pos c → pos 0 <ℤ p
above_plain p n a b c one_a one_b one_c h =
    let e : p *ℤ pos n ≡ pos ((a * b) * c) = h in
    let ab : 0 < a * b = mul-lt 0 0 a b one_a one_b in
    let abc : 0 < (a * b) * c = mul-lt 0 0 (a * b) c ab one_c in
    *ℤ_cancel_lt (pos 0) p n (omega (arith, ints))

signed : (p x y : ℤ) (n c : ℕ) → 1 ≤ n → 1 ≤ c → p *ℤ pos n ≡ (x *ℤ y) *ℤ pos c → pos 0 ≤ℤ x → pos 1 ≤ℤ y → (pos 0 ≤ℤ p) × (0 < positive_part x → 0 < positive_part p)
signed p (negsuc a) y n c one_n one_c h not_below above = absurd (omega (arith, ints))
signed p (pos a) (negsuc b) n c one_n one_c h not_below above = absurd (omega (arith, ints))
signed p (pos a) (pos b) n c one_n one_c h not_below above = (sign_plain p n a b c one_n h, λ one_a. part_positive p (above_plain p n a b c one_a (omega (arith, ints)) one_c h))
  where
    part_positive : (p : ℤ) → pos 0 <ℤ p → 0 < positive_part p
    part_positive (pos k) lt = omega (arith, ints)
    part_positive (negsuc k) lt = absurd (omega (arith, ints))

pub product_signs : (limit : ℕ) (f D p : Fraction) → IsLowest f → IsLowest D → pos 0 ≤ℤ f.numerator → pos 1 ≤ℤ D.numerator → mul_of limit f D ≡ Ok p
    → (pos 0 ≤ℤ p.numerator) × (0 < positive_part f.numerator → 0 < positive_part p.numerator)
product_signs limit f D p lowest lowest_D not_below above ok =
    let exact = products_are_exact limit f D p lowest lowest_D ok in
    signed p.numerator f.numerator D.numerator (f.denominator * D.denominator) p.denominator (mul-lt 0 0 f.denominator D.denominator lowest.positive lowest_D.positive) exact.lowest.positive exact.same not_below above

-- ---- the entries times the common multiple
pub multiples_above : (limit : ℕ) (D : Fraction) (fs : List Fraction) (z : List ℕ) → IsLowest D → pos 1 ≤ℤ D.numerator
    → All IsLowest fs → All (λ (f : Fraction). pos 0 ≤ℤ f.numerator) fs → 0 < sum (map (λ (f : Fraction). positive_part f.numerator) fs)
    → multiples_of limit D fs ≡ Ok z → 0 < sum z
multiples_above limit D [] z lowest_D above lowest not_below some ok = absurd (omega arith)
multiples_above limit D (f ∷ fs) z lowest_D above lowest not_below some ok =
    let first = after_value (mul_of limit f D) (λ p. after (multiples_of limit D fs) (λ z. Ok (positive_part p.numerator ∷ z))) z ok in
    let rest = after_value (multiples_of limit D fs) (λ z. Ok (positive_part first.value.numerator ∷ z)) z first.rest in
    let part : Fraction → ℕ = λ f. positive_part f.numerator in
    let all : z ≡ positive_part first.value.numerator ∷ rest.value = let e = rest.rest in cc in
    let signs = product_signs limit f D first.value (All-head IsLowest f fs lowest) lowest_D (All-head (λ (f : Fraction). pos 0 ≤ℤ f.numerator) f fs not_below) above first.first in
    let total : sum z ≡ positive_part first.value.numerator + sum rest.value = ap sum all ∙ sum_by-cons (λ (n : ℕ). n) (positive_part first.value.numerator) rest.value in
    elim (cases_lt 0 (positive_part f.numerator)) [
      | inl here ↦ let h : 0 < positive_part first.value.numerator = signs.1 here in omega arith
      | inr none ↦
          let h : 0 < sum rest.value = multiples_above limit D fs rest.value lowest_D above (All-tail IsLowest f fs lowest)
          (All-tail (λ (f : Fraction). pos 0 ≤ℤ f.numerator) f fs not_below)
          (omega (arith, sum_by-cons (λ (n : ℕ). n) (positive_part f.numerator) (map part fs))) rest.first in
          omega arith
    ]

-- the first i entries times D are written, and the rest are 0
pub record AreMultiplesTo (limit : ℕ) (D : Fraction) (fs : List Fraction) (entries : List ℤ) (i : ℕ) : Type 0 where
  pub nine : length entries ≡ 9
  pub so_far : multiples_of limit D fs ≡ after (multiples_of limit D (drop i fs)) (λ z. Ok (map positive_part (take i entries) ++ z))
  pub zeros : (k : ℕ) → i ≤ k → get_or entries k (pos 0) ≡ pos 0
  pub not_below : (k : ℕ) → pos 0 ≤ℤ get_or entries k (pos 0)

more_after : (front more : List ℕ) (x : ℕ) (r : Result (List ℕ) Wide) → more ≡ front ++ x ∷ []
    → after (after r (λ z. Ok (x ∷ z))) (λ z. Ok (front ++ z)) ≡ after r (λ z. Ok (more ++ z))
more_after front more x (Ok z) e = ap (λ (l : List ℕ). Ok l) (sym (append_assoc front (x ∷ []) z) ∙ ap (λ (l : List ℕ). l ++ z) (sym e))
more_after front more x (Err w) e = refl

map-push : (xs : List ℤ) (x : ℤ) → map positive_part (xs ++ x ∷ []) ≡ map positive_part xs ++ positive_part x ∷ []
map-push [] x = refl
map-push (y ∷ xs) x = ap (λ (l : List ℕ). positive_part y ∷ l) (map-push xs x)

pub multiples_more : (limit : ℕ) (D : Fraction) (fs : List Fraction) (entries : List ℤ) (i : ℕ) (f p : Fraction)
    → AreMultiplesTo limit D fs entries i → drop i fs ≡ f ∷ drop (i + 1) fs → i < 9 → mul_of limit f D ≡ Ok p → pos 0 ≤ℤ p.numerator
    → AreMultiplesTo limit D fs (set entries i p.numerator) (i + 1)
multiples_more limit D fs entries i f p so here lt ok not_below = record {
  nine = grind (arith, common_steps, so.nine);
  so_far =
      so.so_far
      ∙ ap (λ (l : List Fraction). after (multiples_of limit D l) (λ z. Ok (map positive_part (take i entries) ++ z))) here
      ∙ ap (λ (r : Result Fraction Wide). after (after r (λ p. after (multiples_of limit D (drop (i + 1) fs)) (λ z. Ok (positive_part p.numerator ∷ z)))) (λ z. Ok (map positive_part (take i entries) ++ z))) ok
      ∙ more_after (map positive_part (take i entries)) (map positive_part (take (i + 1) (set entries i p.numerator))) (positive_part p.numerator) (multiples_of limit D (drop (i + 1) fs))
      (ap (map positive_part) (take_more_set entries i p.numerator (omega (arith, so.nine))) ∙ map-push (take i entries) p.numerator);
  zeros = λ k le. grind (arith, common_steps, so.zeros k);
  not_below = λ k. grind (arith, common_steps, so.not_below k, not_below);
}

pub multiples_stop : (limit : ℕ) (D : Fraction) (fs : List Fraction) (entries : List ℤ) (i : ℕ) (f : Fraction) (w : Wide)
    → AreMultiplesTo limit D fs entries i → drop i fs ≡ f ∷ drop (i + 1) fs → mul_of limit f D ≡ Err w → multiples_of limit D fs ≡ Err w
multiples_stop limit D fs entries i f w so here err =
    so.so_far
    ∙ ap (λ (l : List Fraction). after (multiples_of limit D l) (λ z. Ok (map positive_part (take i entries) ++ z))) here
    ∙ ap (λ (r : Result Fraction Wide). after (after r (λ p. after (multiples_of limit D (drop (i + 1) fs)) (λ z. Ok (positive_part p.numerator ∷ z)))) (λ z. Ok (map positive_part (take i entries) ++ z))) err

pub multiples_end : (limit : ℕ) (D : Fraction) (fs : List Fraction) (entries : List ℤ) (i : ℕ)
    → AreMultiplesTo limit D fs entries i → length fs ≤ i → multiples_of limit D fs ≡ Ok (map positive_part (take i entries))
multiples_end limit D fs entries i so le =
    so.so_far
    ∙ ap (λ (l : List Fraction). after (multiples_of limit D l) (λ z. Ok (map positive_part (take i entries) ++ z))) (drop_all i fs le)
    ∙ ap (λ (l : List ℕ). Ok l) (append-nil (map positive_part (take i entries)))

-- ---- all the steps
pub primitive_is : (limit : ℕ) (fs : List Fraction) (D : Fraction) (z : List ℕ) → Ok D ≡ common_multiple_of limit fs → Ok z ≡ multiples_of limit D fs
    → primitive_of limit fs ≡ Ok (primitive_vector z)
unfolding primitive_of
primitive_is limit fs D z h k = rw (← h, ← k) refl

pub no_multiple : (limit : ℕ) (fs : List Fraction) (w : Wide) → Err w ≡ common_multiple_of limit fs → primitive_of limit fs ≡ Err w
unfolding primitive_of
no_multiple limit fs w h = rw (← h) refl

pub no_multiples : (limit : ℕ) (fs : List Fraction) (D : Fraction) (w : Wide) → Ok D ≡ common_multiple_of limit fs → Err w ≡ multiples_of limit D fs → primitive_of limit fs ≡ Err w
unfolding primitive_of
no_multiples limit fs D w h k = rw (← h, ← k) refl

-- values of a type of exact numbers are in lowest terms
pub all_lowest : {T : Type 0} (f : T → Fraction) → ((x : T) → IsLowest (f x)) → (xs : List T) → All IsLowest (map f xs)
all_lowest f lowest [] = All-nil IsLowest
all_lowest f lowest (x ∷ xs) = All-cons IsLowest (f x) (map f xs) (lowest x) (all_lowest f lowest xs)

pub state_above : {T : Type 0} (limit : ℕ) (D : Fraction) (f : T → Fraction) (xs : List T) (entries : List ℤ) (i : ℕ) → ((x : T) → IsLowest (f x)) → IsLowest D
    → pos 1 ≤ℤ D.numerator → IsDirection (map f xs) → AreMultiplesTo limit D (map f xs) entries i → i ≡ length xs → 0 < sum (map positive_part (take (length xs) entries))
state_above limit D f xs entries i lowest lowest_D above direction so all =
    multiples_above limit D (map f xs) (map positive_part (take (length xs) entries)) lowest_D above (all_lowest f lowest xs) direction.not_below_zero direction.not_all_zero
    (multiples_end limit D (map f xs) entries i so (omega (arith, length-map xs f)) ∙ ap (λ (n : ℕ). Ok (map positive_part (take n entries))) all)
