-- Numbers, their sizes, and what is made of them.
use Rattle.std.proofs.Common.{◌≡◌, ℕ, zero, suc, ◌^◌, ◌-◌, ◌%◌, ◌<◌, ◌≤◌, ◌+◌, List, [], ◌∷◌, ◌++◌, length, take, drop, set, get_or, ◌≤ℤ◌, arith, refl, sym, ◌∙◌, ap, subst, ℤ, pos, ◌*ℤ◌, ◌-ℤ◌, negsuc, unsigned_abs, FitsSigned, to_z, of_z, w64, map, true, false}
use mir.Syntax.{w128}
use Rattle.std.proofs.Math.Facts.{Fits-nat_abs}
use Rattle.std.proofs.lemmas.Int.{ints, to_z-of_z, fits_signed_from_abs}
use Rattle.std.proofs.Math.Decide.{ℕ_discrete}
use Rattle.std.specs.Int.{int_signum}
use Rattle.std.specs.Int.RustNames.{bit_or}
use Rattle.arithmetic.specs.Gcd.{gcd}
use Rattle.arithmetic.proofs.GcdLaws.{gcd-mod, gcd-one, gcd-zero, gcd_comm}
use Rattle.std.proofs.lemmas.List.{take_more_set, take_more, take_all, get_or-map}
use Rattle.std.proofs.lemmas.Nat.{le_or_l, le_or_r}
use Rattle.run_equivalence.specs.WholePivoting.{common_of, cross_difference}
use Rattle.std.proofs.lemmas.Bool.{and_parts}
use Rattle.std.proofs.Math.Bool.{and-false}
use Rattle.exact_num.specs.Fits.{size_fits}
use Rattle.run_equivalence.specs.IntegerRows.{AreSizes, integer_row, row_size, numbers_fit, number_at, widest}
use Rattle.run_equivalence.proofs.IntegerRowSteps.{size_at_most}

pub held_64 : (z : ℤ) → unsigned_abs z ≤ widest → FitsSigned w64 z
held_64 z h = fits_signed_from_abs w64 z (omega (arith, h))

pub held_128 : (z : ℤ) → unsigned_abs z ≤ 2 ^ 127 - 1 → FitsSigned w128 z
held_128 z h = fits_signed_from_abs w128 z (omega (arith, h))

-- a number of 64 bits in 128
pub held_wider : (q : ℤ) → FitsSigned w64 q → FitsSigned w128 q
held_wider q f = let low = Fits-nat_abs {w = w64} {w' = w64} tt f in held_128 q (omega (arith, low))

pub widened : (q : ℤ) → FitsSigned w64 q → to_z w128 (of_z w128 (to_z w64 (of_z w64 q))) ≡ q
widened q f = ap (λ x. to_z w128 (of_z w128 x)) (to_z-of_z w64 q f) ∙ to_z-of_z w128 q (held_wider q f)

-- one of 128 bits in 64
pub narrowed : (q : ℤ) → FitsSigned w128 q → unsigned_abs q ≤ widest → to_z w64 (of_z w64 (to_z w128 (of_z w128 q))) ≡ q
narrowed q f low = ap (λ x. to_z w64 (of_z w64 x)) (to_z-of_z w128 q f) ∙ to_z-of_z w64 q (held_64 q low)

sign_size : (q : ℤ) → unsigned_abs (int_signum q) ≤ 1
sign_size (pos zero) = omega arith
sign_size (pos (suc n)) = omega arith
sign_size (negsuc n) = omega arith

-- a sign of 128 bits in 64
pub sign_held : (s q : ℤ) → s ≡ int_signum q → to_z w64 (of_z w64 (to_z w128 (of_z w128 s))) ≡ int_signum q
sign_held s q e =
    let low : unsigned_abs s ≤ 1 = subst (λ (z : ℤ). unsigned_abs z ≤ 1) (sym e) (sign_size q) in
    narrowed s (held_128 s (omega (arith, low))) (omega (arith, low)) ∙ e

pub no_size : (b j : ℕ) → unsigned_abs (number_at [] j) ≤ b
no_size b zero = omega arith
no_size b (suc j) = omega arith

-- the size of one number more
pub size_more : (s v : ℕ) (zs : List ℤ) (i : ℕ) → v ≡ unsigned_abs (number_at zs i) → ((k : ℕ) → k < i → unsigned_abs (number_at zs k) ≤ s) → (k : ℕ) → k < i + 1 → unsigned_abs (number_at zs k) ≤ bit_or s v
size_more s v zs i e h k p = elim (ℕ_discrete k i) [
  | yes is ↦ subst (λ j. unsigned_abs (number_at zs j) ≤ bit_or s v) (sym is) (subst (λ w. w ≤ bit_or s v) e (le_or_r s v))
  | no ne ↦ let low : unsigned_abs (number_at zs k) ≤ s = h k (omega (arith, p, ne)) in let more = le_or_l s v in omega (arith, low, more)
]

pub sizes_all : (s i : ℕ) (zs : List ℤ) → length zs ≤ i → ((k : ℕ) → k < i → unsigned_abs (number_at zs k) ≤ s) → AreSizes s zs
sizes_all s i [] over h j = no_size s j
sizes_all s i (z ∷ zs) over h zero = h 0 (omega (arith, over))
sizes_all s zero (z ∷ zs) over h (suc j) = absurd (omega (arith, over))
sizes_all s (suc i) (z ∷ zs) over h (suc j) = sizes_all s i zs (omega (arith, over)) (λ k p. h (suc k) (omega (arith, p))) j

-- with a denominator it is one of the row
pub size_made : (s d : ℕ) (zs : List ℤ) → AreSizes s zs → row_size (integer_row d zs) ≤ bit_or s d
size_made s d zs h = size_at_most (bit_or s d) d zs (le_or_r s d) (λ j. let low = h j in let more = le_or_l s d in omega (arith, low, more))

-- ---- what numbers have in common
pub gcd_of_multiple : (a b : ℕ) → a % b ≡ 0 → gcd a b ≡ b
gcd_of_multiple a b h = gcd-mod a b ∙ ap (gcd b) h ∙ gcd-zero b

-- of a number and a divisor the rest serves as well as the number
pub gcd_of_rest : (a b : ℕ) → gcd (a % b) b ≡ gcd a b
gcd_of_rest a b = gcd_comm (a % b) b ∙ sym (gcd-mod a b)

pub common_of_one : (zs : List ℤ) → common_of 1 zs ≡ 1
unfolding common_of
common_of_one [] = refl
common_of_one (z ∷ zs) = ap (λ g. common_of g zs) (gcd-one (unsigned_abs z)) ∙ common_of_one zs

pub common_more : (d : ℕ) (zs : List ℤ) (i : ℕ) (e : ℤ) → i < length zs → common_of d (drop i zs) ≡ common_of (gcd (unsigned_abs (get_or zs i e)) d) (drop (i + 1) zs)
unfolding common_of
common_more d [] i e h = absurd (omega (arith, h))
common_more d (z ∷ zs) zero e h = refl
common_more d (z ∷ zs) (suc i) e h =
    let next : i + 1 + 1 ≡ suc i + 1 = omega arith in
    let same : suc (i + 1) ≡ suc i + 1 = omega arith in
    common_more d zs i e (omega (arith, h)) ∙ ap (λ k. common_of (gcd (unsigned_abs (get_or zs i e)) d) (drop k (z ∷ zs))) same

pub common_end : (d : ℕ) (zs : List ℤ) (i : ℕ) → length zs ≤ i → d ≡ common_of d (drop i zs)
unfolding common_of
common_end d [] zero h = refl
common_end d [] (suc i) h = refl
common_end d (z ∷ zs) zero h = absurd (omega (arith, h))
common_end d (z ∷ zs) (suc i) h = common_end d zs i (omega (arith, h))

-- ---- numbers written one after another
pub written_more : {A : Type 0} (w out : List A) (i : ℕ) (v d : A) → i < length out → i < length w → take i out ≡ take i w → v ≡ get_or w i d → take (i + 1) (set out i v) ≡ take (i + 1) w
written_more {A} w out i v d p q h e =
    take_more_set out i v p ∙ ap (λ (xs : List A). xs ++ v ∷ []) h ∙ ap (λ (z : A). take i w ++ z ∷ []) e ∙ sym (take_more w i d q)

pub written_all : {A : Type 0} (w out : List A) (i : ℕ) → length out ≤ i → length w ≤ i → take i out ≡ take i w → out ≡ w
written_all w out i p q h = sym (take_all i out p) ∙ h ∙ take_all i w q

above_is : (p : ℤ) → pos 0 ≤ℤ p → pos (unsigned_abs p) ≡ p
above_is p h = omega (arith, ints, h)

-- first the multiples, and then the difference
pub mixed_after : (p f : ℤ) (zs qs : List ℤ) → pos 0 ≤ℤ p → cross_difference 1 f (map (λ z. z *ℤ p) zs) qs ≡ cross_difference (unsigned_abs p) f zs qs
unfolding cross_difference
mixed_after p f [] qs h = refl
mixed_after p f (z ∷ zs) [] h = refl
mixed_after p f (z ∷ zs) (q ∷ qs) h = λ i. (at_once i -ℤ (f *ℤ q)) ∷ mixed_after p f zs qs h i
  where
    once : (x : ℤ) → x *ℤ pos 1 ≡ x
    once x = omega (arith, ints)

    at_once : (z *ℤ p) *ℤ pos 1 ≡ z *ℤ pos (unsigned_abs p)
    at_once = once (z *ℤ p) ∙ ap (λ (w : ℤ). z *ℤ w) (sym (above_is p h))

pub times_one : (p : ℤ) (zs : List ℤ) → p ≡ pos 1 → zs ≡ map (λ z. z *ℤ p) zs
times_one p [] e = refl
times_one p (z ∷ zs) e = λ i. (once i ∷ times_one p zs e i)
  where
    once : z ≡ z *ℤ p
    once = omega (arith, ints) ∙ ap (λ (w : ℤ). z *ℤ w) (sym e)

-- ---- numbers that are written as long as they fit
fits_next : (b : ℕ) (w : List ℤ) (i : ℕ) → i < length w → numbers_fit b (take i w) ≡ true → size_fits b (get_or w i (pos 0)) ≡ true → numbers_fit b (take (suc i) w) ≡ true
unfolding numbers_fit
fits_next b [] i h k t = absurd (omega (arith, h))
fits_next b (z ∷ w) zero h k t = rw t refl
fits_next b (z ∷ w) (suc i) h k t =
    let parts = and_parts (size_fits b z) (numbers_fit b (take i w)) k in
    let first = parts.0 in
    let later = fits_next b w i (omega (arith, h)) parts.1 t in
    rw (first, later) refl

pub fits_more : (b : ℕ) (w : List ℤ) (i : ℕ) → i < length w → numbers_fit b (take i w) ≡ true → size_fits b (get_or w i (pos 0)) ≡ true → numbers_fit b (take (i + 1) w) ≡ true
fits_more b w i h k t = let next : i + 1 ≡ suc i = omega arith in subst (λ n. numbers_fit b (take n w) ≡ true) (sym next) (fits_next b w i h k t)

pub fits_stop : (b : ℕ) (w : List ℤ) (i : ℕ) → i < length w → size_fits b (get_or w i (pos 0)) ≡ false → numbers_fit b w ≡ false
unfolding numbers_fit
fits_stop b [] i h t = absurd (omega (arith, h))
fits_stop b (z ∷ w) zero h t = rw t refl
fits_stop b (z ∷ w) (suc i) h t = let later = fits_stop b w i (omega (arith, h)) t in rw later (and-false (size_fits b z))

pub at_map : (g : ℤ → ℤ) (xs : List ℤ) (i : ℕ) → i < length xs → g (get_or xs i (pos 0)) ≡ get_or (map g xs) i (pos 0)
at_map g xs i h = sym (get_or-map g xs i (pos 0) (pos 0) h)

pub fits_empty : (b : ℕ) → numbers_fit b [] ≡ true
unfolding numbers_fit
fits_empty b = refl
