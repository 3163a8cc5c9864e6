-- The greatest common divisor of the entries of a vector.
use Rattle.std.proofs.Common.{◌≡◌, ℕ, zero, suc, ◌+◌, ◌*◌, ◌/◌, ◌<◌, ◌≤◌, List, [], ◌∷◌, map, drop, get_or, length, take, add-one, arith, refl, sym, ap, ◌∙◌, ℤ, pos, negsuc, ◌≤ℤ◌, inl, inr, unsigned_abs}
use Rattle.std.specs.List.{sum}
use Rattle.std.specs.Int.{◌∣◌}
use Rattle.std.proofs.Math.Seq.{drop-cons}
use Rattle.std.proofs.Math.Nat.{zero-div, dvd_refl, mul-zero, mul-one, mul-div_cancel', eq_of_mul-eq-mul_left}
use Rattle.std.proofs.lemmas.Int.{ints}
use Rattle.std.proofs.lemmas.Bool.{cases_lt}
use Rattle.std.proofs.lemmas.List.{drop_all, get_or-map, get_or_past, length-map}
use Rattle.std.proofs.lemmas.List.Sums.{sum_by-cons}
use Rattle.std.proofs.lemmas.Nat.Gcd.{dvd_trans}
use Rattle.arithmetic.specs.Gcd.{gcd}
use Rattle.arithmetic.specs.Sums.{positive_part}
use Rattle.arithmetic.proofs.GcdLaws.{gcd_assoc, gcd_dvd_left, gcd_dvd_right, gcd-zero, gcd_pos_left, gcd_pos_right, pos_of_quotient, gcd-mul}
use Rattle.form.specs.Primitive.{common_divisor, primitive_vector, PrimitiveVectorsArePrimitive}

-- one entry more
pub divisor_more : (z : List ℕ) (i g : ℕ) → i < length z → gcd g (common_divisor (drop i z)) ≡ gcd (gcd g (get_or z i 0)) (common_divisor (drop (i + 1) z))
divisor_more z i g lt =
    rw add-one (ap (λ (ws : List ℕ). gcd g (common_divisor ws)) (drop-cons z i 0 lt) ∙ sym (gcd_assoc g (get_or z i 0) (common_divisor (drop (suc i) z))))

pub divisor_end : (z : List ℕ) (i g : ℕ) → length z ≤ i → gcd g (common_divisor (drop i z)) ≡ g
divisor_end z i g le = ap (λ (ws : List ℕ). gcd g (common_divisor ws)) (drop_all i z le) ∙ gcd-zero g

-- some entry is above 0: so is the divisor
pub divisor_above : (z : List ℕ) → 0 < sum z → 0 < common_divisor z
divisor_above [] some = absurd (omega arith)
divisor_above (x ∷ z) some = elim (cases_lt 0 x) [
  | inl here ↦ gcd_pos_left x (common_divisor z) here
  | inr none ↦ gcd_pos_right x (common_divisor z) (divisor_above z (omega (arith, sum_by-cons (λ (n : ℕ). n) x z)))
]

-- what divides the common divisor leaves some entry above 0
pub quotients_above : (g : ℕ) (z : List ℕ) → 0 < g → g ∣ common_divisor z → 0 < sum z → 0 < sum (map (λ x. x / g) z)
quotients_above g [] one div some = absurd (omega arith)
quotients_above g (x ∷ z) one div some = elim (cases_lt 0 x) [
  | inl here ↦
      let part : 0 < x / g = pos_of_quotient x g here one (dvd_trans g div (gcd_dvd_left x (common_divisor z))) in
      omega (arith, sum_by-cons (λ (n : ℕ). n) (x / g) (map (λ (n : ℕ). n / g) z))
  | inr none ↦
      let part : 0 < sum (map (λ x. x / g) z) = quotients_above g z one (dvd_trans g div (gcd_dvd_right x (common_divisor z))) (omega (arith, sum_by-cons (λ (n : ℕ). n) x z)) in
      omega (arith, sum_by-cons (λ (n : ℕ). n) (x / g) (map (λ (n : ℕ). n / g) z))
]

-- ---- the entries of a state, divided by g
abbrev pub quotient : ℕ → ℤ → ℤ
quotient g x = pos (positive_part x / g)

pub quotients_taken : (g count : ℕ) (xs : List ℤ) → map positive_part (take count (map (quotient g) xs)) ≡ map (λ x. x / g) (map positive_part (take count xs))
quotients_taken g zero xs = refl
quotients_taken g (suc count) [] = refl
quotients_taken g (suc count) (x ∷ xs) = ap (λ (z : List ℕ). (positive_part x / g) ∷ z) (quotients_taken g count xs)

pub quotient_at : (g : ℕ) (xs : List ℤ) (i : ℕ) → get_or (map (quotient g) xs) i (pos 0) ≡ quotient g (get_or xs i (pos 0))
quotient_at g xs i = elim (cases_lt i (length xs)) [
  | inl within ↦ get_or-map (quotient g) xs i (pos 0) (pos 0) within
  | inr past ↦
      get_or_past (map (quotient g) xs) i (pos 0) (omega (arith, length-map xs (quotient g)))
      ∙ sym (ap (quotient g) (get_or_past xs i (pos 0) past) ∙ ap pos (zero-div g))
]

pub size_is_part : (x : ℤ) → pos 0 ≤ℤ x → unsigned_abs x ≡ positive_part x
size_is_part (pos n) h = refl
size_is_part (negsuc n) h = absurd (omega (arith, ints))

-- ---- the primitive vector
divisor-mul : (k : ℕ) (z : List ℕ) → 0 < k → common_divisor (map (λ x. k * x) z) ≡ k * common_divisor z
divisor-mul k [] some = sym (mul-zero k)
divisor-mul k (x ∷ z) some = ap (gcd (k * x)) (divisor-mul k z some) ∙ gcd-mul k x (common_divisor z) some

restored : (g : ℕ) (z : List ℕ) → g ∣ common_divisor z → z ≡ map (λ x. g * x) (map (λ x. x / g) z)
restored g [] div = refl
restored g (x ∷ z) div =
    let here : x ≡ g * (x / g) = sym (mul-div_cancel' g (dvd_trans g div (gcd_dvd_left x (common_divisor z)))) in
    let there : z ≡ map (λ x. g * x) (map (λ x. x / g) z) = restored g z (dvd_trans g div (gcd_dvd_right x (common_divisor z))) in
    cc

pub primitive_vectors_are_primitive : PrimitiveVectorsArePrimitive
primitive_vectors_are_primitive n z state =
    let g = common_divisor z in
    let y = primitive_vector z in
    let some : 0 < g = divisor_above z state.1 in
    let multiple : z ≡ map (λ x. g * x) y = restored g z (dvd_refl g) in
    let same : g * common_divisor y ≡ g * 1 = sym (divisor-mul g y some) ∙ ap common_divisor (sym multiple) ∙ sym (mul-one g) in
    record {
      state = (length-map z (λ x. x / g) ∙ state.0, quotients_above g z some (dvd_refl g) state.1);
      no_common_divisor = eq_of_mul-eq-mul_left g some _ _ same;
      factor_positive = some;
      multiple = multiple;
    }
