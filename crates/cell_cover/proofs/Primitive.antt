-- The class of an option is primitive, and the option is a multiple of it.
use Rattle.std.proofs.Common.{◌≡◌, ℕ, zero, suc, ◌/◌, ◌<◌, Bool, true, false, List, [], ◌∷◌, length, map, arith, ℤ, pos, negsuc, neg_ℤ, ◌*ℤ◌, unsigned_abs, int_div, refl, ap, ◌∙◌}
use Rattle.std.specs.Int.{◌∣◌}
use Rattle.std.specs.List.{sum}
use Rattle.std.proofs.Math.Nat.{dvd_refl, zero-div, pos_of_dvd_of_pos}
use Rattle.std.proofs.lemmas.Int.{ints}
use Rattle.std.proofs.lemmas.Nat.Gcd.{dvd_trans}
use Rattle.arithmetic.proofs.GcdLaws.{gcd_dvd_left, gcd_dvd_right, pos_of_quotient}
use Rattle.arithmetic.proofs.Integers.{unsigned_abs-neg}
use Rattle.arithmetic.proofs.Products.{products}
use Rattle.arithmetic.proofs.Quotients.{int_div-mul_cancel, unsigned_abs-int_div}
use Rattle.form.specs.Primitive.{common_divisor, primitive_vector}
use Rattle.form.specs.Vector.{weights_of}
use Rattle.form.proofs.Divisors.{primitive_vectors_are_primitive}
use Rattle.cell_cover.specs.Classes.{divisor_of, begins_below, is_turned, turned}
use Rattle.cell_cover.specs.Laws.{ClassesArePrimitive}

abbrev sizes : List ℤ → List ℕ
sizes v = map unsigned_abs v

abbrev entry : Bool → ℕ → ℤ → ℤ
entry t g x = turned t (int_div x (pos g))

first_divides : (g : ℕ) (x : ℤ) (v : List ℤ) → g ∣ common_divisor (sizes (x ∷ v)) → g ∣ unsigned_abs x
first_divides g x v div = dvd_trans g div (gcd_dvd_left (unsigned_abs x) (common_divisor (sizes v)))

rest_divides : (g : ℕ) (x : ℤ) (v : List ℤ) → g ∣ common_divisor (sizes (x ∷ v)) → g ∣ common_divisor (sizes v)
rest_divides g x v div = dvd_trans g div (gcd_dvd_right (unsigned_abs x) (common_divisor (sizes v)))

-- ---- the multiple
restored : (t : Bool) (g : ℕ) (x : ℤ) → g ∣ unsigned_abs x → x ≡ turned t (pos g) *ℤ entry t g x
restored true g x div = omega (arith, ints, products, int_div-mul_cancel x g div)
restored false g x div = omega (arith, ints, products, int_div-mul_cancel x g div)

multiple_is : (t : Bool) (g : ℕ) (v : List ℤ) → g ∣ common_divisor (sizes v) → v ≡ map (λ x. turned t (pos g) *ℤ x) (map (entry t g) v)
multiple_is t g [] div = refl
multiple_is t g (x ∷ v) div =
    ap (λ y. y ∷ v) (restored t g x (first_divides g x v div)) ∙ ap (λ w. (turned t (pos g) *ℤ entry t g x) ∷ w) (multiple_is t g v (rest_divides g x v div))

-- ---- no common divisor
size_turned : (t : Bool) (q : ℤ) → unsigned_abs (turned t q) ≡ unsigned_abs q
size_turned true q = unsigned_abs-neg q
size_turned false q = refl

sizes_are : (t : Bool) (g : ℕ) (v : List ℤ) → sizes (map (entry t g) v) ≡ map (λ n. n / g) (sizes v)
sizes_are t g [] = refl
sizes_are t g (x ∷ v) = ap (λ n. n ∷ sizes (map (entry t g) v)) (size_turned t (int_div x (pos g)) ∙ unsigned_abs-int_div x g) ∙ ap (λ ns. (unsigned_abs x / g) ∷ ns) (sizes_are t g v)

no_divisor : (z : List ℕ) → 0 < sum z → common_divisor (primitive_vector z) ≡ 1
no_divisor [] some = absurd (omega arith)
no_divisor (x ∷ z) some = (primitive_vectors_are_primitive (length z) (x ∷ z) (omega arith, some)).no_common_divisor

-- ---- the first weight
above : (q : ℕ) (rest : List ℤ) → 0 < q → begins_below (pos q ∷ rest) ≡ false
above zero rest some = absurd (omega arith)
above (suc q) rest some = refl

quotient_above : (g n : ℕ) → g ∣ suc n → 0 < suc n / g
quotient_above g n div = let some : 0 < suc n = omega arith in pos_of_quotient (suc n) g some (pos_of_dvd_of_pos div some) div

first_is : (t : Bool) (g : ℕ) (ws : List ℤ) → g ∣ common_divisor (sizes ws) → begins_below ws ≡ t → begins_below (map (entry t g) ws) ≡ false
first_is t g [] div is = refl
first_is true g (pos zero ∷ ws) div is = ap (λ q. begins_below (neg_ℤ (pos q) ∷ map (entry true g) ws)) (zero-div g) ∙ first_is true g ws (rest_divides g (pos zero) ws div) is
first_is false g (pos zero ∷ ws) div is = ap (λ q. begins_below (pos q ∷ map (entry false g) ws)) (zero-div g) ∙ first_is false g ws (rest_divides g (pos zero) ws div) is
first_is true g (pos (suc n) ∷ ws) div is = absurd (cc)
first_is false g (pos (suc n) ∷ ws) div is = above (suc n / g) (map (entry false g) ws) (quotient_above g n (first_divides g (pos (suc n)) ws div))
first_is true g (negsuc n ∷ ws) div is =
    let e : neg_ℤ (neg_ℤ (pos (suc n / g))) ≡ pos (suc n / g) = omega (arith, ints) in
    ap (λ q. begins_below (q ∷ map (entry true g) ws)) e ∙ above (suc n / g) (map (entry true g) ws) (quotient_above g n (first_divides g (negsuc n) ws div))
first_is false g (negsuc n ∷ ws) div is = absurd (cc)

weights_divide : (v : List ℤ) → divisor_of v ∣ common_divisor (sizes (weights_of v))
weights_divide [] = dvd_refl 0
weights_divide (x ∷ ws) = rest_divides (divisor_of (x ∷ ws)) x ws (dvd_refl (divisor_of (x ∷ ws)))

weights_are : (f : ℤ → ℤ) (v : List ℤ) → weights_of (map f v) ≡ map f (weights_of v)
weights_are f [] = refl
weights_are f (x ∷ ws) = refl

pub classes_are_primitive : ClassesArePrimitive
classes_are_primitive v =
    let t = is_turned v in
    let g = divisor_of v in
    record {
      multiple = multiple_is t g v (dvd_refl g);
      primitive = λ some. ap common_divisor (sizes_are t g v) ∙ no_divisor (sizes v) some;
      first_above = ap begins_below (weights_are (entry t g) v) ∙ first_is t g (weights_of v) (weights_divide v) refl;
    }
