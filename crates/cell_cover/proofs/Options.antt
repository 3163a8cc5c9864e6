-- What an option pays, by its class and its factor.
use Rattle.std.proofs.Common.{◌≡◌, ℕ, zero, suc, Bool, true, false, List, [], ◌∷◌, map, get_or, arith, ℤ, pos, negsuc, neg_ℤ, ◌+ℤ◌, ◌-ℤ◌, ◌*ℤ◌, unsigned_abs, int_div, refl, ap, sym, ◌∙◌, subst}
use Rattle.std.specs.Int.{◌∣◌}
use Rattle.std.specs.Prelude.{if◌then◌else◌}
use Rattle.std.proofs.Math.Nat.{dvd_refl}
use Rattle.std.proofs.lemmas.Int.{ints}
use Rattle.std.proofs.lemmas.Nat.Gcd.{dvd_trans}
use Rattle.arithmetic.proofs.GcdLaws.{gcd_dvd_left, gcd_dvd_right}
use Rattle.arithmetic.proofs.Products.{products}
use Rattle.arithmetic.proofs.Quotients.{int_div-mul_cancel}
use Rattle.exact_num.specs.Rationals.{Q, ◌+Q◌, ◌*Q◌, neg_Q, 0Q, whole_Q, IsNotBelow0}
use Rattle.exact_num.proofs.Rationals.{same_of, neg_Q_is, whole_Q_is}
use Rattle.form.specs.Payoff.{dot, payoff, positive_part}
use Rattle.form.specs.Primitive.{common_divisor}
use Rattle.market_laws.proofs.Payoff.{part-scale}
use Rattle.cell_cover.specs.Classes.{divisor_of, is_turned, turned, class_of}
use Rattle.cell_cover.specs.Closed.{greater}
use Rattle.cell_cover.proofs.AlongStates.{along, along_whole, whole_sum, whole_product, natural_not_below}
use Rattle.cell_cover.proofs.Held.{pays_its_product, pays_nothing}

-- ---- the scalar product
entry_is : (t : Bool) (g : ℕ) (a : ℤ) (x : ℕ) (rest other : ℤ) → int_div a (pos g) *ℤ pos g ≡ a → rest ≡ turned t (other *ℤ pos g)
    → (a *ℤ pos x) +ℤ rest ≡ turned t (((turned t (int_div a (pos g)) *ℤ pos x) +ℤ other) *ℤ pos g)
entry_is true g a x rest other e h = omega (arith, ints, products, ap (λ w. w *ℤ pos x) e, h)
entry_is false g a x rest other e h = omega (arith, ints, products, ap (λ w. w *ℤ pos x) e, h)

nothing_is : (t : Bool) (g : ℕ) → pos 0 ≡ turned t (pos 0 *ℤ pos g)
nothing_is true g = omega (arith, ints)
nothing_is false g = omega (arith, ints)

product_is : (t : Bool) (g : ℕ) (v : List ℤ) (z : List ℕ) → g ∣ common_divisor (map unsigned_abs v) → dot v z ≡ turned t (dot (map (λ x. turned t (int_div x (pos g))) v) z *ℤ pos g)
product_is t g [] z div = nothing_is t g
product_is t g (a ∷ v) [] div = nothing_is t g
product_is t g (a ∷ v) (x ∷ z) div =
    let here : g ∣ unsigned_abs a = dvd_trans g div (gcd_dvd_left (unsigned_abs a) (common_divisor (map unsigned_abs v))) in
    let there : g ∣ common_divisor (map unsigned_abs v) = dvd_trans g div (gcd_dvd_right (unsigned_abs a) (common_divisor (map unsigned_abs v))) in
    entry_is t g a x (dot v z) (dot (map (λ x. turned t (int_div x (pos g))) v) z) (int_div-mul_cancel a g here) (product_is t g v z there)

-- ---- the payoff
other_side : (d : ℤ) → pos (positive_part (neg_ℤ d)) ≡ pos (positive_part d) -ℤ d
other_side (pos zero) = refl
other_side (pos (suc n)) = omega (arith, ints)
other_side (negsuc n) = omega (arith, ints)

-- what the class's product takes away where the factor is below 0
abbrev pub less_product : Bool → ℤ → ℤ
less_product true d = neg_ℤ d
less_product false d = pos 0

part_is : (t : Bool) (g : ℕ) (d : ℤ) → pos (positive_part (turned t (d *ℤ pos g))) ≡ pos g *ℤ (pos (positive_part d) +ℤ less_product t d)
part_is true g d =
    let e : neg_ℤ (d *ℤ pos g) ≡ neg_ℤ d *ℤ pos g = omega (arith, ints, products) in
    ap (λ w. pos (positive_part w)) e ∙ ap pos (part-scale (neg_ℤ d) g) ∙ omega (arith, ints, products, ap (λ w. pos g *ℤ w) (other_side d))
part_is false g d = ap pos (part-scale d g) ∙ omega (arith, ints)

pub pays_by_class : (v : List ℤ) (z : List ℕ) → pos (payoff v z) ≡ pos (divisor_of v) *ℤ (pos (positive_part (dot (class_of v) z)) +ℤ less_product (is_turned v) (dot (class_of v) z))
pays_by_class v z = ap (λ d. pos (positive_part d)) (product_is (is_turned v) (divisor_of v) v z (dvd_refl (divisor_of v))) ∙ part_is (is_turned v) (divisor_of v) (dot (class_of v) z)

-- ---- over the rationals
pub whole_negated : (z : ℤ) → whole_Q (neg_ℤ z) ≡ neg_Q (whole_Q z)
whole_negated z = same_of (whole_Q (neg_ℤ z)) (neg_Q (whole_Q z)) _ _ _ _ (whole_Q_is (neg_ℤ z)) (neg_Q_is (whole_Q z) z 1 (whole_Q_is z)) refl

zero_is : 0Q ≡ whole_Q (pos 0)
unfolding 0Q
zero_is = refl

greater_whole : (d : ℤ) → greater 0Q (whole_Q d) ≡ whole_Q (pos (positive_part d))
greater_whole (pos n) = pays_its_product (whole_Q (pos n)) (natural_not_below n)
greater_whole (negsuc n) = pays_nothing (whole_Q (negsuc n)) (subst IsNotBelow0 (whole_negated (negsuc n)) (natural_not_below (suc n))) ∙ zero_is

-- a class's entries at a state
abbrev pub class_entries : List ℤ → ℕ → Q
class_entries u i = whole_Q (get_or u i (pos 0))

abbrev pub turned_product : Bool → Q → Q
turned_product t d = if t then neg_Q d else 0Q

less_whole : (t : Bool) (d : ℤ) → whole_Q (less_product t d) ≡ turned_product t (whole_Q d)
unfolding 0Q
less_whole true d = whole_negated d
less_whole false d = refl

pub pays_by_class_Q : (v : List ℤ) (z : List ℕ)
    → whole_Q (pos (payoff v z)) ≡ whole_Q (pos (divisor_of v)) *Q (greater 0Q (along (class_entries (class_of v)) z) +Q turned_product (is_turned v) (along (class_entries (class_of v)) z))
pays_by_class_Q v z =
    let d = dot (class_of v) z in
    let g = pos (divisor_of v) in
    let t = is_turned v in
    ap whole_Q (pays_by_class v z)
    ∙ whole_product g (pos (positive_part d) +ℤ less_product t d)
    ∙ ap (λ s. whole_Q g *Q s) (whole_sum (pos (positive_part d)) (less_product t d) ∙ ap (λ s. s +Q whole_Q (less_product t d)) (sym (greater_whole d)) ∙ ap (λ s. greater 0Q (whole_Q d) +Q s) (less_whole t d))
    ∙ ap (λ s. whole_Q g *Q (greater 0Q s +Q turned_product t s)) (sym (along_whole (class_of v) z))
