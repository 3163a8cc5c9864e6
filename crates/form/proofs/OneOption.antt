-- A bundle of one option pays what the option pays: each step with a count of 1 leaves what it had.
use Rattle.std.proofs.Common.{◌≡◌, ℕ, ◌≤◌, List, [], ◌∷◌, arith, ℤ, pos, negsuc, unsigned_abs, refl, ap, ◌∙◌, subst, zip}
use Rattle.std.specs.Prelude.{Result, Ok, Err}
use Rattle.arithmetic.specs.Sums.{positive_part}
use Rattle.exact_num.specs.declared.misfit.Wide.{Wide}
use Rattle.exact_num.specs.Fraction.{Fraction, IsLowest, whole}
use Rattle.exact_num.specs.Fits.{add_of, mul_of, after}
use Rattle.exact_num.specs.Laws.{IsWithin}
use Rattle.exact_num.proofs.After.{after_value}
use Rattle.exact_num.proofs.Exactness.{sums_are_exact, products_are_exact}
use Rattle.exact_num.proofs.Units.{zero-add, one-mul}
use Rattle.exact_num.proofs.Values.{whole_is_lowest}
use Rattle.exact_num.specs.Steps.{fold_steps, plus_product}
use Rattle.form.specs.Steps.{add_entry, or_zero, payoff_of, bundle_payoff_of}
use Rattle.form.specs.OneOption.{OneOptionPays}

record IsGood (limit : ℕ) (f : Fraction) : Type 0 where
  lowest : IsLowest f
  within : IsWithin limit f

abbrev ok_of : Fraction → Result Fraction Wide
ok_of f = Ok f

same_ok : (limit : ℕ) (total s : Fraction) → IsGood limit total → ok_of total ≡ Ok s → IsGood limit s
same_ok limit total s g h = let e : total ≡ s = cc in subst (IsGood limit) e g

dot_is_good : (limit : ℕ) (v : List ℤ) (z : List ℕ) (total s : Fraction) → IsGood limit total → fold_steps (add_entry limit) total (zip v z) ≡ Ok s → IsGood limit s
dot_is_good limit [] z total s g h = same_ok limit total s g h
dot_is_good limit (a ∷ v) [] total s g h = same_ok limit total s g h
dot_is_good limit (a ∷ v) (x ∷ z) total s g h =
    let f = after_value (plus_product limit total (whole a) (whole (pos x))) (λ sum. fold_steps (add_entry limit) sum (zip v z)) s h in
    let m = after_value (mul_of limit (whole a) (whole (pos x))) (λ p. add_of limit total p) f.value f.first in
    let product = products_are_exact limit (whole a) (whole (pos x)) m.value (whole_is_lowest a) (whole_is_lowest (pos x)) m.first in
    let sum = sums_are_exact limit total m.value f.value g.lowest product.lowest m.rest in
    dot_is_good limit v z f.value s (record { lowest = sum.lowest; within = sum.within }) f.rest

part_size : (v : ℤ) → positive_part v ≤ unsigned_abs v
part_size (pos n) = omega arith
part_size (negsuc n) = omega arith

-- a payoff is a whole number within the limit
payoff_is_good : (limit : ℕ) (v : List ℤ) (z : List ℕ) (h : Fraction) → 1 ≤ limit → payoff_of limit v z ≡ Ok h → IsGood limit h
unfolding payoff_of
payoff_is_good limit v z h one e =
    let f = after_value (fold_steps (add_entry limit) (whole (pos 0)) (zip v z)) (λ sum. Ok (or_zero sum)) h e in
    let start : IsGood limit (whole (pos 0)) = record { lowest = whole_is_lowest (pos 0); within = record { above = omega arith; below = one } } in
    let g = dot_is_good limit v z (whole (pos 0)) f.value start f.first in
    same_ok limit (or_zero f.value) h (record { lowest = whole_is_lowest (pos (positive_part f.value.numerator)); within = record { above = omega (arith, part_size f.value.numerator, g.within.above); below = one } }) f.rest

pays_once : (limit : ℕ) (h : Fraction) → IsGood limit h → after (plus_product limit (whole (pos 0)) (whole (pos 1)) h) (λ sum. ok_of sum) ≡ Ok h
pays_once limit h g =
    ap (λ r. after (after r (λ p. add_of limit (whole (pos 0)) p)) (λ sum. ok_of sum)) (one-mul limit h g.within.above g.within.below)
    ∙ ap (λ r. after r (λ sum. ok_of sum)) (zero-add limit h g.lowest g.within.above g.within.below)

by_payoff : (limit : ℕ) (v : List ℤ) (z : List ℕ) (r : Result Fraction Wide) → 1 ≤ limit → payoff_of limit v z ≡ r
    → after (after r (λ h. plus_product limit (whole (pos 0)) (whole (pos 1)) h)) (λ sum. ok_of sum) ≡ r
by_payoff limit v z (Ok h) one e = pays_once limit h (payoff_is_good limit v z h one e)
by_payoff limit v z (Err w) one e = refl

pub one_option_pays : OneOptionPays
unfolding bundle_payoff_of
one_option_pays limit v z one = by_payoff limit v z (payoff_of limit v z) one refl
