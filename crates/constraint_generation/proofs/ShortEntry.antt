-- The entry of an order in the row of a state, where its numbers are of 32 bits: each step fits.
use Rattle.std.proofs.Common.{◌≡◌, ℕ, ◌≤◌, ◌-◌, ◌^◌, List, [], ◌∷◌, get_or, ℤ, pos, ◌*ℤ◌, ◌-ℤ◌, ◌+ℤ◌, neg_ℤ, unsigned_abs, FitsSigned, to_z, of_z, Ok, true, arith, refl, sym, ap, subst, ◌∙◌}
use Rattle.std.proofs.Math.Nat.{mul-le-mul}
use Rattle.std.proofs.lemmas.Bool.{le-leb}
use Rattle.std.proofs.lemmas.Int.{ints, fits_signed_from_abs, to_z-of_z, unsigned_abs-mul}
use mir.Syntax.{w128}
use Rattle.exact_num.specs.Fraction.{whole}
use Rattle.exact_num.specs.Fits.{size_fits, mul_of, sub_of}
use Rattle.exact_num.proofs.WholeNumbers.{whole_fits, mul-wholes, add-wholes}
use Rattle.form.specs.declared.orders.Order.{Order}
use Rattle.form.specs.declared.states.State.{State}
use Rattle.form.specs.States.{vector_of}
use Rattle.form.specs.Vector.{scale_of}
use Rattle.form.proofs.DotSteps.{get_or-vector_of}
use Rattle.master_program.specs.Master.{payoff_at_zero, signed_for}
use Rattle.constraint_generation.specs.Entry.{entry_over}

pub short_times : (t f : ℤ) → unsigned_abs t ≤ 2 ^ 31 → unsigned_abs f ≤ 2 ^ 31 → unsigned_abs (t *ℤ f) ≤ 2 ^ 62
short_times t f p q = subst (λ w. w ≤ 2 ^ 62) (sym (unsigned_abs-mul t f)) (mul-le-mul p q)

pub short_less : (v p : ℤ) → unsigned_abs v ≤ 2 ^ 31 → unsigned_abs p ≤ 2 ^ 62 → unsigned_abs (v -ℤ p) ≤ 2 ^ 63 - 1
short_less v p h k = omega (arith, ints, h, k)

mul_short : (limit : ℕ) (t f : ℤ) → 2 ^ 63 - 1 ≤ limit → unsigned_abs t ≤ 2 ^ 31 → unsigned_abs f ≤ 2 ^ 31 → mul_of limit (whole t) (whole f) ≡ Ok (whole (t *ℤ f))
mul_short limit t f room p q =
    let fits : size_fits limit (t *ℤ f) ≡ true = le-leb _ limit (omega (arith, short_times t f p q)) in
    mul-wholes limit t f (omega arith) ∙ rw fits refl

sub_short : (limit : ℕ) (v p : ℤ) → 2 ^ 63 - 1 ≤ limit → unsigned_abs v ≤ 2 ^ 31 → unsigned_abs p ≤ 2 ^ 62 → sub_of limit (whole v) (whole p) ≡ Ok (whole (v -ℤ p))
sub_short limit v p room h k =
    let fits : size_fits limit (v +ℤ neg_ℤ p) ≡ true = le-leb _ limit (omega (arith, ints, h, k)) in
    add-wholes limit v (neg_ℤ p) (omega arith) (omega arith) (omega (arith, ints, k)) ∙ rw fits refl

pub short_entry_is : (limit : ℕ) (z : List ℕ) (order : Order) (v : ℤ) → 2 ^ 63 - 1 ≤ limit → unsigned_abs v ≤ 2 ^ 31 → scale_of z ≤ 2 ^ 31 → unsigned_abs (payoff_at_zero order) ≤ 2 ^ 31
    → entry_over limit z order v ≡ Ok (signed_for order.side (whole (v -ℤ (pos (scale_of z) *ℤ payoff_at_zero order))))
short_entry_is limit z order v room owed scale first =
    let t = pos (scale_of z) in
    let f = payoff_at_zero order in
    rw (
      whole_fits limit t (omega arith),
      whole_fits limit f (omega arith),
      mul_short limit t f room scale first,
      whole_fits limit v (omega arith),
      sub_short limit v (t *ℤ f) room owed (short_times t f scale first),
    ) refl

-- and what is read of it in 128 bits
pub short_difference_read : (v t f : ℤ) → FitsSigned w128 v → FitsSigned w128 t → FitsSigned w128 f → unsigned_abs v ≤ 2 ^ 31 → unsigned_abs t ≤ 2 ^ 31 → unsigned_abs f ≤ 2 ^ 31
    → to_z w128 (of_z w128 (to_z w128 (of_z w128 v) -ℤ to_z w128 (of_z w128 (to_z w128 (of_z w128 t) *ℤ to_z w128 (of_z w128 f))))) ≡ v -ℤ (t *ℤ f)
short_difference_read v t f fits_v fits_t fits_f owed scale first =
    let product = short_times t f scale first in
    let fits_p : FitsSigned w128 (t *ℤ f) = fits_signed_from_abs w128 (t *ℤ f) (omega (arith, product)) in
    let fits_d : FitsSigned w128 (v -ℤ (t *ℤ f)) = fits_signed_from_abs w128 _ (omega (arith, short_less v (t *ℤ f) owed product)) in
    rw (to_z-of_z w128 v fits_v, to_z-of_z w128 t fits_t, to_z-of_z w128 f fits_f, to_z-of_z w128 (t *ℤ f) fits_p) (to_z-of_z w128 _ fits_d)

-- the t of a state as it is written
pub scale_is : (state : State) → get_or state.entries 0 (pos 0) ≡ pos (scale_of (vector_of state))
scale_is state = sym (get_or-vector_of state 0 (omega (arith, state.count_in_range.0))) ∙ ap pos (first (vector_of state))
  where
    first : (zs : List ℕ) → get_or zs 0 0 ≡ scale_of zs
    first [] = refl
    first (t ∷ zs) = refl
