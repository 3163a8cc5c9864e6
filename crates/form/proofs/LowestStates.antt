-- A state, divided by a number that divides each of its entries, is a state.
use Rattle.std.proofs.Common.{◌≡◌, ℕ, ◌/◌, ◌^◌, ◌<◌, ◌≤◌, List, get_or, map, take, arith, subst, sym, ap, ◌∙◌, ℤ, pos, negsuc, ◌≤ℤ◌, FitsSigned}
use mir.Syntax.{w128}
use Rattle.std.specs.List.{sum}
use Rattle.std.proofs.Math.Nat.{div-le_self, zero-div, dvd_refl}
use Rattle.std.proofs.lemmas.Int.{ints}
use Rattle.arithmetic.specs.Sums.{positive_part}
use Rattle.form.specs.declared.states.State.{State}
use Rattle.form.specs.States.{vector_of}
use Rattle.form.specs.Primitive.{common_divisor, primitive_vector}
use Rattle.form.proofs.Divisors.{quotient, quotient_at, quotients_taken, quotients_above, divisor_above}

-- these are the entries of a state, divided by g
abbrev pub AreQuotients : ℕ → State → List ℤ → Type 0
AreQuotients g state entries = entries ≡ map (quotient g) state.entries

pub lowest_vector : (g : ℕ) (state : State) (entries : List ℤ) → AreQuotients g state entries → g ≡ common_divisor (vector_of state)
    → map positive_part (take state.count entries) ≡ primitive_vector (vector_of state)
lowest_vector g state entries are is =
    ap (λ (xs : List ℤ). map positive_part (take state.count xs)) are ∙ quotients_taken g state.count state.entries
    ∙ ap (λ (d : ℕ). map (λ x. x / d) (vector_of state)) is

pub lowest_zeros : (g : ℕ) (state : State) (entries : List ℤ) → AreQuotients g state entries → (i : ℕ) → state.count ≤ i → get_or entries i (pos 0) ≡ pos 0
lowest_zeros g state entries are i past =
    ap (λ (xs : List ℤ). get_or xs i (pos 0)) are ∙ quotient_at g state.entries i ∙ ap (quotient g) (state.zero_past_count i past) ∙ ap pos (zero-div g)

pub lowest_not_below : (g : ℕ) (state : State) (entries : List ℤ) → AreQuotients g state entries → (i : ℕ) → pos 0 ≤ℤ get_or entries i (pos 0)
lowest_not_below g state entries are i =
    let e : get_or entries i (pos 0) ≡ quotient g (get_or state.entries i (pos 0)) = ap (λ (xs : List ℤ). get_or xs i (pos 0)) are ∙ quotient_at g state.entries i in
    omega (arith, ints)

pub lowest_not_zero : (g : ℕ) (state : State) (entries : List ℤ) → AreQuotients g state entries → g ≡ common_divisor (vector_of state)
    → 0 < sum (map positive_part (take state.count entries))
lowest_not_zero g state entries are is =
    let z = vector_of state in
    let d = common_divisor z in
    let some : 0 < sum (map (λ x. x / d) z) = quotients_above d z (divisor_above z state.not_all_zero) (dvd_refl d) state.not_all_zero in
    subst (λ (y : List ℕ). 0 < sum y) (sym (lowest_vector g state entries are is)) some

-- a quotient of a number of 128 bits has 128 bits
pub part_fits : (x : ℤ) (g : ℕ) → FitsSigned w128 x → positive_part x / g < 2 ^ 127
part_fits (pos n) g fits = omega (arith, fits.sfits, div-le_self n g)
part_fits (negsuc n) g fits = omega (arith, div-le_self 0 g)
