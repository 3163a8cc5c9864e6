-- How a run with units of work ends.
use Rattle.std.specs.Prelude.{ℕ, List, Result, Ok, Err}
use Rattle.exact_num.specs.declared.misfit.Wide.{Wide}
use Rattle.exact_num.specs.Fraction.{Fraction}

-- with the units spent by then: with an answer; with an objective that rises without an end along a
-- direction; at the first number that does not fit; or for want of a unit
pub data Ending (A : Type 0) : Type 0 where
  done : (answer : A) (spent : ℕ) → Ending A
  unbounded : (direction : List Fraction) (spent : ℕ) → Ending A
  wide_at : (spent : ℕ) (wide : Wide) → Ending A
  no_unit_left : (spent : ℕ) → Ending A

-- what follows an answer
abbrev pub on_answer : {A B : Type 0} → Ending A → (A → ℕ → Ending B) → Ending B
on_answer (done answer spent) next = next answer spent
on_answer (unbounded direction spent) next = unbounded direction spent
on_answer (wide_at spent wide) next = wide_at spent wide
on_answer (no_unit_left spent) next = no_unit_left spent

-- what follows steps that spend no unit, after so many units
abbrev pub on_steps : {A B : Type 0} → ℕ → Result A Wide → (A → Ending B) → Ending B
on_steps spent (Ok a) next = next a
on_steps spent (Err wide) next = wide_at spent wide

-- the answer itself, where further steps fit that spend no unit
abbrev pub where_fits : {A B : Type 0} → (A → Result B Wide) → A → ℕ → Ending A
where_fits steps answer spent = on_steps spent (steps answer) (λ b. done answer spent)

-- each number of the run did fit
abbrev pub HasNoMisfit : {A : Type 0} → Ending A → Type 0
HasNoMisfit (done answer spent) = Unit {0}
HasNoMisfit (unbounded direction spent) = Unit {0}
HasNoMisfit (wide_at spent wide) = ⊥
HasNoMisfit (no_unit_left spent) = Unit {0}

-- P of an answer and M of a number that does not fit, each with the units by then; U where the
-- objective rises without an end
abbrev pub EndsBy : {A : Type 0} → (A → ℕ → Type 0) → Type 0 → (Wide → ℕ → Type 0) → Ending A → Type 0
EndsBy P U M (done a s) = P a s
EndsBy P U M (unbounded d s) = U
EndsBy P U M (wide_at s w) = M w s
EndsBy P U M (no_unit_left s) = Unit {0}
