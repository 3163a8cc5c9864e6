-- The refusals of a call, each with its condition, in the order in which they are tried.
use Rattle.std.specs.Prelude.{◌≡◌, Bool, List, [], ◌∷◌, Option, Some, None, Result, Ok, Err, if◌then◌else◌}
use Rattle.std.specs.Option.{option_map_or}

-- the first refusal whose condition holds
abbrev pub first_of : {R : Type 0} → List (Bool × R) → Option R
first_of [] = None
first_of (refusal ∷ others) = if refusal.0 then Some refusal.1 else first_of others

-- the refusal that a call answers, by its name; an error without a name, as want of memory, is none
abbrev pub refusal_in : {T E R : Type 0} → (E → Option R) → Result T E → Option R
refusal_in name (Ok value) = None
refusal_in name (Err error) = name error

-- the refusals by their names
abbrev pub by_name : {E R : Type 0} → (E → Option R) → List (Bool × E) → List (Bool × R)
by_name name [] = []
by_name name (refusal ∷ others) = option_map_or (λ r. (refusal.0, r) ∷ by_name name others) (name refusal.1) (by_name name others)

-- the refusal that a call answers is the first whose condition holds
abbrev pub TellsFirst : {T E R : Type 0} → (E → Option R) → Result T E → List (Bool × R) → Type 0
TellsFirst name answer refusals = refusal_in name answer ≡ first_of refusals
