use Rattle.std.proofs.Common.{◌≡◌, ◌∷◌, All, map, take}
use Rattle.form.specs.declared.states.State.{State}
use Rattle.form.specs.States.{vector_of}
use Rattle.line_cover.specs.Breakpoints.{first_state}
use Rattle.line_cover.specs.Prices.{price_vector}
use Rattle.line_cover.proofs.states.breakpoints.Given as goal

-- the first state, and those of the prices so far
abbrev pub invariant-loop-price : goal.invariant-loop-price
invariant-loop-price l =
    (map vector_of l.states.items ≡ first_state ∷ map price_vector (take l.price-index l.price-items))
    × All (λ (state : State). state.count ≡ 2) l.states.items
