-- States of the code.
use Rattle.std.specs.Prelude.{ℕ, List, map, take}
use Rattle.form.specs.declared.states.State.{State}
use Rattle.form.specs.Vector.{positive_part}

-- the vector (t, s) of a state, whose entries are not below 0
abbrev pub vector_of : State → List ℕ
vector_of state = map positive_part (take state.count state.entries)
