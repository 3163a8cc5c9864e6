-- A bundle of one option that counts once: each step with the count leaves what it had.
use Rattle.std.specs.Prelude.{ℕ, ◌≡◌, ◌≤◌, List, ℤ}
use Rattle.form.specs.Vector.{one}
use Rattle.form.specs.Steps.{payoff_of, bundle_payoff_of}

-- it pays what its option pays, and misfits where that does
abbrev pub OneOptionPays : Type 0
OneOptionPays = (limit : ℕ) (v : List ℤ) (z : List ℕ) → 1 ≤ limit → bundle_payoff_of limit (one v) z ≡ payoff_of limit v z
