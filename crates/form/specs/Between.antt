-- Numbers from a least to a greatest.
use Rattle.std.specs.Prelude.{ℕ, ◌≤◌}

abbrev pub Between : ℕ → ℕ → ℕ → Type 0
Between low high n = (low ≤ n) × (n ≤ high)
