-- The limit of numbers of 128 bits.
use Rattle.std.specs.Prelude.{ℕ, ◌-◌, ◌^◌}

-- the largest size of a numerator or a denominator
abbrev pub limit : ℕ
limit = 2 ^ 127 - 1
