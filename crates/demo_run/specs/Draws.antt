-- The numbers that a seed draws.
use Rattle.std.specs.Prelude.{ℕ, zero, suc, ◌+◌, ◌*◌, ◌/◌, ◌%◌, ◌^◌}

-- one step of a linear congruential generator
unfoldable pub next : ℕ → ℕ
next x = (6364136223846793005 * x + 1442695040888963407) % 2 ^ 64

-- where the generator stands after so many steps
abbrev pub after : ℕ → ℕ → ℕ
after zero x = x
after (suc n) x = next (after n x)

-- the number below k that it gives where it stands
abbrev pub below : ℕ → ℕ → ℕ
below k x = (x / 2 ^ 33) % k

-- the n-th draw from x on, which is below k
abbrev pub drawn : ℕ → ℕ → ℕ → ℕ
drawn n k x = below k (after n x)
