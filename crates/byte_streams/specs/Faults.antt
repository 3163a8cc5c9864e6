-- Counts of faults and of bytes taken: numbers from 0 to 2^64 - 1 that never fall.
use Rattle.std.specs.Prelude.{ℕ, ◌+◌, ◌-◌, ◌^◌, ◌≤◌, min}

-- the last value of a count
abbrev pub last_count : ℕ
last_count = 2 ^ 64 - 1

-- a number as it is counted: it stops at the last value
abbrev pub as_count : ℕ → ℕ
as_count n = min n last_count

-- a count that is raised by a number
abbrev pub raised_by : ℕ → ℕ → ℕ
raised_by before by = as_count (before + by)

-- the count rose: it is greater now, or it stands at its last value
abbrev pub Rose : ℕ → ℕ → Type 0
Rose before now = raised_by before 1 ≤ now
