-- What stops the code says of a run.
use Rattle.std.specs.Prelude.{ℕ, ◌≡◌}
use Rattle.simplex.specs.declared.stop.RunStop.{RunStop}
use Rattle.simplex.specs.declared.stop.RunStop.TheVariants.{Wide, Budget}
use Rattle.simplex_run.specs.Ending.{Ending, wide_at, no_unit_left}

-- the stop is the end of a run, and the units are those spent
abbrev pub IsStopOf : {A : Type 0} → Ending A → RunStop → ℕ → Type 0
IsStopOf ending (Wide unit wide) spent = (ending ≡ wide_at unit wide) × (spent ≡ unit)
IsStopOf ending Budget spent = ending ≡ no_unit_left spent
