-- The rows of a node whose dual values are the multipliers of its legs, one leg after another.
use Rattle.std.specs.Prelude.{ℕ, ◌+◌, ◌<◌, List}
use Rattle.exact_num.specs.Fraction.{Fraction}
use Rattle.simplex_run.specs.Places.{at, fraction_zero}
use Rattle.master_program.specs.Roles.{Role, Idle, Covering, Free, Above, Below}
use Rattle.pricing_oracle.specs.declared.reading.NextRows.{NextRows}

abbrev pub rows_after : Role → NextRows → NextRows
rows_after Covering rows = record rows { cover = rows.cover + 1 }
rows_after Above rows = record rows { signed = rows.signed + 1 }
rows_after Below rows = record rows { signed = rows.signed + 1 }
rows_after Idle rows = rows
rows_after Free rows = rows

-- the row of a leg with the role is one of so many
abbrev pub HasRow : Role → NextRows → ℕ → Type 0
HasRow Covering rows count = rows.cover < count
HasRow Above rows count = rows.signed < count
HasRow Below rows count = rows.signed < count
HasRow Idle rows count = Unit {0}
HasRow Free rows count = Unit {0}

abbrev pub multiplier_in : Role → NextRows → List Fraction → Fraction
multiplier_in Covering rows y = at y rows.cover
multiplier_in Above rows y = at y rows.signed
multiplier_in Below rows y = at y rows.signed
multiplier_in Idle rows y = fraction_zero
multiplier_in Free rows y = fraction_zero
