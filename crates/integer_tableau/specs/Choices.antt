-- What the candidates of the code stand for.
use Rattle.std.specs.Prelude.{ℕ, ℤ}
use Rattle.exact_num.specs.Fraction.{over}
use Rattle.simplex_run.specs.Choice.{Ratio, ratio_of}
use Rattle.integer_tableau.specs.declared.ratios.Candidate.{Candidate}
use Rattle.integer_tableau.specs.declared.ratios.RowRatio.{RowRatio}
use Rattle.integer_tableau.specs.declared.ratios.RowRatio.TheVariants.{Short, Wide}

-- the two numbers of a ratio
abbrev pub right_side_of : RowRatio → ℤ
right_side_of (Short z n) = z
right_side_of (Wide z n) = z

abbrev pub entry_of : RowRatio → ℕ
entry_of (Short z n) = n
entry_of (Wide z n) = n

abbrev pub as_ratio : Candidate → Ratio
as_ratio q = ratio_of q.place q.basic (over (right_side_of q.ratio) (entry_of q.ratio))
