use Rattle.std.proofs.Common.{◌∙◌, sym}
use Rattle.integer_tableau.proofs.Cut.{short_row_stays, wide_row_cut}
use Rattle.integer_tableau.proofs.wide.cut_where_not_short.Goals as goal

pub returns-then-is_short : goal.returns-then-is_short
returns-then-is_short c = short_row_stays c.args.denominator c.args.numbers.now (sym c.is_short.ensures ∙ c.if-is_short.true)

pub returns-else-is_short : goal.returns-else-is_short
returns-else-is_short c = c.divide_common.ensures ∙ wide_row_cut c.args.denominator c.args.numbers.now (sym c.is_short.ensures ∙ c.if-is_short.false)
