use Rattle.std.proofs.Common.{sym, ◌∙◌}
use Rattle.frac.specs.Range.{limit}
use Rattle.frac.specs.Value.{fraction_of}
use Rattle.cell_cover.specs.Rows.{row_of, sign_as}
use Rattle.cell_cover.proofs.Mixes.{bound_counts, bound_not}
use Rattle.cell_cover.proofs.mixing.with_bound.Goals as goal

pub returns-then-is_above_zero : goal.returns-then-is_above_zero
returns-then-is_above_zero c =
    c.add_each.ensures ∙ sym (bound_counts limit (sign_as c.args.sign) (fraction_of c.args.kink) (row_of c.args.entries c.args.bound.now) (row_of c.args.entries c.args.sums.now) (sym c.is_above_zero.ensures ∙ c.if-is_above_zero.true))

pub returns-else-is_above_zero : goal.returns-else-is_above_zero
returns-else-is_above_zero c =
    sym (bound_not limit (sign_as c.args.sign) (fraction_of c.args.kink) (row_of c.args.entries c.args.bound.now) (row_of c.args.entries c.args.sums.now) (sym c.is_above_zero.ensures ∙ c.if-is_above_zero.false))
