use Rattle.std.proofs.Common.{pos}
use Rattle.exact_num.specs.Fraction.{whole}
use Rattle.cell_cover.proofs.RowLoops.{zeros_are}
use Rattle.cell_cover.proofs.rows.zero_row.Goals as goal

pub returns : goal.returns
returns c = λ count le. zeros_are count 9 c.zero.result (whole (pos 0)) le c.zero.ensures
