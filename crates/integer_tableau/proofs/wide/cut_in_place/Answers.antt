use Rattle.std.proofs.Common.{arith}
use Rattle.run_equivalence.specs.IntegerRows.{integer_row}
use Rattle.integer_tableau.proofs.Cut.{size_stays}
use Rattle.integer_tableau.proofs.Numbers.{size_made}
use Rattle.integer_tableau.proofs.wide.cut_in_place.Goals as goal

pub returns-then-size-le-WIDEST-clause-line : goal.returns-then-size-le-WIDEST-clause-line
returns-then-size-le-WIDEST-clause-line c = size_stays (integer_row c.args.denominator c.args.numbers.now) (omega (arith, c.requires.size))

pub returns-clause-size : goal.returns-clause-size
returns-clause-size c = size_made c.wide_size.result c.cut_where_not_short-below.result c.cut_where_not_short-below.new.numbers c.wide_size.ensures
