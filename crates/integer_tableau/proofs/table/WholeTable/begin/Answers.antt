use Rattle.std.proofs.Common.{ap, ℤ, List}
use Rattle.integer_tableau.specs.Stored.{rows_of}
use Rattle.integer_tableau.proofs.table.WholeTable.begin.Goals as goal

pub returns-clause-rows : goal.returns-clause-rows
unfolding rows_of
returns-clause-rows c = ap (λ (short : List (List ℤ)). rows_of c.clear.new.self.is_wide.items short c.clear.new.self.wide.rows) c.clear.ensures.rows
