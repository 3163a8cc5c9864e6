use Rattle.fraction_tableau.proofs.Parts.{begun}
use Rattle.fraction_tableau.proofs.sparse.SparseProgram.begin.Goals as goal

pub returns-clause-program : goal.returns-clause-program
returns-clause-program g c =
    begun g.N.Exact.fraction c.clear.new.self.items c.clear-2.new.self.items c.write_all.new.items.items c.args.costs.now c.clear-2.ensures.items c.write_all.ensures.items
