use Rattle.std.proofs.Common.{length}
use Rattle.constraint_generation.proofs.MovedOne.{one_moved}
use Rattle.constraint_generation.proofs.master.move_one.Goals as goal

pub returns-clause-row : goal.returns-clause-row
returns-clause-row g c =
    one_moved g.N.Exact.fraction c.args.row.now.items (length c.args.row.now.items) c.args.own c.zero.result c.one.result c.requires.unit c.requires.place c.zero.ensures c.one.ensures
