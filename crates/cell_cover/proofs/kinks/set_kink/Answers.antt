use Rattle.std.proofs.Common.{ap}
use Rattle.std.proofs.lemmas.List.{map-set}
use Rattle.std.proofs.Math.Seq.{map-set_same}
use Rattle.cell_cover.specs.Rowed.{kink_in, row_in}
use Rattle.cell_cover.proofs.kinks.set_kink.Goals as goal

pub returns-then-place-len-clause-rows : goal.returns-then-place-len-clause-rows
returns-then-place-len-clause-rows c = λ count. map-set_same (row_in count) c.args.classes.now.items c.args.place _ c.index.result.now (ap (row_in count) c.index.ensures)

pub returns-then-place-len-clause-kinks : goal.returns-then-place-len-clause-kinks
returns-then-place-len-clause-kinks c = map-set kink_in c.args.classes.now.items c.args.place _
