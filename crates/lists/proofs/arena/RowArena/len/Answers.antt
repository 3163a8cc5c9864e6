use Rattle.std.proofs.Common.{sym}
use Rattle.lists.proofs.Rows.{row_count}
use Rattle.lists.proofs.arena.RowArena.len.Goals as goal

pub returns : goal.returns
returns g c = let s = c.self.inside in sym (row_count s.width s.count s.spare s.block.numbers c.args.self.now c.self.view_is)
