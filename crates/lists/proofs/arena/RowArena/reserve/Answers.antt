use Rattle.std.proofs.Common.{◌*◌, take, ◌∙◌, ap}
use Rattle.lists.specs.Rows.{Rows}
use Rattle.lists.proofs.Rows.{cut-same}
use Rattle.lists.proofs.arena.RowArena.reserve.Goals as goal

pub returns-clause-kept : goal.returns-clause-kept
returns-clause-kept g c =
    let s = c.self.inside in (
      cut-same s.width s.count s.block.numbers c.replace-old.new.dest.numbers (ap (λ b. take (s.count * s.width) b.numbers) c.replace-old.ensures.after ∙ c.in_ok-block.ensures.numbers)
          ∙ ap (λ (r : Rows g.row.N.Denot). r.rows) c.self.view_is,
      ap (λ (r : Rows g.row.N.Denot). r.width) c.self.view_is,
    )
