use Rattle.std.proofs.Common.{ap, sym, ◌∙◌}
use Rattle.cell_cover.specs.Kept.{set_back}
use Rattle.cell_cover.proofs.KeptStates.{back_again}
use Rattle.cell_cover.proofs.walk.Walk.turn.Goals as goal

pub minus-requires : goal.minus-requires
minus-requires c = ap (λ known. set_back known c.in-Some.change) c.know.ensures ∙ back_again c.loop-change.self.known.items c.in-Some.change ∙ sym c.know.ensures
