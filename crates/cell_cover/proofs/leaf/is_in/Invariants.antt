use Rattle.std.proofs.Common.{◌≡◌, drop}
use Rattle.cell_cover.specs.Closed.{is_in}
use Rattle.cell_cover.proofs.leaf.is_in.Given as goal

abbrev pub invariant-loop-other : goal.invariant-loop-other
invariant-loop-other l = is_in l.class l.classes ≡ is_in l.class (drop l.other-index l.classes)
