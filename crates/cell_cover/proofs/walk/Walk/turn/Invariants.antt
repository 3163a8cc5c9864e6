use Rattle.std.proofs.Common.{◌≡◌, length, vec_len}
use Rattle.cell_cover.specs.Kept.{still_to_come}
use Rattle.cell_cover.proofs.walk.Walk.turn.Given as goal

-- what was to come is to come
abbrev pub invariant-loop-change : goal.invariant-loop-change
invariant-loop-change l = record {
  as_many : length l.self.known.items ≡ length l.fn.self.known.items;
  pending : still_to_come l.kinked.entries l.fn.self ≡ still_to_come l.kinked.entries l.self;
}

abbrev pub decreases-loop-change : goal.decreases-loop-change
decreases-loop-change l = vec_len l.self.changes
