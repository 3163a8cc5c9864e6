use Rattle.std.specs.Prelude.{vec_capacity}
use Rattle.std.proofs.Common.{◌≡◌, ◌+◌, ◌≤◌, length, map, unsigned_abs}
use Rattle.std.specs.List.{All}
use Rattle.form.specs.declared.states.State.{State}
use Rattle.form.specs.States.{vector_of}
use Rattle.pricing_oracle.specs.Sizes.{AreWithin, sizes_for}
use Rattle.search_laws.specs.Sizes.{AreFewStates}
use Rattle.constraint_generation.specs.Answers.{limits_of}
use Rattle.constraint_generation.specs.Rooms.{IsSolveRoom, states_within}
use Rattle.constraint_generation.proofs.Rounds.{AreLeft}
use Rattle.constraint_generation.proofs.rounds_solve.close.Given as goal

-- the rounds that are left, over the states so far, are all; the states are few, and the rooms
-- those of the batch
abbrev pub invariant-loop-round : goal.invariant-loop-round
invariant-loop-round g l = record {
  left : AreLeft (limits_of (unsigned_abs g.N.Exact.LIMIT) l.fn.budget.limit) l.batch.underlyings l.batch.orders l.fn.budget.spent l._round (map vector_of l.states.items) l.budget.spent;
  counts : All (λ (state : State). state.count ≡ l.batch.underlyings + 1) l.states.items;
  few : AreFewStates l.batch.underlyings l.fn.budget.limit l.fn.budget.spent (map vector_of l.states.items) l.budget.spent;
  limit : l.budget.limit ≡ l.fn.budget.limit;
  state_room : states_within l.batch.underlyings l.fn.budget.limit ≤ vec_capacity l.states + 1;
  solve : IsSolveRoom (length l.batch.orders) (states_within l.batch.underlyings l.fn.budget.limit) l.room;
  search : AreWithin (sizes_for l.batch l.fn.budget.limit) l.search.sizes;
}
