use Rattle.std.proofs.Common.{◌≡◌, ◌+◌, ◌≤◌, ◌++◌, length, drop}
use Rattle.exchange_core.specs.Positions.{positions_in}
use Rattle.exchange_core.proofs.new_positions.add_positions.Given as goal

abbrev pub invariant-loop-place : goal.invariant-loop-place
invariant-loop-place l = record {
  list : l.positions.list ++ positions_in l.market l.batch (drop l.place l.orders) (drop l.place l.fills) ≡ l.fn.positions.list ++ positions_in l.market l.batch l.orders l.fills;
  spare : length l.orders ≤ l.positions.spare + l.place;
}
