use Rattle.std.proofs.Common.{◌≡◌, ◌≤◌, take, vec_len, vec_capacity}
use Rattle.lists.proofs.room.write_all.Given as goal

-- the items before this one are there
abbrev pub invariant-loop-item : goal.invariant-loop-item
invariant-loop-item g l = record {
  items : l.items.items ≡ take l.item-index l.from;
  len : vec_len l.items ≡ l.item-index;
  room : vec_capacity l.fn.items ≤ vec_capacity l.items;
}
