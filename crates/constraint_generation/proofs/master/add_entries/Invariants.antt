use Rattle.std.specs.Prelude.{vec_capacity, vec_len}
use Rattle.std.proofs.Common.{◌≡◌, ◌+◌, ◌≤◌, ◌^◌, ◌-◌, drop, map, unsigned_abs}
use Rattle.form.specs.States.{vector_of}
use Rattle.master_program.specs.Master.{map_steps, entry_steps}
use Rattle.pricing_oracle.specs.Built.{list_then}
use Rattle.constraint_generation.proofs.master.add_entries.Given as goal

-- what is left to add, behind what was added, is all
abbrev pub invariant-loop-order : goal.invariant-loop-order
invariant-loop-order g l =
    let f = entry_steps (2 ^ 127 - 1) (unsigned_abs g.N.Exact.LIMIT) (vector_of l.state) in
    record {
      added : list_then (map g.N.Exact.fraction l.fn.row.items) (map_steps f l.orders) ≡ list_then (map g.N.Exact.fraction l.row.items) (map_steps f (drop l.order-index l.orders));
      len : vec_len l.row ≡ vec_len l.fn.row + l.order-index;
      room : vec_capacity l.fn.row ≤ vec_capacity l.row;
    }
