use Rattle.std.specs.Prelude.{vec_capacity, vec_len}
use Rattle.std.proofs.Common.{◌≡◌, ◌+◌, ◌≤◌, suc, drop, map, unsigned_abs}
use Rattle.master_program.specs.Master.{map_steps}
use Rattle.sign_tree.specs.Read.{sign_of}
use Rattle.master_program.specs.Roles.{values}
use Rattle.master_program.specs.NodeSteps.{state_cost_steps}
use Rattle.pricing_oracle.specs.Built.{list_then}
use Rattle.pricing_oracle.specs.Nodes.{legs_asked}
use Rattle.pricing_oracle.proofs.costs.add_state_costs.Given as goal

-- what is left to add, behind what was added, is all
abbrev pub invariant-loop-i : goal.invariant-loop-i
invariant-loop-i g l =
    let f = state_cost_steps (unsigned_abs g.N.Exact.LIMIT) (legs_asked g.N.Exact.fraction l.asked) (g.N.Exact.fraction l.asked.liability.now) (map sign_of l.signs) in
    let all = values (λ i. i) (suc l.asked.underlyings) in
    record {
      added : list_then (map g.N.Exact.fraction l.fn.row.items) (map_steps f all) ≡ list_then (map g.N.Exact.fraction l.row.items) (map_steps f (drop l.i all));
      len : vec_len l.row ≡ vec_len l.fn.row + l.i;
      room : vec_capacity l.fn.row ≤ vec_capacity l.row;
    }
