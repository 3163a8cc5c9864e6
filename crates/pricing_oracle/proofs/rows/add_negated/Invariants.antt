use Rattle.std.specs.Prelude.{vec_capacity, vec_len}
use Rattle.std.proofs.Common.{◌≡◌, ◌+◌, ◌≤◌, drop, map, unsigned_abs}
use Rattle.master_program.specs.NodeSteps.{negated_of}
use Rattle.form.specs.Payoff.{option_of}
use Rattle.master_program.specs.Master.{map_steps}
use Rattle.master_program.specs.Roles.{entries}
use Rattle.pricing_oracle.specs.Built.{list_then}
use Rattle.pricing_oracle.proofs.rows.add_negated.Given as goal

-- what is left to add, behind what was added, is all
abbrev pub invariant-loop-i : goal.invariant-loop-i
invariant-loop-i g l =
    let f = negated_of (unsigned_abs g.N.Exact.LIMIT) in
    let all = entries l.n (option_of l.form) in
    record {
      added : list_then (map g.N.Exact.fraction l.fn.row.items) (map_steps f all) ≡ list_then (map g.N.Exact.fraction l.row.items) (map_steps f (drop l.i all));
      len : vec_len l.row ≡ vec_len l.fn.row + l.i;
      room : vec_capacity l.fn.row ≤ vec_capacity l.row;
    }
