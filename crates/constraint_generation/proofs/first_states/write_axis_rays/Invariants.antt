use Rattle.std.specs.Prelude.{vec_capacity, vec_len}
use Rattle.std.proofs.Common.{◌≡◌, ◌≤◌, ◌+◌, ◌++◌, map, drop}
use Rattle.std.specs.List.{All}
use Rattle.form.specs.declared.states.State.{State}
use Rattle.form.specs.States.{vector_of}
use Rattle.master_program.specs.Rounds.{axis_rays}
use Rattle.constraint_generation.proofs.first_states.write_axis_rays.Given as goal

-- the rays that are left, behind those that were added, are all
abbrev pub invariant-loop-i : goal.invariant-loop-i
invariant-loop-i l = record {
  rays : map vector_of l.rays.items ++ drop l.i (axis_rays l.underlyings) ≡ axis_rays l.underlyings;
  counts : All (λ (ray : State). ray.count ≡ l.underlyings + 1) l.rays.items;
  len : vec_len l.rays ≡ l.i;
  room : vec_capacity l.fn.rays ≤ vec_capacity l.rays;
}
