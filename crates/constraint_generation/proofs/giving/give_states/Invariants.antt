use Rattle.std.specs.Prelude.{vec_capacity}
use Rattle.std.proofs.Common.{◌≡◌, ◌+◌, ◌-◌, ◌^◌, ◌≤◌, drop, length, map, unsigned_abs}
use Rattle.form.specs.States.{vector_of}
use Rattle.simplex.specs.Spaces.{program_given}
use Rattle.master_program.specs.Master.{rows_steps}
use Rattle.pricing_oracle.specs.Programs.{HasSameSize, IsOpen, given_with}
use Rattle.constraint_generation.proofs.giving.give_states.Given as goal

-- the rows that are left, given to what stands in the space, are all rows
abbrev pub invariant-loop-state : goal.invariant-loop-state
invariant-loop-state g l =
    let rows = rows_steps (2 ^ 127 - 1) (unsigned_abs g.N.Exact.LIMIT) l.orders in
    let all = map vector_of l.states in
    let left = drop l.state-index all in
    record {
      rows : given_with (program_given l.fn.space.contents) (length all) (rows all) ≡ given_with (program_given l.space.contents) (length left) (rows left);
      stands : IsOpen l.space (length l.orders + 1) (length left);
      size : HasSameSize l.fn.space l.space;
      row : length l.orders + 1 ≤ vec_capacity l.row;
      kept : vec_capacity l.fn.row ≤ vec_capacity l.row;
    }
