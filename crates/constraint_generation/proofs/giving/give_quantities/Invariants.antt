use Rattle.std.specs.Prelude.{vec_capacity}
use Rattle.std.proofs.Common.{◌≡◌, ◌+◌, ◌-◌, ◌≤◌, drop, length, map, unsigned_abs}
use Rattle.simplex.specs.Spaces.{program_given}
use Rattle.simplex_run.specs.Places.{unit_row}
use Rattle.master_program.specs.Master.{map_steps, quantity_steps}
use Rattle.pricing_oracle.specs.Programs.{HasSameSize, IsOpen}
use Rattle.constraint_generation.specs.Parts.{units_given}
use Rattle.constraint_generation.proofs.giving.give_quantities.Given as goal

-- the rows that are left, given to what stands in the space, are all rows, and the next one is
-- written
abbrev pub invariant-loop-i : goal.invariant-loop-i
invariant-loop-i g l =
    let f = quantity_steps (unsigned_abs g.N.Exact.LIMIT) in
    let n = length l.orders + 1 in
    record {
      rows : units_given n 0 (program_given l.fn.space.contents) (map_steps f l.orders) ≡ units_given n l.i (program_given l.space.contents) (map_steps f (drop l.i l.orders));
      stands : IsOpen l.space n (length l.orders - l.i);
      size : HasSameSize l.fn.space l.space;
      unit : map g.N.Exact.fraction l.row.items ≡ unit_row n l.i;
      row : n ≤ vec_capacity l.row;
      kept : vec_capacity l.fn.row ≤ vec_capacity l.row;
    }
