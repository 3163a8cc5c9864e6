use Rattle.std.specs.Prelude.{vec_capacity, vec_len}
use Rattle.std.proofs.Common.{◌≡◌, ◌+◌, ◌≤◌, ◌++◌, drop, map, zip}
use Rattle.form.specs.States.{vector_of}
use Rattle.cert_check.specs.Points.{point_of}
use Rattle.simplex.specs.Spaces.{y_of}
use Rattle.master_program.specs.Reading.{points_with_weight}
use Rattle.constraint_generation.proofs.reading.add_points.Given as goal

-- the points that are left, behind those that were added, are all
abbrev pub invariant-loop-i : goal.invariant-loop-i
invariant-loop-i g l =
    let points = zip (map vector_of l.states) (drop l.orders (y_of l.space.contents)) in
    record {
      points : map point_of l.points.items ++ points_with_weight (drop l.i points) ≡ map point_of l.fn.points.items ++ points_with_weight points;
      len : vec_len l.points ≤ vec_len l.fn.points + l.i;
      room : vec_capacity l.fn.points ≤ vec_capacity l.points;
    }
