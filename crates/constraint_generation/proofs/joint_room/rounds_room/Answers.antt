use Rattle.std.proofs.Common.{rules, ap, arith, length}
use Rattle.constraint_generation.proofs.Rooms.{room_as}
use Rattle.constraint_generation.proofs.joint_room.rounds_room.Goals as goal

pub returns : goal.returns
returns g c =
    let orders = c.as_slice-orders.ensures in
    record {
      several = c.requires.several;
      are = c.write_axis_rays.ensures.rays;
      counts = c.write_axis_rays.ensures.counts;
      state_room = omega (arith, c.write_axis_rays.ensures.capacity, c.in_ok-states.ensures.exact);
      few = omega (arith, c.requires.units, c.requires.limits.has_forms.few);
      solve_room = room_as _ _ _ _ c.in_ok-solve.solve (ap length orders) (omega arith) c.in_ok-solve.ensures;
      search_room = search rules;
    }
