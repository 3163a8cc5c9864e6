use Rattle.std.proofs.Common.{ap, arith, length}
use Rattle.constraint_generation.proofs.Rooms.{room_as}
use Rattle.constraint_generation.proofs.joint_room.renew_rounds.Goals as goal

pub returns : goal.returns
returns g c =
    record {
      several = c.requires.several;
      are = c.write_axis_rays.ensures.rays;
      counts = c.write_axis_rays.ensures.counts;
      state_room = omega (arith, c.write_axis_rays.ensures.capacity, c.in_ok-make_room.ensures.room);
      few = omega (arith, c.requires.units, c.requires.limits.has_forms.few);
      solve_room = room_as _ _ _ _ c.renew.new.self (ap length c.as_slice-orders.ensures) (omega arith) c.in_ok-renew.ensures;
      search_room = c.in_ok-search.ensures;
    }
