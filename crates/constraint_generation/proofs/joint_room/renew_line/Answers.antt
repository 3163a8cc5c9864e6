use Rattle.std.proofs.Common.{◌≡◌, ap, arith, length}
use Rattle.std.proofs.lemmas.List.{length-map}
use Rattle.form.specs.States.{vector_of}
use Rattle.constraint_generation.proofs.Rooms.{room_as}
use Rattle.constraint_generation.proofs.Solve.{legs_few}
use Rattle.constraint_generation.proofs.joint_room.renew_line.Goals as goal

pub renew-requires-clause-states : goal.renew-requires-clause-states
renew-requires-clause-states g c =
    let states = c.in_ok-states.states in (
      omega (arith, c.len.ensures, states.ok, ap length c.in_ok-states.ensures.states, length-map states.items vector_of),
      omega (arith, c.len.ensures, states.ok, c.in_ok-states.ensures.few, legs_few c.args.batch.now.orders, c.requires.limits.orders_fit),
    )

pub returns : goal.returns
returns g c units =
    let states = c.in_ok-states.states in
    let orders = ap length c.as_slice-orders.ensures in
    let count : c.len.result ≡ length states.items = omega (arith, c.len.ensures, states.ok) in
    record {
      one = c.requires.one;
      are = c.in_ok-states.ensures.states;
      counts = c.in_ok-states.ensures.counts;
      few = omega (arith, c.in_ok-states.ensures.few, legs_few c.args.batch.now.orders, c.requires.limits.orders_fit);
      solve_room = room_as _ _ _ _ c.renew.new.self orders count c.in_ok-renew.ensures;
    }
