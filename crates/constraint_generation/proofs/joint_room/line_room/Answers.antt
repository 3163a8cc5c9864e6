use Rattle.std.proofs.Common.{◌≡◌, ap, arith, length}
use Rattle.std.proofs.lemmas.List.{length-map}
use Rattle.form.specs.States.{vector_of}
use Rattle.constraint_generation.proofs.Rooms.{room_as}
use Rattle.constraint_generation.proofs.Solve.{legs_few}
use Rattle.constraint_generation.proofs.joint_room.line_room.Goals as goal

pub new-requires-clause-orders : goal.new-requires-clause-orders
new-requires-clause-orders g c = omega (arith, ap length c.as_slice.ensures, c.requires.limits.orders_fit)

pub new-requires-clause-states : goal.new-requires-clause-states
new-requires-clause-states g c =
    let states = c.in_ok-states.states in (
      omega (arith, c.len.ensures, states.ok, ap length c.in_ok-states.ensures.states, length-map states.items vector_of),
      omega (arith, c.len.ensures, states.ok, c.in_ok-states.ensures.few, legs_few c.args.batch.now.orders, c.requires.limits.orders_fit),
    )

pub returns : goal.returns
returns g c units =
    let states = c.in_ok-states.states in
    let orders = ap length c.as_slice.ensures in
    let count : c.len.result ≡ length states.items = omega (arith, c.len.ensures, states.ok) in
    record {
      one = c.requires.one;
      are = c.in_ok-states.ensures.states;
      counts = c.in_ok-states.ensures.counts;
      few = omega (arith, c.in_ok-states.ensures.few, legs_few c.args.batch.now.orders, c.requires.limits.orders_fit);
      solve_room = room_as _ _ _ _ c.in_ok-solve.solve orders count c.in_ok-solve.ensures;
    }
