use Rattle.exchange_core.proofs.NewPositions.{held_at}
use Rattle.exchange_core.proofs.new_positions.add_positions.Goals as goal

pub add_position-requires-clause-held : goal.add_position-requires-clause-held
add_position-requires-clause-held c =
    held_at c.args.orders.now c.args.fills.now c.loop-place.place c.index-orders-place.result c.index-fills-place.result c.requires.held c.loop-place-test.true c.requires.size
    c.index-orders-place.is c.index-fills-place.is
