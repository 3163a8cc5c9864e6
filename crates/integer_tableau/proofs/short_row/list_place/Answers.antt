use Rattle.integer_tableau.proofs.Sparse.{place_written}
use Rattle.integer_tableau.proofs.short_row.list_place.Goals as goal

pub returns-clause-places : goal.returns-clause-places
returns-clause-places c = place_written c.args.places.now c.args.count c.args.place c.from.result c.args.number c.requires c.ranges.number c.from.ensures
