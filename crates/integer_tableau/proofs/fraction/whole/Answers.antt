use Rattle.std.proofs.Common.{unsigned_abs}
use Rattle.std.proofs.lemmas.Int.{to_z-of_z}
use mir.Syntax.{w128}
use Rattle.exact_num.proofs.WholeNumbers.{whole_is_ok, whole_taken}
use Rattle.integer_tableau.proofs.fraction.whole.Goals as goal

pub unwrap-requires : goal.unwrap-requires
unwrap-requires g c =
    whole_is_ok g.N.Exact.fraction (unsigned_abs g.N.Exact.LIMIT) c.args.v c.from_whole.result c.requires (rw (to_z-of_z w128 c.args.v c.ranges.v) at c.from_whole.ensures)

pub returns : goal.returns
returns g c =
    whole_taken g.N.Exact.fraction c.from_whole.result c.unwrap.result (unsigned_abs g.N.Exact.LIMIT) c.args.v c.requires (rw (to_z-of_z w128 c.args.v c.ranges.v) at c.from_whole.ensures) c.unwrap.ensures
