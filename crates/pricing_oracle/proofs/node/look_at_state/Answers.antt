use Rattle.std.proofs.Common.{[], ◌∙◌, sym, map, unsigned_abs}
use Rattle.form.specs.States.{vector_of}
use Rattle.sign_tree.specs.Read.{sign_of}
use Rattle.simplex.specs.Spaces.{x_of}
use Rattle.pricing_oracle.specs.Searches.{asked_within}
use Rattle.pricing_oracle.proofs.NodeEnds.{no_place}
use Rattle.pricing_oracle.proofs.node.look_at_state.Goals as goal

pub unreachable-requires : goal.unreachable-requires
unreachable-requires g c =
    let value = g.N.Exact.fraction in
    let q = asked_within value (unsigned_abs g.N.Exact.LIMIT) 0 c.args.asked in
    c.requires.bounded [] c.args.unit
    (no_place q (map sign_of c.args.signs.now) (x_of c.args.space.now.contents) (vector_of c.in-Ok.state) (value c.in-Ok-excess.excess) c.args.unit c.in-Ok.ensures.state (sym c.in-Ok-excess.ensures)
    (sym c.is_above_zero.ensures ∙ c.if-is_above_zero.false) (sym c.split_place.ensures.place ∙ c.in-None.is))
