use Rattle.std.proofs.Common.{◌-◌, map, slice_get, ap, sym, ◌∙◌}
use Rattle.frac.specs.Range.{limit}
use Rattle.frac.specs.Value.{fraction_of}
use Rattle.sign_tree.specs.Left.{leg_as}
use Rattle.sign_tree.specs.Walk.{fraction_legs}
use Rattle.sign_tree.proofs.LegLists.{within_here, within_none}
use Rattle.sign_tree.proofs.leaf.keeps_within.Goals as goal

pub returns-in-Some : goal.returns-in-Some
returns-in-Some c =
    let legs = fraction_legs c.args.orders.now (map fraction_of c.args.fills.now) in
    let m = c.args.multiplier.now in
    c.is_within.ensures
    ∙ sym (within_here limit legs (m.place - 1) (leg_as fraction_of c.in-Some.leg) (fraction_of m.by) (sym (c.in-Some.ensures ∙ ap (slice_get legs) c.saturating_sub-index.ensures)))

pub returns-in-None : goal.returns-in-None
returns-in-None c =
    let legs = fraction_legs c.args.orders.now (map fraction_of c.args.fills.now) in
    let m = c.args.multiplier.now in
    sym (within_none limit legs (m.place - 1) (fraction_of m.by) (sym (c.in-None.ensures ∙ ap (slice_get legs) c.saturating_sub-index.ensures)))
