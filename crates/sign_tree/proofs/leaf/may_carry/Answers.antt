use Rattle.std.proofs.Common.{◌-◌, arith, rules, FitsSigned, to_z, of_z, get_or, map, ℤ, pos, ap, sym, ◌∙◌}
use Rattle.std.proofs.lemmas.Int.{to_z-of_z}
use mathlib.Core.Bool.{not}
use mir.Syntax.{w8}
use Rattle.frac.specs.Value.{fraction_of}
use Rattle.sign_tree.specs.Read.{sign_of}
use Rattle.sign_tree.specs.Left.{leg_as}
use Rattle.sign_tree.specs.Walk.{fraction_legs, carries}
use Rattle.sign_tree.proofs.LegLists.{passes_zero, passes_behind, passes_nowhere, passes_there}
use Rattle.sign_tree.proofs.leaf.may_carry.Goals as goal
use Rattle.sign_tree.proofs.leaf.may_carry.Goals.{then-place-eq0-via-then-place-eq0, then-place-eq0-via-else-place-eq0+then-place-signs}

pub returns-then-place-eq0 : goal.returns-then-place-eq0
returns-then-place-eq0 c =
    let legs = fraction_legs c.args.orders.now (map fraction_of c.args.fills.now) in
    let place = c.args.multiplier.now.place in
    elim c.then-place-eq0.branch [
      | then-place-eq0-via-then-place-eq0 w ↦ sym (passes_zero carries legs (map sign_of c.args.signs.now) place w.if-place-eq0.true)
      | then-place-eq0-via-else-place-eq0+then-place-signs w ↦ sym (passes_behind carries legs c.args.signs.now place w.if-place-signs.true)
    ]

pub returns-in-Some : goal.returns-in-Some
returns-in-Some c =
    let legs = fraction_legs c.args.orders.now (map fraction_of c.args.fills.now) in
    let place = c.args.multiplier.now.place in
    let s : ℤ = to_z w8 (of_z w8 (get_or c.args.signs.now (place - 1) (pos 0))) in
    let fits : FitsSigned w8 (get_or c.args.signs.now (place - 1) (pos 0)) = search rules in
    ap not c.is_unsigned.ensures
    ∙ sym (passes_there carries legs c.args.signs.now place (leg_as fraction_of c.in-Some.leg) s (omega (arith, c.if-place-eq0.false)) c.if-place-signs.false (sym c.in-Some.ensures) (to_z-of_z w8 _ fits))

pub returns-in-None : goal.returns-in-None
returns-in-None c =
    let legs = fraction_legs c.args.orders.now (map fraction_of c.args.fills.now) in
    sym (passes_nowhere carries legs (map sign_of c.args.signs.now) c.args.multiplier.now.place (sym c.in-None.ensures))
