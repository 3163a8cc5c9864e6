use Rattle.std.proofs.Common.{◌+◌, rules, FitsSigned, to_z, of_z, get_or, map, pos, ℤ}
use Rattle.std.proofs.lemmas.Int.{to_z-of_z}
use mir.Syntax.{w8}
use Rattle.exact_num.proofs.Loops.{goes_on, stops, ends}
use Rattle.frac.specs.Range.{limit}
use Rattle.frac.specs.Value.{fraction_of}
use Rattle.sign_tree.specs.Left.{leg_as, legs_left}
use Rattle.sign_tree.specs.Read.{placed_of}
use Rattle.sign_tree.specs.Walk.{add_leg}
use Rattle.sign_tree.proofs.TermSteps.{signed_first, signed_end}
use Rattle.sign_tree.proofs.leaf.add_legs.Goals as goal

pub returns-in_err-total : goal.returns-in_err-total
returns-in_err-total c =
    let j = c.loop-j.j in
    let s : ℤ = to_z w8 (of_z w8 (get_or c.args.signs.now j (pos 0))) in
    let fits : FitsSigned w8 (get_or c.args.signs.now j (pos 0)) = search rules in
    let first = signed_first (j + 1) (legs_left fraction_of c.loop-j.left) c.args.signs.now (map placed_of c.loop-j.rest.now) j (leg_as fraction_of c.in-Some.leg) (legs_left fraction_of c.in-Some.after) s c.in-Some.ensures.0 c.loop-j-test.true (to_z-of_z w8 _ fits) in
    stops fraction_of (add_leg limit c.args.i) c.loop-j.total c.add_leg.result _ _ _ _ _ c.in_err-total.field-0.0 first c.loop-j.invariant.0 (rw (← c.first_at-by.ensures) c.add_leg.ensures) c.in_err-total.was c.from_residual.ensures.1

pub loop-j-preserved : goal.loop-j-preserved
loop-j-preserved c =
    let j = c.loop-j.j in
    let s : ℤ = to_z w8 (of_z w8 (get_or c.args.signs.now j (pos 0))) in
    let fits : FitsSigned w8 (get_or c.args.signs.now j (pos 0)) = search rules in
    let first = signed_first (j + 1) (legs_left fraction_of c.loop-j.left) c.args.signs.now (map placed_of c.loop-j.rest.now) j (leg_as fraction_of c.in-Some.leg) (legs_left fraction_of c.in-Some.after) s c.in-Some.ensures.0 c.loop-j-test.true (to_z-of_z w8 _ fits) in
    let on = goes_on fraction_of (add_leg limit c.args.i) c.loop-j.total c.in_ok-total.total c.add_leg.result _ _ _ _ first c.loop-j.invariant.0 (rw (← c.first_at-by.ensures) c.add_leg.ensures) c.in_ok-total.was in
    (rw (c.left_after-rest.ensures) on, c.in-Some.ensures.1)

pub returns : goal.returns
returns c =
    ends fraction_of (add_leg limit c.args.i) c.loop-j.total _ _ (signed_end (c.loop-j.j + 1) (legs_left fraction_of c.loop-j.left) c.args.signs.now (map placed_of c.loop-j.rest.now) c.loop-j.j c.loop-j-test.false) c.loop-j.invariant.0
