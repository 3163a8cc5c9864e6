use Rattle.std.proofs.Common.{◌*◌, ◌%◌, ◌^◌, ◌∙◌, refl, ap, arith}
use mir.Syntax.{w128}
use mir.Val.{bits}
use Rattle.std.proofs.Math.Nat.{pos_of_ne-zero}
use Rattle.arithmetic.proofs.BinaryGcd.{odd_part, same_at_no_difference}
use Rattle.exact_num.proofs.DivisorSteps.{same_is, gap_is, next_is, twos_back}
use Rattle.exact_num.proofs.divisor.gcd_of_long.Goals as goal

pub loop-x-init : goal.loop-x-init
loop-x-init c =
    record { left = (odd_part w128 c.args.a c.requires.left (omega arith)).odd; right = (odd_part w128 c.args.b c.requires.right (omega arith)).odd; value = refl }

pub returns-then-low-le-SHORT : goal.returns-then-low-le-SHORT
returns-then-low-le-SHORT c =
    ap (λ n. (n * 2 ^ c.min-twos.result) % 2 ^ bits w128) (c.gcd_with_short.ensures ∙ gap_is _ _ _ _ c.min-low.ensures c.max.ensures ∙ c.loop-x.invariant.value)
    ∙ twos_back w128 c.args.a c.args.b c.min-twos.result c.requires.left (omega arith) c.requires.right (omega arith) c.min-twos.ensures

pub loop-x-preserved : goal.loop-x-preserved
loop-x-preserved c =
    let i = c.loop-x.invariant in
    let differ = pos_of_ne-zero (λ none. c.loop-x-test.true (same_at_no_difference (bits w128) c.loop-x.x c.loop-x.y (omega arith) (omega arith) none)) in
    let next = next_is w128 c.loop-x.x c.loop-x.y _ _ _ (omega arith) (omega arith) refl differ c.min-low.ensures c.max.ensures i.left i.right in
    record { left = next.left; right = next.right; value = next.value ∙ i.value }

pub loop-x-smaller : goal.loop-x-smaller
loop-x-smaller c =
    let i = c.loop-x.invariant in
    let differ = pos_of_ne-zero (λ none. c.loop-x-test.true (same_at_no_difference (bits w128) c.loop-x.x c.loop-x.y (omega arith) (omega arith) none)) in
    (next_is w128 c.loop-x.x c.loop-x.y _ _ _ (omega arith) (omega arith) refl differ c.min-low.ensures c.max.ensures i.left i.right).falls

pub returns : goal.returns
returns c =
    ap (λ n. (n * 2 ^ c.min-twos.result) % 2 ^ bits w128) (same_is _ _ c.loop-x-test.false ∙ c.loop-x.invariant.value)
    ∙ twos_back w128 c.args.a c.args.b c.min-twos.result c.requires.left (omega arith) c.requires.right (omega arith) c.min-twos.ensures
