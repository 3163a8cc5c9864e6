use Rattle.std.proofs.Common.{◌∙◌, refl, arith}
use mir.Syntax.{w64}
use mir.Val.{bits}
use Rattle.std.proofs.Math.Nat.{pos_of_ne-zero}
use Rattle.arithmetic.proofs.BinaryGcd.{same_at_no_difference}
use Rattle.exact_num.proofs.DivisorSteps.{same_is, next_is}
use Rattle.exact_num.proofs.divisor.gcd_of_odd.Goals as goal

pub returns-then-difference-eq0 : goal.returns-then-difference-eq0
returns-then-difference-eq0 c =
    same_is _ _ (same_at_no_difference (bits w64) c.loop-a.a c.loop-a.b (omega arith) (omega arith) c.if-difference-eq0.true) ∙ c.loop-a.invariant.value

pub loop-a-preserved : goal.loop-a-preserved
loop-a-preserved c =
    let i = c.loop-a.invariant in
    let next = next_is w64 c.loop-a.a c.loop-a.b _ _ _ (omega arith) (omega arith) refl (pos_of_ne-zero c.if-difference-eq0.false) c.min-low.ensures c.max.ensures i.left i.right in
    record { left = next.left; right = next.right; value = next.value ∙ i.value }

pub loop-a-smaller : goal.loop-a-smaller
loop-a-smaller c =
    let i = c.loop-a.invariant in
    (next_is w64 c.loop-a.a c.loop-a.b _ _ _ (omega arith) (omega arith) refl (pos_of_ne-zero c.if-difference-eq0.false) c.min-low.ensures c.max.ensures i.left i.right).falls
