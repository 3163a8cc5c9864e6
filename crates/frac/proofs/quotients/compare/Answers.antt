use Rattle.std.proofs.Common.{◌≡◌, ◌*◌, ◌∙◌, sym, ap, ℕ, inl, inr}
use Rattle.std.proofs.Math.Nat.{mul_comm, pos_of_ne-zero}
use Rattle.std.specs.Ordering.{nat_cmp}
use Rattle.frac.proofs.Turns.{by_quotients, by_remainders, by_zero}
use Rattle.frac.proofs.quotients.compare.Goals as goal

pub returns-then-left-right : goal.returns-then-left-right
returns-then-left-right c =
    let i = c.loop-left.invariant in
    c.cmp.ensures
    ∙ by_quotients _ _ _ _ _ _ c.divide-left.ensures.quotient c.divide-right.ensures.quotient i.left i.right c.if-left-right.true
    ∙ i.order

pub returns-then-left-eq0 : goal.returns-then-left-eq0
returns-then-left-eq0 c =
    let i = c.loop-left.invariant in
    let rest : nat_cmp (c.loop-left.a * c.loop-left.d) (c.loop-left.c * c.loop-left.b) ≡ nat_cmp (c.divide-left.result.rest * c.loop-left.d) (c.divide-right.result.rest * c.loop-left.b) =
    by_remainders _ _ _ _ _ _ _ _ c.divide-left.ensures.quotient c.divide-right.ensures.quotient c.divide-left.ensures.rest c.divide-right.ensures.rest c.if-left-right.false in
    c.cmp-then-left-eq0.ensures
    ∙ by_zero _ _ _ _ i.left i.right (elim c.then-left-eq0.either [ inl e ↦ inl e | inr w ↦ inr w.1 ])
    ∙ sym rest
    ∙ i.order

pub loop-left-preserved : goal.loop-left-preserved
loop-left-preserved c =
    let i = c.loop-left.invariant in
    let rest : nat_cmp (c.loop-left.a * c.loop-left.d) (c.loop-left.c * c.loop-left.b) ≡ nat_cmp (c.divide-left.result.rest * c.loop-left.d) (c.divide-right.result.rest * c.loop-left.b) =
    by_remainders _ _ _ _ _ _ _ _ c.divide-left.ensures.quotient c.divide-right.ensures.quotient c.divide-left.ensures.rest c.divide-right.ensures.rest c.if-left-right.false in
    record {
      left = pos_of_ne-zero c.if-right-eq0.false;
      right = pos_of_ne-zero c.if-left-eq0.false;
      order =
          ap (λ (n : ℕ). nat_cmp n (c.loop-left.b * c.divide-right.result.rest)) (mul_comm c.loop-left.d c.divide-left.result.rest)
          ∙ ap (nat_cmp (c.divide-left.result.rest * c.loop-left.d)) (mul_comm c.loop-left.b c.divide-right.result.rest)
          ∙ sym rest
          ∙ i.order;
    }
