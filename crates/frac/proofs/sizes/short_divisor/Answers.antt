use Rattle.std.proofs.Common.{◌≡◌, ◌∙◌, sym, ap, inl, inr}
use Rattle.arithmetic.specs.Gcd.{gcd}
use Rattle.arithmetic.proofs.GcdLaws.{gcd-one, gcd_comm, gcd_pos_right}
use Rattle.arithmetic.proofs.BinaryGcd.{gcd-le_left}
use Rattle.frac.proofs.sizes.short_divisor.Goals as goal

pub returns-then-b-eq1-clause-value : goal.returns-then-b-eq1-clause-value
returns-then-b-eq1-clause-value c =
    elim c.if-b-eq1.either [
      | inl e ↦ sym (ap (λ n. gcd n c.args.b) e ∙ gcd_comm 1 c.args.b ∙ gcd-one c.args.b)
      | inr w ↦ sym (ap (gcd c.args.a) w.1 ∙ gcd-one c.args.a)
    ]

pub returns-else-b-eq1-clause-above_zero : goal.returns-else-b-eq1-clause-above_zero
returns-else-b-eq1-clause-above_zero c = rw c.gcd_of_short.ensures (gcd_pos_right _ _ c.requires)

pub returns-else-b-eq1-clause-small : goal.returns-else-b-eq1-clause-small
returns-else-b-eq1-clause-small c =
    let e : c.gcd_of_short.result ≡ gcd c.args.b c.args.a = c.gcd_of_short.ensures ∙ gcd_comm c.args.a c.args.b in
    rw e (gcd-le_left c.args.b c.args.a c.requires)
