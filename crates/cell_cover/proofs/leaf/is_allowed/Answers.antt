use Rattle.std.proofs.Common.{◌&&◌, ap, sym, ◌∙◌}
use Rattle.exact_num.specs.Fraction.{Fraction, negated}
use Rattle.exact_num.specs.Tests.{is_at_most, is_below_zero}
use Rattle.frac.specs.Value.{fraction_of}
use Rattle.cell_cover.proofs.Mixes.{first_holds, second_decides}
use Rattle.cell_cover.proofs.leaf.is_allowed.Goals as goal

pub returns-then-signed : goal.returns-then-signed
returns-then-signed c = c.if-signed.true ∙ first_holds _ _ (sym (c.has_sign-signed.ensures c.args.kinked.entries) ∙ c.if-signed.true)

pub returns-else-signed : goal.returns-else-signed
returns-else-signed c =
    second_decides _ _ _ (sym (c.has_sign-signed.ensures c.args.kinked.entries) ∙ c.if-signed.false)
    (c.is_within-within.ensures ∙ ap (λ (K : Fraction). is_below_zero K && is_at_most (fraction_of c.args.multiplier.now.by) (negated K)) (c.kink_at.ensures c.args.kinked.entries))
