-- The fill of a leg that counts once is that of its order.
use Rattle.std.proofs.Common.{ℕ, pos, ap, ◌∙◌}
use Rattle.exact_num.specs.Fits.{mul_of, whole_of, after}
use Rattle.exact_num.proofs.Units.{mul-one_fits}
use Rattle.exact_num.proofs.WholeNumbers.{whole_fits}
use Rattle.master_program.specs.NodeSteps.{leg_fill_steps}
use Rattle.master_program.specs.NodeLaws.{OneCountFills}

pub one_count_fills : OneCountFills
unfolding leg_fill_steps
one_count_fills limit leg one within once =
    ap (λ (k : ℕ). after (whole_of limit (pos k)) (λ size. mul_of limit leg.fill size)) once
    ∙ ap (λ r. after r (λ size. mul_of limit leg.fill size)) (whole_fits limit (pos 1) one)
    ∙ mul-one_fits limit leg.fill within.above within.below
