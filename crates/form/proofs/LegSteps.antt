-- The payoff of a bundle, leg by leg.
use Rattle.std.proofs.Common.{◌≡◌, ℕ, ◌+◌, List, [], ◌∷◌, ℤ, pos, ◌+ℤ◌, ◌*ℤ◌, Ok, sym, ap, ◌∙◌, arith}
use Rattle.std.proofs.lemmas.Int.{ints}
use Rattle.exact_num.specs.Fraction.{Fraction, whole}
use Rattle.exact_num.specs.Steps.{fold_steps, plus_product}
use Rattle.exact_num.proofs.After.{after_value}
use Rattle.form.specs.Vector.{BundleLeg, payoff, bundle_payoff}
use Rattle.form.specs.Steps.{payoff_of, add_leg, bundle_payoff_of, BundlePayoffsAreExact}
use Rattle.form.proofs.DotSteps.{payoffs_are_exact, plus_whole_is}

-- where each step fits, the sum is what the legs pay
legs_pay : (limit : ℕ) (t : ℤ) (legs : List BundleLeg) (z : List ℕ) (s : Fraction) → fold_steps (add_leg limit z) (whole t) legs ≡ Ok s → s ≡ whole (t +ℤ bundle_payoff legs z)
legs_pay limit t [] z s h =
    let e : whole t ≡ s = cc in
    sym e ∙ ap whole (omega (arith, ints))
legs_pay limit t (leg ∷ legs) z s h =
    let f = after_value (add_leg limit z (whole t) leg) (λ sum. fold_steps (add_leg limit z) sum legs) s h in
    let g = after_value (payoff_of limit leg.option z) (λ h. plus_product limit (whole t) (whole leg.count) h) f.value f.first in
    let pays : g.value ≡ whole (pos (payoff leg.option z)) = payoffs_are_exact limit leg.option z g.value g.first in
    let here : f.value ≡ whole (t +ℤ (leg.count *ℤ pos (payoff leg.option z))) = plus_whole_is limit t leg.count (pos (payoff leg.option z)) f.value (rw (← pays) g.rest) in
    legs_pay limit (t +ℤ (leg.count *ℤ pos (payoff leg.option z))) legs z s (rw (← here) f.rest) ∙ ap whole (omega (arith, ints))

pub bundle_payoffs_are_exact : BundlePayoffsAreExact
unfolding bundle_payoff_of
bundle_payoffs_are_exact limit legs z h is =
    let zero_first : pos 0 +ℤ bundle_payoff legs z ≡ bundle_payoff legs z = omega (arith, ints) in
    legs_pay limit (pos 0) legs z h is ∙ ap whole zero_first
