use Rattle.std.proofs.Common.{◌<◌, ◌≤ℤ◌, ℕ, pos, arith, refl, ap, sym, subst, ◌∙◌}
use Rattle.std.specs.List.{sum}
use Rattle.std.proofs.lemmas.List.{length-map}
use Rattle.std.proofs.lemmas.Simd.{map-map}
use Rattle.std.proofs.lemmas.List.Elements.{All-map}
use Rattle.std.proofs.lemmas.List.Sums.{sum-map}
use Rattle.arithmetic.specs.Sums.{positive_part}
use Rattle.exact_num.specs.Fraction.{Fraction}
use Rattle.frac.specs.Value.{fraction_of}
use Rattle.cases_sums.proofs.payoffs.is_direction.Goals as goal

abbrev part : Fraction → ℕ
part f = positive_part f.numerator

pub returns-then-is_none_below_zero : goal.returns-then-is_none_below_zero
returns-then-is_none_below_zero c some =
    let xs = c.args.entries.now in
    record {
      some = omega (arith, length-map xs fraction_of);
      few = omega (arith, length-map xs fraction_of);
      not_below_zero = All-map (λ f. pos 0 ≤ℤ f.numerator) fraction_of xs (c.if-is_none_below_zero.ensures refl);
      not_all_zero = subst (λ (n : ℕ). 0 < n) (sym (ap sum (map-map part fraction_of xs) ∙ sum-map (λ x. part (fraction_of x)) xs)) (c.is_any_above_zero.ensures some);
    }
