use Rattle.std.proofs.Common.{rules, sym, ◌∙◌, ap, drop, length, FitsSigned, w64, arith, pos, ◌≤◌, ◌≡◌, ◌+◌, unsigned_abs, slice_index_or}
use Rattle.std.proofs.lemmas.Int.{to_z-of_z}
use Rattle.arithmetic.specs.Gcd.{gcd}
use Rattle.run_equivalence.specs.WholePivoting.{common_of}
use Rattle.integer_tableau.proofs.Numbers.{common_of_one, common_more, common_end}
use Rattle.integer_tableau.proofs.divisor.common_short.Goals as goal

pub returns-then-found-eq1-clause-value : goal.returns-then-found-eq1-clause-value
returns-then-found-eq1-clause-value c =
    sym (common_of_one (drop c.loop-number.number-index c.args.numbers.now)) ∙ ap (λ g. common_of g (drop c.loop-number.number-index c.args.numbers.now)) (sym c.if-found-eq1.true) ∙ c.loop-number.invariant.common

pub loop-number-preserved : goal.loop-number-preserved
loop-number-preserved c =
    let i = c.loop-number.number-index in
    let number = slice_index_or c.args.numbers.now i (pos 0) in
    let fits : FitsSigned w64 number = search rules in
    let found : c.common_with-found.result ≡ gcd (unsigned_abs number) c.loop-number.found = c.common_with-found.ensures.value ∙ ap (λ n. gcd n c.loop-number.found) (c.unsigned_abs.ensures.value ∙ ap unsigned_abs (to_z-of_z w64 number fits)) in
    let less = c.common_with-found.ensures.below in
    let low = c.loop-number.invariant.below in
    record {
      common = ap (λ g. common_of g (drop (i + 1) c.args.numbers.now)) found ∙ sym (common_more c.loop-number.found c.args.numbers.now i (pos 0) c.loop-number-test.true) ∙ c.loop-number.invariant.common;
      above = c.common_with-found.ensures.above;
      below = omega (arith, less, low);
    }

pub returns-clause-value : goal.returns-clause-value
returns-clause-value c = let over : length c.args.numbers.now ≤ c.loop-number.number-index = omega arith in common_end c.loop-number.found c.args.numbers.now c.loop-number.number-index over ∙ c.loop-number.invariant.common
