use Rattle.std.proofs.Common.{rules, sym, ◌∙◌, ap, drop, length, FitsSigned, arith, pos, ◌≤◌, ◌≡◌, ◌+◌, unsigned_abs, slice_index_or}
use Rattle.std.proofs.lemmas.Int.{to_z-of_z}
use Rattle.arithmetic.specs.Gcd.{gcd}
use mir.Syntax.{w128}
use Rattle.run_equivalence.specs.WholePivoting.{common_of}
use Rattle.integer_tableau.proofs.Numbers.{common_of_one, common_more, common_end}
use Rattle.integer_tableau.proofs.divisor.common.Goals as goal

pub loop-number-init : goal.loop-number-init
loop-number-init c = ap (λ g. common_of g c.args.numbers.now) c.divisor_of-found.ensures

pub returns-then-found-eq1 : goal.returns-then-found-eq1
returns-then-found-eq1 c =
    sym (common_of_one (drop c.loop-number.number-index c.args.numbers.now)) ∙ ap (λ g. common_of g (drop c.loop-number.number-index c.args.numbers.now)) (sym c.if-found-eq1.true) ∙ c.loop-number.invariant

pub loop-number-preserved : goal.loop-number-preserved
loop-number-preserved c =
    let i = c.loop-number.number-index in
    let number = slice_index_or c.args.numbers.now i (pos 0) in
    let fits : FitsSigned w128 number = search rules in
    let found : c.common_divisor-found.result.number ≡ gcd (unsigned_abs number) c.loop-number.found.number = c.common_divisor-found.ensures ∙ ap (λ n. gcd n c.loop-number.found.number) (c.unsigned_abs.ensures.value ∙ ap unsigned_abs (to_z-of_z w128 number fits)) in
    ap (λ g. common_of g (drop (i + 1) c.args.numbers.now)) found ∙ sym (common_more c.loop-number.found.number c.args.numbers.now i (pos 0) c.loop-number-test.true) ∙ c.loop-number.invariant

pub returns : goal.returns
returns c = let over : length c.args.numbers.now ≤ c.loop-number.number-index = omega arith in common_end c.loop-number.found.number c.args.numbers.now c.loop-number.number-index over ∙ c.loop-number.invariant
