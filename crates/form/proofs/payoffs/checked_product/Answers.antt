use Rattle.std.proofs.Common.{◌≡◌, ◌-◌, ◌^◌, arith, to_z, of_z}
use Rattle.std.proofs.lemmas.Int.{to_z-of_z}
use mir.Syntax.{w128}
use Rattle.exact_num.proofs.WholeNumbers.{mul-wholes}
use Rattle.form.proofs.WholeSteps.{checked_step}
use Rattle.form.proofs.payoffs.checked_product.Goals as goal

pub returns-clause-product : goal.returns-clause-product
returns-clause-product c =
    let a : to_z w128 (of_z w128 c.args.a) ≡ c.args.a = to_z-of_z w128 c.args.a c.ranges.a in
    let b : to_z w128 (of_z w128 c.args.b) ≡ c.args.b = to_z-of_z w128 c.args.b c.ranges.b in
    rw (mul-wholes (2 ^ 127 - 1) c.args.a c.args.b (omega arith), c.ok_or.ensures.value, c.within_limit.ensures, c.wide.ensures, a, b)
    (checked_step c.checked_mul.result _ _ (rw (a, b) at c.checked_mul.ensures))
