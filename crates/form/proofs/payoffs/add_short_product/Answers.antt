use Rattle.std.proofs.Common.{arith, sym}
use Rattle.std.proofs.lemmas.Int.{ints}
use Rattle.form.proofs.WholeSteps.{add_shorter_fits, add_shorter_is, add_shorter_read, shorter_fits, shorter_product}
use Rattle.form.proofs.payoffs.add_short_product.Goals as goal

pub returns-clause-sum : goal.returns-clause-sum
returns-clause-sum c =
    let t = c.args.total in
    let a = c.args.a in
    let x = c.args.x in
    rw (add_shorter_read t _ _ a x c.requires c.ranges.a c.ranges.x c.from.ensures c.from-2.ensures) (sym (add_shorter_is t a x c.requires c.ranges.a c.ranges.x))

pub returns-clause-size : goal.returns-clause-size
returns-clause-size c =
    let t = c.args.total in
    let a = c.args.a in
    let x = c.args.x in
    rw (add_shorter_read t _ _ a x c.requires c.ranges.a c.ranges.x c.from.ensures c.from-2.ensures) (omega (arith, ints, shorter_product a x c.ranges.a c.ranges.x))

pub overflow_mul-result : goal.overflow_mul-result
overflow_mul-result c = shorter_fits _ _ c.args.a c.args.x c.ranges.a c.ranges.x c.from.ensures c.from-2.ensures

pub overflow_add-result : goal.overflow_add-result
overflow_add-result c = add_shorter_fits c.args.total _ _ c.args.a c.args.x c.requires c.ranges.a c.ranges.x c.from.ensures c.from-2.ensures
