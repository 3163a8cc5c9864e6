use Rattle.std.proofs.Common.{arith, sym}
use Rattle.std.proofs.lemmas.Int.{ints}
use Rattle.form.proofs.WholeSteps.{add_counted_fits, add_counted_is, add_counted_read, counted_fits, counted_product}
use Rattle.form.proofs.payoffs.add_short_count.Goals as goal

pub returns-clause-sum : goal.returns-clause-sum
returns-clause-sum c =
    let t = c.args.total in
    let a = c.args.count in
    let x = c.args.value in
    rw (add_counted_read t _ a x c.requires.total c.ranges.count c.requires.value c.from.ensures) (sym (add_counted_is t a x c.requires.total c.ranges.count c.requires.value))

pub returns-clause-size : goal.returns-clause-size
returns-clause-size c =
    let t = c.args.total in
    let a = c.args.count in
    let x = c.args.value in
    rw (add_counted_read t _ a x c.requires.total c.ranges.count c.requires.value c.from.ensures) (omega (arith, ints, counted_product a x c.ranges.count c.requires.value))

pub overflow_mul-result : goal.overflow_mul-result
overflow_mul-result c = counted_fits _ c.args.count c.args.value c.ranges.count c.requires.value c.from.ensures

pub overflow_add-result : goal.overflow_add-result
overflow_add-result c = add_counted_fits c.args.total _ c.args.count c.args.value c.requires.total c.ranges.count c.requires.value c.from.ensures
