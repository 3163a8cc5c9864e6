use Rattle.std.proofs.Common.{◌∙◌, to_z-of_z, ◌*◌, ◌*ℤ◌, pos}
use Rattle.frac.specs.Value.{fraction_of}
use Rattle.frac.proofs.Reducing.{less_reduced}
use Rattle.frac.proofs.SmallSteps.{less_numbers_fit, total_is}
use Rattle.frac.proofs.small.small_less_product.Goals as goal

pub overflow_mul-total : goal.overflow_mul-total
overflow_mul-total c =
    let f = less_numbers_fit (fraction_of c.args.x) (fraction_of c.args.y) (fraction_of c.args.z) c.requires.number c.requires.left c.requires.right in
    rw (to_z-of_z f.above, f.product_below) f.left

pub overflow_mul-total-2 : goal.overflow_mul-total-2
overflow_mul-total-2 c =
    let f = less_numbers_fit (fraction_of c.args.x) (fraction_of c.args.y) (fraction_of c.args.z) c.requires.number c.requires.left c.requires.right in
    rw (f.product.left, f.product.right, to_z-of_z f.product.short, to_z-of_z f.product.wide, f.below) f.right

pub overflow_sub-total : goal.overflow_sub-total
overflow_sub-total c =
    let f = less_numbers_fit (fraction_of c.args.x) (fraction_of c.args.y) (fraction_of c.args.z) c.requires.number c.requires.left c.requires.right in
    rw (to_z-of_z f.above, f.product_below, to_z-of_z f.left, f.product.left, f.product.right, to_z-of_z f.product.short, to_z-of_z f.product.wide, f.below, to_z-of_z f.right) f.total

pub reduced-requires-clause-above : goal.reduced-requires-clause-above
reduced-requires-clause-above c =
    let f = less_numbers_fit (fraction_of c.args.x) (fraction_of c.args.y) (fraction_of c.args.z) c.requires.number c.requires.left c.requires.right in
    rw (to_z-of_z f.above, f.product_below, to_z-of_z f.left, f.product.left, f.product.right, to_z-of_z f.product.short, to_z-of_z f.product.wide, f.below, to_z-of_z f.right, to_z-of_z f.total) f.size

pub returns : goal.returns
returns c =
    let x = fraction_of c.args.x in
    let y = fraction_of c.args.y in
    let z = fraction_of c.args.z in
    let f = less_numbers_fit (fraction_of c.args.x) (fraction_of c.args.y) (fraction_of c.args.z) c.requires.number c.requires.left c.requires.right in
    (simp (to_z-of_z f.above, f.product_below, to_z-of_z f.left, f.product.left, f.product.right, to_z-of_z f.product.short, to_z-of_z f.product.wide, f.below, to_z-of_z f.right, to_z-of_z f.total) at c.reduced.ensures)
    ∙ less_reduced x y z _ c.args.x.lowest c.args.y.lowest c.args.z.lowest (total_is (x.numerator *ℤ pos (y.denominator * z.denominator)) ((y.numerator *ℤ z.numerator) *ℤ pos x.denominator))
