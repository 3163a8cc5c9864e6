use Rattle.std.proofs.Common.{◌+◌, ◌*◌, arith}
use Rattle.newton_step.proofs.Carries.{share_is_less, in_order, is_down, is_next}
use Rattle.newton_step.proofs.differences.scaled_difference.Goals as goal

pub difference-requires-clause-added : goal.difference-requires-clause-added
difference-requires-clause-added c =
    share_is_less c.args.x.above c.args.x.below c.args.factor _ c.divided_product-added.result.rest c.requires.left.0 c.requires.factor.0 c.divided_product-added.ensures.value

pub difference-requires-clause-taken : goal.difference-requires-clause-taken
difference-requires-clause-taken c =
    let less = share_is_less c.args.y.above c.args.y.below c.args.factor _ c.divided_product-taken.result.rest c.requires.right.0 c.requires.factor.0 c.divided_product-taken.ensures.value in
    omega (arith, less, c.carried-carry.ensures.once)

pub difference-requires-clause-ordered : goal.difference-requires-clause-ordered
difference-requires-clause-ordered c =
    let x = c.args.x in
    let y = c.args.y in
    let added = c.divided_product-added in
    let taken = c.divided_product-taken in
    in_order x.whole x.above y.whole y.above x.below y.below c.args.factor added.result.quotient added.result.rest taken.result.quotient taken.result.rest c.carried-carry.result added.ensures.value taken.ensures.value
    c.carried-carry.ensures.below c.requires.ordered

pub returns-clause-down : goal.returns-clause-down
returns-clause-down c =
    let x = c.args.x in
    let y = c.args.y in
    let added = c.divided_product-added in
    let taken = c.divided_product-taken in
    is_down x.whole x.above y.whole y.above x.below y.below c.args.factor added.result.quotient added.result.rest taken.result.quotient taken.result.rest c.carried-carry.result added.ensures.value taken.ensures.value
    (c.difference.result.quotient * c.args.factor + c.difference.result.rest) c.difference.ensures.value c.carried-carry.ensures.not_below

pub returns-clause-next : goal.returns-clause-next
returns-clause-next c =
    let x = c.args.x in
    let y = c.args.y in
    let added = c.divided_product-added in
    let taken = c.divided_product-taken in
    is_next x.whole x.above y.whole y.above x.below y.below c.args.factor added.result.quotient added.result.rest taken.result.quotient taken.result.rest c.carried-carry.result added.ensures.value taken.ensures.value
    (c.difference.result.quotient * c.args.factor + c.difference.result.rest) c.difference.ensures.value c.carried-carry.ensures.below
