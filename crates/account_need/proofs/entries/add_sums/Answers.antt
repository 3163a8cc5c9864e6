use Rattle.std.proofs.Common.{◌<◌, ◌++◌, [], ◌∷◌, length, map, rules, arith, ◌∙◌}
use Rattle.std.proofs.lemmas.List.{length-map}
use Rattle.arithmetic.proofs.Lists.{item_of}
use Rattle.account_need.specs.Prices.{option_sum}
use Rattle.account_need.specs.Several.{owing_sum}
use Rattle.account_need.proofs.Bounded.{mapped_more}
use Rattle.account_need.proofs.entries.add_sums.Goals as goal

pub loop-item-preserved : goal.loop-item-preserved
loop-item-preserved c =
    let sums = c.args.sums.now in
    let i = c.loop-item.item-index in
    let item = c.item-item.result in
    let lt : i < length (map option_sum sums) = omega (arith, c.loop-item-test.true, length-map sums option_sum) in
    let more = mapped_more owing_sum (map option_sum sums) i (option_sum item) c.args.owed.now.items lt (item_of option_sum sums i item (search rules) (search rules)) in
    c.in_ok-push.ensures.items ∙ (λ j. c.loop-item.invariant j ++ c.owing_sum.ensures j ∷ []) ∙ more
