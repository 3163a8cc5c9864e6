use Rattle.std.proofs.Common.{◌≡◌, Bool, true, ◌+◌, drop, map, rules, ap, sym, ◌∙◌}
use Rattle.std.specs.Prelude.{◌||◌}
use Rattle.std.specs.List.{list_any}
use Rattle.arithmetic.proofs.Lists.{drop_map}
use Rattle.account_need.specs.Account.{is_large}
use Rattle.account_need.specs.Prices.{option_sum}
use Rattle.account_need.proofs.account.are_large.Goals as goal

pub returns-then-is_large : goal.returns-then-is_large
returns-then-is_large c =
    let sums = c.args.sums.now in
    let i = c.loop-item.item-index in
    let item = c.item-item.result in
    let here = drop_map option_sum sums i item (search rules) (search rules) in
    let yes : is_large (option_sum item) ≡ true = sym c.is_large.ensures ∙ c.if-is_large.true in
    sym (c.loop-item.invariant ∙ ap (list_any is_large) here ∙ ap (λ (b : Bool). b || list_any is_large (drop (i + 1) (map option_sum sums))) yes)

pub loop-item-preserved : goal.loop-item-preserved
loop-item-preserved c =
    let sums = c.args.sums.now in
    let i = c.loop-item.item-index in
    let item = c.item-item.result in
    let here = drop_map option_sum sums i item (search rules) (search rules) in
    let no = sym c.is_large.ensures ∙ c.if-is_large.false in
    c.loop-item.invariant ∙ ap (list_any is_large) here ∙ ap (λ (b : Bool). b || list_any is_large (drop (i + 1) (map option_sum sums))) no
