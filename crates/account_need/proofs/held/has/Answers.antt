use Rattle.std.proofs.Common.{◌≡◌, Bool, true, List, ℤ, ◌+◌, drop, map, rules, ap, sym, ◌∙◌}
use Rattle.std.specs.Prelude.{◌||◌}
use Rattle.form.specs.Payoff.{option_of}
use Rattle.form.specs.Vector.{is_same_option}
use Rattle.account_need.specs.Prices.{option_sum}
use Rattle.account_need.specs.Rounded.{option_in}
use Rattle.account_need.proofs.EachOnce.{has}
use Rattle.account_need.proofs.LineBounds.{drop_maps}
use Rattle.account_need.proofs.held.has.Goals as goal

pub returns-then-is_same : goal.returns-then-is_same
returns-then-is_same c =
    let v = option_of c.args.form.now in
    let sums = c.args.sums.now in
    let i = c.loop-item.item-index in
    let item = c.item-item.result in
    let here = drop_maps option_in option_sum sums i item (search rules) (search rules) in
    let yes : is_same_option (option_of item.form) v ≡ true = sym c.is_same.ensures ∙ c.if-is_same.true in
    sym (c.loop-item.invariant ∙ ap (λ (xs : List (List ℤ)). has xs v) here ∙ ap (λ (b : Bool). b || has (drop (i + 1) (map option_in (map option_sum sums))) v) yes)

pub loop-item-preserved : goal.loop-item-preserved
loop-item-preserved c =
    let v = option_of c.args.form.now in
    let sums = c.args.sums.now in
    let i = c.loop-item.item-index in
    let item = c.item-item.result in
    let here = drop_maps option_in option_sum sums i item (search rules) (search rules) in
    let no = sym c.is_same.ensures ∙ c.if-is_same.false in
    c.loop-item.invariant ∙ ap (λ (xs : List (List ℤ)). has xs v) here ∙ ap (λ (b : Bool). b || has (drop (i + 1) (map option_in (map option_sum sums))) v) no
