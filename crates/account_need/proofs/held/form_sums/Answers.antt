use Rattle.std.proofs.Common.{◌≡◌, ◌<◌, ◌≤◌, ◌++◌, [], ◌∷◌, length, map, filter, rules, arith, ap, ◌∙◌, of_z}
use mir.Syntax.{w128}
use Rattle.std.proofs.lemmas.List.{length-map, map-append, take_all}
use Rattle.arithmetic.proofs.Lists.{item_of}
use Rattle.account_need.specs.Prices.{option_sum}
use Rattle.account_need.specs.Rounded.{is_some_sum}
use Rattle.account_need.proofs.HeldSums.{is_zero, not_zero, sum_added, sum_left_out}
use Rattle.account_need.proofs.Listed.{sums_on}
use Rattle.account_need.proofs.held.form_sums.Goals as goal
use Rattle.account_need.proofs.held.form_sums.Goals.{then-item-ne0+in_ok-push, else-item-ne0}

pub loop-item-preserved : goal.loop-item-preserved
loop-item-preserved c =
    let held = c.deref-item-items.result.now in
    let all = map option_sum held in
    let i = c.loop-item.item-index in
    let item = c.item-item.result in
    let lt : i < length all = omega (arith, c.loop-item-test.true, length-map held option_sum) in
    let is = item_of option_sum held i item c.loop-item-test.true c.item-item.is in
    let sums = c.loop-item.sums.items in
    let more = c.if-item-ne0.sums.items in
    elim c.if-item-ne0.branch [
      | then-item-ne0+in_ok-push w ↦
          let new : more ≡ sums ++ item ∷ [] = search rules in
          ap (map option_sum) new ∙ map-append option_sum sums (item ∷ []) ∙ sum_added all i (option_sum item) lt is (map option_sum sums) (not_zero item.sum (λ e. w.if-item-ne0.true (ap (of_z w128) e))) c.loop-item.invariant
      | else-item-ne0 w ↦
          let same : more ≡ sums = search rules in
          ap (map option_sum) same ∙ sum_left_out all i (option_sum item) lt is (map option_sum sums) (is_zero item.sum (search rules)) c.loop-item.invariant
    ]

pub returns-clause-sums : goal.returns-clause-sums
returns-clause-sums c =
    let held = c.deref-item-items.result.now in
    let all = map option_sum held in
    let end : length all ≤ c.loop-item.item-index = omega (arith, c.loop-item-test.false, length-map held option_sum) in
    c.loop-item.invariant
    ∙ ap (filter is_some_sum) (take_all c.loop-item.item-index all end ∙ ap (map option_sum) c.deref-item-items.ensures.value ∙ c.in_ok-held.ensures)

pub returns-clause-on : goal.returns-clause-on
returns-clause-on c = λ count on. sums_on count c.args.positions.now c.loop-item.sums.items c.requires.held c.requires.few on (returns-clause-sums c)
