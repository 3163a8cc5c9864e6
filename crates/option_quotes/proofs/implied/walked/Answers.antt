use Rattle.std.proofs.Common.{rules, ◌≡◌, ◌≤◌, ◌<◌, ℕ, true, false, sym, subst, ◌∙◌}
use Rattle.std.proofs.lemmas.Result.{IfOk-weaker}
use Rattle.form.specs.declared.limits.TheConstants.{MAX_PRICE}
use Rattle.option_quotes.specs.declared.ends.Probed.{Probed}
use Rattle.option_quotes.specs.Probes.{is_optimal, is_raised, worst_price}
use Rattle.option_quotes.proofs.Walks.{along_fits, other_is_worse, other_probed, shown_not_below, walks_end, walks_first, walks_land, walks_on, walks_spent, walks_unmarked}
use Rattle.option_quotes.proofs.implied.walked.Goals as goal

pub loop-raising-init : goal.loop-raising-init
loop-raising-init c =
    let p = c.args.probing.now in
    walks_first p.batch.now p.order p.limit c.args.base.now c.args.raising c.requires.raising c.requires.raised

pub next_along-price-requires-clause-base : goal.next_along-price-requires-clause-base
next_along-price-requires-clause-base c =
    let p = c.args.probing.now in
    shown_not_below p.batch.now p.limit c.args.base.now c.requires.base

pub next_along-price-requires-clause-price : goal.next_along-price-requires-clause-price
next_along-price-requires-clause-price c = c.loop-raising.invariant.is.within

pub returns-then-left-eq0 : goal.returns-then-left-eq0
returns-then-left-eq0 c =
    let p = c.args.probing.now in
    walks_spent p.batch.now p.order p.limit c.args.base.now c.args.raising.price c.loop-raising.left c.loop-raising.raising c.loop-raising.invariant c.if-left-eq0.true
    (λ e. c.loop-raising-test.true (e ∙ sym c.worst_price.ensures))

pub probe-requires-clause-price : goal.probe-requires-clause-price
probe-requires-clause-price c =
    let p = c.args.probing.now in
    subst (λ (p : ℕ). p ≤ MAX_PRICE) (sym c.next_along-price.ensures) (along_fits p.order.side c.loop-raising.raising.price _ c.loop-raising.invariant.is.within)

pub returns-then-not-is_optimal : goal.returns-then-not-is_optimal
returns-then-not-is_optimal c =
    let p = c.args.probing.now in
    let some : 0 < c.loop-raising.left = search rules in
    let other : Probed = record { price = c.next_along-price.result; outcome = c.in_ok-outcome.outcome } in
    let not_optimal : is_optimal c.in_ok-outcome.outcome ≡ false = search rules in
    walks_unmarked p.batch.now p.order p.limit c.args.base.now c.args.raising.price c.loop-raising.left c.loop-raising.raising c.loop-raising.invariant some
    (λ e. c.loop-raising-test.true (e ∙ sym c.worst_price.ensures)) other c.next_along-price.ensures c.in_ok-outcome.ensures not_optimal

pub landed-requires-clause-raising : goal.landed-requires-clause-raising
landed-requires-clause-raising c = c.loop-raising.invariant.is

pub landed-requires-clause-other : goal.landed-requires-clause-other
landed-requires-clause-other c =
    let p = c.args.probing.now in
    let some : 0 < c.loop-raising.left = search rules in
    let other : Probed = record { price = c.next_along-price.result; outcome = c.in_ok-outcome.outcome } in
    let optimal : is_optimal c.in_ok-outcome.outcome ≡ true = search rules in
    other_probed p.batch.now p.order p.limit c.args.base.now c.args.raising.price c.loop-raising.left c.loop-raising.raising c.loop-raising.invariant some
    (λ e. c.loop-raising-test.true (e ∙ sym c.worst_price.ensures)) other c.next_along-price.ensures c.in_ok-outcome.ensures optimal

pub landed-requires-clause-better : goal.landed-requires-clause-better
landed-requires-clause-better c =
    let p = c.args.probing.now in
    let some : 0 < c.loop-raising.left = search rules in
    let other : Probed = record { price = c.next_along-price.result; outcome = c.in_ok-outcome.outcome } in
    other_is_worse p.batch.now p.order p.limit c.args.base.now c.args.raising.price c.loop-raising.left c.loop-raising.raising c.loop-raising.invariant some
    (λ e. c.loop-raising-test.true (e ∙ sym c.worst_price.ensures)) other c.next_along-price.ensures c.in_ok-outcome.ensures

pub returns-then-not-is_raised : goal.returns-then-not-is_raised
returns-then-not-is_raised c =
    let p = c.args.probing.now in
    let some : 0 < c.loop-raising.left = search rules in
    let other : Probed = record { price = c.next_along-price.result; outcome = c.in_ok-outcome.outcome } in
    let optimal : is_optimal c.in_ok-outcome.outcome ≡ true = search rules in
    let not_raised : is_raised c.args.base.now c.in_ok-outcome.outcome ≡ false = search rules in
    let land = walks_land p.batch.now p.order p.limit c.args.base.now c.args.raising.price c.loop-raising.left c.loop-raising.raising c.loop-raising.invariant some
    (λ e. c.loop-raising-test.true (e ∙ sym c.worst_price.ensures)) other c.next_along-price.ensures c.in_ok-outcome.ensures optimal not_raised in
    IfOk-weaker c.landed.result _ _ (λ implied is. is ∙ land) c.landed.ensures

pub loop-raising-preserved : goal.loop-raising-preserved
loop-raising-preserved c =
    let p = c.args.probing.now in
    let some : 0 < c.loop-raising.left = search rules in
    let other : Probed = record { price = c.next_along-price.result; outcome = c.in_ok-outcome.outcome } in
    let optimal : is_optimal c.in_ok-outcome.outcome ≡ true = search rules in
    let raised : is_raised c.args.base.now c.in_ok-outcome.outcome ≡ true = search rules in
    walks_on p.batch.now p.order p.limit c.args.base.now c.args.raising.price c.loop-raising.left c.loop-raising.raising c.loop-raising.invariant some
    (λ e. c.loop-raising-test.true (e ∙ sym c.worst_price.ensures)) other c.next_along-price.ensures c.in_ok-outcome.ensures optimal raised

pub returns : goal.returns
returns c =
    let p = c.args.probing.now in
    let at : c.loop-raising.raising.price ≡ worst_price p.order.side = search rules in
    walks_end p.batch.now p.order p.limit c.args.base.now c.args.raising.price c.loop-raising.left c.loop-raising.raising c.loop-raising.invariant at
