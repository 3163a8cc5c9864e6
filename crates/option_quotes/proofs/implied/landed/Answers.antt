use Rattle.std.proofs.Common.{rules, ◌≡◌, ◌≤◌, ◌<◌, ℕ, true, false, sym, subst}
use Rattle.form.specs.declared.limits.TheConstants.{MAX_PRICE}
use Rattle.option_quotes.specs.declared.ends.Probed.{Probed}
use Rattle.option_quotes.specs.Probes.{is_optimal}
use Rattle.option_quotes.proofs.Walks.{better_fits, lands_at, lands_beside, lands_spent, lands_unmarked}
use Rattle.option_quotes.proofs.implied.landed.Goals as goal

pub next_better-price-requires : goal.next_better-price-requires
next_better-price-requires c = c.requires.other.within

pub returns-then-price-raising : goal.returns-then-price-raising
returns-then-price-raising c =
    let p = c.args.probing.now in
    lands_beside p.batch.now p.order p.limit c.args.left c.args.ends c.requires.raising c.requires.other c.next_better-price.result c.next_better-price.ensures c.if-price-raising.true

pub returns-then-left-eq0 : goal.returns-then-left-eq0
returns-then-left-eq0 c =
    let p = c.args.probing.now in
    lands_spent p.batch.now p.order p.limit c.args.left c.args.ends c.requires.raising c.requires.other c.next_better-price.result c.next_better-price.ensures c.if-left-eq0.true
    c.if-price-raising.false

pub probe-requires-clause-price : goal.probe-requires-clause-price
probe-requires-clause-price c =
    let p = c.args.probing.now in
    subst (λ (p : ℕ). p ≤ MAX_PRICE) (sym c.next_better-price.ensures)
    (better_fits p.order.side c.args.ends.raising.price c.args.ends.other.price c.requires.raising.within c.requires.other.within c.requires.better)

pub returns-then-not-is_optimal : goal.returns-then-not-is_optimal
returns-then-not-is_optimal c =
    let p = c.args.probing.now in
    let some : 0 < c.args.left = search rules in
    let above : Probed = record { price = c.next_better-price.result; outcome = c.in_ok-outcome.outcome } in
    let not_optimal : is_optimal c.in_ok-outcome.outcome ≡ false = search rules in
    lands_unmarked p.batch.now p.order p.limit c.args.left c.args.ends c.requires.raising c.requires.other some above c.if-price-raising.false c.next_better-price.ensures c.in_ok-outcome.ensures not_optimal

pub returns : goal.returns
returns c =
    let p = c.args.probing.now in
    let some : 0 < c.args.left = search rules in
    let above : Probed = record { price = c.next_better-price.result; outcome = c.in_ok-outcome.outcome } in
    let optimal : is_optimal c.in_ok-outcome.outcome ≡ true = search rules in
    lands_at p.batch.now p.order p.limit c.args.left c.args.ends c.requires.raising c.requires.other some above c.if-price-raising.false c.next_better-price.ensures c.in_ok-outcome.ensures optimal
