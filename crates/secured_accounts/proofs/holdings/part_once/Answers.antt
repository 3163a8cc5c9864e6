use Rattle.std.proofs.lemmas.Result.{IfOk-weaker}
use Rattle.secured_accounts.specs.Secured.{with_placed}
use Rattle.secured_accounts.proofs.PartsFound.{as_many, is_market, kept_placed, placed_apart, placed_there}
use Rattle.secured_accounts.proofs.holdings.part_once.Goals as goal

pub returns-in_default-clause-within : goal.returns-in_default-clause-within
returns-in_default-clause-within c =
    is_market c.args.exchange.now c.args.account c.args.number c.in_ok-market.market c.in_ok-market.ensures.kept c.in_ok-market.ensures.part c.in_ok-market.ensures.few

pub returns-then-order-number-clause-part : goal.returns-then-order-number-clause-part
returns-then-order-number-clause-part c =
    IfOk-weaker c.with_live.result _ _
    (λ more is. placed_there c.args.exchange.now c.args.account c.args.placed.now c.requires c.in-Some.order c.in-Some.is c.args.number c.in_ok-market.market more c.as_live.result
    c.if-order-number.true c.as_live.ensures c.in_ok-market.ensures.part is) c.with_live.ensures

pub returns-then-order-number-clause-within : goal.returns-then-order-number-clause-within
returns-then-order-number-clause-within c =
    let state = c.args.exchange.now in
    let account = c.args.account in
    let market = c.in_ok-market.market in
    IfOk-weaker c.with_live.result _ _
    (λ more is. is_market (with_placed state c.args.placed.now) account c.args.number more (kept_placed state account c.in_ok-market.ensures.kept c.args.placed.now c.requires)
    (placed_there state account c.args.placed.now c.requires c.in-Some.order c.in-Some.is c.args.number market more c.as_live.result
    c.if-order-number.true c.as_live.ensures c.in_ok-market.ensures.part is) (as_many market more c.as_live.result is c.in_ok-market.ensures.few)) c.with_live.ensures

pub returns-else-order-number-clause-part : goal.returns-else-order-number-clause-part
returns-else-order-number-clause-part c =
    placed_apart c.args.exchange.now c.args.account c.args.placed.now c.requires c.in-Some.order c.in-Some.is c.args.number c.in_ok-market.market
    c.if-order-number.false c.in_ok-market.ensures.part

pub returns-else-order-number-clause-within : goal.returns-else-order-number-clause-within
returns-else-order-number-clause-within c =
    is_market c.args.exchange.now c.args.account c.args.number c.in_ok-market.market c.in_ok-market.ensures.kept c.in_ok-market.ensures.part c.in_ok-market.ensures.few
