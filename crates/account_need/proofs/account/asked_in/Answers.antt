use Rattle.std.proofs.Common.{◌+◌, All, rules, sym, subst}
use Rattle.account_need.specs.Prices.{IsPositionOn, IsSumOn}
use Rattle.account_need.proofs.Runs.{orders_within}
use Rattle.account_need.proofs.account.asked_in.Goals as goal

pub bound_of-requires-clause-sums : goal.bound_of-requires-clause-sums
bound_of-requires-clause-sums c =
    let count = c.args.market.now.underlyings + 1 in
    let on : All (IsPositionOn count) c.deref.result.now = subst (All (IsPositionOn count)) (sym c.deref.ensures.value) c.requires.market.positions in
    let sums : All (IsSumOn count) c.in_ok-sums.sums.items = c.in_ok-sums.ensures.on count on in
    subst (All (IsSumOn count)) (sym c.deref-2.ensures.value) sums

pub reserve-requires-clause-within : goal.reserve-requires-clause-within
reserve-requires-clause-within c = search (rules, orders_within (c.args.market.now.underlyings + 1) c.args.market.now.live.items c.requires.market.orders)
