use Rattle.std.proofs.Common.{◌++◌, append-nil, ◌∙◌, sym, ap}
use Rattle.bundle_match.proofs.Turns.{ended, turn_keeps}
use Rattle.bundle_match.proofs.auction.auction.Goals as goal

pub loop-trade-preserved : goal.loop-trade-preserved
loop-trade-preserved c =
    turn_keeps c.loop-trade.trades.items _ _ c.in-Some.trade _ _ _ _ (sym c.in-Some.ensures) c.in_ok-push.ensures.items c.fill_first.ensures c.fill_first-in-Some.ensures c.loop-trade.invariant

pub returns : goal.returns
returns c =
    let done = c.loop-trade.trades.items in
    sym (append-nil done) ∙ ap (λ l. done ++ l) (sym (ended c.loop-trade.buys.items c.loop-trade.sells.items (sym c.next_trade.ensures ∙ c.in_default.is))) ∙ c.loop-trade.invariant
