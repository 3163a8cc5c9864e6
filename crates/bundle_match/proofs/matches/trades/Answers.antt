use Rattle.std.proofs.Common.{◌+◌, ◌++◌, ◌∙◌, refl, sym, ap, ap₂, subst}
use Rattle.std.proofs.lemmas.Option.{slice_get_read}
use Rattle.bundle_match.specs.Auction.{auction}
use Rattle.bundle_match.proofs.Options.{AreTradesSoFar, first_of_bundle, later_of_bundle, all_trades}
use Rattle.bundle_match.proofs.matches.trades.Goals as goal
use Rattle.bundle_match.proofs.matches.trades.Goals.{then-not-is_seen+in_ok-buys+in_ok-sells+in_ok-auction, else-not-is_seen}

pub loop-place-preserved : goal.loop-place-preserved
loop-place-preserved c =
    let orders = c.args.orders.now in
    let place = c.loop-place.place in
    let done = c.loop-place.trades.items in
    let order = c.index-orders-place.result in
    let at = slice_get_read _ _ _ _ refl c.loop-place-test.true c.index-orders-place.is in
    elim c.if-not-is_seen.branch [
      | then-not-is_seen+in_ok-buys+in_ok-sells+in_ok-auction w ↦
          subst (AreTradesSoFar orders (place + 1)) (sym (ap (λ v. v.items) w.trades-is ∙ w.in_ok-auction.ensures ∙ ap₂ (λ b s. done ++ auction b s) w.in_ok-buys.ensures w.in_ok-sells.ensures))
          (first_of_bundle orders place order at done c.loop-place.invariant (sym c.is_seen.ensures ∙ w.if-not-is_seen.true))
      | else-not-is_seen w ↦
          subst (AreTradesSoFar orders (place + 1)) (sym (ap (λ v. v.items) w.trades-is)) (later_of_bundle orders place order at done c.loop-place.invariant (sym c.is_seen.ensures ∙ w.if-not-is_seen.false))
    ]

pub returns : goal.returns
returns c = all_trades _ c.loop-place.place c.loop-place.trades.items c.loop-place-test.false c.loop-place.invariant
