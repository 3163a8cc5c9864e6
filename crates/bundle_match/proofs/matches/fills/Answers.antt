use Rattle.std.proofs.Common.{rules, refl, ◌∙◌}
use Rattle.std.proofs.lemmas.Option.{slice_get_read}
use Rattle.bundle_match.proofs.Fills.{fills_more, fill_fits}
use Rattle.bundle_match.proofs.matches.fills.Goals as goal

pub fill_at-requires : goal.fill_at-requires
fill_at-requires c =
    fill_fits c.args.orders.now c.loop-place.place c.index-orders-place.result c.args.trades.now c.requires (slice_get_read _ _ _ _ refl c.loop-place-test.true c.index-orders-place.is) (search rules)

pub loop-place-preserved : goal.loop-place-preserved
loop-place-preserved c =
    let order = c.index-orders-place.result in
    let at = slice_get_read _ _ _ _ refl c.loop-place-test.true c.index-orders-place.is in
    fills_more c.args.orders.now c.loop-place.place order c.loop-place.fills.items _ _ c.fill_at.result at c.in_ok-push.ensures.items (c.fill_at.ensures ∙ c.requires c.loop-place.place order at) c.loop-place.invariant
