use Rattle.std.proofs.Common.{sym, ◌∙◌, arith}
use Rattle.order_book.specs.Book.{live_of}
use Rattle.exchange_core.specs.Reserves.{cost_of}
use Rattle.exchange_core.proofs.Joined.{own_amount-own}
use Rattle.exchange_core.proofs.ReserveSums.{reserve_of-dropped, reserve_of-drop}
use Rattle.exchange_core.proofs.settle.release_live.Goals as goal

pub release_cost-requires-clause-reserved : goal.release_cost-requires-clause-reserved
release_cost-requires-clause-reserved c =
    let order = c.unwrap.result in
    let q = order.account in
    let live = live_of c.args.book.now c.args.market in
    let found = sym c.live_order.ensures.order ∙ c.unwrap.ensures in
    omega (arith, own_amount-own q (cost_of order), reserve_of-dropped q c.loop-place.place order live found, reserve_of-drop q c.loop-place.place live, c.loop-place.invariant.reserves q, c.requires.reserved q)

pub loop-place-preserved : goal.loop-place-preserved
loop-place-preserved c =
    let live = live_of c.args.book.now c.args.market in
    let found = sym c.live_order.ensures.order ∙ c.unwrap.ensures in
    record {
      reserves = λ q. omega (arith, c.release_cost.ensures.reserves q, c.loop-place.invariant.reserves q, reserve_of-dropped q c.loop-place.place c.unwrap.result live found);
      accounts = c.release_cost.ensures.accounts ∙ c.loop-place.invariant.accounts;
      entries = c.release_cost.ensures.entries ∙ c.loop-place.invariant.entries;
    }
