use Rattle.std.proofs.Common.{List, ◌++◌, sym, ap, ◌∙◌, subst, arith}
use Rattle.order_book.specs.Book.{BookState}
use Rattle.order_book.proofs.Accepting.{unrefused}
use Rattle.exchange_core.specs.Kept.{AreJoined, ArePositionsKept}
use Rattle.exchange_core.specs.Positions.{positions_in}
use Rattle.settlement.specs.declared.position.Position.{Position}
use Rattle.exchange_core.proofs.NewPositions.{fills_held, with_batch_kept}
use Rattle.exchange_core.proofs.PositionsKept.{positions-at, positions-same}
use Rattle.exchange_core.specs.Reserves.{reserve_of}
use Rattle.exchange_core.proofs.Batches.{batch_found, batch_payable, fills_paid}
use Rattle.exchange_core.proofs.Joined.{joined-batch, reserve_live}
use Rattle.exchange_core.proofs.clear.charge_fills.Goals as goal

pub pay_all-requires-clause-payable : goal.pay_all-requires-clause-payable
pay_all-requires-clause-payable c =
    let found = batch_found c.args.book.now c.args.market c.args.batch.now c.requires.batch in
    batch_payable c.args.ledger.now c.args.book.now c.requires.joined c.args.market c.args.batch.now found.1 c.requires.within.orders_within
    c.room.new.self.accounts c.as_slice-orders.result.now c.room.ensures.accounts c.as_slice-orders.ensures

pub pay_all-requires-clause-size : goal.pay_all-requires-clause-size
pay_all-requires-clause-size c =
    (fills_paid c.args.batch.now c.args.fills.now c.as_slice-orders.result.now c.as_slice.result.now c.requires.within c.requires.fills c.as_slice-orders.ensures c.as_slice.ensures).0

pub pay_all-requires-clause-fills : goal.pay_all-requires-clause-fills
pay_all-requires-clause-fills c =
    (fills_paid c.args.batch.now c.args.fills.now c.as_slice-orders.result.now c.as_slice.result.now c.requires.within c.requires.fills c.as_slice-orders.ensures c.as_slice.ensures).1

pub release_all-requires-clause-payable : goal.release_all-requires-clause-payable
release_all-requires-clause-payable c =
    let found = batch_found c.args.book.now c.args.market c.args.batch.now c.requires.batch in
    batch_payable c.args.ledger.now c.args.book.now c.requires.joined c.args.market c.args.batch.now found.1 c.requires.within.orders_within
    c.pay_all.new.ledger.accounts c.as_slice-orders.result.now (c.pay_all.ensures.accounts ∙ c.room.ensures.accounts) c.as_slice-orders.ensures

pub release_all-requires-clause-reserved : goal.release_all-requires-clause-reserved
release_all-requires-clause-reserved c q =
    let found = batch_found c.args.book.now c.args.market c.args.batch.now c.requires.batch in
    let live = reserve_live c.args.ledger.now c.args.book.now c.requires.joined c.args.market found.0 q in
    omega (arith, live, ap (reserve_of q) (found.1 ∙ sym c.as_slice-orders.ensures), c.pay_all.ensures.reserves q, c.room.ensures.reserves q)

pub returns-clause-joined : goal.returns-clause-joined
returns-clause-joined c =
    let none = unrefused c.args.book.now c.args.market c.requires.open c.requires.few in
    let found = batch_found c.args.book.now c.args.market c.args.batch.now c.requires.batch in
    subst (AreJoined c.release_all.new.ledger) (sym c.finish_batch-number.ensures.finished)
    (joined-batch c.args.ledger.now c.args.book.now c.requires.joined c.release_all.new.ledger
    (c.release_all.ensures.accounts ∙ c.pay_all.ensures.accounts ∙ c.room.ensures.accounts) c.args.market none
    (λ q. omega (arith, ap (reserve_of q) (found.1 ∙ sym c.as_slice-orders.ensures), c.release_all.ensures.reserves q, c.pay_all.ensures.reserves q, c.room.ensures.reserves q)))

pub add_positions-requires-clause-held : goal.add_positions-requires-clause-held
add_positions-requires-clause-held c =
    fills_held c.args.batch.now c.args.fills.now c.as_slice-orders.result.now c.as_slice-2.result.now c.requires.within c.requires.fills c.as_slice-orders.ensures c.as_slice-2.ensures

pub returns-clause-positions : goal.returns-clause-positions
returns-clause-positions c =
    let none = unrefused c.args.book.now c.args.market c.requires.open c.requires.few in
    let found = batch_found c.args.book.now c.args.market c.args.batch.now c.requires.batch in
    let same = c.release_all.ensures.accounts ∙ c.pay_all.ensures.accounts ∙ c.room.ensures.accounts in
    let old = c.args.positions.now.list in
    let kept = with_batch_kept c.args.ledger.now.accounts c.args.book.now old c.requires.joined.kept c.requires.positions c.args.market c.finish_batch-number.result none
    c.args.batch.now c.args.fills.now c.as_slice-orders.result.now c.as_slice-2.result.now found.1 c.requires.fills c.as_slice-orders.ensures c.as_slice-2.ensures in
    let new = positions_in c.args.market c.finish_batch-number.result c.as_slice-orders.result.now c.as_slice-2.result.now in
    let list = c.add_positions.ensures.list ∙ ap (λ (l : List Position). l ++ new) c.room-2.ensures.list in
    subst (λ (l : List Position). ArePositionsKept c.release_all.new.ledger.accounts c.finish_batch-number.new.self.markets l) (sym list)
    (positions-at _ (ap (λ (b : BookState). b.markets) c.finish_batch-number.ensures.finished) (positions-same _ same kept))
