use Rattle.std.proofs.Common.{List, length, sym, ap, ◌∙◌, subst, arith}
use Rattle.std.specs.List.{All}
use Rattle.order_book.specs.Book.{BookState}
use Rattle.order_book.specs.Refusals.{unless_memory}
use Rattle.order_book.proofs.Accepting.{closable}
use Rattle.lists.specs.Refusals.{refusal_in}
use Rattle.settlement.specs.declared.position.PaidOut.{PaidOut}
use Rattle.settlement.specs.declared.position.Position.{Position}
use Rattle.settlement.specs.Positions.{payouts_of}
use Rattle.exchange_core.specs.Kept.{AreJoined, ArePositionsKept, IsPaidOut}
use Rattle.exchange_core.proofs.Batches.{live_payable, market_there}
use Rattle.exchange_core.proofs.Joined.{joined-close, reserve_live}
use Rattle.exchange_core.proofs.PositionsKept.{positions-at, positions-closed, positions-same}
use Rattle.exchange_core.proofs.Settled.{are_paid_out, are_settled}
use Rattle.exchange_core.proofs.settle.settle.Goals as goal

pub payouts-requires : goal.payouts-requires
payouts-requires c =
    let none = sym c.check_close.ensures.refused ∙ ap (refusal_in unless_memory) c.in_ok-check_close.was in
    let (m, found, unsettled, count) = closable c.args.book.now c.args.market (length c.args.prices.now) none in
    are_settled c.args.ledger.now.accounts c.args.book.now c.args.market m found unsettled c.args.prices.now count c.requires.within c.args.positions.now.list c.requires.positions

pub pay_out_all-requires-clause-payable : goal.pay_out_all-requires-clause-payable
pay_out_all-requires-clause-payable c =
    let none = sym c.check_close.ensures.refused ∙ ap (refusal_in unless_memory) c.in_ok-check_close.was in
    let (m, found, unsettled, count) = closable c.args.book.now c.args.market (length c.args.prices.now) none in
    let paid = are_paid_out c.args.ledger.now.accounts c.args.book.now c.args.market m found unsettled c.args.prices.now count c.requires.within c.args.positions.now.list c.requires.positions in
    subst (λ (l : List PaidOut). All (IsPaidOut c.room.new.self.accounts) l) (sym (c.deref.ensures.value ∙ c.in_ok-payouts.ensures))
    (subst (λ accounts. All (IsPaidOut accounts) (payouts_of c.args.market c.args.prices.now c.args.positions.now.list)) (sym c.room.ensures.accounts) paid)

pub release_live-requires-clause-payable : goal.release_live-requires-clause-payable
release_live-requires-clause-payable c =
    let none = sym c.check_close.ensures.refused ∙ ap (refusal_in unless_memory) c.in_ok-check_close.was in
    let (m, found, unsettled, count) = closable c.args.book.now c.args.market (length c.args.prices.now) none in
    live_payable c.args.ledger.now c.args.book.now c.requires.joined c.args.market m found c.pay_out_all.new.ledger.accounts (c.pay_out_all.ensures.accounts ∙ c.room.ensures.accounts)

pub release_live-requires-clause-reserved : goal.release_live-requires-clause-reserved
release_live-requires-clause-reserved c q =
    let none = sym c.check_close.ensures.refused ∙ ap (refusal_in unless_memory) c.in_ok-check_close.was in
    let (m, found, unsettled, count) = closable c.args.book.now c.args.market (length c.args.prices.now) none in
    omega (arith, reserve_live c.args.ledger.now c.args.book.now c.requires.joined c.args.market (market_there c.args.book.now c.args.market m found) q, c.pay_out_all.ensures.reserves q, c.room.ensures.reserves q)

pub returns-clause-joined : goal.returns-clause-joined
returns-clause-joined c =
    let none = sym c.check_close.ensures.refused ∙ ap (refusal_in unless_memory) c.in_ok-check_close.was in
    let (m, found, unsettled, count) = closable c.args.book.now c.args.market (length c.args.prices.now) none in
    subst (AreJoined c.release_live.new.ledger) (sym c.close-lapsed.ensures.closed)
    (joined-close c.args.ledger.now c.args.book.now c.requires.joined c.release_live.new.ledger
    (c.release_live.ensures.accounts ∙ c.pay_out_all.ensures.accounts ∙ c.room.ensures.accounts) c.args.market m found
    (λ q. omega (arith, c.release_live.ensures.reserves q, c.pay_out_all.ensures.reserves q, c.room.ensures.reserves q)))

pub returns-clause-positions : goal.returns-clause-positions
returns-clause-positions c =
    let same = c.release_live.ensures.accounts ∙ c.pay_out_all.ensures.accounts ∙ c.room.ensures.accounts in
    let kept = positions-closed c.args.ledger.now.accounts c.args.market c.args.book.now.markets c.args.positions.now.list c.requires.positions in
    subst (λ (l : List Position). ArePositionsKept c.release_live.new.ledger.accounts c.close-lapsed.new.self.markets l) (sym c.drop_market.ensures.list)
    (positions-at _ (ap (λ (b : BookState). b.markets) c.close-lapsed.ensures.closed) (positions-same _ same kept))
