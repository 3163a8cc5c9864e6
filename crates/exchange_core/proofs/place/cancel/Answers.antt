use Rattle.std.proofs.Common.{◌≤◌, sym, subst}
use Rattle.cash_ledger.specs.Ledger.{reserved_of}
use Rattle.exchange_core.specs.Kept.{AreJoined}
use Rattle.exchange_core.specs.Reserves.{cost_of}
use Rattle.exchange_core.proofs.Joined.{joined-cancel, reserve_there, own_amount-own}
use Rattle.exchange_core.proofs.place.cancel.Goals as goal

pub release_cost-requires-clause-reserved : goal.release_cost-requires-clause-reserved
release_cost-requires-clause-reserved c =
    let order = c.in_ok-order.order in
    subst (λ n. n ≤ reserved_of c.args.ledger.now order.account) (own_amount-own order.account (cost_of order))
    (reserve_there c.args.ledger.now c.args.book.now c.requires.joined c.args.number order c.in_ok-order.ensures.order order.account)

pub returns-clause-joined : goal.returns-clause-joined
returns-clause-joined c =
    subst (AreJoined c.release_cost.new.ledger) (sym c.in_ok-order.ensures.ok)
    (joined-cancel c.args.ledger.now c.args.book.now c.requires.joined c.release_cost.new.ledger c.release_cost.ensures.accounts c.args.number c.in_ok-order.order c.in_ok-order.ensures.order c.release_cost.ensures.reserves)
