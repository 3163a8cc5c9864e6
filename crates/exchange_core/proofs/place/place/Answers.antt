use Rattle.std.proofs.Common.{◌≡◌, ℕ, Result, Err, IfErr, sym, ap, ◌∙◌, subst}
use Rattle.exchange_core.specs.declared.failure.Failure.{Failure}
use Rattle.exchange_core.specs.declared.failure.Failure.TheVariants.{Memory}
use Rattle.lists.specs.Refusals.{refusal_in}
use Rattle.order_book.specs.Refusals.{unless_memory}
use Rattle.std.proofs.lemmas.Result.{err_from_is_err_and}
use Rattle.exchange_core.specs.ExchangeState.{without_positions}
use Rattle.exchange_core.specs.Kept.{AreJoined}
use Rattle.exchange_core.proofs.FirstRefusal.{only_memory, place_none}
use Rattle.exchange_core.proofs.Joined.{reserve_bounded, joined-place}
use Rattle.exchange_core.proofs.place.place.Goals as goal

pub returns-in_err-number-clause-only : goal.returns-in_err-number-clause-only
returns-in_err-number-clause-only c =
    let p = err_from_is_err_and c.from_residual.result c.from_residual.ensures.1 in
    let unrefused = (place_none (without_positions c.args.ledger.now c.args.book.now) c.args.order.now c.requires.accepted).0 in
    let only = only_memory c.in_err-number.field-0.0 (ap (refusal_in unless_memory) (sym c.in_err-number.was) ∙ c.place.ensures.refused ∙ unrefused) in
    subst (λ (r : Result ℕ Failure). IfErr r (λ failure. failure ≡ Memory)) (sym (p.1 ∙ ap Err p.2)) only

pub reserve_cost-requires-clause-reserved : goal.reserve_cost-requires-clause-reserved
reserve_cost-requires-clause-reserved c = reserve_bounded _ _ c.requires.joined _

pub reserve_cost-requires-clause-open : goal.reserve_cost-requires-clause-open
reserve_cost-requires-clause-open c = (place_none (without_positions c.args.ledger.now c.args.book.now) c.args.order.now c.requires.accepted).1

pub returns-clause-joined : goal.returns-clause-joined
returns-clause-joined c =
    let ledger = c.args.ledger.now in
    let book = c.args.book.now in
    let order = c.args.order.now in
    let none = place_none (without_positions ledger book) order c.requires.accepted in
    subst (AreJoined c.reserve_cost.new.ledger) (sym c.in_ok-number.ensures.ok)
    (joined-place ledger book c.requires.joined c.reserve_cost.new.ledger c.reserve_cost.ensures.accounts order
    c.requires.within none.0 none.1 c.reserve_cost.ensures.reserves)
