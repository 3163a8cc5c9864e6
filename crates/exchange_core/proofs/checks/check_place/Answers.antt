use Rattle.std.proofs.Common.{Err, sym, ap, ◌∙◌, ◌++◌}
use Rattle.std.proofs.lemmas.Result.{err_from_is_err_and}
use Rattle.cash_ledger.specs.declared.ledger.LedgerRefusal.TheVariants as from_ledger
use Rattle.cash_ledger.specs.Refusals as ledger_refusals
use Rattle.order_book.specs.declared.refusal.BookRefusal.TheVariants as from_book
use Rattle.order_book.specs.Refusals as book_refusals
use Rattle.lists.specs.Refusals.{first_of, refusal_in}
use Rattle.lists.proofs.FirstRefusal.{first_behind, none_named, told_named, told_in_front}
use Rattle.exchange_core.specs.ExchangeState.{without_positions}
use Rattle.exchange_core.specs.Failures.{ledger_failure, book_failure, unless_memory}
use Rattle.exchange_core.specs.Refusals.{ledger_name, book_name, by_ledger, by_book, by_account, order_cost_refusals}
use Rattle.exchange_core.proofs.FirstRefusal.{ledger_alike, book_alike, cost-joined}
use Rattle.exchange_core.proofs.checks.check_place.Goals as goal

pub returns-in_err-check_order-clause-refused : goal.returns-in_err-check_order-clause-refused
returns-in_err-check_order-clause-refused c =
    let p = err_from_is_err_and c.from_residual.result c.from_residual.ensures.1 in
    let ledger = c.args.ledger.now in
    let book = c.args.book.now in
    let order = c.args.order.now in
    told_in_front book_refusals.unless_memory from_book.Memory unless_memory book_failure c.check_order.result c.from_residual.result c.in_err-check_order.field-0.0
    (book_alike c.in_err-check_order.field-0.0) c.in_err-check_order.was (p.1 ∙ ap Err p.2) (book_refusals.order_refusals book order)
    (by_ledger (by_account (without_positions ledger book) order) ++ by_book (book_refusals.room_refusals book order.market)) c.check_order.ensures.no_memory c.check_order.ensures.refused

pub returns-in_err-check_cost-clause-refused : goal.returns-in_err-check_cost-clause-refused
returns-in_err-check_cost-clause-refused c =
    let p = err_from_is_err_and c.from_residual-in_err-check_cost.result c.from_residual-in_err-check_cost.ensures.1 in
    let ledger = c.args.ledger.now in
    let book = c.args.book.now in
    let order = c.args.order.now in
    let market = book_refusals.order_refusals book order in
    let room = by_book (book_refusals.room_refusals book order.market) in
    let none = none_named book_name market (sym c.check_order.ensures.refused ∙ ap (refusal_in book_refusals.unless_memory) c.in_ok-check_order.was) in
    told_in_front ledger_refusals.unless_memory from_ledger.Memory unless_memory ledger_failure c.check_cost.result c.from_residual-in_err-check_cost.result c.in_err-check_cost.field-0.0
    (ledger_alike c.in_err-check_cost.field-0.0) c.in_err-check_cost.was (p.1 ∙ ap Err p.2) (order_cost_refusals ledger order) room c.check_cost.ensures.no_memory c.check_cost.ensures.refused
    ∙ ap (λ refusals. first_of (by_ledger refusals ++ room)) (cost-joined ledger book c.requires.joined order)
    ∙ sym (first_behind (by_book market) (by_ledger (by_account (without_positions ledger book) order) ++ room) none)

pub returns-in_err-check_room-clause-refused : goal.returns-in_err-check_room-clause-refused
returns-in_err-check_room-clause-refused c =
    let p = err_from_is_err_and c.from_residual-in_err-check_room.result c.from_residual-in_err-check_room.ensures.1 in
    let ledger = c.args.ledger.now in
    let book = c.args.book.now in
    let order = c.args.order.now in
    let market = book_refusals.order_refusals book order in
    let room = book_refusals.room_refusals book order.market in
    let account = by_account (without_positions ledger book) order in
    let unrefused = none_named book_name market (sym c.check_order.ensures.refused ∙ ap (refusal_in book_refusals.unless_memory) c.in_ok-check_order.was) in
    let paid = none_named ledger_name (order_cost_refusals ledger order) (sym c.check_cost.ensures.refused ∙ ap (refusal_in ledger_refusals.unless_memory) c.in_ok-check_cost.was) in
    told_named book_refusals.unless_memory from_book.Memory unless_memory book_failure c.check_room.result c.from_residual-in_err-check_room.result c.in_err-check_room.field-0.0
    (book_alike c.in_err-check_room.field-0.0) c.in_err-check_room.was (p.1 ∙ ap Err p.2) room c.check_room.ensures.refused
    ∙ sym (first_behind (by_ledger account) (by_book room) (ap (λ refusals. first_of (by_ledger refusals)) (sym (cost-joined ledger book c.requires.joined order)) ∙ paid))
    ∙ sym (first_behind (by_book market) (by_ledger account ++ by_book room) unrefused)
