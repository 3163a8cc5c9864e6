use Rattle.std.proofs.Common.{sym, ◌∙◌}
use Rattle.std.proofs.lemmas.Result.{IfOk-weaker}
use Rattle.exchange_core.proofs.Keeping.{places_of}
use Rattle.secured_accounts.proofs.Told.{uncovered-placed}
use Rattle.secured_accounts.proofs.accounts.SecuredAccounts.uncovered.Goals as goal

pub uncovered_order-requires : goal.uncovered_order-requires
uncovered_order-requires c = (places_of c.args.exchange.now c.args.command.now c.in-Some.order c.requires (sym c.order_of.ensures ∙ c.in-Some.is)).within

pub returns-in-Some : goal.returns-in-Some
returns-in-Some c =
    IfOk-weaker c.uncovered_order.result _ _
    (λ need is. is ∙ uncovered-placed _ c.args.exchange.now c.args.command.now c.in-Some.order (sym c.order_of.ensures ∙ c.in-Some.is)) c.uncovered_order.ensures
