use Rattle.std.proofs.Common.{◌≡◌, rules, refl, sym, ap, ◌∙◌, to_z, of_z}
use mir.Syntax.{w128}
use Rattle.account_need.specs.Given.{numbered}
use Rattle.exchange_core.specs.Step.{place_effect}
use Rattle.secured_accounts.specs.Secured.{account_of}
use Rattle.secured_accounts.proofs.Told.{accepted_order, enough_found, judged_by, need_found, open_order}
use Rattle.secured_accounts.proofs.accounts.SecuredAccounts.uncovered_order.Goals as goal

pub balance_of-balance-requires : goal.balance_of-balance-requires
balance_of-balance-requires c =
    let judged = sym c.judges_order.ensures ∙ c.if-not-judges_order.false in
    open_order c.args.exchange.now c.args.order.now (accepted_order c.args.exchange.now c.args.order.now _ judged)

pub account_of-requires : goal.account_of-requires
account_of-requires c =
    let judged = sym c.judges_order.ensures ∙ c.if-not-judges_order.false in
    record { own = refl; within = c.requires; accepted = accepted_order c.args.exchange.now c.args.order.now _ judged }

pub returns : goal.returns
returns c =
    let after = (place_effect c.args.exchange.now c.args.order.now).1 in
    let account = c.args.order.now.account in
    let judged = sym c.judges_order.ensures ∙ c.if-not-judges_order.false in
    let found : numbered c.in_ok-markets.markets.items ≡ account_of after account = c.in_ok-markets.ensures.markets in
    let listed : numbered c.deref.result.now ≡ account_of after account = ap numbered c.deref.ensures.value ∙ found in
    let bits : to_z w128 (of_z w128 c.balance_of-balance.result) ≡ c.balance_of-balance.result = search rules in
    c.need_above.ensures
    ∙ judged_by _ _ _ _ _ judged
    (c.in_ok-judged.ensures.may ∙ enough_found after account (numbered c.deref.result.now) (to_z w128 (of_z w128 c.balance_of-balance.result)) listed (bits ∙ c.balance_of-balance.ensures))
    (c.in_ok-judged.ensures.need ∙ need_found after account (numbered c.deref.result.now) listed)
