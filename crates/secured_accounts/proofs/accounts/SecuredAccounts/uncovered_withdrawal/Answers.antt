use Rattle.std.proofs.Common.{◌≡◌, rules, sym, ap, ◌∙◌, to_z, of_z}
use mir.Syntax.{w128}
use Rattle.account_need.specs.Given.{numbered}
use Rattle.secured_accounts.specs.Secured.{account_of}
use Rattle.secured_accounts.proofs.Told.{enough_less, judged_by, need_found, open_withdrawal}
use Rattle.secured_accounts.proofs.accounts.SecuredAccounts.uncovered_withdrawal.Goals as goal

pub balance_of-balance-requires : goal.balance_of-balance-requires
balance_of-balance-requires c =
    let judged = sym c.judges_withdrawal.ensures ∙ c.if-not-judges_withdrawal.false in
    open_withdrawal c.args.exchange.now c.args.account c.args.amount _ judged

pub returns : goal.returns
returns c =
    let state = c.args.exchange.now in
    let account = c.args.account in
    let judged = sym c.judges_withdrawal.ensures ∙ c.if-not-judges_withdrawal.false in
    let listed : numbered c.deref.result.now ≡ account_of state account = ap numbered c.deref.ensures.value ∙ c.in_ok-markets.ensures.markets in
    let bits : to_z w128 (of_z w128 c.balance_of-balance.result) ≡ c.balance_of-balance.result = search rules in
    c.need_above.ensures
    ∙ judged_by _ _ _ _ _ judged
    (c.in_ok-judged.ensures.may ∙ enough_less state account c.args.amount (numbered c.deref.result.now) (to_z w128 (of_z w128 c.balance_of-balance.result)) listed (bits ∙ c.balance_of-balance.ensures))
    (c.in_ok-judged.ensures.need ∙ need_found state account (numbered c.deref.result.now) listed)
