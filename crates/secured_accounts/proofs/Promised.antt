-- What follows where each secured account's balance is at or above its true need.
use Rattle.cash_ledger.specs.Entries.{balance_of}
use Rattle.account_need.specs.Account.{portfolios}
use Rattle.account_need.proofs.Secured.{secured_can_pay as balance_can_pay}
use Rattle.secured_accounts.specs.Laws.{SecuredCanPay, TradersCanPay, after_events}
use Rattle.secured_accounts.specs.Secured.{account_of}
use Rattle.secured_accounts.proofs.StayingSafe.{secured_stay_safe}

pub secured_can_pay : SecuredCanPay
secured_can_pay state events kept safe coming account own =
    let after = (after_events state events).exchange in
    balance_can_pay (portfolios (account_of after account)) (balance_of account after.entries) (secured_stay_safe state events kept safe coming account own).above

pub traders_can_pay : TradersCanPay
traders_can_pay state events kept safe coming all account trader opened = secured_can_pay state events kept safe coming account (all account trader opened)
