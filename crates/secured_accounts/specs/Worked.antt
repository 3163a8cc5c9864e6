-- Worked rows: what is kept from a small exchange, and what accounts need in it.
use Rattle.std.specs.Prelude.{ℕ, ◌≡◌, false, true, List, [], ◌∷◌, pos, None, Some, Ok}
use Rattle.portfolio_margin.specs.Worked.{position_of}
use Rattle.cash_ledger.specs.declared.entry.Cause.TheVariants.{Deposit as deposited}
use Rattle.cash_ledger.specs.Entries.{balance_of}
use Rattle.exact_num.specs.Fraction.{whole}
use Rattle.form.specs.declared.orders.Side.{Side}
use Rattle.form.specs.declared.orders.Side.TheVariants.{Buy, Sell}
use Rattle.frac.specs.ValueOf.{value_of}
use Rattle.command_text.specs.declared.command.Command.{Command}
use Rattle.command_text.specs.declared.command.Command.TheVariants.{Bundle, Cancel, Clear, Deposit, Trade, Withdraw}
use Rattle.command_text.specs.declared.command.Kind.{Kind}
use Rattle.command_text.specs.declared.command.Kind.TheVariants.{Call, Put}
use Rattle.lists.specs.Refusals.{first_of}
use Rattle.settlement.specs.declared.position.Position.{Position}
use Rattle.exchange_core.specs.declared.refusal.Refusal.TheVariants.{NoAccount}
use Rattle.exchange_core.specs.ExchangeState.{ExchangeState}
use Rattle.exchange_core.specs.Step.{cleared_with}
use Rattle.exchange_core.specs.Worked.{after, at_price}
use Rattle.account_need.specs.Worked.{call_10, spread}
use Rattle.secured_accounts.specs.declared.refusal.SecuringRefusal.TheVariants.{Exchange, Uncovered}
use Rattle.secured_accounts.specs.Refusals.{need_refusals, secure_refusals}
use Rattle.secured_accounts.specs.Secured.{is_secured, need_in, uncovered, with_secured}

-- accounts 1 to 3 are open, account 1 has 100 and account 2 this much, with these positions in
-- market 1, which is on one underlying
abbrev pub having : ℕ → List Position → ExchangeState
having balance positions = record {
  accounts = 0 ∷ 1 ∷ 2 ∷ 3 ∷ [];
  entries = record { account = 1; amount = pos 100; cause = deposited } ∷ record { account = 2; amount = pos balance; cause = deposited } ∷ [];
  book = record { markets = (1, record { underlyings = 1; settled = false; live = [] }) ∷ []; accepted = 0; finished = 0 };
  positions = positions;
}

-- an order for one option on market 1
abbrev pub one : Side → ℕ → Kind → ℕ → ℕ → Command
one side account kind strike price =
    Trade side account 1 kind (pos strike) price 1 1 (pos 1 ∷ pos 0 ∷ pos 0 ∷ pos 0 ∷ pos 0 ∷ pos 0 ∷ pos 0 ∷ pos 0 ∷ [])

abbrev pub second : List ℕ
second = with_secured [] 2

-- account 2 offers a put with strike 10 at 7, with a balance of 5
abbrev pub put_at_7 : Command
put_at_7 = one Sell 2 Put 10 7

abbrev pub offered : ExchangeState
offered = after (having 5 []) put_at_7

-- account 1 bids 8 for it, and both are filled: account 2 has 12
abbrev pub sold : ExchangeState
sold = cleared_with (after offered (one Buy 1 Put 10 8)) 1 (value_of (whole (pos 1)) ∷ value_of (whole (pos 1)) ∷ [])

pub record OffersByHand : Type 0 where
  -- 3 may be lost and 2 by rounding: 4 is a tick too little, and 5 is enough
  pub one_short : uncovered second (having 4 []) put_at_7 ≡ Some (Ok 5)
  pub enough : uncovered second (having 5 []) put_at_7 ≡ None
  pub need : need_in offered 2 ≡ Ok 5
  -- with the order live nothing may be taken out, and the same order once more needs 5 more
  pub withdrawal_while_live : uncovered second offered (Withdraw 2 1) ≡ Some (Ok 5)
  pub again : uncovered second offered put_at_7 ≡ Some (Ok 10)
  -- once it is sold 10 may be lost, and 1 by rounding
  pub balance_sold : balance_of 2 sold.entries ≡ pos 12
  pub need_sold : need_in sold 2 ≡ Ok 11
  pub two_out : uncovered second sold (Withdraw 2 2) ≡ Some (Ok 11)
  pub one_out : uncovered second sold (Withdraw 2 1) ≡ None
  -- settled at 0 the put costs 10, and nothing is needed
  pub balance_settled : balance_of 2 (after (after sold (Withdraw 2 1)) (at_price 0)).entries ≡ pos 1
  pub need_settled : need_in (after sold (at_price 0)) 2 ≡ Ok 0
  -- a call with strike 10 at 5 may cost all but 15 of 10^9; with a call of strike 20 bought in the
  -- same order, at 4, it is 10 less 4
  pub call_offered : uncovered second (having 1000 []) (one Sell 2 Call 10 5) ≡ Some (Ok 999999987)
  pub spread_offered : uncovered second (having 1000 []) (Bundle Sell 2 1 4 1 spread) ≡ None
  -- what is held is offered at 6
  pub closing : uncovered second (having 3 (position_of Buy call_10 (whole (pos 1)) ∷ [])) (one Sell 2 Call 10 6) ≡ None
  pub closing_short : uncovered second (having 2 (position_of Buy call_10 (whole (pos 1)) ∷ [])) (one Sell 2 Call 10 6) ≡ Some (Ok 3)

pub record RulesByHand : Type 0 where
  -- who is not secured is let go, and so is all else of one who is
  pub not_secured : uncovered [] (having 4 []) put_at_7 ≡ None
  pub another : uncovered second (having 4 []) (one Sell 3 Put 10 7) ≡ None
  pub another_out : uncovered second (having 4 []) (Withdraw 1 1) ≡ None
  pub cancel : uncovered second offered (Cancel 2 1) ≡ None
  pub clear : uncovered second offered (Clear 1 100) ≡ None
  pub deposit : uncovered second offered (Deposit 2 1) ≡ None
  -- what the exchange refuses it refuses as ever
  pub no_funds : uncovered second (having 4 []) (one Buy 2 Put 10 5) ≡ None
  pub too_much : uncovered second offered (Withdraw 2 6) ≡ None
  -- an account is secured where its balance is enough, once
  pub secure : first_of (secure_refusals offered 2) ≡ None
  pub secure_short : first_of (secure_refusals (after (having 4 []) put_at_7) 2) ≡ Some (Uncovered (Ok 5))
  pub secure_closed : first_of (secure_refusals offered 9) ≡ Some (Exchange NoAccount)
  pub need_closed : first_of (need_refusals offered 9) ≡ Some (Exchange NoAccount)
  pub secured : is_secured second 2 ≡ true
  pub secured_again : with_secured second 2 ≡ second
