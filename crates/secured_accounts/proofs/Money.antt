-- All balances sum to what was deposited less what was withdrawn, whatever comes.
use Rattle.std.proofs.Common.{◌≡◌, ℕ, ℤ, pos, neg_ℤ, ◌+◌, ◌+ℤ◌, nat_lt, length, take, Bool, true, false, not, ◌||◌, List, [], ◌∷◌, ◌++◌, nat_eq, int_lt, is_some, if◌then◌else◌, Option, Some, None, refl, sym, ap, ◌∙◌, subst, arith}
use Rattle.std.specs.List.{All, AllByRecursion, IsDistinct}
use Rattle.std.specs.Option.{option_map_or}
use Rattle.std.proofs.lemmas.Cmp.{nat_eq_equiv}
use Rattle.std.proofs.lemmas.Int.{ints}
use Rattle.std.proofs.lemmas.List.Elements.{All-nil, All-cons, All-head, All-tail, All-append, All-filter, All-map, All-weaker}
use Rattle.std.proofs.lemmas.Map.Keys.{IsDistinct-head, IsDistinct-push, IsDistinct-tail}
use Rattle.std.proofs.lemmas.Bool.{eqb-true, not-false}
use Rattle.arithmetic.specs.Sums.{total}
use Rattle.arithmetic.proofs.Sums.{total-append}
use Rattle.arithmetic.proofs.Tests.{nat_eq-turned}
use Rattle.cash_ledger.specs.declared.entry.Entry.{Entry}
use Rattle.cash_ledger.specs.declared.entry.Cause.{Cause}
use Rattle.cash_ledger.specs.declared.entry.Cause.TheVariants.{Payoff, Premium}
use Rattle.cash_ledger.specs.Entries.{amount_for, balance_of, deposit_of, transfer_of, withdrawal_of}
use Rattle.cash_ledger.specs.Ledger.{is_open}
use Rattle.clearing.specs.Outcome.{outcome_of}
use Rattle.command_text.specs.declared.command.Command.{Command}
use Rattle.command_text.specs.declared.command.Command.TheVariants.{Balance, Bundle, Cancel, Clear, Deposit, Market, Open, Settle, Trade, Withdraw}
use Rattle.exact_num.specs.Fraction.{Fraction}
use Rattle.lists.specs.Refusals.{first_of}
use Rattle.lists.proofs.FirstRefusal.{first_unmet}
use Rattle.limits.specs.declared.TheConstants.{MAX_ACCOUNTS}
use Rattle.form.specs.declared.orders.Order.{Order}
use Rattle.form.specs.declared.orders.Side.{Side}
use Rattle.form.specs.declared.orders.Side.TheVariants.{Buy, Sell}
use Rattle.frac.specs.declared.frac128.Frac128.{Frac128}
use Rattle.frac.specs.Value.{fraction_of}
use Rattle.order_book.specs.Book.{batch_of, market_of}
use Rattle.order_book.specs.Markets.{MarketState}
use Rattle.settlement.specs.declared.position.PaidOut.{PaidOut}
use Rattle.settlement.specs.declared.position.Position.{Position}
use Rattle.settlement.specs.Positions.{held_in, is_of, paid_out, payouts_of}
use Rattle.settlement.specs.Premium.{premium_of}
use Rattle.exchange_core.specs.declared.refusal.Refusal.{Refusal}
use Rattle.exchange_core.specs.declared.refusal.Refusal.TheVariants.{AccountExists, Funds, NoAccount, TooMany}
use Rattle.exchange_core.specs.ExchangeState.{ExchangeState, empty_exchange}
use Rattle.exchange_core.specs.Kept.{IsKept, IsOfOpen, IsPositionKept}
use Rattle.exchange_core.specs.Payoffs.{payoff_entries, payoff_of, payoff_transfer}
use Rattle.exchange_core.specs.Premiums.{premium_entries, premium_transfer, premiums_of}
use Rattle.exchange_core.specs.Refusals.{refusal_of}
use Rattle.exchange_core.specs.Reserves.{free_in}
use Rattle.exchange_core.specs.Step.{batch_in, cleared_with, effect, refusal_effect, step, with_entry}
use Rattle.exchange_core.proofs.Keeping.{clears_keep, empty_is_kept, step_keeps}
use Rattle.exchange_core.proofs.LiveAccounts.{All-live_in, any-push}
use Rattle.account_need.specs.Account.{Need}
use Rattle.secured_accounts.specs.Laws.{Asked, Charged, Event, Guarded, MayCome, Securing, after_event, after_events, AreComing, guarded}
use Rattle.secured_accounts.specs.Money.{AddUp, AreAccountedFor, BalancesAddUp, IsAccountedFor, MoneyIsKept, if_from_outside}
use Rattle.secured_accounts.specs.Secured.{uncovered}
use Rattle.secured_accounts.proofs.Markets.{none_paid}

abbrev amount_of : Entry → ℤ
amount_of entry = entry.amount

abbrev outside_of : Entry → ℤ
outside_of entry = if_from_outside entry.cause entry.amount

-- ---- entries that come
module _ (opened : List ℕ) where
  abbrev IsOpen : ℕ → Type 0
  IsOpen account = is_open opened account ≡ true

  abbrev IsEntered : Entry → Type 0
  IsEntered entry = IsOpen entry.account

  none_entered : AreAccountedFor opened []
  none_entered = record { accounts = All-nil IsEntered; sum = refl }

  both_entered : (xs ys : List Entry) → AreAccountedFor opened xs → AreAccountedFor opened ys → AreAccountedFor opened (xs ++ ys)
  both_entered xs ys first second = record {
    accounts = All-append IsEntered xs ys first.accounts second.accounts;
    sum = total-append amount_of xs ys ∙ (λ i. first.sum i +ℤ second.sum i) ∙ sym (total-append outside_of xs ys);
  }

  one_entered : (entry : Entry) → IsOpen entry.account → amount_of entry ≡ outside_of entry → AreAccountedFor opened (entry ∷ [])
  one_entered entry held outside = record {
    accounts = All-cons IsEntered entry [] held (All-nil IsEntered);
    sum = ap (λ (x : ℤ). x +ℤ pos 0) outside;
  }

  moved : (from to amount : ℕ) (cause : Cause) → ((x : ℤ) → if_from_outside cause x ≡ pos 0) → IsOpen from → IsOpen to → AreAccountedFor opened (transfer_of from to amount cause)
  moved from to amount cause within one other = record {
    accounts = All-cons IsEntered paid (got ∷ []) one (All-cons IsEntered got [] other (All-nil IsEntered));
    sum = rw (within (neg_ℤ (pos amount)), within (pos amount)) (omega (arith, ints));
  }
    where
      paid : Entry
      paid = record { account = from; amount = neg_ℤ (pos amount); cause = cause }

      got : Entry
      got = record { account = to; amount = pos amount; cause = cause }

  module _ (house : IsOpen 0) where
    -- ---- premiums
    premium_moved : (side : Side) (account amount batch : ℕ) → IsOpen account → AreAccountedFor opened (premium_transfer side account amount (Premium batch))
    premium_moved Buy account amount batch held = moved account 0 amount (Premium batch) (λ x. refl) held house
    premium_moved Sell account amount batch held = moved 0 account amount (Premium batch) (λ x. refl) house held

    one_filled : (batch : ℕ) (order : Order) (fill : Fraction) → IsOpen order.account → AreAccountedFor opened (premiums_of batch order fill)
    one_filled batch order fill held =
        elim (int_lt (pos 0) fill.numerator) as (λ b. AreAccountedFor opened (if b then premium_transfer order.side order.account (premium_of order.side fill order.price) (Premium batch) else [])) [
          | true ↦ premium_moved order.side order.account (premium_of order.side fill order.price) batch held
          | false ↦ none_entered
        ]

    all_filled : (batch : ℕ) (orders : List Order) (fills : List Frac128) → All (IsOfOpen opened) orders → AreAccountedFor opened (premium_entries batch orders fills)
    all_filled batch [] fills held = none_entered
    all_filled batch (order ∷ orders) [] held = none_entered
    all_filled batch (order ∷ orders) (fill ∷ fills) held =
        both_entered (premiums_of batch order (fraction_of fill)) (premium_entries batch orders fills)
        (one_filled batch order (fraction_of fill) (All-head (IsOfOpen opened) order orders held))
        (all_filled batch orders fills (All-tail (IsOfOpen opened) order orders held))

    -- ---- payoffs
    payoff_moved : (side : Side) (account amount batch : ℕ) → IsOpen account → AreAccountedFor opened (payoff_transfer side account amount (Payoff batch))
    payoff_moved Buy account amount batch held = moved 0 account amount (Payoff batch) (λ x. refl) house held
    payoff_moved Sell account amount batch held = moved account 0 amount (Payoff batch) (λ x. refl) held house

    abbrev IsPaid : PaidOut → Type 0
    IsPaid paid = IsOpen paid.account

    all_paid : (payouts : List PaidOut) → All IsPaid payouts → AreAccountedFor opened (payoff_entries payouts)
    all_paid [] held = none_entered
    all_paid (paid ∷ payouts) held =
        both_entered (payoff_of paid) (payoff_entries payouts) (payoff_moved paid.side paid.account paid.amount paid.batch (All-head IsPaid paid payouts held))
        (all_paid payouts (All-tail IsPaid paid payouts held))

-- ---- the exchange

-- the orders of a batch are the live orders of its market
batch_live : (found : Option MarketState) → (option_map_or batch_of found (record { underlyings = 0; orders = [] })).orders ≡ option_map_or (λ (m : MarketState). m.live) found []
batch_live None = refl
batch_live (Some m) = refl

module _ (state : ExchangeState) (kept : IsKept state) (all : IsAccountedFor state) where
  with_entries : (more : List Entry) → AreAccountedFor state.accounts more → AreAccountedFor state.accounts (state.entries ++ more)
  with_entries more new = both_entered state.accounts state.entries more all.entries new

  opens : (account : ℕ) → refusal_of state (Open account) ≡ None → IsAccountedFor (effect state (Open account)).1
  opens account none = record {
    distinct = IsDistinct-push nat_eq_equiv state.accounts account all.distinct (first_unmet (is_open state.accounts account) AccountExists (first_of others) none).0;
    entries = record {
      accounts = All-weaker (IsEntered state.accounts) (IsEntered (state.accounts ++ account ∷ [])) (λ entry held. any-push entry.account state.accounts account held) state.entries all.entries.accounts;
      sum = all.entries.sum;
    };
  }
    where
      others : List (Bool × Refusal)
      others = (nat_lt MAX_ACCOUNTS (length state.accounts), TooMany) ∷ []

  enters : (entry : Entry) → is_open state.accounts entry.account ≡ true → amount_of entry ≡ outside_of entry → IsAccountedFor (with_entry state entry)
  enters entry held outside = record { distinct = all.distinct; entries = with_entries (entry ∷ []) (one_entered state.accounts entry held outside) }

  pub clears : (market : ℕ) (fills : List Frac128) → IsAccountedFor (cleared_with state market fills)
  clears market fills = record {
    distinct = all.distinct;
    entries = with_entries (premium_entries (state.book.finished + 1) (batch_in state market).orders fills)
        (all_filled state.accounts kept.orders.house (state.book.finished + 1) (batch_in state market).orders fills
        (subst (All (IsOfOpen state.accounts)) (sym (batch_live (market_of state.book market))) (All-live_in (IsOfOpen state.accounts) market state.book.markets kept.orders.accounts)));
  }

  settles : (market count : ℕ) (prices : List ℕ) → IsAccountedFor (effect state (Settle market count prices)).1
  settles market count prices =
      let used = take count prices in
      record {
        distinct = all.distinct;
        entries = with_entries (payoff_entries (payouts_of market used state.positions))
            (all_paid state.accounts kept.orders.house (payouts_of market used state.positions)
            (All-map (IsPaid state.accounts kept.orders.house) (paid_out used) (held_in market state.positions)
            (All-filter (is_of market) (λ (p : Position). is_open state.accounts p.account ≡ true) state.positions
            (All-weaker (IsPositionKept state.accounts state.book.markets) (λ (p : Position). is_open state.accounts p.account ≡ true) (λ p each. each.account) state.positions kept.positions))));
      }

  accepts : (command : Command) → refusal_of state command ≡ None → IsAccountedFor (effect state command).1
  accepts (Open account) none = opens account none
  accepts (Deposit account amount) none = enters (deposit_of account amount) (not-false (is_open state.accounts account) (first_unmet (not (is_open state.accounts account)) NoAccount None none).0) refl
  accepts (Withdraw account amount) none =
      enters (withdrawal_of account amount)
      (not-false (is_open state.accounts account) (first_unmet (not (is_open state.accounts account)) NoAccount (if int_lt (free_in state account) (pos amount) then Some Funds else None) none).0) refl
  accepts (Market market underlyings) none = record { distinct = all.distinct; entries = all.entries }
  accepts (Trade side account market kind strike price quantity count weights) none = record { distinct = all.distinct; entries = all.entries }
  accepts (Bundle side account market price quantity bundle) none = record { distinct = all.distinct; entries = all.entries }
  accepts (Cancel account order) none = record { distinct = all.distinct; entries = all.entries }
  accepts (Clear market budget) none = clears market (outcome_of (batch_in state market) budget).fills
  accepts (Settle market count prices) none = settles market count prices
  accepts (Balance account) none = all

  steps : (command : Command) → IsAccountedFor (step state command).1
  steps command = by (refusal_of state command) refl
    where
      by : (refused : Option Refusal) → refusal_of state command ≡ refused → IsAccountedFor (option_map_or (refusal_effect state) refused (effect state command)).1
      by None none = accepts command none
      by (Some refusal) told = all

-- ---- whatever comes
module _ (state : Guarded) (kept : IsKept state.exchange) where
  pub keeps : (event : Event) → IsAccountedFor state.exchange → IsAccountedFor (after_event state event).exchange
  keeps (Asked command) all = by (uncovered state.secured state.exchange command)
    where
      by : (need : Option Need) → IsAccountedFor (if is_some need then state else guarded (step state.exchange command).1 state.secured).exchange
      by None = steps state.exchange kept all command
      by (Some need) = all
  keeps (Charged market fills) all = clears state.exchange kept all market fills
  keeps (Securing account) all = all

  stays_kept : (event : Event) → MayCome state event → IsKept (after_event state event).exchange
  stays_kept (Asked command) may = by (uncovered state.secured state.exchange command)
    where
      by : (need : Option Need) → IsKept (if is_some need then state else guarded (step state.exchange command).1 state.secured).exchange
      by None = step_keeps state.exchange command kept may.0
      by (Some need) = kept
  stays_kept (Charged market fills) may = clears_keep state.exchange market fills kept may.0 may.1
  stays_kept (Securing account) may = kept

-- ---- the balances of different accounts
-- what an entry adds to other accounts
added_elsewhere : (entry : Entry) (accounts : List ℕ) → AllByRecursion (λ y. nat_eq entry.account y ≡ false) accounts → total (λ account. amount_for account entry) accounts ≡ pos 0
added_elsewhere entry [] apart = refl
added_elsewhere entry (account ∷ accounts) apart =
    ap (λ b. (if b then entry.amount else pos 0) +ℤ total (λ account. amount_for account entry) accounts) (nat_eq-turned entry.account account false apart.0)
    ∙ omega (arith, ints, added_elsewhere entry accounts apart.1)

-- and to all, of which one is its own
added_once : (entry : Entry) (accounts : List ℕ) → IsDistinct nat_eq accounts → is_open accounts entry.account ≡ true → total (λ account. amount_for account entry) accounts ≡ entry.amount
added_once entry [] distinct held = cc
added_once entry (account ∷ accounts) distinct held = by (nat_eq entry.account account) refl held (added_once entry accounts (IsDistinct-tail nat_eq account accounts distinct))
  where
    rest : ℤ
    rest = total (λ account. amount_for account entry) accounts

    by : (own : Bool) → nat_eq entry.account account ≡ own → (own || is_open accounts entry.account) ≡ true → (is_open accounts entry.account ≡ true → rest ≡ entry.amount)
        → (if nat_eq account entry.account then entry.amount else pos 0) +ℤ rest ≡ entry.amount
    by true is held later =
        let apart = subst (λ (k : ℕ). AllByRecursion (λ y. nat_eq k y ≡ false) accounts) (sym (eqb-true entry.account account is)) (IsDistinct-head nat_eq account accounts distinct) in
        ap (λ b. (if b then entry.amount else pos 0) +ℤ rest) (nat_eq-turned entry.account account true is) ∙ omega (arith, ints, added_elsewhere entry accounts apart)
    by false is held later = ap (λ b. (if b then entry.amount else pos 0) +ℤ rest) (nat_eq-turned entry.account account false is) ∙ omega (arith, ints, later held)

both_added : {A : Type 0} (v w : A → ℤ) (xs : List A) → total (λ x. v x +ℤ w x) xs ≡ total v xs +ℤ total w xs
both_added v w [] = refl
both_added v w (x ∷ xs) = omega (arith, ints, both_added v w xs)

module _ (opened : List ℕ) (distinct : IsDistinct nat_eq opened) where
  balances_sum : (entries : List Entry) → All (IsEntered opened) entries → total (λ account. balance_of account entries) opened ≡ total amount_of entries
  balances_sum [] held = none_paid opened
  balances_sum (entry ∷ entries) held =
      both_added (λ account. amount_for account entry) (λ account. balance_of account entries) opened
      ∙ (λ i. added_once entry opened distinct (All-head (IsEntered opened) entry entries held) i +ℤ balances_sum entries (All-tail (IsEntered opened) entry entries held) i)

add_up : (state : ExchangeState) → IsAccountedFor state → AddUp state
add_up state all = balances_sum state.accounts all.distinct state.entries all.entries.accounts ∙ all.entries.sum

first_accounted : IsAccountedFor empty_exchange
first_accounted = record { distinct = IsDistinct-push nat_eq_equiv [] 0 empty_is_kept.orders.book.distinct refl; entries = none_entered (0 ∷ []) }

pub money_is_kept : MoneyIsKept
money_is_kept = record {
  first = first_accounted;
  keeps = λ state event kept may all. keeps state kept event all;
  sums = add_up;
}

always : (state : Guarded) (events : List Event) → IsKept state.exchange → IsAccountedFor state.exchange → AreComing state events → AddUp (after_events state events).exchange
always state [] kept all coming = add_up state.exchange all
always state (event ∷ events) kept all coming =
    always (after_event state event) events (stays_kept state kept event coming.0) (keeps state kept event all) coming.1

pub balances_add_up : BalancesAddUp
balances_add_up events coming = always (guarded empty_exchange []) events empty_is_kept first_accounted coming
