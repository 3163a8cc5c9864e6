-- The house's entries for a batch sum to its premiums and payoffs.
use Rattle.std.proofs.Common.{◌≡◌, ℕ, ◌*◌, ◌/◌, ◌≤◌, Bool, true, false, cond, if◌then◌else◌, List, [], ◌∷◌, ◌++◌, filter, map, nat_eq, int_lt, ℤ, pos, neg_ℤ, ◌+ℤ◌, refl, ap, sym, ◌∙◌, arith}
use Rattle.std.specs.List.{All, zip}
use Rattle.std.specs.Int.{div_ceil}
use Rattle.std.proofs.Math.Nat.{zero-div}
use Rattle.std.proofs.lemmas.Bool.Decides.{nat_tests}
use Rattle.std.proofs.lemmas.Int.{ints}
use Rattle.std.proofs.lemmas.List.Elements.{All-head, All-tail, filter-append}
use Rattle.arithmetic.specs.Sums.{total}
use Rattle.arithmetic.proofs.Tests.{int_lt-no}
use Rattle.cash_ledger.specs.declared.entry.Cause.{Cause}
use Rattle.cash_ledger.specs.declared.entry.Cause.TheVariants.{Premium, Payoff}
use Rattle.cash_ledger.specs.declared.entry.Entry.{Entry}
use Rattle.cash_ledger.specs.Entries.{balance_of, deposit_of, transfer_of, withdrawal_of}
use Rattle.cash_ledger.proofs.Balances.{balance_of-append}
use Rattle.clearing_model.specs.Certificate.{IsFill}
use Rattle.clearing_model.specs.Clearing.{for_side}
use Rattle.form.specs.declared.orders.Order.{Order}
use Rattle.form.specs.declared.orders.Side.{Side}
use Rattle.form.specs.declared.orders.Side.TheVariants.{Buy, Sell}
use Rattle.form.specs.Vector.{positive_part}
use Rattle.frac.specs.declared.frac128.Frac128.{Frac128}
use Rattle.frac.specs.Value.{fraction_of}
use Rattle.settlement.specs.declared.position.PaidOut.{PaidOut}
use Rattle.settlement.specs.Premium.{premium_of}
use Rattle.exchange_core.specs.Payoffs.{payoff_entries, payoff_of, payoff_transfer}
use Rattle.exchange_core.specs.Premiums.{premium_entries, premium_transfer, premiums_of}
use Rattle.exchange_lines.specs.Gain.{house_total, is_entry_for, is_for_batch, is_payout_of, paid_to_trader, paid_to_traders, premium_gain, premium_gains}

-- ---- entries one after another
module _ (number : ℕ) where
  pub house_total-append : (xs ys : List Entry) → house_total number (xs ++ ys) ≡ house_total number xs +ℤ house_total number ys
  house_total-append xs ys = ap (balance_of 0) (filter-append (is_entry_for number) xs ys) ∙ balance_of-append 0 (filter (is_entry_for number) xs) (filter (is_entry_for number) ys)

  -- ---- one transfer
  -- an amount that counts for the batch, and else 0
  abbrev if_for : Cause → ℤ → ℤ
  if_for cause amount = if is_for_batch number cause then amount else pos 0

  not_house : (account : ℕ) → 1 ≤ account → nat_eq 0 account ≡ false
  not_house account some = grind (arith, nat_tests)

  paid_in : (account amount : ℕ) (cause : Cause) → 1 ≤ account → house_total number (transfer_of account 0 amount cause) ≡ if_for cause (pos amount)
  paid_in account amount cause some =
      elim (is_for_batch number cause) as (λ b.
      balance_of 0 (cond b (record { account = account; amount = neg_ℤ (pos amount); cause = cause } ∷ cond b (record { account = 0; amount = pos amount; cause = cause } ∷ []) [])
      (cond b (record { account = 0; amount = pos amount; cause = cause } ∷ []) []))
      ≡ (if b then pos amount else pos 0)) [
        | true ↦ rw (not_house account some) (omega (arith, ints))
        | false ↦ refl
      ]

  paid_off : (account amount : ℕ) (cause : Cause) → 1 ≤ account → house_total number (transfer_of 0 account amount cause) ≡ if_for cause (neg_ℤ (pos amount))
  paid_off account amount cause some =
      elim (is_for_batch number cause) as (λ b.
      balance_of 0 (cond b (record { account = 0; amount = neg_ℤ (pos amount); cause = cause } ∷ cond b (record { account = account; amount = pos amount; cause = cause } ∷ []) [])
      (cond b (record { account = account; amount = pos amount; cause = cause } ∷ []) []))
      ≡ (if b then neg_ℤ (pos amount) else pos 0)) [
        | true ↦ rw (not_house account some) (omega (arith, ints))
        | false ↦ refl
      ]

  -- ---- premiums
  premium_moved : (side : Side) (account amount : ℕ) (cause : Cause) → 1 ≤ account → house_total number (premium_transfer side account amount cause) ≡ if_for cause (for_side side (pos amount))
  premium_moved Buy account amount cause some = paid_in account amount cause some
  premium_moved Sell account amount cause some = paid_off account amount cause some

  -- those of another batch
  pub premiums_of_another : (other : ℕ) → nat_eq other number ≡ false → (orders : List Order) (fills : List Frac128) → All (λ (order : Order). 1 ≤ order.account) orders
      → house_total number (premium_entries other orders fills) ≡ pos 0
  premiums_of_another other is [] fills some = refl
  premiums_of_another other is (order ∷ orders) [] some = refl
  premiums_of_another other is (order ∷ orders) (fill ∷ fills) some =
      let IsTrader : Order → Type 0 = λ order. 1 ≤ order.account in
      let price = premium_of order.side (fraction_of fill) order.price in
      let moved = premium_moved order.side order.account price (Premium other) (All-head IsTrader order orders some)
      ∙ ap (λ b. if b then for_side order.side (pos price) else pos 0) is in
      let first : house_total number (premiums_of other order (fraction_of fill)) ≡ pos 0 =
      elim (int_lt (pos 0) (fraction_of fill).numerator) as (λ b. house_total number (if b then premium_transfer order.side order.account price (Premium other) else []) ≡ pos 0) [ true ↦ moved | false ↦ refl ] in
      house_total-append (premiums_of other order (fraction_of fill)) (premium_entries other orders fills)
      ∙ rw (first, premiums_of_another other is orders fills (All-tail IsTrader order orders some)) refl

  own : nat_eq number number ≡ true
  own = grind (arith, nat_tests)

  no_amount : (n : ℤ) (price : ℕ) → n ≡ pos 0 → positive_part n * price ≡ 0
  no_amount n price zero = rw zero (omega arith)

  nothing_up : (d : ℕ) → 1 ≤ d → div_ceil 0 d ≡ 0
  nothing_up d some = grind arith

  -- a fill of 0 has no premium
  no_premium : (side : Side) (n : ℤ) (d price : ℕ) → 1 ≤ d → n ≡ pos 0 → premium_of side (record { numerator = n; denominator = d }) price ≡ 0
  no_premium Buy n d price some zero = ap (λ k. div_ceil k d) (no_amount n price zero) ∙ nothing_up d some
  no_premium Sell n d price some zero = ap (λ k. k / d) (no_amount n price zero) ∙ zero-div d

  no_change : (side : Side) → for_side side (pos 0) ≡ pos 0
  no_change Buy = refl
  no_change Sell = refl

  -- those of the batch
  pub premiums_entered : (orders : List Order) (fills : List Frac128) → All (λ (order : Order). 1 ≤ order.account) orders → All IsFill (zip orders (map fraction_of fills))
      → house_total number (premium_entries number orders fills) ≡ premium_gains orders fills
  premiums_entered [] fills some are = refl
  premiums_entered (order ∷ orders) [] some are = refl
  premiums_entered (order ∷ orders) (fill ∷ fills) some are =
      let later = premiums_entered orders fills (All-tail IsTrader order orders some) (All-tail IsFill (order, fraction_of fill) (zip orders (map fraction_of fills)) are) in
      house_total-append (premiums_of number order (fraction_of fill)) (premium_entries number orders fills)
      ∙ rw (first (int_lt (pos 0) (fraction_of fill).numerator) refl, later) refl
    where
      IsTrader : Order → Type 0
      IsTrader order = 1 ≤ order.account

      price : ℕ
      price = premium_of order.side (fraction_of fill) order.price

      first : (b : Bool) → int_lt (pos 0) (fraction_of fill).numerator ≡ b
          → house_total number (if b then premium_transfer order.side order.account price (Premium number) else []) ≡ premium_gain (order, fill)
      first true e =
          premium_moved order.side order.account price (Premium number) (All-head IsTrader order orders some)
          ∙ ap (λ b. if b then for_side order.side (pos price) else pos 0) own
      first false e =
          let is = All-head IsFill (order, fraction_of fill) (zip orders (map fraction_of fills)) are in
          let high = int_lt-no (pos 0) (fraction_of fill).numerator e in
          let zero : (fraction_of fill).numerator ≡ pos 0 = omega (arith, ints, is.1, high) in
          sym (ap (λ n. for_side order.side (pos n)) (no_premium order.side (fraction_of fill).numerator (fraction_of fill).denominator order.price is.0 zero) ∙ no_change order.side)

  -- ---- payoffs
  payoff_moved : (side : Side) (account amount : ℕ) (cause : Cause) → 1 ≤ account → house_total number (payoff_transfer side account amount cause) ≡ if_for cause (neg_ℤ (for_side side (pos amount)))
  payoff_moved Buy account amount cause some = paid_off account amount cause some
  payoff_moved Sell account amount cause some = paid_in account amount cause some ∙ ap (if_for cause) (twice amount)
    where
      twice : (n : ℕ) → pos n ≡ neg_ℤ (neg_ℤ (pos n))
      twice n = omega (arith, ints)

  pub payoffs_entered : (payouts : List PaidOut) → All (λ (paid : PaidOut). 1 ≤ paid.account) payouts → house_total number (payoff_entries payouts) ≡ neg_ℤ (paid_to_traders number payouts)
  payoffs_entered [] some = refl
  payoffs_entered (paid ∷ payouts) some =
      let IsTrader : PaidOut → Type 0 = λ paid. 1 ≤ paid.account in
      let first = payoff_moved paid.side paid.account paid.amount (Payoff paid.batch) (All-head IsTrader paid payouts some) in
      let later = payoffs_entered payouts (All-tail IsTrader paid payouts some) in
      house_total-append (payoff_of paid) (payoff_entries payouts)
      ∙ rw (first, later) (elim (nat_eq paid.batch number) as (λ b.
      (if b then neg_ℤ (paid_to_trader paid) else pos 0) +ℤ neg_ℤ (paid_to_traders number payouts)
      ≡ neg_ℤ (total paid_to_trader (cond b (paid ∷ filter (is_payout_of number) payouts) (filter (is_payout_of number) payouts)))) [
        | true ↦ omega (arith, ints)
        | false ↦ omega (arith, ints)
      ])

  -- ---- deposits and withdrawals
  pub deposit_apart : (entries : List Entry) (account amount : ℕ) → house_total number (entries ++ deposit_of account amount ∷ []) ≡ house_total number entries
  deposit_apart entries account amount = house_total-append entries (deposit_of account amount ∷ []) ∙ omega (arith, ints)

  pub withdrawal_apart : (entries : List Entry) (account amount : ℕ) → house_total number (entries ++ withdrawal_of account amount ∷ []) ≡ house_total number entries
  withdrawal_apart entries account amount = house_total-append entries (withdrawal_of account amount ∷ []) ∙ omega (arith, ints)
