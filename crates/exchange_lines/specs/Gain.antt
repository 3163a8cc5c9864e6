-- What the house gains of a batch: the premiums of its fills, and the payoffs once its market is
-- settled.
use Rattle.std.specs.Prelude.{ℕ, ℤ, pos, ◌-ℤ◌, ◌≡◌, Bool, false, nat_eq, List, filter}
use Rattle.std.specs.List.{zip}
use Rattle.arithmetic.specs.Sums.{total}
use Rattle.cash_ledger.specs.declared.entry.Cause.{Cause}
use Rattle.cash_ledger.specs.declared.entry.Cause.TheVariants.{Deposit, Withdraw, Premium, Payoff}
use Rattle.cash_ledger.specs.declared.entry.Entry.{Entry}
use Rattle.cash_ledger.specs.Entries.{balance_of}
use Rattle.cert_check.specs.declared.outcome.Outcome.{Outcome}
use Rattle.clearing_model.specs.Clearing.{for_side}
use Rattle.exact_num.specs.Fraction.{AtMost, whole}
use Rattle.form.specs.declared.orders.Batch.{Batch}
use Rattle.form.specs.declared.orders.Order.{Order}
use Rattle.frac.specs.declared.frac128.Frac128.{Frac128}
use Rattle.frac.specs.Value.{fraction_of}
use Rattle.settlement.specs.declared.position.PaidOut.{PaidOut}
use Rattle.settlement.specs.Premium.{premium_of}

-- what a buyer pays for a fill, and the opposite of what a seller gets
abbrev pub premium_gain : Order × Frac128 → ℤ
premium_gain fill = for_side fill.0.side (pos (premium_of fill.0.side (fraction_of fill.1) fill.0.price))

-- what buyers pay for the fills less what sellers get
abbrev pub premium_gains : List Order → List Frac128 → ℤ
premium_gains orders fills = total premium_gain (zip orders fills)

-- what a trader is paid, and the opposite of what a trader pays
abbrev pub paid_to_trader : PaidOut → ℤ
paid_to_trader paid = for_side paid.side (pos paid.amount)

abbrev pub is_payout_of : ℕ → PaidOut → Bool
is_payout_of number paid = nat_eq paid.batch number

-- what the payouts of a batch give to traders less what they take from them
abbrev pub paid_to_traders : ℕ → List PaidOut → ℤ
paid_to_traders number payouts = total paid_to_trader (filter (is_payout_of number) payouts)

-- the house's gain of a batch under its number, from its fills and from what was paid out as its
-- market was settled
abbrev pub house_gain : ℕ → Batch → Outcome → List PaidOut → ℤ
house_gain number batch outcome payouts = premium_gains batch.orders outcome.fills -ℤ paid_to_traders number payouts

-- ---- the same in the ledger
-- an amount moved for the batch of this number
abbrev pub is_for_batch : ℕ → Cause → Bool
is_for_batch number Deposit = false
is_for_batch number Withdraw = false
is_for_batch number (Premium batch) = nat_eq batch number
is_for_batch number (Payoff batch) = nat_eq batch number

abbrev pub is_entry_for : ℕ → Entry → Bool
is_entry_for number entry = is_for_batch number entry.cause

-- the sum of the house's entries for a batch
abbrev pub house_total : ℕ → List Entry → ℤ
house_total number entries = balance_of 0 (filter (is_entry_for number) entries)

-- ---- the law for one batch
-- the house gains at least the surplus that the outcome tells
abbrev pub GainsSurplus : ℕ → Batch → Outcome → List PaidOut → Type 0
GainsSurplus number batch outcome payouts =
    AtMost (fraction_of outcome.claim.surplus) (whole (house_gain number batch outcome payouts))

-- and its entries for the batch sum to the gain
pub record IsGained (entries : List Entry) (number : ℕ) (batch : Batch) (outcome : Outcome) (payouts : List PaidOut) : Type 0 where
  pub surplus : GainsSurplus number batch outcome payouts
  pub entered : house_total number entries ≡ house_gain number batch outcome payouts
