-- The entries of clears and settlements are the operator's doing.
use Rattle.std.proofs.Common.{ℕ, pos, neg_ℤ, int_lt, Bool, true, false, List, [], ◌∷◌, map, All, inl, inr, refl, if◌then◌else◌}
use Rattle.std.proofs.lemmas.List.Elements.{All-nil, All-cons, All-append, All-head, All-tail}
use Rattle.cash_ledger.specs.declared.entry.Cause.{Cause}
use Rattle.cash_ledger.specs.declared.entry.Cause.TheVariants.{Premium, Payoff}
use Rattle.cash_ledger.specs.declared.entry.Entry.{Entry}
use Rattle.cash_ledger.specs.Entries.{transfer_of}
use Rattle.exact_num.specs.Fraction.{Fraction}
use Rattle.form.specs.declared.orders.Order.{Order}
use Rattle.form.specs.declared.orders.Side.{Side}
use Rattle.form.specs.declared.orders.Side.TheVariants.{Buy, Sell}
use Rattle.frac.specs.declared.frac128.Frac128.{Frac128}
use Rattle.frac.specs.Value.{fraction_of}
use Rattle.command_text.specs.declared.command.Command.{Command}
use Rattle.settlement.specs.declared.position.Position.{Position}
use Rattle.settlement.specs.Positions.{paid_out}
use Rattle.exchange_core.specs.ExchangeState.{ExchangeState}
use Rattle.settlement.specs.Premium.{premium_of}
use Rattle.exchange_core.specs.Payoffs.{payoff_entries, payoff_of, payoff_transfer}
use Rattle.exchange_core.specs.Premiums.{premium_entries, premium_transfer, premiums_of}
use Rattle.members.specs.Laws.{IsCleared, IsEntryBy, IsOperator, IsSettled, MayCause}
use Rattle.members.specs.Members.{Owned}

module _ (owners : Owned) (session : ℕ) (command : Command) (before : ExchangeState) (operator : IsOperator session) where
  abbrev By : Entry → Type 0
  By entry = IsEntryBy owners session command before entry

  transfer_by : (from to amount : ℕ) (cause : Cause) → MayCause owners session command before from cause → MayCause owners session command before to cause
      → All By (transfer_of from to amount cause)
  transfer_by from to amount cause gives gets =
      let paid : Entry = record { account = from; amount = neg_ℤ (pos amount); cause = cause } in
      let got : Entry = record { account = to; amount = pos amount; cause = cause } in
      All-cons By paid (got ∷ []) gives (All-cons By got [] gets (All-nil By))

  -- ---- the accounts whose orders are cleared
  premium_by : (side : Side) (account amount batch : ℕ) → IsCleared command before account → All By (premium_transfer side account amount (Premium batch))
  premium_by Buy account amount batch is = transfer_by account 0 amount (Premium batch) (operator, inr is) (operator, inl refl)
  premium_by Sell account amount batch is = transfer_by 0 account amount (Premium batch) (operator, inl refl) (operator, inr is)

  premiums_by : (batch : ℕ) (order : Order) (fill : Fraction) → IsCleared command before order.account → All By (premiums_of batch order fill)
  premiums_by batch order fill is = by (int_lt (pos 0) fill.numerator)
    where
      by : (b : Bool) → All By (if b then premium_transfer order.side order.account (premium_of order.side fill order.price) (Premium batch) else [])
      by true = premium_by order.side order.account (premium_of order.side fill order.price) batch is
      by false = All-nil By

  abbrev Cleared : Order → Type 0
  Cleared order = IsCleared command before order.account

  pub all_premiums_by : (batch : ℕ) (orders : List Order) (fills : List Frac128) → All Cleared orders → All By (premium_entries batch orders fills)
  all_premiums_by batch [] fills are = All-nil By
  all_premiums_by batch (order ∷ orders) [] are = All-nil By
  all_premiums_by batch (order ∷ orders) (fill ∷ fills) are =
      All-append By (premiums_of batch order (fraction_of fill)) (premium_entries batch orders fills)
      (premiums_by batch order (fraction_of fill) (All-head Cleared order orders are)) (all_premiums_by batch orders fills (All-tail Cleared order orders are))

  -- ---- the accounts whose positions are settled
  payoff_by : (side : Side) (account amount batch : ℕ) → IsSettled command before account → All By (payoff_transfer side account amount (Payoff batch))
  payoff_by Buy account amount batch is = transfer_by 0 account amount (Payoff batch) (operator, inl refl) (operator, inr is)
  payoff_by Sell account amount batch is = transfer_by account 0 amount (Payoff batch) (operator, inr is) (operator, inl refl)

  abbrev Settled : Position → Type 0
  Settled position = IsSettled command before position.account

  pub all_payoffs_by : (prices : List ℕ) (held : List Position) → All Settled held → All By (payoff_entries (map (paid_out prices) held))
  all_payoffs_by prices [] are = All-nil By
  all_payoffs_by prices (position ∷ others) are =
      let paid = paid_out prices position in
      All-append By (payoff_of paid) (payoff_entries (map (paid_out prices) others))
      (payoff_by paid.side position.account paid.amount paid.batch (All-head Settled position others are))
      (all_payoffs_by prices others (All-tail Settled position others are))
