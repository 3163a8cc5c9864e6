-- What holds between the steps of a run: of each state, of a batch until its market is settled, and
-- of it from then on.
use Rattle.std.proofs.Common.{◌≡◌, ℕ, ◌+◌, ◌<◌, ◌≤◌, List, [], ◌++◌, false, not, nat_eq, ◌⊎◌, inl, inr, pos, ◌+ℤ◌, ◌-ℤ◌, refl, sym, ap, ◌∙◌, subst, arith}
use Rattle.std.specs.List.{All}
use Rattle.std.proofs.lemmas.Bool.Decides.{nat_tests}
use Rattle.std.proofs.lemmas.Int.{ints}
use Rattle.std.proofs.lemmas.List.Elements.{All-nil, All-append, All-filter, All-map, All-weaker}
use Rattle.arithmetic.specs.Sums.{total}
use Rattle.cash_ledger.specs.declared.entry.Entry.{Entry}
use Rattle.form.specs.declared.orders.Order.{Order}
use Rattle.frac.specs.declared.frac128.Frac128.{Frac128}
use Rattle.order_book.specs.Book.{BookState}
use Rattle.settlement.specs.declared.position.PaidOut.{PaidOut}
use Rattle.settlement.specs.declared.position.Position.{Position}
use Rattle.settlement.specs.Positions.{gain_at, held_in, is_of, paid_out, payouts_of}
use Rattle.reply_print.specs.declared.replies.Reply.{Reply}
use Rattle.exchange_core.specs.ExchangeState.{ExchangeState, all_live, empty_exchange}
use Rattle.exchange_core.specs.Kept.{IsKept}
use Rattle.exchange_core.specs.Payoffs.{payoff_entries}
use Rattle.exchange_core.specs.Positions.{positions_in}
use Rattle.exchange_core.specs.Premiums.{premium_entries}
use Rattle.exchange_core.proofs.Keeping.{empty_is_kept}
use Rattle.exchange_lines.specs.Gain.{house_total, paid_to_traders}
use Rattle.exchange_lines.proofs.Filters.{filter_none}
use Rattle.exchange_lines.proofs.HouseEntries.{house_total-append, payoffs_entered, premiums_of_another}
use Rattle.exchange_lines.proofs.Payouts.{all_made, held_for, is_held_for, paid_for}
use Rattle.exchange_lines.proofs.GainSteps.{IsTrader, IsQuiet, IsClear, IsSettle, StepsTo}

-- ---- tests

apart_below : (a b : ℕ) → a < b → nat_eq a b ≡ false
apart_below a b lt = grind (arith, nat_tests)

pub apart_above : (a b : ℕ) → b < a → nat_eq a b ≡ false
apart_above a b lt = grind (arith, nat_tests)

-- ---- each state
abbrev HasTrader : Position → Type 0
HasTrader position = 1 ≤ position.account

abbrev IsNumbered : ℕ → Position → Type 0
IsNumbered finished position = position.batch ≤ finished

-- no account of an order or a position is the house, and no batch that is still to come has
-- positions or entries
pub record IsRunning (state : ExchangeState) : Type 0 where
  pub kept : IsKept state
  pub traders : All IsTrader (all_live state)
  pub holders : All HasTrader state.positions
  pub numbered : All (IsNumbered state.book.finished) state.positions
  pub unused : (number : ℕ) → state.book.finished < number → house_total number state.entries ≡ pos 0

pub empty_runs : IsRunning empty_exchange
empty_runs = record { kept = empty_is_kept; traders = All-nil IsTrader; holders = All-nil HasTrader; numbered = All-nil (IsNumbered 0); unused = λ number after. refl }

-- what a settlement adds to the house's entries
pub settled_entries : (number market : ℕ) (prices : List ℕ) (positions : List Position) → All HasTrader positions → (entries : List Entry)
    → house_total number (entries ++ payoff_entries (payouts_of market prices positions)) ≡ house_total number entries -ℤ paid_to_traders number (payouts_of market prices positions)
settled_entries number market prices positions holders entries =
    house_total-append number entries (payoff_entries (payouts_of market prices positions))
    ∙ ap (λ s. house_total number entries +ℤ s)
    (payoffs_entered number (payouts_of market prices positions)
    (All-map (λ (paid : PaidOut). 1 ≤ paid.account) (paid_out prices) (held_in market positions) (All-filter (is_of market) HasTrader positions holders)))

-- a batch without positions is paid nothing
nothing_paid : (number market : ℕ) (prices : List ℕ) (positions : List Position) → held_for number positions ≡ [] → paid_to_traders number (payouts_of market prices positions) ≡ pos 0
nothing_paid number market prices positions none = paid_for number market prices positions ∙ ap (λ l. total (gain_at prices) (held_in market l)) none

pub settled_nothing : (number market : ℕ) (prices : List ℕ) (positions : List Position) → All HasTrader positions → (entries : List Entry) → held_for number positions ≡ []
    → house_total number (entries ++ payoff_entries (payouts_of market prices positions)) ≡ house_total number entries
settled_nothing number market prices positions holders entries none =
    settled_entries number market prices positions holders entries
    ∙ ap (λ s. house_total number entries -ℤ s) (nothing_paid number market prices positions none) ∙ omega (arith, ints)

pub cleared_another : (number other : ℕ) (orders : List Order) (fills : List Frac128) → nat_eq other number ≡ false → All IsTrader orders → (entries : List Entry)
    → house_total number (entries ++ premium_entries other orders fills) ≡ house_total number entries
cleared_another number other orders fills is traders entries =
    house_total-append number entries (premium_entries other orders fills)
    ∙ ap (λ s. house_total number entries +ℤ s) (premiums_of_another number other is orders fills traders) ∙ omega (arith, ints)

-- no positions have the number of a batch that is still to come
pub none_to_come : (number finished : ℕ) (positions : List Position) → finished < number → All (IsNumbered finished) positions → held_for number positions ≡ []
none_to_come number finished positions after numbered =
    filter_none (is_held_for number) positions
    (All-weaker (IsNumbered finished) (λ (p : Position). is_held_for number p ≡ false) (λ p le. apart_below p.batch number (omega (arith, le, after))) positions numbered)

module _ (state : ExchangeState) (result : Reply × ExchangeState) (running : IsRunning state) (kept : IsKept result.1) (traders : All IsTrader (all_live result.1)) where
  quiet_runs : IsQuiet state result → IsRunning result.1
  quiet_runs quiet = record {
    kept = kept;
    traders = traders;
    holders = subst (All HasTrader) (sym quiet.positions) running.holders;
    numbered = subst (λ n. All (IsNumbered n) result.1.positions) (sym quiet.finished) (subst (All (IsNumbered state.book.finished)) (sym quiet.positions) running.numbered);
    unused = λ number after. quiet.entered number ∙ running.unused number (subst (λ n. n < number) quiet.finished after);
  }

  clear_runs : IsClear state result → IsRunning result.1
  clear_runs clear =
      let number : ℕ = state.book.finished + 1 in
      let new = positions_in clear.market number clear.batch.orders clear.outcome.fills in
      let finished : result.1.book.finished ≡ number = ap (λ (b : BookState). b.finished) clear.book in
      record {
        kept = kept;
        traders = traders;
        holders = subst (All HasTrader) (sym clear.positions)
            (All-append HasTrader state.positions new running.holders (all_made HasTrader IsTrader clear.market number (λ order fill some. some) clear.batch.orders clear.outcome.fills clear.traders));
        numbered = subst (λ n. All (IsNumbered n) result.1.positions) (sym finished)
            (subst (All (IsNumbered number)) (sym clear.positions)
            (All-append (IsNumbered number) state.positions new (All-weaker (IsNumbered state.book.finished) (IsNumbered number) (λ p le. omega (arith, le)) state.positions running.numbered)
            (all_made (IsNumbered number) IsTrader clear.market number (λ order fill some. omega arith) clear.batch.orders clear.outcome.fills clear.traders)));
        unused = λ later after.
            let lt : number < later = subst (λ n. n < later) finished after in
            ap (house_total later) clear.entries
            ∙ cleared_another later number clear.batch.orders clear.outcome.fills (apart_below number later lt) clear.traders state.entries
            ∙ running.unused later (omega (arith, lt));
      }

  settle_runs : IsSettle state result → IsRunning result.1
  settle_runs settle =
      let finished : result.1.book.finished ≡ state.book.finished = ap (λ (b : BookState). b.finished) settle.book in
      record {
        kept = kept;
        traders = traders;
        holders = subst (All HasTrader) (sym settle.positions) (All-filter (λ p. not (is_of settle.market p)) HasTrader state.positions running.holders);
        numbered = subst (λ n. All (IsNumbered n) result.1.positions) (sym finished)
            (subst (All (IsNumbered state.book.finished)) (sym settle.positions) (All-filter (λ p. not (is_of settle.market p)) (IsNumbered state.book.finished) state.positions running.numbered));
        unused = λ later after.
            let lt : state.book.finished < later = subst (λ n. n < later) finished after in
            ap (house_total later) settle.entries
            ∙ settled_nothing later settle.market settle.prices state.positions running.holders state.entries (none_to_come later state.book.finished state.positions lt running.numbered)
            ∙ running.unused later lt;
      }

  kind_runs : IsQuiet state result ⊎ (IsClear state result ⊎ IsSettle state result) → IsRunning result.1
  kind_runs (inl quiet) = quiet_runs quiet
  kind_runs (inr (inl clear)) = clear_runs clear
  kind_runs (inr (inr settle)) = settle_runs settle

pub step_runs : (state : ExchangeState) (result : Reply × ExchangeState) → IsRunning state → StepsTo state result → IsRunning result.1
step_runs state result running steps = kind_runs state result running steps.kept steps.traders steps.kind
