-- Over whole runs the house gains of each batch at least its surplus.
use Rattle.std.proofs.Common.{◌≡◌, ℕ, ◌+◌, List, [], ◌∷◌, ℤ, ◌⊎◌, inl, inr, refl, sym, ap, ◌∙◌, subst}
use Rattle.std.specs.List.{All}
use Rattle.std.proofs.lemmas.List.Elements.{All-nil, All-cons, All-head, All-tail}
use Rattle.cash_ledger.specs.declared.entry.Entry.{Entry}
use Rattle.cert_check.specs.declared.outcome.Outcome.{Outcome}
use Rattle.cert_check.specs.Laws.{IsCovered}
use Rattle.command_text.specs.Within.{IsWithin}
use Rattle.form.specs.declared.orders.Batch.{Batch}
use Rattle.settlement.specs.declared.position.PaidOut.{PaidOut}
use Rattle.reply_print.specs.declared.replies.Reply.{Reply}
use Rattle.exchange_core.specs.ExchangeState.{ExchangeState, all_live, empty_exchange}
use Rattle.exchange_core.specs.Kept.{IsKept}
use Rattle.exchange_core.specs.Step.{step}
use Rattle.exchange_lines.specs.Gain.{house_gain, house_total, IsGained}
use Rattle.exchange_lines.specs.GainLaws.{MovesGain, RunsGain}
use Rattle.exchange_lines.specs.Moves.{MayMove, move}
use Rattle.exchange_lines.specs.GainRuns.{AreFit, HouseGains, IfClears, IfSettles, replies_by, state_by}
use Rattle.exchange_lines.proofs.BatchSteps.{WaitsOrIsPaid, IsOver, IsWaiting, cleared_waits, follow, stays_over}
use Rattle.exchange_lines.proofs.GainReplies.{plain_clears}
use Rattle.exchange_lines.proofs.RunStates.{IsRunning, empty_runs, step_runs}
use Rattle.exchange_lines.proofs.GainSteps.{IsTrader, IsQuiet, IsClear, IsSettle, StepsTo, command_steps, move_steps}

-- a run whose items are answered as by steps of the exchange
module _ {X : Type 0} (answer : ExchangeState → X → Reply × ExchangeState) (IsFit : ExchangeState → X → Type 0)
    (steps : (state : ExchangeState) (item : X) → IsFit state item → IsKept state → All IsTrader (all_live state) → StepsTo state (answer state item)) where
  first_steps : (state : ExchangeState) (item : X) (items : List X) → AreFit answer IsFit state (item ∷ items) → IsRunning state → StepsTo state (answer state item)
  first_steps state item items fit running = steps state item fit.0 running.kept running.traders

  next_runs : (state : ExchangeState) (item : X) (items : List X) → AreFit answer IsFit state (item ∷ items) → IsRunning state → IsRunning (answer state item).1
  next_runs state item items fit running = step_runs state (answer state item) running (first_steps state item items fit running)

  -- a batch that is over stays so, and its entries are not added to
  over_run : (number market : ℕ) (gain : ℤ) (P : List PaidOut → Type 0) (items : List X) (state : ExchangeState) → AreFit answer IsFit state items → IsRunning state → IsOver number market gain state
      → (house_total number (state_by answer state items).entries ≡ gain) × All (IfSettles market P) (replies_by answer state items)
  over_run number market gain P [] state fit running over = (over.entered, All-nil (IfSettles market P))
  over_run number market gain P (item ∷ items) state fit running over =
      let now : Reply × ExchangeState = answer state item in
      let stays = stays_over number market state now running (first_steps state item items fit running) gain P over in
      let later = over_run number market gain P items now.1 fit.1 (next_runs state item items fit running) stays.0 in
      (later.0, All-cons (IfSettles market P) now.0 (replies_by answer now.1 items) stays.1 later.1)

  -- a batch that waits
  waiting_run : (number market : ℕ) (batch : Batch) (outcome : Outcome) → IsCovered batch outcome → (entries : List Entry) (items : List X) (state : ExchangeState)
      → entries ≡ (state_by answer state items).entries → AreFit answer IsFit state items → IsRunning state → IsWaiting number market batch outcome state
      → All (IfSettles market (IsGained entries number batch outcome)) (replies_by answer state items)
  waiting_run number market batch outcome covered entries [] state end fit running waiting = All-nil (IfSettles market (IsGained entries number batch outcome))
  waiting_run number market batch outcome covered entries (item ∷ items) state end fit running waiting =
      by (waiting_run number market batch outcome covered entries items now.1 end fit.1 (next_runs state item items fit running))
      (follow number market batch outcome covered state now running (first_steps state item items fit running) P waiting)
    where
      now : Reply × ExchangeState
      now = answer state item

      P : List PaidOut → Type 0
      P = IsGained entries number batch outcome

      Now : Reply → Type 0
      Now = IfSettles market P

      by : (IsWaiting number market batch outcome now.1 → All Now (replies_by answer now.1 items))
          → WaitsOrIsPaid number market batch outcome covered state now running P waiting → All Now (now.0 ∷ replies_by answer now.1 items)
      by later (inl waits) = All-cons Now now.0 (replies_by answer now.1 items) waits.1 (later waits.0)
      by later (inr paid) =
          let over = over_run number market (house_gain number batch outcome paid.payouts) P items now.1 fit.1 (next_runs state item items fit running) paid.over in
          All-cons Now now.0 (replies_by answer now.1 items) (paid.reply (record { surplus = paid.surplus; entered = ap (house_total number) end ∙ over.0 })) over.1

  -- each batch
  pub gains_run : (items : List X) (state : ExchangeState) → AreFit answer IsFit state items → IsRunning state → HouseGains (state_by answer state items).entries (replies_by answer state items)
  gains_run [] state fit running = tt
  gains_run (item ∷ items) state fit running =
      (by (first_steps state item items fit running).kind, gains_run items now.1 fit.1 after)
    where
      now : Reply × ExchangeState
      now = answer state item

      after : IsRunning now.1
      after = next_runs state item items fit running

      Later : ℕ → ℕ → Batch → Outcome → Type 0
      Later = λ number market batch outcome. All (IfSettles market (IsGained (state_by answer now.1 items).entries number batch outcome)) (replies_by answer now.1 items)

      by : IsQuiet state now ⊎ (IsClear state now ⊎ IsSettle state now) → IfClears Later now.0
      by (inl quiet) = plain_clears Later now.0 quiet.reply
      by (inr (inl clear)) =
          subst (IfClears Later) (sym clear.reply)
          (waiting_run (state.book.finished + 1) clear.market clear.batch clear.outcome clear.covered (state_by answer now.1 items).entries items now.1 refl fit.1 after
          (cleared_waits state now running clear))
      by (inr (inr settle)) = subst (IfClears Later) (sym settle.reply) tt

-- items that are fit for any state
pub always_fit : {X : Type 0} (answer : ExchangeState → X → Reply × ExchangeState) (Fits : X → Type 0) (state : ExchangeState) (items : List X) → All Fits items
    → AreFit answer (λ before item. Fits item) state items
always_fit answer Fits state [] fit = tt
always_fit answer Fits state (item ∷ items) fit =
    (All-head Fits item items fit, always_fit answer Fits (answer state item).1 items (All-tail Fits item items fit))

pub moves_gain : MovesGain
moves_gain moves may = gains_run move MayMove move_steps moves empty_exchange may empty_runs

pub runs_gain : RunsGain
runs_gain commands within =
    gains_run step (λ before command. IsWithin command) command_steps commands empty_exchange (always_fit step IsWithin empty_exchange commands within) empty_runs
