-- What the reply of a cleared batch promises.
use Rattle.std.specs.Prelude.{ℕ, ⊤}
use Rattle.cert_check.specs.declared.outcome.Outcome.{Outcome}
use Rattle.cert_check.specs.Conditions.{IfOptimal}
use Rattle.cert_check.specs.Laws.{IsCovered, IsMeasured, IsProved}
use Rattle.clearing.specs.Outcome.{IsMarked}
use Rattle.form.specs.declared.orders.Batch.{Batch}
use Rattle.command_text.specs.declared.command.Command.{Command}
use Rattle.command_text.specs.declared.command.Command.TheVariants.{Open, Deposit, Withdraw, Market, Trade, Bundle, Cancel, Clear, Settle, Balance as BalanceOf}
use Rattle.reply_print.specs.declared.replies.Reply.{Reply}
use Rattle.reply_print.specs.declared.replies.Reply.TheVariants.{Opened, Deposited, Withdrawn, Listed, Placed, Cancelled, Cleared, Settled, Balance, Refused}
use Rattle.exchange_core.specs.ExchangeState.{ExchangeState}
use Rattle.exchange_core.specs.Kept.{IsKept}
use Rattle.exchange_core.specs.Step.{step}

-- a fact of the batch and its outcome, where the reply clears a batch
abbrev pub IfCleared : (Batch → Outcome → Type 0) → Reply → Type 0
IfCleared P (Opened account) = ⊤
IfCleared P (Deposited account balance) = ⊤
IfCleared P (Withdrawn account balance) = ⊤
IfCleared P (Listed market underlyings) = ⊤
IfCleared P (Placed order) = ⊤
IfCleared P (Cancelled order) = ⊤
IfCleared P (Cleared number market batch outcome) = P batch outcome
IfCleared P (Settled market lapsed payouts) = ⊤
IfCleared P (Balance account balance reserved) = ⊤
IfCleared P (Refused number field) = ⊤

-- a fact of each batch that a step clears, from whatever state an exchange may be in
abbrev pub OfEachCleared : (Batch → Outcome → Type 0) → Type 0
OfEachCleared P = (state : ExchangeState) (command : Command) → IsKept state → IfCleared P (step state command).0

-- the fills cover the surplus at every settlement, and it is not below 0
abbrev pub StepIsCovered : Type 0
StepIsCovered = OfEachCleared IsCovered

-- with the mark optimal no fractional fills cover more, and the measure of the outcome proves it
abbrev pub IsProvedGreatest : Batch → Outcome → Type 0
IsProvedGreatest batch outcome = IfOptimal outcome.mark (λ cover measure. IsProved batch outcome × IsMeasured batch outcome measure)

abbrev pub StepIsOptimal : Type 0
StepIsOptimal = OfEachCleared IsProvedGreatest

-- the units that a command gives a clear; other commands clear nothing
abbrev pub budget_of : Command → ℕ
budget_of (Open account) = 0
budget_of (Deposit account amount) = 0
budget_of (Withdraw account amount) = 0
budget_of (Market market underlyings) = 0
budget_of (Trade side account market kind strike price quantity count weights) = 0
budget_of (Bundle side account market price quantity bundle) = 0
budget_of (Cancel account order) = 0
budget_of (Clear market budget) = budget
budget_of (Settle market count prices) = 0
budget_of (BalanceOf account) = 0

-- from such a state, the mark and the units of a batch that is cleared are those of the end of the
-- run: what it cleared, the step that did not fit, or a unit wanted beyond the budget
abbrev pub IsMarkedFor : Command → Reply → Type 0
IsMarkedFor command reply = IfCleared (λ batch outcome. IsMarked batch (budget_of command) outcome) reply

abbrev pub StepIsMarked : Type 0
StepIsMarked = (state : ExchangeState) (command : Command) → IsKept state → IsMarkedFor command (step state command).0
