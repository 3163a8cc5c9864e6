-- Whole runs of an exchange: the replies, the state after them, and what each batch leaves to the
-- house.
use Rattle.std.specs.Prelude.{ℕ, ◌≡◌, List, [], ◌∷◌, ⊤}
use Rattle.std.specs.List.{All}
use Rattle.cash_ledger.specs.declared.entry.Entry.{Entry}
use Rattle.cert_check.specs.declared.outcome.Outcome.{Outcome}
use Rattle.reply_print.specs.declared.replies.Reply.{Reply}
use Rattle.reply_print.specs.declared.replies.Reply.TheVariants.{Opened, Deposited, Withdrawn, Listed, Placed, Cancelled, Cleared, Settled, Balance, Refused}
use Rattle.exchange_core.specs.ExchangeState.{ExchangeState}
use Rattle.form.specs.declared.orders.Batch.{Batch}
use Rattle.settlement.specs.declared.position.PaidOut.{PaidOut}
use Rattle.exchange_lines.specs.Gain.{IsGained}

-- ---- a run: each item, as a command, is answered in the state that those before it left
abbrev pub replies_by : {X : Type 0} → (ExchangeState → X → Reply × ExchangeState) → ExchangeState → List X → List Reply
replies_by answer state [] = []
replies_by answer state (item ∷ items) = (answer state item).0 ∷ replies_by answer (answer state item).1 items

-- the state after the last item
abbrev pub state_by : {X : Type 0} → (ExchangeState → X → Reply × ExchangeState) → ExchangeState → List X → ExchangeState
state_by answer state [] = state
state_by answer state (item ∷ items) = state_by answer (answer state item).1 items

-- each item is fit for the state that those before it left
abbrev pub AreFit : {X : Type 0} → (ExchangeState → X → Reply × ExchangeState) → (ExchangeState → X → Type 0) → ExchangeState → List X → Type 0
AreFit answer IsFit state [] = ⊤
AreFit answer IsFit state (item ∷ items) = IsFit state item × AreFit answer IsFit (answer state item).1 items

-- ---- of one reply
-- a fact of the number, the market, the batch and the outcome, where the reply clears a batch
abbrev pub IfClears : (ℕ → ℕ → Batch → Outcome → Type 0) → Reply → Type 0
IfClears P (Opened account) = ⊤
IfClears P (Deposited account balance) = ⊤
IfClears P (Withdrawn account balance) = ⊤
IfClears P (Listed market underlyings) = ⊤
IfClears P (Placed order) = ⊤
IfClears P (Cancelled order) = ⊤
IfClears P (Cleared number market batch outcome) = P number market batch outcome
IfClears P (Settled market lapsed payouts) = ⊤
IfClears P (Balance account balance reserved) = ⊤
IfClears P (Refused number field) = ⊤

-- a fact of the payouts, where the reply settles this market
abbrev pub IfSettles : ℕ → (List PaidOut → Type 0) → Reply → Type 0
IfSettles market P (Opened account) = ⊤
IfSettles market P (Deposited account balance) = ⊤
IfSettles market P (Withdrawn account balance) = ⊤
IfSettles market P (Listed listed underlyings) = ⊤
IfSettles market P (Placed order) = ⊤
IfSettles market P (Cancelled order) = ⊤
IfSettles market P (Cleared number cleared batch outcome) = ⊤
IfSettles market P (Settled settled lapsed payouts) = settled ≡ market → P payouts
IfSettles market P (Balance account balance reserved) = ⊤
IfSettles market P (Refused number field) = ⊤

-- ---- of all replies
-- a fact of each batch that is cleared and of what is paid out, where a later reply settles its
-- market
abbrev pub OfEachSettled : (ℕ → Batch → Outcome → List PaidOut → Type 0) → List Reply → Type 0
OfEachSettled P [] = ⊤
OfEachSettled P (reply ∷ later) =
    IfClears (λ number market batch outcome. All (IfSettles market (P number batch outcome)) later) reply × OfEachSettled P later

-- over the ledger's entries at the end, the house gains at least the surplus of each such batch
abbrev pub HouseGains : List Entry → List Reply → Type 0
HouseGains entries replies = OfEachSettled (IsGained entries) replies
