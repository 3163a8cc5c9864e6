-- Facts of replies that clear or settle.
use Rattle.std.proofs.Common.{◌≡◌, ℕ, List, [], Bool, true, false, sym, true≢false}
use Rattle.cert_check.specs.declared.outcome.Outcome.{Outcome}
use Rattle.form.specs.declared.orders.Batch.{Batch}
use Rattle.settlement.specs.declared.position.PaidOut.{PaidOut}
use Rattle.reply_print.specs.declared.replies.Reply.{Reply}
use Rattle.reply_print.specs.declared.replies.Reply.TheVariants.{Opened, Deposited, Withdrawn, Listed, Placed, Cancelled, Cleared, Settled, Balance, Refused}
use Rattle.exchange_lines.specs.GainRuns.{IfClears, IfSettles}

-- a reply that neither clears nor settles
abbrev pub is_plain : Reply → Bool
is_plain (Opened account) = true
is_plain (Deposited account balance) = true
is_plain (Withdrawn account balance) = true
is_plain (Listed market underlyings) = true
is_plain (Placed order) = true
is_plain (Cancelled order) = true
is_plain (Cleared number market batch outcome) = false
is_plain (Settled market lapsed payouts) = false
is_plain (Balance account balance reserved) = true
is_plain (Refused number field) = true

pub plain_clears : (P : ℕ → ℕ → Batch → Outcome → Type 0) (reply : Reply) → is_plain reply ≡ true → IfClears P reply
plain_clears P (Opened account) e = tt
plain_clears P (Deposited account balance) e = tt
plain_clears P (Withdrawn account balance) e = tt
plain_clears P (Listed market underlyings) e = tt
plain_clears P (Placed order) e = tt
plain_clears P (Cancelled order) e = tt
plain_clears P (Cleared number market batch outcome) e = absurd (true≢false (sym e))
plain_clears P (Settled market lapsed payouts) e = tt
plain_clears P (Balance account balance reserved) e = tt
plain_clears P (Refused number field) e = tt

pub plain_settles : (market : ℕ) (P : List PaidOut → Type 0) (reply : Reply) → is_plain reply ≡ true → IfSettles market P reply
plain_settles market P (Opened account) e = tt
plain_settles market P (Deposited account balance) e = tt
plain_settles market P (Withdrawn account balance) e = tt
plain_settles market P (Listed listed underlyings) e = tt
plain_settles market P (Placed order) e = tt
plain_settles market P (Cancelled order) e = tt
plain_settles market P (Cleared number cleared batch outcome) e = tt
plain_settles market P (Settled settled lapsed payouts) e = absurd (true≢false (sym e))
plain_settles market P (Balance account balance reserved) e = tt
plain_settles market P (Refused number field) e = tt
