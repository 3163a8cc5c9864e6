-- The summary of a run over the lines of a made text.
use Rattle.std.proofs.Common.{◌≡◌, ℕ, ℤ, List, ap, ◌∙◌}
use Rattle.cash_ledger.specs.Entries.{balance_of}
use Rattle.command_text.specs.declared.command.Line.{Line}
use Rattle.command_text.specs.Lines.{commands_in}
use Rattle.exchange_core.specs.ExchangeState.{ExchangeState, empty_exchange}
use Rattle.exchange_core.specs.LineReplies.{replies_from}
use Rattle.demo_run.specs.Text.{made_text}
use Rattle.demo_run.specs.declared.tally.Tally.{Tally}
use Rattle.demo_run.specs.Tally.{tally_of}
use Rattle.demo_run.specs.Demo.{summary_line, demo_output}

pub summed : (seed count : ℕ) (lines : List Line) (tally : Tally) (state : ExchangeState) (house : ℤ) → lines ≡ commands_in (made_text seed count) → tally ≡ tally_of (replies_from empty_exchange lines).0
    → state ≡ (replies_from empty_exchange lines).1 → house ≡ balance_of 0 state.entries → summary_line tally house ≡ demo_output seed count
summed seed count lines tally state house lines_are tally_is state_is house_is =
    let tallied = tally_is ∙ ap (λ (l : List Line). tally_of (replies_from empty_exchange l).0) lines_are in
    let ended = state_is ∙ ap (λ (l : List Line). (replies_from empty_exchange l).1) lines_are in
    let held = house_is ∙ ap (λ (s : ExchangeState). balance_of 0 s.entries) ended in
    λ i. summary_line (tallied i) (held i)
