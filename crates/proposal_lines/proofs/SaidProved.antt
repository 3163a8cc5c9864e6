-- What is kept stays proved by what is said otherwise.
use Rattle.std.proofs.Common.{ℕ, List, Option, Result, inl, inr, sym, ap, subst}
use Rattle.command_text.specs.declared.asked.Fault.{Fault}
use Rattle.command_text.specs.declared.command.Body.TheVariants as body
use Rattle.command_text.specs.declared.command.Command.{Command}
use Rattle.command_text.specs.declared.requests.Request.{Request}
use Rattle.command_text.specs.Commands.{body_of_said}
use Rattle.exchange_core.specs.ExchangeState.{ExchangeState}
use Rattle.exchange_core.specs.Step.{step}
use Rattle.proposals.specs.declared.best.Best.{Best}
use Rattle.proposal_lines.specs.AllKinds.{said_reply}
use Rattle.proposal_lines.specs.KeptByMarket.{KeptProposals, after_end}
use Rattle.proposal_lines.specs.Proved.{AreProvedIn, IsProvedIn}
use Rattle.proposal_lines.proofs.AsRun.{heard_command, said_as_run}
use Rattle.proposal_lines.proofs.Kept.{ended_has}
use Rattle.proposal_lines.proofs.Moving.{entries_moved, reply_proved}

pub said_proved : (state : ExchangeState) (said : Result Request Fault) (kept : KeptProposals) → AreProvedIn state.book kept → AreProvedIn (said_reply state said).1.book kept
said_proved state said = entries_moved state.book (said_reply state said).1.book one
  where
    one : (market : ℕ) (best : Best) → IsProvedIn state.book market best → IsProvedIn (said_reply state said).1.book market best
    one market best is =
        let P : ExchangeState → Type 0 = λ (after : ExchangeState). IsProvedIn after.book market best in
        elim (said_as_run 0 state (body_of_said said) said (heard_command said)) [
          | inl run ↦ subst P (sym (ap (λ (r : List ℕ × ExchangeState). r.1) run)) (reply_proved state market best is (body_of_said said))
          | inr beside ↦ subst P (sym beside.1) is
        ]

-- nor by a command that is answered as a run answers it
pub command_proved : (state : ExchangeState) (command : Command) (kept : KeptProposals) → AreProvedIn state.book kept → AreProvedIn (step state command).1.book kept
command_proved state command = entries_moved state.book (step state command).1.book (λ market best is. reply_proved state market best is (body.Command command))

-- so it does where a market is cleared or settled by it, and what is kept for it let go of
pub ended_proved : (state : ExchangeState) (command : Command) (ended : Option ℕ) (kept : KeptProposals) → AreProvedIn state.book kept
    → AreProvedIn (step state command).1.book (after_end kept ended)
ended_proved state command ended kept are = ended_has (IsProvedIn (step state command).1.book) ended kept (command_proved state command kept are)
