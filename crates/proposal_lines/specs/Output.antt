-- What is answered to a line where proposals are taken, and what is written for it.
use Rattle.std.specs.Prelude.{ℕ, List, Result, Ok}
use Rattle.command_text.specs.declared.asked.Fault.{Fault}
use Rattle.auction_phases.specs.Phases.{ended_in}
use Rattle.command_text.specs.declared.command.Command.TheVariants.{Clear, Settle, Withdraw}
use Rattle.command_text.specs.declared.requests.Request.{Request}
use Rattle.command_text.specs.declared.requests.Request.TheVariants.{Command, Book, Positions, Propose, Try}
use Rattle.command_text.specs.declared.words.TheConstants.{SERVED}
use Rattle.command_text.specs.Said.{said_in}
use Rattle.exchange_core.specs.Step.{step}
use Rattle.proposal_text.specs.Pieces.{written_reply}
use Rattle.proposal_text.specs.declared.replies.ServedReply.{ServedReply}
use Rattle.proposal_text.specs.declared.replies.ServedReply.TheVariants.{Plain}
use Rattle.proposal_lines.specs.AllKinds.{said_reply}
use Rattle.proposal_lines.specs.Clears.{clear_reply}
use Rattle.proposal_lines.specs.KeptByMarket.{after_end}
use Rattle.proposal_lines.specs.Proposed.{proposed_of, proposed_reply}
use Rattle.proposal_lines.specs.ProposingState.{ProposingState, state_of}
use Rattle.proposal_lines.specs.Reads.{book_reply, positions_reply}
use Rattle.proposal_lines.specs.Trials.{trial_reply}

-- what is said otherwise is answered as where nothing is read or proposed
abbrev pub other_reply : ProposingState → Result Request Fault → ServedReply × ProposingState
other_reply state said = let now = said_reply state.exchange said in (now.0, record state { exchange = now.1 })

-- a withdrawal is answered as a run answers it, whatever the margins of its account
abbrev pub withdrawal_reply : ProposingState → ℕ → ℕ → ServedReply × ProposingState
withdrawal_reply state account amount =
    let now = step state.exchange (Withdraw account amount) in (Plain now.0, record state { exchange = now.1 })

-- a market is settled as a run settles it, and then what is kept for it is let go of
abbrev pub settlement_reply : ProposingState → ℕ → ℕ → List ℕ → ServedReply × ProposingState
settlement_reply state market count prices =
    let now = step state.exchange (Settle market count prices) in
    (Plain now.0, state_of now.1 (after_end state.kept (ended_in state.exchange (Settle market count prices))))

-- the reply to a line of these bytes that says this, and the state after it
abbrev pub proposing_reply : ProposingState → List ℕ → Result Request Fault → ServedReply × ProposingState
proposing_reply state line (Ok (Propose request)) = proposed_reply state (proposed_of line request)
proposing_reply state line (Ok (Command (Clear market budget))) = clear_reply state market budget
proposing_reply state line (Ok (Command (Settle market count prices))) = settlement_reply state market count prices
proposing_reply state line (Ok (Book market)) = (book_reply state.exchange market, state)
proposing_reply state line (Ok (Positions account market)) = (positions_reply state.exchange account market, state)
proposing_reply state line (Ok (Try request)) = (trial_reply state.exchange request, state)
proposing_reply state line said = other_reply state said

-- what is written for it
abbrev pub proposing_said : ℕ → ProposingState → List ℕ → Result Request Fault → List ℕ × ProposingState
proposing_said number state line said = written_reply number (proposing_reply state line said)

abbrev pub proposing_line : ℕ → ProposingState → List ℕ → List ℕ × ProposingState
proposing_line number state line = proposing_said number state line (said_in SERVED line)
