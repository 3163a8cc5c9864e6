-- What is answered to a line where markets have phases, and what is written for it.
use Rattle.std.specs.Prelude.{ℕ, List, Option, None, Result, Ok, true, if◌then◌else◌}
use Rattle.command_text.specs.declared.asked.Fault.{Fault}
use Rattle.command_text.specs.declared.command.Command.{Command as OneCommand}
use Rattle.command_text.specs.declared.requests.Request.{Request}
use Rattle.command_text.specs.declared.requests.Request.TheVariants.{Command, Close, Reopen}
use Rattle.command_text.specs.declared.words.TheConstants.{SERVED}
use Rattle.command_text.specs.Said.{said_in}
use Rattle.auction_phases.specs.Phases.{after_end, bars, ended_in}
use Rattle.live_lines.specs.Output.{output_of}
use Rattle.proposal_text.specs.declared.replies.ProposalReply.TheVariants as told
use Rattle.proposal_text.specs.Pieces.{written_reply}
use Rattle.proposal_text.specs.declared.replies.ServedReply.{ServedReply}
use Rattle.proposal_text.specs.declared.replies.ServedReply.TheVariants.{Told}
use Rattle.proposal_lines.specs.Output.{proposing_reply, withdrawal_reply as proposing_withdrawal}
use Rattle.serve_lines.specs.Phased.{close_reply, exchange_of, reopen_reply}
use Rattle.serve_lines.specs.ServingState.{ServingState, empty_serving, serving_of}

-- answered as where there are no phases, and the market that is cleared or settled is open
abbrev pub handed_on : ServingState → List ℕ → Result Request Fault → Option ℕ → ServedReply × ServingState
handed_on state line said ended =
    let now = proposing_reply state.proposing line said in (now.0, serving_of now.1 (after_end state.closed ended))

-- a withdrawal is answered as a run answers it, and no market's phase changes
abbrev pub withdrawal_reply : ServingState → ℕ → ℕ → ServedReply × ServingState
withdrawal_reply state account amount =
    let now = proposing_withdrawal state.proposing account amount in (now.0, serving_of now.1 state.closed)

-- a command that a closed market keeps from the exchange is refused
abbrev pub command_reply : ServingState → List ℕ → OneCommand → ServedReply × ServingState
command_reply state line command =
    if bars state.closed (exchange_of state) command
    then (Told told.MarketIsClosed, state)
    else handed_on state line (Ok (Command command)) (ended_in (exchange_of state) command)

-- the reply to a line of these bytes that says this, and the state after it
abbrev pub serving_reply : ServingState → List ℕ → Result Request Fault → ServedReply × ServingState
serving_reply state line (Ok (Close market)) = close_reply state market
serving_reply state line (Ok (Reopen market)) = reopen_reply state market
serving_reply state line (Ok (Command command)) = command_reply state line command
serving_reply state line said = handed_on state line said None

-- what is written for it
abbrev pub serving_said : ℕ → ServingState → List ℕ → Result Request Fault → List ℕ × ServingState
serving_said number state line said = written_reply number (serving_reply state line said)

abbrev pub serving_line : ℕ → ServingState → List ℕ → List ℕ × ServingState
serving_line number state line = serving_said number state line (said_in SERVED line)

-- what is written for an input, whose mark is skipped
abbrev pub serving_output : List ℕ → List ℕ
serving_output input = output_of serving_line true empty_serving input
