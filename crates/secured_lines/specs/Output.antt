-- What is answered to a line of `serve`, where accounts may be secured, and what is written for it.
use Rattle.std.specs.Prelude.{ℕ, List, Option, None, Result, Ok, true, if◌then◌else◌}
use Rattle.std.specs.Option.{option_map_or}
use Rattle.account_need.specs.Account.{Need as WhatIsNeeded}
use Rattle.auction_phases.specs.Phases.{bars}
use Rattle.command_text.specs.declared.asked.Fault.{Fault}
use Rattle.command_text.specs.declared.command.Command.{Command as OneCommand}
use Rattle.command_text.specs.declared.command.Command.TheVariants.{Withdraw}
use Rattle.command_text.specs.declared.requests.Request.{Request}
use Rattle.command_text.specs.declared.requests.Request.TheVariants.{Command, Need, Secure}
use Rattle.command_text.specs.declared.words.TheConstants.{SERVED}
use Rattle.command_text.specs.Said.{said_in}
use Rattle.live_lines.specs.Output.{output_of}
use Rattle.proposal_text.specs.Pieces.{written_reply}
use Rattle.proposal_text.specs.declared.replies.ServedReply.{ServedReply}
use Rattle.secured_accounts.specs.Secured.{is_secured, uncovered}
use Rattle.serve_lines.specs.Output.{serving_reply, withdrawal_reply}
use Rattle.secured_lines.specs.Replies.{needed_by, secured_by, uncovered_reply}
use Rattle.secured_lines.specs.SecuredState.{SecuredState, empty_secured, exchange_in, secured_of}

-- ---- the lines of secured accounts
abbrev pub secure_reply : SecuredState → ℕ → ServedReply × SecuredState
secure_reply state account = let now = secured_by (exchange_in state) state.secured account in (now.0, secured_of state.serving now.1)

abbrev pub need_reply : SecuredState → ℕ → ServedReply
need_reply state account = needed_by (exchange_in state) state.secured account

-- ---- commands
-- answered as where no account is secured
abbrev pub handed_on : SecuredState → List ℕ → Result Request Fault → ServedReply × SecuredState
handed_on state line said = let now = serving_reply state.serving line said in (now.0, secured_of now.1 state.secured)

-- a withdrawal of a secured account is answered as a run answers it
abbrev pub withdrawn : SecuredState → ℕ → ℕ → ServedReply × SecuredState
withdrawn state account amount =
    let now = withdrawal_reply state.serving account amount in (now.0, secured_of now.1 state.secured)

abbrev pub let_through : SecuredState → List ℕ → OneCommand → ServedReply × SecuredState
let_through state line (Withdraw account amount) =
    if is_secured state.secured account then withdrawn state account amount else handed_on state line (Ok (Command (Withdraw account amount)))
let_through state line command = handed_on state line (Ok (Command command))

-- the need of a secured account for which its balance would not be enough, where no closed market
-- keeps the command from the exchange, and the exchange does not refuse it
abbrev pub kept_from : SecuredState → OneCommand → Option WhatIsNeeded
kept_from state command =
    if bars state.serving.closed (exchange_in state) command then None else uncovered state.secured (exchange_in state) command

abbrev pub command_reply : SecuredState → List ℕ → OneCommand → ServedReply × SecuredState
command_reply state line command =
    option_map_or (λ need. (uncovered_reply need, state)) (kept_from state command) (let_through state line command)

-- ---- a line
-- the reply to a line of these bytes that says this, and the state after it
abbrev pub secured_reply : SecuredState → List ℕ → Result Request Fault → ServedReply × SecuredState
secured_reply state line (Ok (Secure account)) = secure_reply state account
secured_reply state line (Ok (Need account)) = (need_reply state account, state)
secured_reply state line (Ok (Command command)) = command_reply state line command
secured_reply state line said = handed_on state line said

-- what is written for it
abbrev pub secured_said : ℕ → SecuredState → List ℕ → Result Request Fault → List ℕ × SecuredState
secured_said number state line said = written_reply number (secured_reply state line said)

abbrev pub secured_line : ℕ → SecuredState → List ℕ → List ℕ × SecuredState
secured_line number state line = secured_said number state line (said_in SERVED line)

-- what is written for an input, whose mark is skipped
abbrev pub secured_output : List ℕ → List ℕ
secured_output input = output_of secured_line true empty_secured input
