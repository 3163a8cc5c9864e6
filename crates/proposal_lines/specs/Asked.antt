-- What is told and changes nothing, whether a line says it or it is asked between lines.
use Rattle.std.specs.Prelude.{ℕ, Bool, true, false, List, Option, None, Some, Result, Ok, Err, if◌then◌else◌}
use Rattle.asked_lines.specs.Requests.{may_be_asked}
use Rattle.command_text.specs.declared.asked.Fault.{Fault}
use Rattle.command_text.specs.declared.requests.ProposeRequest.{ProposeRequest}
use Rattle.command_text.specs.declared.requests.Request.{Request}
use Rattle.command_text.specs.declared.requests.Request.TheVariants.{Need, Propose}
use Rattle.exchange_core.specs.ExchangeState.{ExchangeState}
use Rattle.proposal_lines.specs.Proposed.{proposed_of}
use Rattle.proposal_text.specs.declared.replies.ServedReply.{ServedReply}
use Rattle.proposal_lines.specs.Reading.{reading_reply}
use Rattle.proposal_lines.specs.declared.proposed.Proposed.{Proposed}

-- by the exchange alone; what an account needs is told where accounts are secured
abbrev pub is_told : Result Request Fault → Bool
is_told (Ok (Need account)) = false
is_told (Ok request) = may_be_asked request
is_told (Err fault) = true

-- the reply to it
abbrev pub told_reply : ExchangeState → Result Request Fault → Option ServedReply
told_reply exchange said = if is_told said then Some (reading_reply exchange said).0 else None

-- a line proposes where its text is a proposal, and else has a fault
abbrev pub if_proposed : ProposeRequest → Result Proposed Fault → Result Request Fault
if_proposed request (Ok proposed) = Ok (Propose request)
if_proposed request (Err fault) = Err fault

abbrev pub in_form : List ℕ → Result Request Fault → Result Request Fault
in_form line (Ok (Propose request)) = if_proposed request (proposed_of line request)
in_form line said = said
