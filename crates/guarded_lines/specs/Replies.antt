-- The reply to a line that may ask for a margin, and the exchange after it.
use Rattle.std.specs.Prelude.{Result, Ok}
use Rattle.std.specs.Option.{option_map_or}
use Rattle.command_text.specs.declared.command.Body.{Body}
use Rattle.exchange_core.specs.ExchangeState.{ExchangeState}
use Rattle.exchange_core.specs.LineReplies.{reply_to}
use Rattle.command_text.specs.Commands.{body_of_said}
use Rattle.command_text.specs.declared.asked.Fault.{Fault}
use Rattle.command_text.specs.declared.requests.Request.{Request}
use Rattle.command_text.specs.declared.requests.Request.TheVariants as asks
use Rattle.proposal_text.specs.declared.replies.ProposalReply.TheVariants.{Uncovered}
use Rattle.proposal_text.specs.declared.replies.ServedReply.{ServedReply}
use Rattle.proposal_text.specs.declared.replies.ServedReply.TheVariants.{Plain, Told}
use Rattle.guarded_lines.specs.Margins.{margin_reply}
use Rattle.guarded_lines.specs.Withdrawals.{uncovered_by}

-- a run's reply to what a line says, and the exchange after it
abbrev pub plain_reply_to : ExchangeState → Body → ServedReply × ExchangeState
plain_reply_to state said = let now = reply_to state said in (Plain now.0, now.1)

-- the same, but for a withdrawal that would leave less than is needed, which changes nothing
abbrev pub covered_reply_to : ExchangeState → Body → ServedReply × ExchangeState
covered_reply_to state said =
    option_map_or (λ need. (Told (Uncovered need), state)) (uncovered_by state said) (plain_reply_to state said)

-- a request for a margin changes nothing either
abbrev pub guarded_reply_to : ExchangeState → Result Request Fault → ServedReply × ExchangeState
guarded_reply_to state (Ok (asks.Margin request)) = (margin_reply state request, state)
guarded_reply_to state said = covered_reply_to state (body_of_said said)
