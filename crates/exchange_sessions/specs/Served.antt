-- An exchange as what replies to bodies, each a line of one input.
use Rattle.exchange_core.specs.ExchangeState.{empty_exchange}
use Rattle.exchange_lines.specs.Output.{line_output}
use Rattle.session_gate.specs.Runs.{Replies}
use Rattle.session_lines.specs.Served.{reply_by}

-- the reply of an exchange that took these bodies
abbrev pub exchange_reply : Replies
exchange_reply bodies = reply_by line_output empty_exchange bodies
