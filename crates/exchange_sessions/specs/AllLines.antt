-- Messages whose bodies are lines of any kind, proposals and phases among them, each answered
-- between two reads; between them sessions may ask.
use Rattle.std.specs.Prelude.{ℕ, List}
use Rattle.served_members.specs.SecuredAsked.{secured_asks}
use Rattle.served_members.specs.SecuredOutput.{secured_line, secured_output}
use Rattle.served_members.specs.SecuredState.{empty_secured}
use Rattle.served_members.specs.Lines.{TellServed}
use Rattle.session_lines.specs.Questions.{any_asks}
use Rattle.session_lines.specs.Served.{reply_by}
use Rattle.session_lines.specs.Sessions.{any_session}
use Rattle.exchange_sessions.specs.Laws.{SessionsTold}
use Rattle.exchange_sessions.specs.Messages.{MessagesTell, messages_output}

-- what is written for messages, of which no bytes are skipped
abbrev pub all_sessions_output : List ℕ → List ℕ
all_sessions_output = messages_output (any_session secured_line) (any_asks secured_asks) empty_secured

-- bytes tell each message once, and the bodies are answered as lines of any kind
abbrev pub TellServedOnce : List ℕ → List ℕ → Type 0
TellServedOnce = SessionsTold (reply_by secured_line empty_secured) secured_output TellServed

-- so they do beside what is asked
abbrev pub TellAllOnce : List ℕ → List ℕ → Type 0
TellAllOnce = MessagesTell (any_session secured_line) (any_asks secured_asks) empty_secured TellServedOnce

abbrev pub SessionsTellOnce : Type 0
SessionsTellOnce = (input : List ℕ) → TellAllOnce input (all_sessions_output input)
