-- What is asked between lines, and what is told.
use Rattle.std.specs.Prelude.{ℕ, List, [], ◌∷◌, ◌++◌, Option, Some, None, Result, Ok, Err, true, if◌then◌else◌}
use Rattle.std.specs.Option.{option_map_or}
use Rattle.asked_lines.specs.Apart.{TellBeside}
use Rattle.asked_lines.specs.Asked.{AskedState, asked_step, asking_first}
use Rattle.asked_lines.specs.Requests.{may_be_asked}
use Rattle.command_text.specs.declared.asked.Fault.{Fault}
use Rattle.command_text.specs.declared.requests.Request.{Request}
use Rattle.command_text.specs.declared.requests.Request.TheVariants.{Need}
use Rattle.command_text.specs.declared.words.TheConstants.{SERVED}
use Rattle.command_text.specs.Said.{said_in}
use Rattle.exchange_core.specs.ExchangeState.{ExchangeState}
use Rattle.live_lines.specs.Output.{output_of}
use Rattle.proposal_text.specs.declared.replies.Bar.TheVariants.{NotAsked}
use Rattle.proposal_text.specs.declared.replies.ProposalReply.TheVariants.{Barred}
use Rattle.proposal_text.specs.Pieces.{served_line}
use Rattle.proposal_text.specs.declared.replies.ServedReply.{ServedReply}
use Rattle.proposal_text.specs.declared.replies.ServedReply.TheVariants.{Told}
use Rattle.proposal_lines.specs.Asked.{in_form, told_reply}
use Rattle.secured_lines.specs.Output.{secured_line, secured_reply}
use Rattle.secured_lines.specs.Promises.{TellSecured}
use Rattle.secured_lines.specs.SecuredState.{SecuredState, empty_secured}

-- the refusal of a line that may not be asked
abbrev pub not_asked : ServedReply
not_asked = Told (Barred NotAsked)

-- a line that may be asked is told as it would be said; one that has a fault is refused as ever
abbrev pub asked_reply : SecuredState → List ℕ → Result Request Fault → ServedReply
asked_reply state line (Ok request) = if may_be_asked request then (secured_reply state line (Ok request)).0 else not_asked
asked_reply state line (Err fault) = (secured_reply state line (Err fault)).0

-- a line that proposes has a fault where its text is no proposal
abbrev pub said_asks : ℕ → SecuredState → List ℕ → Result Request Fault → List ℕ
said_asks number state line said = served_line number (asked_reply state line (in_form line said)) ++ 10 ∷ []

-- what is written for what is asked, with the number of the next line
abbrev pub secured_asks : ℕ → SecuredState → List ℕ → List ℕ
secured_asks number state body = said_asks number state body (said_in SERVED body)

-- the account whose need is asked
abbrev pub account_of : Result Request Fault → Option ℕ
account_of (Ok (Need account)) = Some account
account_of said = None

-- by the exchange alone
abbrev pub told_or_barred : ExchangeState → Result Request Fault → ServedReply
told_or_barred exchange said = option_map_or (λ reply. reply) (told_reply exchange said) not_asked

-- ---- lines, between which some ask
abbrev pub asked_line : ℕ → AskedState SecuredState → List ℕ → List ℕ × AskedState SecuredState
asked_line = asked_step secured_asks secured_line

-- what is written for an input, whose mark is skipped
abbrev pub asked_output : List ℕ → List ℕ
asked_output input = output_of asked_line true (asking_first empty_secured) input

-- the lines that ask nothing are told what is promised of them alone
abbrev pub TellAsked : List ℕ → List ℕ → Type 0
TellAsked = TellBeside secured_asks secured_line true empty_secured TellSecured

abbrev pub OutputsTellAsked : Type 0
OutputsTellAsked = (input : List ℕ) → TellAsked input (asked_output input)
