-- Messages by the rule of who may say what, whose bodies are lines of any kind; between them
-- sessions ask by the rule.
use Rattle.std.specs.Prelude.{◌≡◌, ℕ, List, map, Err}
use Rattle.command_text.specs.declared.asked.Fault.{Fault}
use Rattle.command_text.specs.declared.words.TheConstants.{SERVED}
use Rattle.command_text.specs.Said.{said_in}
use Rattle.served_members.specs.MembersAsked.{OthersMayNotAsk}
use Rattle.served_members.specs.MemberLaws.{AreAsServed, AreSaidByRule, SaidBody}
use Rattle.served_members.specs.SecuredAsked.{said_asks}
use Rattle.served_members.specs.SecuredOutput.{secured_said}
use Rattle.served_members.specs.SecuredState.{empty_secured, exchange_in, with_opened}
use Rattle.served_members.specs.Laws.{ArePaying, AreSecured, members_after}
use Rattle.served_members.specs.Members.{ServedMembers, empty_members, member_body, member_question, members_output}
use Rattle.served_members.specs.Promises.{AllowedTell, FreeLinesLowerNothing}
use Rattle.served_members.specs.Ruled.{AreRuledThroughout}
use Rattle.session_gate.specs.Gate.{Message}
use Rattle.session_laws.specs.Laws.{ToldOnce, state_after}
use Rattle.session_lines.specs.Answers.{answers_by}
use Rattle.session_lines.specs.Laws.{accepted_messages}
use Rattle.exchange_sessions.specs.Messages.{MessagesTell, messages_output}

-- what is written for messages, of which no bytes are skipped
abbrev pub all_members_output : List ℕ → List ℕ
all_members_output = messages_output member_body member_question empty_members

-- a message as a body that its session says
abbrev pub said_by : Message → SaidBody
said_by message = record { session = message.session; body = message.body }

abbrev pub all_said : List Message → List SaidBody
all_said messages = map said_by messages

-- Bodies, one after another, leave this state. Those that the rule lets through are answered as
-- where there is no rule, with one that is no line in place of each other; and so, as the lines of
-- one input, they keep what is promised where proposals are taken, and no proposal lowers what a
-- clear tells. What was said moved the exchange by the rule: what an account has changes by its
-- owner's lines alone, and by the operator's deposits, clears and settlements. Wherever the bodies
-- are parted, an account keeps its owner, which is the session that opened it, each session is
-- within its part, others are told nothing of an account, and a closed market stands still. And each
-- account of a session that is not the operator's is secured, and the balance of none that is is
-- below its true need.
pub record AreRuled (bodies : List SaidBody) (after : ServedMembers) : Type 0 where
  pub state : after ≡ members_after bodies
  pub allowed : (filler : List ℕ) (fault : Fault) → said_in SERVED filler ≡ Err fault → AreAsServed exchange_in secured_said with_opened filler 1 empty_members empty_secured bodies
  pub told : AllowedTell bodies
  pub lowers : FreeLinesLowerNothing
  pub moves : AreSaidByRule exchange_in secured_said with_opened 1 empty_members bodies
  pub throughout : AreRuledThroughout bodies
  pub secured : AreSecured after
  pub paying : ArePaying after

-- Bytes are what is written for messages: they tell each once, those that are answered First in
-- their sessions' order, their replies being the answers to their bodies, each by its session and
-- one after another; and these are ruled.
pub record MembersTold (input bytes : List ℕ) : Type 0 where
  pub text : bytes ≡ members_output input
  pub once : ToldOnce member_body empty_members input
  pub ruled : AreRuled (all_said (accepted_messages (answers_by once.reply input))) (state_after member_body 1 empty_members (accepted_messages (answers_by once.reply input)))

-- so they do beside what is asked, and of an account others are told nothing then either
pub record TellMembersOnce (input bytes : List ℕ) : Type 0 where
  pub beside : MessagesTell member_body member_question empty_members MembersTold input bytes
  pub others : OthersMayNotAsk said_asks

abbrev pub MembersTellBeside : Type 0
MembersTellBeside = (input : List ℕ) → TellMembersOnce input (all_members_output input)
