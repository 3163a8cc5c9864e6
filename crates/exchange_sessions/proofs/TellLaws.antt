-- What is written for an input keeps what is promised.
use Rattle.std.proofs.Common.{◌≡◌, ℕ, ◌+◌, List, [], ◌∷◌, All, ap, refl, subst, sym, true, false, ◌∙◌}
use Rattle.command_text.specs.Commands.{body_of_line}
use Rattle.exchange_core.specs.ExchangeState.{empty_exchange}
use Rattle.exchange_core.specs.LineReplies.{reply_to}
use Rattle.exchange_lines.specs.Output.{line_output, output}
use Rattle.exchange_lines.specs.Promises.{IsNoText, TellAnswers}
use Rattle.exchange_lines.proofs.AsRun.{runs_are_by_lines, runs_tell_answers}
use Rattle.reply_print.specs.ReplyPieces.{reply_line}
use Rattle.live_lines.specs.Output.{output_of}
use Rattle.served_members.proofs.ProposalOutputs.{outputs_are_of_lines}
use Rattle.session_gate.specs.Runs.{Replies}
use Rattle.session_lines.specs.Answers.{answers_by}
use Rattle.session_lines.specs.Laws.{TellOnce, accepted_bodies, accepted_messages, as_input, replies_text, told_first}
use Rattle.session_lines.specs.Served.{EndsLines, reply_by}
use Rattle.session_lines.proofs.OneInput.{IsBody}
use Rattle.session_lines.proofs.ReplyLaws.{bodies_are}
use Rattle.session_lines.proofs.Served.{feed_again}
use Rattle.session_lines.proofs.SessionOutputs.{outputs_tell_once}
use Rattle.session_lines.proofs.TellLaws.{tells_once}
use Rattle.served_members.specs.SecuredOutput.{secured_line, secured_output}
use Rattle.served_members.specs.SecuredState.{empty_secured}
use Rattle.served_members.proofs.SecuredEnds as secured
use Rattle.asked_lines.proofs.Apart.{tells_beside}
use Rattle.served_members.proofs.MayAsk.{others_may_not_ask}
use Rattle.served_members.proofs.ProposalTelling.{empty_is_sound}
use Rattle.served_members.specs.SecuredAsked.{said_asks, secured_asks}
use Rattle.served_members.specs.Laws.{ArePaying, AreSecured, after_all}
use Rattle.served_members.specs.Lines.{TellServed}
use Rattle.served_members.specs.Members.{ServedMembers, empty_members, member_body, member_question, members_output}
use Rattle.served_members.specs.Promises.{bodies_in}
use Rattle.served_members.proofs.Freed.{allowed_bodies_tell}
use Rattle.served_members.proofs.LinesKept.{outputs_tell_served}
use Rattle.served_members.proofs.Lowering.{free_lines_lower_nothing}
use Rattle.served_members.proofs.Once.{members_tell_once}
use Rattle.served_members.proofs.Paying.{members_can_pay}
use Rattle.served_members.proofs.Ruled.{members_are_ruled}
use Rattle.served_members.proofs.Runs.{members_move_by_rule}
use Rattle.served_members.proofs.Secured.{members_are_secured}
use Rattle.served_members.proofs.Serving.{members_are_served}
use Rattle.session_gate.specs.Gate.{Message}
use Rattle.session_gate.specs.Laws.{bodies_of}
use Rattle.session_laws.specs.Laws.{state_after}
use Rattle.session_lines.specs.Questions.{any_asks, session_asks}
use Rattle.session_lines.specs.Sessions.{any_session, new_sessions, session_step}
use Rattle.exchange_sessions.specs.AllLines.{SessionsTellOnce, TellServedOnce}
use Rattle.exchange_sessions.specs.Members.{AreRuled, MembersTellBeside, MembersTold, all_said}
use Rattle.exchange_sessions.specs.Answers.{answers, sessions_output}
use Rattle.exchange_sessions.specs.Laws.{OutputTellsOnce, SessionsTold}
use Rattle.exchange_sessions.specs.Served.{exchange_reply}

-- the replies are the output of the bodies as one input, and keep what that keeps
sessions_told : (reply : Replies) (output_by : List ℕ → List ℕ) (Tell : List ℕ → List ℕ → Type 0) (input bytes : List ℕ)
    → TellOnce reply output_by input bytes → ((bodies : List ℕ) → Tell bodies (output_by bodies))
    → SessionsTold reply output_by Tell input bytes
sessions_told reply output_by Tell input bytes once tell =
    let bodies = as_input (accepted_bodies (answers_by reply input)) in
    record { once = once; promises = subst (Tell bodies) (sym once.replies) (tell bodies) }

-- ---- by a run's lines
ends_lines : EndsLines line_output
ends_lines number state line = feed_again (reply_line number (reply_to state (body_of_line line)).0)

output_is_run : (input : List ℕ) → output_of line_output true empty_exchange input ≡ output input
output_is_run input = outputs_are_of_lines line_output input ∙ runs_are_by_lines input

-- the replies told to the messages answered First are the output of their bodies as one input
replies_are_of_one_input : (input : List ℕ) → replies_text (told_first (answers input)) ≡ output (as_input (accepted_bodies (answers input)))
replies_are_of_one_input input =
    (outputs_tell_once line_output ends_lines true empty_exchange input).replies ∙ output_is_run (as_input (accepted_bodies (answers input)))

pub output_tells_once : OutputTellsOnce
output_tells_once input =
    sessions_told exchange_reply output (TellAnswers IsNoText line_output) input (sessions_output input)
    (tells_once exchange_reply output input (sessions_output input) refl (replies_are_of_one_input input)) runs_tell_answers

-- ---- by lines of any kind
alone_told : (input : List ℕ) → TellServedOnce input (output_of (session_step (any_session secured_line)) false (new_sessions empty_secured) input)
alone_told input =
    sessions_told (reply_by secured_line empty_secured) secured_output TellServed input _ (outputs_tell_once secured_line secured.ends_lines true empty_secured input) outputs_tell_served

pub sessions_tell_once : SessionsTellOnce
sessions_tell_once = tells_beside (session_asks (any_asks secured_asks)) (session_step (any_session secured_line)) false (new_sessions empty_secured) TellServedOnce alone_told

-- ---- by the rule of who may say what
-- one after another, by one definition and the other
same_state : (number : ℕ) (state : ServedMembers) (messages : List Message) → state_after member_body number state messages ≡ after_all number state (all_said messages)
same_state number state [] = refl
same_state number state (message ∷ messages) = same_state (number + 1) (member_body message.session number state message.body).1 messages

-- at the start no account has an owner
none_owned : AreSecured empty_members
none_owned account owner owned member = cc

-- their bodies are those of the messages
same_bodies : (messages : List Message) → bodies_in (all_said messages) ≡ bodies_of messages
same_bodies [] = refl
same_bodies (message ∷ messages) = ap (λ (l : List (List ℕ)). message.body ∷ l) (same_bodies messages)

ruled : (messages : List Message) → All IsBody (bodies_of messages) → AreRuled (all_said messages) (state_after member_body 1 empty_members messages)
ruled messages are =
    let bodies = all_said messages in
    let same = same_state 1 empty_members messages in
    record {
      state = same;
      allowed = λ filler fault is. members_are_served.allowed filler fault is 1 empty_members bodies;
      told = allowed_bodies_tell bodies (subst (All IsBody) (sym (same_bodies messages)) are);
      lowers = free_lines_lower_nothing;
      moves = members_move_by_rule.moves 1 empty_members bodies empty_is_sound;
      throughout = members_are_ruled bodies;
      secured = subst AreSecured (sym same) (members_are_secured.members 1 empty_members bodies none_owned);
      paying = subst ArePaying (sym same) (members_can_pay bodies);
    }

members_told : (input : List ℕ) → MembersTold input (members_output input)
members_told input =
    let once = members_tell_once input in record { text = refl; once = once; ruled = ruled (accepted_messages (answers_by once.reply input)) (bodies_are once.reply input) }

pub members_tell_beside : MembersTellBeside
members_tell_beside input = record {
  beside = tells_beside (session_asks member_question) (session_step member_body) false (new_sessions empty_members) MembersTold members_told input;
  others = others_may_not_ask said_asks;
}
