use Rattle.std.proofs.Common.{◌≡◌, ℕ, refl, sym, subst, arith}
use Rattle.asked_lines.specs.Asked.{AskedState, asked_step, asking_first}
use Rattle.asked_lines.specs.Standing.{StandsAsked}
use Rattle.served_members.specs.MembersReady.{AreReady}
use Rattle.program_words.specs.declared.requests.Served.TheVariants as served
use Rattle.served_members.specs.SecuredAsked.{asked_line, secured_asks}
use Rattle.served_members.specs.SecuredOutput.{secured_line}
use Rattle.served_members.specs.SecuredState.{SecuredState, empty_secured}
use Rattle.served_members.specs.Members.{empty_members, member_body, member_question}
use Rattle.served_members.proofs.Standing.{stands_first}
use Rattle.session_lines.specs.Questions.{any_asks, session_asks}
use Rattle.session_lines.specs.Sessions.{any_session, new_sessions, session_step}
use Rattle.session_lines.specs.Standing.{StandsBefore}
use Rattle.exchange_program.proofs.AnsweredLive.{output_is}
use Rattle.exchange_program.proofs.live.answer_live.Goals as goal

-- no line asked yet
first_asked : {S : Type 0} (stands : ℕ → S → Type 0) (state : AskedState S) (start : S) → state ≡ asking_first start → stands 1 start → StandsAsked stands 1 state
first_asked stands state start is h = subst (StandsAsked stands 1) (sym is) (omega arith, h)

-- lines stand anywhere
abbrev Anywhere : ℕ → SecuredState → Type 0
Anywhere number state = Unit {0}

first_message : StandsBefore Anywhere 1 (new_sessions empty_secured)
first_message = (omega arith, tt)

pub serve_as-requires-clause-first : goal.serve_as-requires-clause-first
serve_as-requires-clause-first g c = first_asked Anywhere c.asked_lines.result empty_secured c.asked_lines.ensures tt

pub serve_as-requires-clause-same : goal.serve_as-requires-clause-same
serve_as-requires-clause-same g c = λ input.
    output_is asked_line c.args.served served.Lines c.asked_lines.result (asking_first empty_secured) c.in-Lines.is c.asked_lines.ensures input refl

pub serve_as-requires-in-Sessions-clause-first : goal.serve_as-requires-in-Sessions-clause-first
serve_as-requires-in-Sessions-clause-first g c =
    first_asked (StandsBefore Anywhere) c.asked_sessions.result (new_sessions empty_secured) c.asked_sessions.ensures first_message

pub serve_as-requires-in-Sessions-clause-same : goal.serve_as-requires-in-Sessions-clause-same
serve_as-requires-in-Sessions-clause-same g c = λ input.
    output_is (asked_step (session_asks (any_asks secured_asks)) (session_step (any_session secured_line))) c.args.served served.Sessions c.asked_sessions.result
    (asking_first (new_sessions empty_secured)) c.in-Sessions.is c.asked_sessions.ensures input refl

pub serve_as-requires-in-Members-clause-first : goal.serve_as-requires-in-Members-clause-first
serve_as-requires-in-Members-clause-first g c =
    first_asked (StandsBefore AreReady) c.asked_members.result (new_sessions empty_members) c.asked_members.ensures stands_first

pub serve_as-requires-in-Members-clause-same : goal.serve_as-requires-in-Members-clause-same
serve_as-requires-in-Members-clause-same g c = λ input.
    output_is (asked_step (session_asks member_question) (session_step member_body)) c.args.served served.Members c.asked_members.result
    (asking_first (new_sessions empty_members)) c.in-Members.is c.asked_members.ensures input refl
