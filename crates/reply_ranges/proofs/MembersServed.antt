-- Each line that is written for what a session says, or asks, by the rule is sound, and what is left
-- stands before the next one.
use Rattle.std.proofs.Common.{◌≡◌, ℕ, ◌+◌, List, Bool, true, false, if◌then◌else◌, Option, Some, None, Result, Ok, Err, refl, sym, subst}
use Rattle.std.specs.Option.{option_map_or}
use Rattle.command_text.specs.declared.asked.Fault.{Fault}
use Rattle.command_text.specs.declared.requests.Request.{Request}
use Rattle.command_text.specs.declared.words.TheConstants.{SERVED}
use Rattle.command_text.specs.Said.{said_in}
use Rattle.reply_print.specs.Within.{IsLine}
use Rattle.lists.specs.Refusals.{first_of}
use Rattle.members.specs.Refusals.{rule_refusals}
use Rattle.members.specs.declared.refusal.MemberRefusal.{MemberRefusal}
use Rattle.members.specs.declared.refusal.MemberRefusal.TheVariants.{NotAllowed, Quota}
use Rattle.member_lines.specs.Aims.{aim_of, opened_by}
use Rattle.member_lines.specs.Asked.{asked_said, is_kept_from}
use Rattle.member_lines.specs.Lines.{member_said, passed_line}
use Rattle.member_lines.specs.Refused.{refused_text}
use Rattle.proposal_text.specs.declared.replies.Bar.TheVariants as bar
use Rattle.secured_lines.specs.Asked.{said_asks}
use Rattle.secured_lines.specs.Output.{secured_said}
use Rattle.secured_lines.specs.SecuredState.{exchange_in, with_opened}
use Rattle.serve_lines.specs.ServingState.{ServingState}
use Rattle.served_members.specs.Members.{ServedMembers, member_body, member_question}
use Rattle.served_members.proofs.Serving.{same_serving}
use Rattle.reply_ranges.proofs.AskedServed.{asked_served, barred_served}
use Rattle.reply_ranges.proofs.Messages.{AnswersBodies}
use Rattle.reply_ranges.proofs.SecuredServed.{StandsSecured, passes_secured, secured_answers}
use Rattle.reply_ranges.proofs.ServingLines.{StandsServing}
use Rattle.reply_ranges.proofs.Texts.{IsServedText}

abbrev pub StandsMembers : ℕ → ServedMembers → Type 0
StandsMembers number state = StandsSecured number state.served

module _ (session number : ℕ) (is_line : IsLine number) (state : ServedMembers) (stands : StandsMembers number state) where
  refused_served : (refusal : MemberRefusal) → IsServedText (refused_text number refusal)
  refused_served NotAllowed = barred_served number is_line state.served stands bar.NotAllowed
  refused_served Quota = barred_served number is_line state.served stands bar.OverQuota

  module _ (body : List ℕ) where
    abbrev IsServedNow : List ℕ × ServedMembers → Type 0
    IsServedNow now = IsServedText now.0 × StandsMembers (number + 1) now.1

    -- as where there is no rule
    abbrev IsSaidNow : Result Request Fault → Type 0
    IsSaidNow said =
        let now = secured_said number state.served body said in IsServedText now.0 × StandsSecured (number + 1) now.1

    said_now : (said : Result Request Fault) → said_in SERVED body ≡ said → IsSaidNow said
    said_now said is = subst IsSaidNow is (secured_answers number is_line state.served stands body)

    passed_served : (request : Request) → said_in SERVED body ≡ Ok request → IsServedNow (passed_line exchange_in secured_said with_opened session number state body request)
    passed_served request is =
        let now = said_now (Ok request) is in
        let after = (secured_said number state.served body (Ok request)).1 in
        (now.0, subst (λ (s : ServingState). StandsServing (number + 1) s) (sym (same_serving session after (opened_by (exchange_in after) (aim_of (exchange_in state.served) request)))) now.1)

    ruled_served : (request : Request) → said_in SERVED body ≡ Ok request → (refusal : Option MemberRefusal)
        → IsServedNow (option_map_or (λ refusal. (refused_text number refusal, state)) refusal (passed_line exchange_in secured_said with_opened session number state body request))
    ruled_served request is None = passed_served request is
    ruled_served request is (Some refusal) = (refused_served refusal, passes_secured number state.served stands)

    said_served : (said : Result Request Fault) → said_in SERVED body ≡ said → IsServedNow (member_said exchange_in secured_said with_opened session number state body said)
    said_served (Ok request) is = ruled_served request is (first_of (rule_refusals state.members (exchange_in state.served) session request))
    said_served (Err fault) is = said_now (Err fault) is

    -- ---- what it asks
    question_by : (said : Result Request Fault) → said_in SERVED body ≡ said → IsServedText (asked_said said_asks session number state body said)
    question_by (Ok request) is = by (is_kept_from state.members session request)
      where
        by : (b : Bool) → IsServedText (if b then refused_text number NotAllowed else said_asks number state.served body (Ok request))
        by true = refused_served NotAllowed
        by false = asked_served number is_line state.served stands body (Ok request) is
    question_by (Err fault) is = asked_served number is_line state.served stands body (Err fault) is

pub members_answer : AnswersBodies member_body StandsMembers
members_answer session number state body is_line stands = said_served session number is_line state stands body (said_in SERVED body) refl

pub members_are_told : (session number : ℕ) (state : ServedMembers) (body : List ℕ) → IsLine number → StandsMembers number state → IsServedText (member_question session number state body)
members_are_told session number state body is_line stands = question_by session number is_line state stands body (said_in SERVED body) refl
