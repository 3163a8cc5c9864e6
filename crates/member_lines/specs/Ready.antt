-- Before a body of a number: of each session less is counted than the number.
use Rattle.std.proofs.Common.{◌<◌, ℕ, ◌+◌, Bool, true, false, cond, List, nat_eq, Option, Some, None, Result, Ok, Err, sym, subst, arith}
use Rattle.std.specs.Option.{option_map_or}
use Rattle.indexmap.specs.IndexMap.{insert_entry}
use Rattle.command_text.specs.declared.asked.Fault.{Fault}
use Rattle.command_text.specs.declared.requests.Request.{Request}
use Rattle.command_text.specs.declared.words.TheConstants.{SERVED}
use Rattle.command_text.specs.Said.{said_in}
use Rattle.exchange_core.specs.ExchangeState.{ExchangeState}
use Rattle.lists.specs.Refusals.{first_of}
use Rattle.members.specs.Members.{AllCounted, AreFew, MembersState, after_reply, counted_of}
use Rattle.members.specs.Refusals.{rule_refusals}
use Rattle.members.specs.declared.counts.Counted.{Counted}
use Rattle.members.specs.declared.refusal.MemberRefusal.{MemberRefusal}
use Rattle.members.proofs.Counting.{counted_after}
use Rattle.reply_print.specs.declared.replies.Reply.{Reply}
use Rattle.reply_print.specs.declared.replies.Reply.TheVariants as reply
use Rattle.member_lines.specs.declared.aims.Aim.{Aim}
use Rattle.member_lines.specs.Aims.{aim_of, done_by}
use Rattle.member_lines.specs.Lines.{MemberState, member_line, member_said, noted, passed_line, ruled_line}
use Rattle.member_lines.specs.Refused.{refused_text}
use Rattle.member_lines.specs.Runs.{Opens, SaidStep}

abbrev pub AreFewOf : ℕ → MembersState → Type 0
AreFewOf number members = (session : ℕ) → AreFew number members.counts session

abbrev pub AreReady : {S : Type 0} → ℕ → MemberState S → Type 0
AreReady number state = AreFewOf number state.members

-- ---- behind a line
more : (number : ℕ) (members : MembersState) → AreFewOf number members → AreFewOf (number + 1) members
more number members few session = let h = few session in record { opened = omega (arith, h.opened); placed = omega (arith, h.placed) }

-- one counted anew
set_few : (number : ℕ) (counts : AllCounted) (session : ℕ) (new : Counted) (q : ℕ) → AreFew number counts q → new.opened < number + 1 → new.placed < number + 1
    → AreFew (number + 1) (insert_entry nat_eq counts session new) q
set_few number counts session new q few opened placed =
    let is = sym (counted_after session new q counts) in
    record {
      opened = subst (λ (c : Counted). c.opened < number + 1) is (of_opened (nat_eq q session));
      placed = subst (λ (c : Counted). c.placed < number + 1) is (of_placed (nat_eq q session));
    }
  where
    of_opened : (b : Bool) → (cond b new (counted_of counts q)).opened < number + 1
    of_opened true = opened
    of_opened false = omega (arith, few.opened)

    of_placed : (b : Bool) → (cond b new (counted_of counts q)).placed < number + 1
    of_placed true = placed
    of_placed false = omega (arith, few.placed)

after_few : (number : ℕ) (members : MembersState) (session : ℕ) (said : Reply) → AreFewOf number members → AreFewOf (number + 1) (after_reply members session said)
after_few number members session (reply.Opened account) few =
    let own = few session in
    let counted = counted_of members.counts session in
    λ q. set_few number members.counts session (record counted { opened = counted.opened + 1 }) q (few q) (omega (arith, own.opened)) (omega (arith, own.placed))
after_few number members session (reply.Placed order) few =
    let own = few session in
    let counted = counted_of members.counts session in
    λ q. set_few number members.counts session (record counted { placed = counted.placed + 1 }) q (few q) (omega (arith, own.opened)) (omega (arith, own.placed))
after_few number members session (reply.Deposited account balance) few = more number members few
after_few number members session (reply.Withdrawn account balance) few = more number members few
after_few number members session (reply.Listed market underlyings) few = more number members few
after_few number members session (reply.Cancelled order) few = more number members few
after_few number members session (reply.Cleared batch market orders outcome) few = more number members few
after_few number members session (reply.Settled market lapsed payouts) few = more number members few
after_few number members session (reply.Balance account balance reserved) few = more number members few
after_few number members session (reply.Refused refusal field) few = more number members few

noted_few : (number : ℕ) (members : MembersState) (session : ℕ) (exchange : ExchangeState) (aim : Aim) → AreFewOf number members → AreFewOf (number + 1) (noted members session exchange aim)
noted_few number members session exchange aim few = by (done_by exchange aim)
  where
    by : (done : Option Reply) → AreFewOf (number + 1) (option_map_or (after_reply members session) done members)
    by None = more number members few
    by (Some told) = after_few number members session told few

module _ {S : Type 0} (exchange : S → ExchangeState) (step : SaidStep S) (opens : Opens S) (session number : ℕ) (state : MemberState S) (body : List ℕ) (few : AreReady number state) where
  behind_ruled : (request : Request) → AreReady (number + 1) (ruled_line exchange step opens session number state body request).1
  behind_ruled request = by (first_of (rule_refusals state.members (exchange state.served) session request))
    where
      by : (refused : Option MemberRefusal) → AreReady (number + 1)
          (option_map_or (λ (refusal : MemberRefusal). (refused_text number refusal, state)) refused (passed_line exchange step opens session number state body request)).1
      by None = noted_few number state.members session (exchange (step number state.served body (Ok request)).1) (aim_of (exchange state.served) request) few
      by (Some refusal) = more number state.members few

  behind_said : (said : Result Request Fault) → AreReady (number + 1) (member_said exchange step opens session number state body said).1
  behind_said (Ok request) = behind_ruled request
  behind_said (Err fault) = more number state.members few

  pub ready_behind : AreReady (number + 1) (member_line exchange step opens session number state body).1
  ready_behind = behind_said (said_in SERVED body)
