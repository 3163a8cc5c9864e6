-- What the rule refuses changes nothing, and all else is answered as where there is no rule.
use Rattle.std.proofs.Common.{◌≡◌, ℕ, ◌+◌, List, [], ◌∷◌, Option, Some, None, Result, Ok, Err, refl, sym, ap, subst}
use Rattle.std.specs.Option.{option_map_or}
use Rattle.command_text.specs.declared.asked.Fault.{Fault}
use Rattle.command_text.specs.declared.requests.Request.{Request}
use Rattle.command_text.specs.declared.words.TheConstants.{SERVED}
use Rattle.command_text.specs.Said.{said_in}
use Rattle.exchange_core.specs.ExchangeState.{ExchangeState}
use Rattle.lists.specs.Refusals.{first_of}
use Rattle.members.specs.Refusals.{rule_refusals}
use Rattle.members.specs.declared.refusal.MemberRefusal.{MemberRefusal}
use Rattle.member_lines.specs.Laws.{AllowedAsServed, AreAsServed, IsAsServed, LeavesAll, RefusalsAreTold, SaidBody, body_for, refusal_of_said}
use Rattle.member_lines.specs.Lines.{MemberState, free_line, free_said, member_said, passed_line}
use Rattle.member_lines.specs.Refused.{refused_text}
use Rattle.member_lines.specs.Runs.{Opens, SaidStep}

module _ {S : Type 0} (exchange : S → ExchangeState) (says : SaidStep S) (opens : Opens S) where
  pub refusals_are_told : RefusalsAreTold exchange says opens
  refusals_are_told number state said refusal told = by (said_in SERVED said.body) told
    where
      by : (r : Result Request Fault) → refusal_of_said exchange says opens state said.session r ≡ Some refusal
          → member_said exchange says opens said.session number state said.body r ≡ (refused_text number refusal, state)
      by (Ok request) is = ap (λ (refused : Option MemberRefusal). option_map_or (λ (r : MemberRefusal). (refused_text number r, state)) refused (passed_line exchange says opens said.session number state said.body request)) is
      by (Err fault) is = cc

  -- ---- beside what has no rule
  module _ (filler : List ℕ) (leaves : LeavesAll exchange says opens filler) where
    abbrev AreServed : ℕ → MemberState S → S → List SaidBody → Type 0
    AreServed = AreAsServed exchange says opens filler

    -- one body more, and those behind it
    abbrev OneServed : ℕ → MemberState S → SaidBody → List SaidBody → Option MemberRefusal → List ℕ × MemberState S → Type 0
    OneServed number state said more refusal line =
        let now = free_line exchange says opens said.session number state.served (body_for exchange says opens filler refusal said.body) in
        IsAsServed exchange says opens refusal line.0 now.0 × AreServed (number + 1) line.1 now.1 more

    one_body : (number : ℕ) (state : MemberState S) (said : SaidBody) (more : List SaidBody) → ((next : MemberState S) (served : S) → next.served ≡ served → AreServed (number + 1) next served more)
        → AreServed number state state.served (said ∷ more)
    one_body number state said more later = by (said_in SERVED said.body) refl
      where
        ruled : (request : Request) → said_in SERVED said.body ≡ Ok request → (refused : Option MemberRefusal)
            → OneServed number state said more refused (option_map_or (λ (r : MemberRefusal). (refused_text number r, state)) refused (passed_line exchange says opens said.session number state said.body request))
        ruled request is (Some refusal) = (tt, later state _ (sym (leaves said.session number state.served)))
        ruled request is None =
            let same = ap (λ (r : Result Request Fault). free_said exchange says opens said.session number state.served said.body r) (sym is) in
            (ap (λ (now : List ℕ × S). now.0) same, later (passed_line exchange says opens said.session number state said.body request).1 _ (ap (λ (now : List ℕ × S). now.1) same))

        by : (r : Result Request Fault) → said_in SERVED said.body ≡ r
            → OneServed number state said more (refusal_of_said exchange says opens state said.session r) (member_said exchange says opens said.session number state said.body r)
        by (Ok request) is = ruled request is (first_of (rule_refusals state.members (exchange state.served) said.session request))
        by (Err fault) is =
            let same = ap (λ (r : Result Request Fault). free_said exchange says opens said.session number state.served said.body r) (sym is) in
            (ap (λ (now : List ℕ × S). now.0) same, later (member_said exchange says opens said.session number state said.body (Err fault)).1 _ (ap (λ (now : List ℕ × S). now.1) same))

    all_served : (number : ℕ) (state : MemberState S) (served : S) (bodies : List SaidBody) → state.served ≡ served → AreServed number state served bodies
    all_served number state served [] same = same
    all_served number state served (said ∷ more) same =
        subst (λ s. AreServed number state s (said ∷ more)) same (one_body number state said more (λ next after is. all_served (number + 1) next after more is))

  pub allowed_as_served : AllowedAsServed exchange says opens
  allowed_as_served filler number state bodies leaves = all_served filler leaves number state state.served bodies refl
