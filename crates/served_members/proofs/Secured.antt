-- Each account of a session that is not the operator's is secured, and no account comes to be secured
-- against its owner's will.
use Rattle.std.proofs.Common.{◌≡◌, ℕ, ◌+◌, Bool, true, false, ◌||◌, not, ◌⊎◌, inl, inr, ⊎_elim, List, [], ◌∷◌, ◌++◌, nat_eq, Option, Some, None, Result, Ok, if◌then◌else◌, refl, sym, subst, arith}
use Rattle.std.specs.Option.{option_map_or}
use Rattle.std.proofs.lemmas.Bool.Decides.{nat_tests}
use Rattle.command_text.specs.declared.asked.Fault.{Fault}
use Rattle.command_text.specs.declared.requests.Request.{Request}
use Rattle.command_text.specs.declared.requests.Request.TheVariants as asks
use Rattle.command_text.specs.declared.words.TheConstants.{SERVED}
use Rattle.command_text.specs.Said.{said_in}
use Rattle.exchange_core.specs.ExchangeState.{ExchangeState}
use Rattle.lists.specs.Refusals.{first_of}
use Rattle.members.specs.Laws.{IsOwner}
use Rattle.members.specs.Members.{MembersState, Owned, is_allowed, is_over, owner_of, owns, with_owner}
use Rattle.members.specs.Rule.{is_operator}
use Rattle.members.specs.declared.refusal.MemberRefusal.TheVariants.{NotAllowed, Quota}
use Rattle.members.proofs.OwnerLists.{owner_is}
use Rattle.proposal_text.specs.declared.replies.ServedReply.{ServedReply}
use Rattle.secured_accounts.specs.Refusals.{secure_refusals}
use Rattle.secured_accounts.specs.Secured.{is_secured, with_secured}
use Rattle.secured_accounts.specs.declared.refusal.SecuringRefusal.{SecuringRefusal}
use Rattle.secured_accounts.proofs.Ruled.{secured_or_new}
use Rattle.secured_lines.specs.Output.{secured_reply, secured_said}
use Rattle.secured_lines.specs.SecuredState.{SecuredState, exchange_in, with_opened}
use Rattle.secured_lines.proofs.LineKinds.{by_answer, by_kind}
use Rattle.secured_lines.proofs.Secured.{more_secured, said_stays}
use Rattle.member_lines.specs.Aims.{aim_of_said, opened_by}
use Rattle.member_lines.specs.Laws.{SaidBody, refusal_of_said, rule_refusal}
use Rattle.member_lines.specs.Lines.{noted, secured_for}
use Rattle.served_members.specs.Laws.{AreSecured, MembersAreSecured, OwnedAreSecured, SecuredByWill, Secures, after_all, after_body}
use Rattle.served_members.specs.Members.{ServedMembers}
use Rattle.member_lines.proofs.Opening.{noted_owners, owners_then}
use Rattle.served_members.proofs.Bodies.{by_body, by_opened, carried, line_state, opened_in}
use Rattle.served_members.proofs.Owners.{is_opened, owned}

-- ---- an account that is secured as it is opened
last_secured : (account : ℕ) (secured : List ℕ) → is_secured (secured ++ account ∷ []) account ≡ true
last_secured account [] = grind (arith, nat_tests)
last_secured account (other ∷ secured) = by (nat_eq other account) (last_secured account secured)
  where
    by : (b : Bool) → is_secured (secured ++ account ∷ []) account ≡ true → (b || is_secured (secured ++ account ∷ []) account) ≡ true
    by true rest = refl
    by false rest = rest

is_there : (account : ℕ) (secured : List ℕ) → is_secured (with_secured secured account) account ≡ true
is_there account secured = by (is_secured secured account) refl
  where
    by : (there : Bool) → is_secured secured account ≡ there → is_secured (if there then secured else secured ++ account ∷ []) account ≡ true
    by true is = is
    by false is = last_secured account secured

-- ---- what is noted
-- more accounts are secured
more : (owners : Owned) (secured after : List ℕ) → ((account : ℕ) → is_secured secured account ≡ true → is_secured after account ≡ true)
    → OwnedAreSecured owners secured → OwnedAreSecured owners after
more owners secured after stays all account owner own member = stays account (all account owner own member)

-- an account more has an owner, and is secured where that is not the operator
one_more : (owners : Owned) (new session : ℕ) (secured : List ℕ) → (is_operator session ≡ false → is_secured secured new ≡ true)
    → OwnedAreSecured owners secured → OwnedAreSecured (with_owner owners new session) secured
one_more owners new session secured there all account owner own member =
    ⊎_elim (λ (before : owner_of owners account ≡ Some owner). all account owner before member)
    (λ (is : (account ≡ new) × (session ≡ owner)). subst (λ (n : ℕ). is_secured secured n ≡ true) (sym is.0) (there (subst (λ (n : ℕ). is_operator n ≡ false) (sym is.1) member)))
    (owned owners new session account owner own)

module _ (members : MembersState) (session : ℕ) (served : SecuredState) (all : OwnedAreSecured members.owners served.secured) where
  abbrev exchange : ExchangeState
  exchange = exchange_in served

  opened_by_one : (new : ℕ) → OwnedAreSecured (with_owner members.owners new session) (if is_operator session then served else with_opened served new).secured
  opened_by_one new = by (is_operator session) refl
    where
      not_both : is_operator session ≡ true → is_operator session ≡ false → ⊥
      not_both operator member = cc

      by : (operator : Bool) → is_operator session ≡ operator → OwnedAreSecured (with_owner members.owners new session) (if operator then served else with_opened served new).secured
      by true is = one_more members.owners new session served.secured (λ member. absurd (not_both is member)) all
      by false is =
          let after = with_secured served.secured new in
          one_more members.owners new session after (λ member. is_there new served.secured)
          (more members.owners served.secured after (λ account own. more_secured account new served.secured own) all)

  opened_noted : (opened : Option ℕ) → OwnedAreSecured (owners_then members.owners session opened) (secured_for with_opened session served opened).secured
  opened_noted None = all
  opened_noted (Some new) = opened_by_one new

  all_noted : (before : ExchangeState) (r : Result Request Fault)
      → OwnedAreSecured (noted members session exchange (aim_of_said before r)).owners (secured_for with_opened session served (opened_by exchange (aim_of_said before r))).secured
  all_noted before r =
      subst (λ (owners : Owned). OwnedAreSecured owners (secured_for with_opened session served (opened_by exchange (aim_of_said before r))).secured)
      (sym (noted_owners members session exchange (aim_of_said before r))) (opened_noted (opened_by exchange (aim_of_said before r)))

-- ---- bodies
one_secured : (number : ℕ) (state : ServedMembers) (said : SaidBody) → AreSecured state → AreSecured (after_body number state said)
one_secured number state said all =
    by_body number state said AreSecured all
    (λ through. all_noted state.members said.session (line_state number state said)
    (more state.members.owners state.served.secured (line_state number state said).secured
    (λ account own. said_stays account state.served said.body own (said_in SERVED said.body)) all)
    (exchange_in state.served) (said_in SERVED said.body))

all_secured : (number : ℕ) (state : ServedMembers) (bodies : List SaidBody) → AreSecured state → AreSecured (after_all number state bodies)
all_secured number state [] all = all
all_secured number state (said ∷ more) all = all_secured (number + 1) (after_body number state said) more (one_secured number state said all)

-- what is secured stays so
module _ (account : ℕ) where
  one_stays : (number : ℕ) (state : ServedMembers) (said : SaidBody) → is_secured state.served.secured account ≡ true → is_secured (after_body number state said).served.secured account ≡ true
  one_stays number state said own =
      let line = line_state number state said in
      let left = said_stays account state.served said.body own (said_in SERVED said.body) in
      by_body number state said (λ next. is_secured next.served.secured account ≡ true) own
      (λ through. by_opened (λ (s : SecuredState). is_secured s.secured account ≡ true) said.session line left (opened_in number state said)
      (λ new is member. more_secured account new line.secured left))

  all_stay : (number : ℕ) (state : ServedMembers) (bodies : List SaidBody) → is_secured state.served.secured account ≡ true → is_secured (after_all number state bodies).served.secured account ≡ true
  all_stay number state [] own = own
  all_stay number state (said ∷ more) own = all_stay (number + 1) (after_body number state said) more (one_stays number state said own)

pub members_are_secured : MembersAreSecured
members_are_secured = record { members = all_secured; all = λ number state bodies account own. all_stay account number state bodies own }

-- ---- by whose will
-- the rule allows what it does not refuse
not_refused : (allowed over : Bool) → (if not allowed then Some NotAllowed else if over then Some Quota else None) ≡ None → allowed ≡ true
not_refused true over none = refl
not_refused false over none = cc

module _ (number : ℕ) (state : ServedMembers) (said : SaidBody) (account : ℕ) where
  abbrev Comes : SecuredState → Type 0
  Comes after = is_secured after.secured account ≡ true → (is_secured state.served.secured account ≡ true) ⊎ Secures state (carried number state said) said account

  -- a line of its owner
  secure_comes : (other : ℕ) → said_in SERVED said.body ≡ Ok (asks.Secure other) → refusal_of_said exchange_in secured_said with_opened state said.session (Ok (asks.Secure other)) ≡ None
      → Comes (secured_reply state.served said.body (Ok (asks.Secure other))).1
  secure_comes other says through = by (first_of (secure_refusals (exchange_in state.served) other))
    where
      allowed : owns state.members.owners said.session other ≡ true
      allowed =
          not_refused (is_allowed state.members.owners said.session (asks.Secure other)) (is_over state.members (exchange_in state.served) said.session (asks.Secure other)) through

      new : other ≡ account → Secures state (carried number state said) said account
      new is = inl (
        subst (λ (n : ℕ). said_in SERVED said.body ≡ Ok (asks.Secure n)) is says,
        subst (λ (n : ℕ). IsOwner state.members.owners said.session n) is (owner_is state.members.owners said.session other allowed),
      )

      by : (refused : Option SecuringRefusal)
          → is_secured (option_map_or (λ refusal. state.served.secured) refused (with_secured state.served.secured other)) account ≡ true
          → (is_secured state.served.secured account ≡ true) ⊎ Secures state (carried number state said) said account
      by (Some refusal) own = inl own
      by None own = ⊎_elim (λ before. inl before) (λ (is : other ≡ account). inr (new is)) (secured_or_new account state.served.secured other own)

  said_comes : (r : Result Request Fault) → said_in SERVED said.body ≡ r → refusal_of_said exchange_in secured_said with_opened state said.session r ≡ None
      → Comes (secured_reply state.served said.body r).1
  said_comes =
      by_kind (λ r. said_in SERVED said.body ≡ r → refusal_of_said exchange_in secured_said with_opened state said.session r ≡ None → Comes (secured_reply state.served said.body r).1)
      secure_comes (λ other says through own. inl own)
      (λ command says through. by_answer (λ now. Comes now.1) state.served said.body command (λ need kept own. inl own) (λ free other amount is mine own. inl own) (λ free own. inl own))
      (λ r other says through. subst (λ (now : ServedReply × SecuredState). Comes now.1) (sym (other.handed state.served said.body)) (λ own. inl own))

  carried_comes : rule_refusal exchange_in secured_said with_opened state said ≡ None → Comes (carried number state said).served
  carried_comes through =
      let line = line_state number state said in
      let left = said_comes (said_in SERVED said.body) refl through in
      by_opened Comes said.session line left (opened_in number state said)
      (λ new is member own.
      ⊎_elim left (λ (same : new ≡ account). inr (inr (is_opened number state said account (subst (λ (n : ℕ). opened_in number state said ≡ Some n) same is), member)))
      (secured_or_new account line.secured new own))

pub secured_by_will : SecuredByWill
secured_by_will number state said account =
    by_body number state said
    (λ next. is_secured next.served.secured account ≡ true → (is_secured state.served.secured account ≡ true) ⊎ Secures state next said account)
    (λ own. inl own) (carried_comes number state said account)
