-- The owner of an account is the session that opened it, and no other.
use Rattle.std.proofs.Common.{◌≡◌, ℕ, ◌+◌, Bool, true, false, cond, ◌⊎◌, inl, inr, ⊎_elim, List, [], ◌∷◌, ◌++◌, nat_eq, is_some, Option, Some, None, Result, if◌then◌else◌, refl, sym, ap, ◌∙◌, subst}
use Rattle.std.proofs.lemmas.Bool.{eqb-true, eq-eqb}
use Rattle.cash_ledger.specs.Ledger.{is_open}
use Rattle.command_text.specs.declared.asked.Fault.{Fault}
use Rattle.command_text.specs.declared.requests.Request.{Request}
use Rattle.command_text.specs.declared.words.TheConstants.{SERVED}
use Rattle.command_text.specs.Said.{said_in}
use Rattle.exchange_core.specs.ExchangeState.{ExchangeState}
use Rattle.members.specs.Members.{MembersState, Owned, owner_of, with_owner}
use Rattle.secured_lines.specs.SecuredState.{SecuredState, exchange_in}
use Rattle.member_lines.specs.Aims.{aim_of_said, opened_by}
use Rattle.member_lines.specs.Laws.{SaidBody}
use Rattle.member_lines.specs.Lines.{noted}
use Rattle.served_members.specs.Laws.{IsOpened, OwnedAreOpen, OwnedByOpening, after_all, after_body}
use Rattle.served_members.specs.Members.{IsSoundServed, ServedMembers}
use Rattle.member_lines.proofs.Opening.{is_opening, noted_owners, opening_is, owners_then}
use Rattle.served_members.proofs.Bodies.{by_body, by_opened, carried, line_state, opened_in}
use Rattle.served_members.proofs.StandingStill.{body_sound}
use Rattle.served_members.proofs.Unopened.{line_open}

-- ---- owners, with one more
-- an account that has an owner had it, or is the new one
pushed : (owners : Owned) (new session account owner : ℕ) → owner_of (owners ++ (new, session) ∷ []) account ≡ Some owner
    → (owner_of owners account ≡ Some owner) ⊎ ((account ≡ new) × (session ≡ owner))
pushed [] new session account owner = by (nat_eq account new) refl
  where
    by : (b : Bool) → nat_eq account new ≡ b → cond b (Some session) None ≡ Some owner → (None ≡ Some owner) ⊎ ((account ≡ new) × (session ≡ owner))
    by true at is = let same : session ≡ owner = cc in inr (eqb-true account new at, same)
    by false at is = inl is
pushed (o ∷ owners) new session account owner = by (nat_eq account o.0) (pushed owners new session account owner)
  where
    by : (b : Bool) → (owner_of (owners ++ (new, session) ∷ []) account ≡ Some owner → (owner_of owners account ≡ Some owner) ⊎ ((account ≡ new) × (session ≡ owner)))
        → cond b (Some o.1) (owner_of (owners ++ (new, session) ∷ []) account) ≡ Some owner
        → (cond b (Some o.1) (owner_of owners account) ≡ Some owner) ⊎ ((account ≡ new) × (session ≡ owner))
    by true later is = inl is
    by false later is = later is

pub owned : (owners : Owned) (new session account owner : ℕ) → owner_of (with_owner owners new session) account ≡ Some owner
    → (owner_of owners account ≡ Some owner) ⊎ ((account ≡ new) × (session ≡ owner))
owned owners new session account owner = by (is_some (owner_of owners new))
  where
    by : (there : Bool) → owner_of (if there then owners else owners ++ (new, session) ∷ []) account ≡ Some owner
        → (owner_of owners account ≡ Some owner) ⊎ ((account ≡ new) × (session ≡ owner))
    by true is = inl is
    by false is = pushed owners new session account owner is

-- an account without one has this one
last_owner : (owners : Owned) (new session : ℕ) → owner_of owners new ≡ None → owner_of (owners ++ (new, session) ∷ []) new ≡ Some session
last_owner [] new session none = ap (λ (b : Bool). cond b (Some session) None) (eq-eqb new new refl)
last_owner (o ∷ owners) new session none = by (nat_eq new o.0) none (last_owner owners new session)
  where
    by : (b : Bool) → cond b (Some o.1) (owner_of owners new) ≡ None → (owner_of owners new ≡ None → owner_of (owners ++ (new, session) ∷ []) new ≡ Some session)
        → cond b (Some o.1) (owner_of (owners ++ (new, session) ∷ []) new) ≡ Some session
    by true h later = cc
    by false h later = later h

new_owner : (owners : Owned) (new session : ℕ) → owner_of owners new ≡ None → owner_of (with_owner owners new session) new ≡ Some session
new_owner owners new session none =
    ap (λ (found : Option ℕ). owner_of (if is_some found then owners else owners ++ (new, session) ∷ []) new) none ∙ last_owner owners new session none

-- ---- what is noted
module _ (members : MembersState) (session : ℕ) (before after : ExchangeState) (r : Result Request Fault) where
  owned_then : (account owner : ℕ) (opened : Option ℕ) → opened_by after (aim_of_said before r) ≡ opened → owner_of (owners_then members.owners session opened) account ≡ Some owner
      → (owner_of members.owners account ≡ Some owner) ⊎ ((opened_by after (aim_of_said before r) ≡ Some account) × (session ≡ owner))
  owned_then account owner None is own = inl own
  owned_then account owner (Some new) is own =
      ⊎_elim (λ (had : owner_of members.owners account ≡ Some owner). inl had)
      (λ (one : (account ≡ new) × (session ≡ owner)). inr (is ∙ ap (λ (n : ℕ). Some n) (sym one.0), one.1))
      (owned members.owners new session account owner own)

  noted_owned : (account owner : ℕ) → owner_of (noted members session after (aim_of_said before r)).owners account ≡ Some owner
      → (owner_of members.owners account ≡ Some owner) ⊎ ((opened_by after (aim_of_said before r) ≡ Some account) × (session ≡ owner))
  noted_owned account owner own =
      owned_then account owner (opened_by after (aim_of_said before r)) refl
      (subst (λ (owners : Owned). owner_of owners account ≡ Some owner) (noted_owners members session after (aim_of_said before r)) own)

  -- the session owns what it opened, where that had no owner
  noted_new : (account : ℕ) → opened_by after (aim_of_said before r) ≡ Some account → owner_of members.owners account ≡ None
      → owner_of (noted members session after (aim_of_said before r)).owners account ≡ Some session
  noted_new account is none =
      ap (λ (owners : Owned). owner_of owners account) (noted_owners members session after (aim_of_said before r) ∙ ap (owners_then members.owners session) is)
      ∙ new_owner members.owners account session none

-- ---- a body
module _ (number : ℕ) (state : ServedMembers) (said : SaidBody) where
  -- what is secured as it is opened moves nothing
  same_exchange : exchange_in (carried number state said).served ≡ exchange_in (line_state number state said)
  same_exchange =
      let line = line_state number state said in
      by_opened (λ (s : SecuredState). exchange_in s ≡ exchange_in line) said.session line refl (opened_in number state said) (λ new is member. refl)

  pub is_opened : (account : ℕ) → opened_in number state said ≡ Some account → IsOpened state (carried number state said) said account
  is_opened account is =
      let opening = is_opening (exchange_in state.served) (exchange_in (line_state number state said)) account (said_in SERVED said.body) is in
      record { says = opening.says; closed = opening.closed; opened = ap (λ (e : ExchangeState). is_open e.accounts account) same_exchange ∙ opening.opened }

  -- what a body opens its line opened
  opened_is : (account : ℕ) → IsOpened state (carried number state said) said account → opened_in number state said ≡ Some account
  opened_is account opened =
      opening_is (exchange_in state.served) (exchange_in (line_state number state said)) account (said_in SERVED said.body) (record {
        says = opened.says;
        closed = opened.closed;
        opened = ap (λ (e : ExchangeState). is_open e.accounts account) (sym same_exchange) ∙ opened.opened;
      })

  body_owned : (account owner : ℕ) → owner_of (after_body number state said).members.owners account ≡ Some owner
      → (owner_of state.members.owners account ≡ Some owner) ⊎ (IsOpened state (after_body number state said) said account × (said.session ≡ owner))
  body_owned account owner =
      by_body number state said
      (λ next. owner_of next.members.owners account ≡ Some owner
      → (owner_of state.members.owners account ≡ Some owner) ⊎ (IsOpened state next said account × (said.session ≡ owner)))
      (λ own. inl own)
      (λ through own.
      ⊎_elim (λ (had : owner_of state.members.owners account ≡ Some owner). inl had)
      (λ (new : (opened_in number state said ≡ Some account) × (said.session ≡ owner)). inr (is_opened account new.0, new.1))
      (noted_owned state.members said.session (exchange_in state.served) (exchange_in (line_state number state said)) (said_in SERVED said.body) account owner own))

  -- an account that is not open has no owner
  no_owner : OwnedAreOpen state → (account : ℕ) → is_open (exchange_in state.served).accounts account ≡ false → owner_of state.members.owners account ≡ None
  no_owner all account closed = by (owner_of state.members.owners account) refl
    where
      by : (found : Option ℕ) → owner_of state.members.owners account ≡ found → owner_of state.members.owners account ≡ None
      by None is = is
      by (Some owner) is = let opened = all account owner is in cc

  body_new : (account : ℕ) → OwnedAreOpen state → IsOpened state (after_body number state said) said account
      → owner_of (after_body number state said).members.owners account ≡ Some said.session
  body_new account all =
      by_body number state said (λ next. IsOpened state next said account → owner_of next.members.owners account ≡ Some said.session)
      (λ opened. let closed = opened.closed in let now = opened.opened in cc)
      (λ through opened.
      noted_new state.members said.session (exchange_in state.served) (exchange_in (line_state number state said)) (said_in SERVED said.body) account (opened_is account opened)
      (no_owner all account opened.closed))

  stays_open : IsSoundServed state.served → (account : ℕ) → is_open (exchange_in state.served).accounts account ≡ true
      → is_open (exchange_in (after_body number state said).served).accounts account ≡ true
  stays_open sound account is =
      by_body number state said (λ next. is_open (exchange_in next.served).accounts account ≡ true) is
      (λ through. ap (λ (e : ExchangeState). is_open e.accounts account) same_exchange
      ∙ line_open state.served (record { number = number; bytes = said.body }) sound account is)

  body_open : IsSoundServed state.served → OwnedAreOpen state → OwnedAreOpen (after_body number state said)
  body_open sound all account owner own =
      ⊎_elim (λ (had : owner_of state.members.owners account ≡ Some owner). stays_open sound account (all account owner had))
      (λ (new : IsOpened state (after_body number state said) said account × (said.session ≡ owner)). new.0.opened) (body_owned account owner own)

pub owned_by_opening : OwnedByOpening
owned_by_opening = record {
  opened = body_owned;
  owned = body_new;
  are_open = body_open;
}

-- ---- bodies
pub all_open : (number : ℕ) (state : ServedMembers) (bodies : List SaidBody) → IsSoundServed state.served → OwnedAreOpen state → OwnedAreOpen (after_all number state bodies)
all_open number state [] sound all = all
all_open number state (said ∷ more) sound all =
    all_open (number + 1) (after_body number state said) more (body_sound number state said sound) (body_open number state said sound all)
