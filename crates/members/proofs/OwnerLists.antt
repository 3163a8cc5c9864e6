-- An account that has an owner keeps it.
use Rattle.std.proofs.Common.{◌≡◌, ℕ, Bool, true, false, cond, [], ◌∷◌, ◌++◌, nat_eq, Option, Some, None, is_some, if◌then◌else◌, refl, ap, ◌∙◌, sym, arith}
use Rattle.std.specs.Option.{option_map_or}
use Rattle.std.proofs.lemmas.Bool.Decides.{nat_tests}
use Rattle.exchange_core.specs.Step.{step}
use Rattle.reply_print.specs.declared.replies.Reply.{Reply}
use Rattle.reply_print.specs.declared.replies.Reply.TheVariants as reply
use Rattle.members.specs.Laws.{Event, Said, Charged, Managed, OwnersStay, RefusedChangesNothing, after_event, after_passed, refusal_to}
use Rattle.members.specs.Members.{MembersState, Owned, after_reply, owner_of, owns, with_owner}
use Rattle.members.specs.declared.refusal.MemberRefusal.{MemberRefusal}

-- an account more has an owner
found_before : (owners : Owned) (new : ℕ × ℕ) (account owner : ℕ) → owner_of owners account ≡ Some owner → owner_of (owners ++ new ∷ []) account ≡ Some owner
found_before [] new account owner is = cc
found_before (o ∷ owners) new account owner is = by (nat_eq account o.0) is (found_before owners new account owner)
  where
    by : (b : Bool) → cond b (Some o.1) (owner_of owners account) ≡ Some owner → (owner_of owners account ≡ Some owner → owner_of (owners ++ new ∷ []) account ≡ Some owner)
        → cond b (Some o.1) (owner_of (owners ++ new ∷ []) account) ≡ Some owner
    by true h later = h
    by false h later = later h

stays_owner : (owners : Owned) (new session account owner : ℕ) → owner_of owners account ≡ Some owner → owner_of (with_owner owners new session) account ≡ Some owner
stays_owner owners new session account owner is = by (is_some (owner_of owners new))
  where
    by : (b : Bool) → owner_of (if b then owners else owners ++ (new, session) ∷ []) account ≡ Some owner
    by true = is
    by false = found_before owners (new, session) account owner is

-- whatever a session is answered
reply_stays : (members : MembersState) (session account owner : ℕ) → owner_of members.owners account ≡ Some owner → (given : Reply) → owner_of (after_reply members session given).owners account ≡ Some owner
reply_stays members session account owner is (reply.Opened new) = stays_owner members.owners new session account owner is
reply_stays members session account owner is (reply.Deposited other balance) = is
reply_stays members session account owner is (reply.Withdrawn other balance) = is
reply_stays members session account owner is (reply.Listed market underlyings) = is
reply_stays members session account owner is (reply.Placed order) = is
reply_stays members session account owner is (reply.Cancelled order) = is
reply_stays members session account owner is (reply.Cleared number market batch outcome) = is
reply_stays members session account owner is (reply.Settled market lapsed payouts) = is
reply_stays members session account owner is (reply.Balance other balance reserved) = is
reply_stays members session account owner is (reply.Refused number field) = is

passed_stays : (state : Managed) (event : Event) (account owner : ℕ) → owner_of state.members.owners account ≡ Some owner → owner_of (after_passed state event).members.owners account ≡ Some owner
passed_stays state (Said session command) account owner is = reply_stays state.members session account owner is (step state.exchange command).0
passed_stays state (Charged session market budget fills) account owner is = is

event_stays : (state : Managed) (event : Event) (account owner : ℕ) → owner_of state.members.owners account ≡ Some owner → owner_of (after_event state event).members.owners account ≡ Some owner
event_stays state event account owner is = by (refusal_to state event)
  where
    by : (refused : Option MemberRefusal) → owner_of (option_map_or (λ refusal. state) refused (after_passed state event)).members.owners account ≡ Some owner
    by None = passed_stays state event account owner is
    by (Some refusal) = is

pub owners_stay : OwnersStay
owners_stay state [] account owner is = is
owners_stay state (event ∷ events) account owner is = owners_stay (after_event state event) events account owner (event_stays state event account owner is)

pub refused_changes_nothing : RefusedChangesNothing
refused_changes_nothing state event refusal is = ap (λ refused. option_map_or (λ r. state) refused (after_passed state event)) is

-- a session that owns an account is its owner
pub owner_is : (owners : Owned) (session account : ℕ) → owns owners session account ≡ true → owner_of owners account ≡ Some session
owner_is owners session account is = by (owner_of owners account) refl is
  where
    by : (found : Option ℕ) → owner_of owners account ≡ found → option_map_or (nat_eq session) found false ≡ true → owner_of owners account ≡ Some session
    by None at h = cc
    by (Some other) at h = let same : session ≡ other = grind (arith, nat_tests) in at ∙ ap (λ n. Some n) (sym same)
