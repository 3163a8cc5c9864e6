-- What is counted of each session, as it opens accounts and places orders.
use Rattle.std.proofs.Common.{◌≡◌, ◌≤◌, ℕ, ◌+◌, Bool, true, false, cond, not, ◌&&◌, ◌||◌, [], ◌∷◌, nat_eq, nat_le, Option, Some, None, if◌then◌else◌, refl, sym, ap, ◌∙◌, subst, arith}
use Rattle.std.specs.Prelude.{unwrap_or}
use Rattle.std.specs.Map.{lookup}
use Rattle.std.specs.Option.{option_map_or}
use Rattle.std.proofs.lemmas.Bool.Decides.{nat_tests}
use Rattle.indexmap.specs.IndexMap.{insert_entry}
use Rattle.session_gate.proofs.KnownBefore.{lookup-insert_entry}
use Rattle.command_text.specs.declared.command.Command.{Command}
use Rattle.command_text.specs.declared.command.Command.TheVariants.{Open, Deposit, Withdraw, Market, Trade, Bundle, Cancel, Clear, Settle, Balance}
use Rattle.command_text.specs.declared.requests.Request.TheVariants as asks
use Rattle.exchange_core.specs.declared.refusal.Refusal.{Refusal}
use Rattle.exchange_core.specs.ExchangeState.{ExchangeState}
use Rattle.exchange_core.specs.Refusals.{refusal_of}
use Rattle.exchange_core.specs.Step.{effect, refusal_effect, step}
use Rattle.members.specs.Laws.{Event, Said, Charged, IsWithinQuota, Managed, QuotasHold, after_event, after_passed, command_in, refusal_to, session_in}
use Rattle.members.specs.Members.{AllCounted, MembersState, after_reply, counted_of, has_own_live, is_allowed, is_over, none_counted, uses_up}
use Rattle.members.specs.Rule.{is_operator}
use Rattle.members.specs.declared.counts.Counted.{Counted}
use Rattle.members.specs.declared.quota.TheConstants.{MAX_OPENED, MAX_PLACED}
use Rattle.members.specs.declared.refusal.MemberRefusal.{MemberRefusal}
use Rattle.members.specs.declared.refusal.MemberRefusal.TheVariants.{NotAllowed, Quota}

-- what is counted of each session, as something else is counted of one
pub counted_after : (session : ℕ) (new : Counted) (q : ℕ) (counts : AllCounted) → counted_of (insert_entry nat_eq counts session new) q ≡ cond (nat_eq q session) new (counted_of counts q)
counted_after session new q counts =
    ap (λ (found : Option Counted). unwrap_or found none_counted) (lookup-insert_entry {X = Counted} session new counts q) ∙ by (nat_eq q session)
  where
    by : (b : Bool) → unwrap_or (cond b (Some new) (lookup (nat_eq q) counts)) none_counted ≡ cond b new (counted_of counts q)
    by true = refl
    by false = refl

-- ---- within the quota
pub below : (limit used : ℕ) → nat_le limit used ≡ false → used + 1 ≤ limit
below limit used is = grind (arith, nat_tests)

front_false : (a b : Bool) → (a || b) ≡ false → a ≡ false
front_false true b h = cc
front_false false b h = refl

module _ (members : MembersState) (exchange : ExchangeState) (session q : ℕ) (before : IsWithinQuota (counted_of members.counts q)) where
  -- something else is counted of the session
  set_within : (new : Counted) → (q ≡ session → IsWithinQuota new) → IsWithinQuota (counted_of (insert_entry nat_eq members.counts session new) q)
  set_within new own = subst IsWithinQuota (sym (counted_after session new q members.counts)) (by (nat_eq q session) refl)
    where
      by : (b : Bool) → nat_eq q session ≡ b → IsWithinQuota (cond b new (counted_of members.counts q))
      by true same = own (grind (arith, nat_tests))
      by false other = before

  own_before : q ≡ session → IsWithinQuota (counted_of members.counts session)
  own_before same = subst (λ n. IsWithinQuota (counted_of members.counts n)) same before

  opened_within : (q ≡ session → nat_le MAX_OPENED (counted_of members.counts session).opened ≡ false)
      → IsWithinQuota (counted_of (insert_entry nat_eq members.counts session (record (counted_of members.counts session) { opened = (counted_of members.counts session).opened + 1 })) q)
  opened_within few =
      let counted = counted_of members.counts session in
      set_within (record counted { opened = counted.opened + 1 }) (λ same. (below MAX_OPENED counted.opened (few same), (own_before same).1))

  placed_within : (live : Bool) → (q ≡ session → (nat_le MAX_PLACED (counted_of members.counts session).placed || live) ≡ false)
      → IsWithinQuota (counted_of (insert_entry nat_eq members.counts session (record (counted_of members.counts session) { placed = (counted_of members.counts session).placed + 1 })) q)
  placed_within live few =
      let counted = counted_of members.counts session in
      set_within (record counted { placed = counted.placed + 1 })
      (λ same. ((own_before same).0, below MAX_PLACED counted.placed (front_false (nat_le MAX_PLACED counted.placed) live (few same))))

  accepted_within : (command : Command) → (q ≡ session → uses_up members exchange session command ≡ false) → IsWithinQuota (counted_of (after_reply members session (effect exchange command).0).counts q)
  accepted_within (Open account) few = opened_within few
  accepted_within (Deposit account amount) few = before
  accepted_within (Withdraw account amount) few = before
  accepted_within (Market market underlyings) few = before
  accepted_within (Trade side account market kind strike price quantity count weights) few = placed_within (has_own_live members.owners exchange.book session market) few
  accepted_within (Bundle side account market price quantity bundle) few = placed_within (has_own_live members.owners exchange.book session market) few
  accepted_within (Cancel account order) few = before
  accepted_within (Clear market budget) few = before
  accepted_within (Settle market count prices) few = before
  accepted_within (Balance account) few = before

  stepped_within : (command : Command) → (q ≡ session → uses_up members exchange session command ≡ false) → IsWithinQuota (counted_of (after_reply members session (step exchange command).0).counts q)
  stepped_within command few = by (refusal_of exchange command)
    where
      by : (refused : Option Refusal) → IsWithinQuota (counted_of (after_reply members session (option_map_or (refusal_effect exchange) refused (effect exchange command)).0).counts q)
      by None = accepted_within command few
      by (Some refusal) = before

-- ---- events
-- a session that is not the operator's and whose line is let through uses nothing up
pub not_over : (a over : Bool) → (if not a then Some NotAllowed else if over then Some Quota else None) ≡ None → over ≡ false
not_over false over none = cc
not_over true true none = cc
not_over true false none = refl

pub not_used : (operator used : Bool) → operator ≡ false → (not operator && used) ≡ false → used ≡ false
not_used true used is over = cc
not_used false used is over = over

passed_within : (state : Managed) (event : Event) (q : ℕ) → is_operator q ≡ false → IsWithinQuota (counted_of state.members.counts q)
    → is_over state.members state.exchange (session_in event) (asks.Command (command_in event)) ≡ false → IsWithinQuota (counted_of (after_passed state event).members.counts q)
passed_within state (Said session command) q other before over =
    stepped_within state.members state.exchange session q before command
    (λ same. not_used (is_operator session) (uses_up state.members state.exchange session command) (subst (λ n. is_operator n ≡ false) same other) over)
passed_within state (Charged session market budget fills) q other before over = before

event_within : (state : Managed) (event : Event) (q : ℕ) → is_operator q ≡ false → IsWithinQuota (counted_of state.members.counts q) → IsWithinQuota (counted_of (after_event state event).members.counts q)
event_within state event q other before = by (refusal_to state event) refl
  where
    over : refusal_to state event ≡ None → is_over state.members state.exchange (session_in event) (asks.Command (command_in event)) ≡ false
    over none = not_over (is_allowed state.members.owners (session_in event) (asks.Command (command_in event))) (is_over state.members state.exchange (session_in event) (asks.Command (command_in event))) none

    by : (refused : Option MemberRefusal) → refusal_to state event ≡ refused → IsWithinQuota (counted_of (option_map_or (λ refusal. state) refused (after_passed state event)).members.counts q)
    by None none = passed_within state event q other before (over none)
    by (Some refusal) told = before

pub quotas_hold : QuotasHold
quotas_hold state [] q other before = before
quotas_hold state (event ∷ events) q other before = quotas_hold (after_event state event) events q other (event_within state event q other before)
