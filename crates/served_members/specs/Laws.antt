-- What is promised of what sessions say to an exchange that answers all lines of `serve`.
use Rattle.std.specs.Prelude.{ℕ, ◌≡◌, ◌+◌, ◌≤◌, ◌⊎◌, ⊤, true, false, nat_eq, List, [], ◌∷◌, Some, None, Ok}
use Rattle.std.specs.Option.{option_map_or}
use Rattle.auction_phases.specs.Laws.{StandsStill}
use Rattle.auction_phases.specs.Phases.{is_closed}
use Rattle.cash_ledger.specs.Ledger.{is_open}
use Rattle.command_text.specs.declared.command.Command.TheVariants.{Open}
use Rattle.command_text.specs.declared.requests.Request.TheVariants as asks
use Rattle.command_text.specs.declared.words.TheConstants.{SERVED}
use Rattle.command_text.specs.Said.{said_in}
use Rattle.members.specs.Laws.{IsOwner}
use Rattle.members.specs.Members.{Owned, owner_of}
use Rattle.members.specs.Rule.{is_operator}
use Rattle.secured_accounts.specs.Laws.{AllSecured, AreSafe, CanPay}
use Rattle.secured_accounts.specs.Money.{AddUp}
use Rattle.secured_accounts.specs.Secured.{is_secured}
use Rattle.secured_lines.specs.Laws.{guarded_in}
use Rattle.secured_lines.specs.Output.{secured_said}
use Rattle.secured_lines.specs.SecuredState.{exchange_in, with_opened}
use Rattle.secured_lines.specs.ServeLaws.{ended_by_said, phased_of}
use Rattle.session_laws.specs.Laws.{ToldOnce}
use Rattle.member_lines.specs.Laws.{LinesMoveByRule, LiveOrdersStayFew, OwnersAreKept, QuotasAreKept, SaidBody, after_bodies, after_body as behind, rule_refusal}
use Rattle.served_members.specs.Members.{IsSoundServed, ServedMembers, empty_members, member_body}

-- ---- messages
-- each takes effect once, in its session's order
abbrev pub MembersTellOnce : Type 0
MembersTellOnce = (input : List ℕ) → ToldOnce member_body empty_members input

-- ---- the rule
-- what owners have changes by them alone, and by the operator's deposits, clears and settlements; an
-- account keeps its owner, and a session stays within its part of what all share
pub record MoveByRule : Type 0 where
  pub moves : LinesMoveByRule exchange_in secured_said with_opened IsSoundServed
  pub owners : OwnersAreKept exchange_in secured_said with_opened IsSoundServed
  pub quotas : QuotasAreKept exchange_in secured_said with_opened IsSoundServed
  pub live : LiveOrdersStayFew exchange_in secured_said with_opened IsSoundServed

-- ---- bodies
-- the state after a body, and after bodies of which the first has this number
abbrev pub after_body : ℕ → ServedMembers → SaidBody → ServedMembers
after_body = behind exchange_in secured_said with_opened

abbrev pub after_all : ℕ → ServedMembers → List SaidBody → ServedMembers
after_all = after_bodies exchange_in secured_said with_opened

-- after bodies, of which the first is that of the first message
abbrev pub members_after : List SaidBody → ServedMembers
members_after bodies = after_all 1 empty_members bodies

-- ---- owners
-- the body opens the account: it says so, and the account was not open before and is now
pub record IsOpened (before after : ServedMembers) (said : SaidBody) (account : ℕ) : Type 0 where
  pub says : said_in SERVED said.body ≡ Ok (asks.Command (Open account))
  pub closed : is_open (exchange_in before.served).accounts account ≡ false
  pub opened : is_open (exchange_in after.served).accounts account ≡ true

-- an account that has an owner is open
abbrev pub OwnedAreOpen : ServedMembers → Type 0
OwnedAreOpen state = (account owner : ℕ) → owner_of state.members.owners account ≡ Some owner → is_open (exchange_in state.served).accounts account ≡ true

-- the owner of an account is the session that opened it, and no other
pub record OwnedByOpening : Type 0 where
  pub opened : (number : ℕ) (state : ServedMembers) (said : SaidBody) (account owner : ℕ) → owner_of (after_body number state said).members.owners account ≡ Some owner
      → (owner_of state.members.owners account ≡ Some owner) ⊎ (IsOpened state (after_body number state said) said account × (said.session ≡ owner))
  pub owned : (number : ℕ) (state : ServedMembers) (said : SaidBody) (account : ℕ) → OwnedAreOpen state → IsOpened state (after_body number state said) said account
      → owner_of (after_body number state said).members.owners account ≡ Some said.session
  pub are_open : (number : ℕ) (state : ServedMembers) (said : SaidBody) → IsSoundServed state.served → OwnedAreOpen state → OwnedAreOpen (after_body number state said)

-- ---- secured accounts
-- each account of a session that is not the operator's is secured
abbrev pub OwnedAreSecured : Owned → List ℕ → Type 0
OwnedAreSecured owners secured =
    (account owner : ℕ) → owner_of owners account ≡ Some owner → is_operator owner ≡ false → is_secured secured account ≡ true

abbrev pub AreSecured : ServedMembers → Type 0
AreSecured state = OwnedAreSecured state.members.owners state.served.secured

-- and stays so, from its opening; and so does whatever account is secured
pub record MembersAreSecured : Type 0 where
  pub members : (number : ℕ) (state : ServedMembers) (bodies : List SaidBody) → AreSecured state → AreSecured (after_all number state bodies)
  pub all : (number : ℕ) (state : ServedMembers) (bodies : List SaidBody) (account : ℕ) → is_secured state.served.secured account ≡ true
      → is_secured (after_all number state bodies).served.secured account ≡ true

-- the owner of an account says that it is to be secured, or a session opens it that is not the
-- operator's
abbrev pub Secures : ServedMembers → ServedMembers → SaidBody → ℕ → Type 0
Secures before after said account =
    ((said_in SERVED said.body ≡ Ok (asks.Secure account)) × IsOwner before.members.owners said.session account)
    ⊎ (IsOpened before after said account × (is_operator said.session ≡ false))

-- by nothing else an account comes to be secured
abbrev pub SecuredByWill : Type 0
SecuredByWill =
    (number : ℕ) (state : ServedMembers) (said : SaidBody) (account : ℕ) → is_secured (after_body number state said).served.secured account ≡ true
    → (is_secured state.served.secured account ≡ true) ⊎ Secures state (after_body number state said) said account

-- ---- what they can pay
-- the balance of each secured account is at or above its true need; so no account of a session that
-- is not the operator's owes anything, and none of a trader does where all are secured; and all
-- balances sum to deposits less withdrawals
pub record ArePaying (state : ServedMembers) : Type 0 where
  pub safe : AreSafe (guarded_in state.served)
  pub money : AddUp (exchange_in state.served)
  pub members : (account owner : ℕ) → owner_of state.members.owners account ≡ Some owner → is_operator owner ≡ false → CanPay (guarded_in state.served) account
  pub traders : AllSecured (guarded_in state.served) → (account : ℕ) → 1 ≤ account → is_open (exchange_in state.served).accounts account ≡ true → CanPay (guarded_in state.served) account

abbrev pub MembersCanPay : Type 0
MembersCanPay = (bodies : List SaidBody) → ArePaying (members_after bodies)

-- ---- closed markets
-- none of the bodies that the rule lets through clears, settles or opens the market
abbrev pub AreMeanwhile : ℕ → ℕ → ServedMembers → List SaidBody → Type 0
AreMeanwhile market number state [] = ⊤
AreMeanwhile market number state (said ∷ more) =
    (rule_refusal exchange_in secured_said with_opened state said ≡ None
    → option_map_or (nat_eq market) (ended_by_said state.served.serving (said_in SERVED said.body)) false ≡ false)
    × AreMeanwhile market (number + 1) (after_body number state said) more

-- a closed market is still closed after them, and its live orders are what they were
abbrev pub ClosedMarketsStandStill : Type 0
ClosedMarketsStandStill =
    (market number : ℕ) (state : ServedMembers) (bodies : List SaidBody) → IsSoundServed state.served → is_closed state.served.serving.closed market ≡ true
    → AreMeanwhile market number state bodies
    → StandsStill market (phased_of state.served.serving) (phased_of (after_all number state bodies).served.serving)
