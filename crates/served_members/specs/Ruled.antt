-- What holds at each body that sessions say, one after another, from the first on.
use Rattle.std.specs.Prelude.{ℕ, ◌≡◌, ◌+◌, ◌⊎◌, true, false, List, ◌∷◌, ◌++◌, length, Some, Ok}
use Rattle.secured_accounts.specs.Secured.{is_secured}
use Rattle.auction_phases.specs.Laws.{StandsStill}
use Rattle.auction_phases.specs.Phases.{is_closed}
use Rattle.command_text.specs.declared.requests.Request.{Request}
use Rattle.command_text.specs.declared.words.TheConstants.{SERVED}
use Rattle.command_text.specs.Said.{said_in}
use Rattle.members.specs.Laws.{HasFewLive, IsWithinQuota}
use Rattle.members.specs.Members.{counted_of, owner_of, owns}
use Rattle.members.specs.Rule.{is_operator}
use Rattle.members.specs.declared.refusal.MemberRefusal.{MemberRefusal}
use Rattle.members.specs.declared.refusal.MemberRefusal.TheVariants.{NotAllowed}
use Rattle.secured_lines.specs.Output.{secured_said}
use Rattle.secured_lines.specs.SecuredState.{exchange_in, with_opened}
use Rattle.secured_lines.specs.ServeLaws.{phased_of}
use Rattle.member_lines.specs.Laws.{SaidBody, managed_in, rule_refusal, tells_of}
use Rattle.member_lines.specs.Refused.{refused_text}
use Rattle.served_members.specs.Asking.{IsToldAsNext}
use Rattle.served_members.specs.Laws.{AreMeanwhile, IsOpened, after_all, after_body, members_after}
use Rattle.served_members.specs.Members.{ServedMembers, member_body}

-- ---- quotas
-- each session that is not the operator's is within its part of what all share
abbrev pub AreWithinQuotas : ServedMembers → Type 0
AreWithinQuotas state =
    (session : ℕ) → is_operator session ≡ false
    → IsWithinQuota (counted_of state.members.counts session) × HasFewLive (managed_in exchange_in secured_said with_opened state) session

-- ---- one body
pub record IsRuled (number : ℕ) (state : ServedMembers) (said : SaidBody) : Type 0 where
  -- where the rule refuses it, it is told so, and changes nothing
  pub refused : (refusal : MemberRefusal) → rule_refusal exchange_in secured_said with_opened state said ≡ Some refusal
      → member_body said.session number state said.body ≡ (refused_text number refusal, state)
  -- of an account whose owner it is not a session that is not the operator's is told nothing
  pub others : (request : Request) (account : ℕ) → owns state.members.owners said.session account ≡ false → is_operator said.session ≡ false
      → tells_of request ≡ Some account → said_in SERVED said.body ≡ Ok request → member_body said.session number state said.body ≡ (refused_text number NotAllowed, state)
  -- the owner of an account is the session that opened it, and no other
  pub opened : (account owner : ℕ) → owner_of (after_body number state said).members.owners account ≡ Some owner
      → (owner_of state.members.owners account ≡ Some owner) ⊎ (IsOpened state (after_body number state said) said account × (said.session ≡ owner))
  pub owned : (account : ℕ) → IsOpened state (after_body number state said) said account → owner_of (after_body number state said).members.owners account ≡ Some said.session

-- ---- bodies, in the state that those before them left
pub record AreRuledFrom (number : ℕ) (state : ServedMembers) (later : List SaidBody) : Type 0 where
  pub quotas : AreWithinQuotas state
  -- what the rule lets a session ask then is told as the next line would be
  pub asks : (number : ℕ) (body : List ℕ) → IsToldAsNext number state.served body
  -- an account that has an owner keeps it
  pub owners : (account owner : ℕ) → owner_of state.members.owners account ≡ Some owner → owner_of (after_all number state later).members.owners account ≡ Some owner
  -- an account that is secured stays so
  pub secured : (account : ℕ) → is_secured state.served.secured account ≡ true → is_secured (after_all number state later).served.secured account ≡ true
  -- a closed market stands still until a body that is let through clears, settles or opens it
  pub closed : (market : ℕ) (meanwhile rest : List SaidBody) → later ≡ meanwhile ++ rest → is_closed state.served.serving.closed market ≡ true
      → AreMeanwhile market number state meanwhile → StandsStill market (phased_of state.served.serving) (phased_of (after_all number state meanwhile).served.serving)
  pub next : (said : SaidBody) (rest : List SaidBody) → later ≡ said ∷ rest → IsRuled number state said

-- so are all, wherever they are parted
abbrev pub AreRuledThroughout : List SaidBody → Type 0
AreRuledThroughout bodies = (front later : List SaidBody) → bodies ≡ front ++ later → AreRuledFrom (1 + length front) (members_after front) later

abbrev pub MembersAreRuled : Type 0
MembersAreRuled = (bodies : List SaidBody) → AreRuledThroughout bodies
