-- What is promised of lines that sessions say.
use Rattle.std.specs.Prelude.{ℕ, ◌≡◌, ◌+◌, ⊤, false, List, [], ◌∷◌, ◌++◌, Option, Some, None, Result, Ok, Err}
use Rattle.command_text.specs.declared.asked.Fault.{Fault}
use Rattle.command_text.specs.declared.command.Command.TheVariants as command
use Rattle.command_text.specs.declared.requests.Request.{Request}
use Rattle.command_text.specs.declared.requests.Request.TheVariants as asks
use Rattle.command_text.specs.declared.words.TheConstants.{SERVED}
use Rattle.command_text.specs.Said.{said_in}
use Rattle.exchange_core.specs.ExchangeState.{ExchangeState}
use Rattle.lists.specs.Refusals.{first_of}
use Rattle.members.specs.Laws.{HasFewLive, IsByRule, IsWithinQuota, Managed, managed}
use Rattle.members.specs.Members.{counted_of, owner_of, owns}
use Rattle.members.specs.Refusals.{rule_refusals}
use Rattle.members.specs.Rule.{is_operator}
use Rattle.members.specs.declared.refusal.MemberRefusal.{MemberRefusal}
use Rattle.members.specs.declared.refusal.MemberRefusal.TheVariants.{NotAllowed}
use Rattle.session_laws.specs.Laws.{ToldOnce}
use Rattle.session_lines.specs.Served.{without_feed}
use Rattle.member_lines.specs.Lines.{MemberState, free_line, member_line}
use Rattle.member_lines.specs.Refused.{refused_text}
use Rattle.member_lines.specs.Runs.{Opens, SaidStep, served_line}

-- the account of which a line tells something
abbrev pub tells_of : Request → Option ℕ
tells_of (asks.Command (command.Balance account)) = Some account
tells_of (asks.Positions account market) = Some account
tells_of (asks.Margin request) = Some request.account
tells_of (asks.Need account) = Some account
tells_of request = None

-- a body, and the session that says it
pub record SaidBody : Type 0 where
  pub session : ℕ
  pub body : List ℕ

module _ {S : Type 0} (exchange : S → ExchangeState) (says : SaidStep S) (opens : Opens S) where
  -- ---- what the rule refuses
  -- why, of a line that asks something
  abbrev pub refusal_of_said : MemberState S → ℕ → Result Request Fault → Option MemberRefusal
  refusal_of_said state session (Ok request) = first_of (rule_refusals state.members (exchange state.served) session request)
  refusal_of_said state session (Err fault) = None

  abbrev pub rule_refusal : MemberState S → SaidBody → Option MemberRefusal
  rule_refusal state said = refusal_of_said state said.session (said_in SERVED said.body)

  -- it is told so, and changes nothing
  abbrev pub RefusalsAreTold : Type 0
  RefusalsAreTold = (number : ℕ) (state : MemberState S) (said : SaidBody) (refusal : MemberRefusal) → rule_refusal state said ≡ Some refusal
      → member_line exchange says opens said.session number state said.body ≡ (refused_text number refusal, state)

  -- ---- what it lets through is answered as where there is no rule
  -- the state after a body, and after bodies of which the first has this number
  abbrev pub after_body : ℕ → MemberState S → SaidBody → MemberState S
  after_body number state said = (member_line exchange says opens said.session number state said.body).1

  abbrev pub after_bodies : ℕ → MemberState S → List SaidBody → MemberState S
  after_bodies number state [] = state
  after_bodies number state (said ∷ more) = after_bodies (number + 1) (after_body number state said) more

  -- a body in place of those that the rule refuses, which changes nothing where there is no rule
  abbrev pub LeavesAll : List ℕ → Type 0
  LeavesAll filler = (session number : ℕ) (state : S) → (free_line exchange says opens session number state filler).1 ≡ state

  abbrev pub body_for : List ℕ → Option MemberRefusal → List ℕ → List ℕ
  body_for filler None body = body
  body_for filler (Some refusal) body = filler

  -- of a body that is let through the texts are one
  abbrev pub IsAsServed : Option MemberRefusal → List ℕ → List ℕ → Type 0
  IsAsServed None text served = text ≡ served
  IsAsServed (Some refusal) text served = ⊤

  -- bodies, and beside them those of which the others are this one, from states on
  abbrev pub AreAsServed : List ℕ → ℕ → MemberState S → S → List SaidBody → Type 0
  AreAsServed filler number state served [] = state.served ≡ served
  AreAsServed filler number state served (said ∷ more) =
      let refusal = rule_refusal state said in
      let now = free_line exchange says opens said.session number served (body_for filler refusal said.body) in
      IsAsServed refusal (member_line exchange says opens said.session number state said.body).0 now.0
      × AreAsServed filler (number + 1) (after_body number state said) now.1 more

  -- the answers to those that are let through are those of what has no rule, but secures what members
  -- open, to the same bodies, with one that it refuses in place of each of the others; and so is the
  -- state
  abbrev pub AllowedAsServed : Type 0
  AllowedAsServed = (filler : List ℕ) (number : ℕ) (state : MemberState S) (bodies : List SaidBody) → LeavesAll filler → AreAsServed filler number state state.served bodies

  -- ---- what moves
  abbrev pub managed_in : MemberState S → Managed
  managed_in state = managed (exchange state.served) state.members

  -- a promise of the states before and after bodies, where the first is sound
  abbrev pub Keeping : (S → Type 0) → (MemberState S → MemberState S → Type 0) → Type 0
  Keeping Sound Promise = (number : ℕ) (state : MemberState S) (bodies : List SaidBody) → Sound state.served → Promise state (after_bodies number state bodies)

  -- an account that has an owner keeps it
  abbrev pub OwnersAreKept : (S → Type 0) → Type 0
  OwnersAreKept Sound =
      Keeping Sound (λ state after. (account owner : ℕ) → owner_of state.members.owners account ≡ Some owner → owner_of after.members.owners account ≡ Some owner)

  -- a session that is not the operator's stays within its part of what all share
  abbrev pub QuotasAreKept : (S → Type 0) → Type 0
  QuotasAreKept Sound =
      Keeping Sound (λ state after. (session : ℕ) → is_operator session ≡ false → IsWithinQuota (counted_of state.members.counts session)
      → IsWithinQuota (counted_of after.members.counts session))

  -- and its accounts have at most 64 live orders in a market
  abbrev pub LiveOrdersStayFew : (S → Type 0) → Type 0
  LiveOrdersStayFew Sound =
      Keeping Sound (λ state after. (session : ℕ) → is_operator session ≡ false → HasFewLive (managed_in state) session → HasFewLive (managed_in after) session)

  -- what was said changed the exchange by the rule, from one state to the next
  abbrev pub IsSaidByRule : Result Request Fault → ℕ → MemberState S → MemberState S → Type 0
  IsSaidByRule (Ok (asks.Command said)) session state next = IsByRule state.members.owners session said (exchange state.served) (exchange next.served)
  IsSaidByRule said session state next = exchange next.served ≡ exchange state.served

  abbrev pub AreSaidByRule : ℕ → MemberState S → List SaidBody → Type 0
  AreSaidByRule number state [] = ⊤
  AreSaidByRule number state (said ∷ more) =
      let next = after_body number state said in
      IsSaidByRule (said_in SERVED said.body) said.session state next × AreSaidByRule (number + 1) next more

  -- each entry, order and cancellation has the body that it comes from, whose session may say it
  abbrev pub LinesMoveByRule : (S → Type 0) → Type 0
  LinesMoveByRule Sound = (number : ℕ) (state : MemberState S) (bodies : List SaidBody) → Sound state.served → AreSaidByRule number state bodies

  -- ---- what is told
  -- of an account whose owner it is not a session that is not the operator's is told nothing
  abbrev pub OthersAreRefused : Type 0
  OthersAreRefused =
      (number : ℕ) (state : MemberState S) (said : SaidBody) (request : Request) (account : ℕ)
      → owns state.members.owners said.session account ≡ false → is_operator said.session ≡ false → tells_of request ≡ Some account → said_in SERVED said.body ≡ Ok request
      → member_line exchange says opens said.session number state said.body ≡ (refused_text number NotAllowed, state)

  -- ---- once
  -- what is written for a line ends with a line feed
  abbrev pub EndsSaid : Type 0
  EndsSaid = (number : ℕ) (state : S) (line : List ℕ) → (served_line says number state line).0 ≡ without_feed (served_line says number state line).0 ++ 10 ∷ []

  -- then each message takes effect once, in its session's order
  abbrev pub BodiesTellOnce : Type 0
  BodiesTellOnce = EndsSaid → (start : MemberState S) (input : List ℕ) → ToldOnce (member_line exchange says opens) start input
