-- No proposal lowers what a clear tells, while the live orders of its market stay, whatever lines come.
use Rattle.std.proofs.Common.{◌≡◌, ℕ, Bool, true, false, List, Option, None, Some, Result, Ok, if◌then◌else◌, refl, sym, ap, subst}
use Rattle.std.specs.Option.{option_map_or}
use Rattle.account_need.specs.Account.{Need}
use Rattle.command_text.specs.declared.asked.Fault.{Fault}
use Rattle.command_text.specs.declared.command.Command.{Command}
use Rattle.command_text.specs.declared.command.Command.TheVariants.{Open, Deposit, Withdraw, Market, Trade, Bundle, Cancel, Clear, Settle, Balance}
use Rattle.command_text.specs.declared.requests.Request.{Request}
use Rattle.command_text.specs.declared.requests.Request.TheVariants as asks
use Rattle.command_text.specs.declared.words.TheConstants.{SERVED}
use Rattle.command_text.specs.Said.{said_in}
use Rattle.command_text.proofs.SaidByWords.{command_to_run}
use Rattle.exchange_core.specs.Step.{batch_in}
use Rattle.proposal_lines.specs.KeptByMarket.{KeptProposals}
use Rattle.proposal_lines.specs.LaterClears.{LowersNothing}
use Rattle.proposal_lines.specs.ProposingState.{state_of}
use Rattle.proposal_lines.proofs.LaterClears.{IsNoWorseIn, IsNoWorseFor, StepsAlike, lowers_nothing}
use Rattle.proposal_text.specs.declared.replies.ServedReply.{ServedReply}
use Rattle.secured_accounts.specs.Secured.{is_secured}
use Rattle.serve_lines.specs.ServingState.{ServingState, serving_of}
use Rattle.secured_lines.proofs.LoweringServed.{IsServedNoWorse, left, said_alike, withdrawal_alike}
use Rattle.secured_lines.specs.Output.{command_reply, handed_on, kept_from, let_through, secure_reply, secured_line, secured_reply, withdrawn}
use Rattle.secured_lines.specs.Replies.{uncovered_reply}
use Rattle.secured_lines.specs.SecuredState.{SecuredState, exchange_in, secured_of, with_proposing}
use Rattle.secured_lines.proofs.LineKinds.{by_kind}
use Rattle.secured_lines.proofs.Telling.{proposing_of}

-- with the same secured accounts
served_good : (market : ℕ) (secured : List ℕ) (one other : ServingState) → IsServedNoWorse market one other
    → IsNoWorseIn proposing_of with_proposing market (secured_of one secured) (secured_of other secured)
served_good market secured one other good = record {
  placed = ap (λ (closed : List ℕ). secured_of (serving_of other.proposing closed) secured) good.closed;
  no_worse = good.no_worse;
}

module _ (market : ℕ) (state : SecuredState) (kept : KeptProposals) (no_worse : IsNoWorseFor market (exchange_in state) state.serving.proposing.kept kept)
    (line : List ℕ) where
  -- the state with this kept
  abbrev other : SecuredState
  other = with_proposing state (state_of (exchange_in state) kept)

  abbrev Alike : (SecuredState → ServedReply × SecuredState) → Type 0
  Alike answer =
      batch_in (exchange_in (answer state).1) market ≡ batch_in (exchange_in state) market
      → IsNoWorseIn proposing_of with_proposing market (answer state).1 (answer other).1

  abbrev Clears : Result Request Fault → Type 0
  Clears said = (budget : ℕ) → said ≡ Ok (asks.Command (Clear market budget)) → ⊥

  left_alike : (secured : List ℕ) → IsNoWorseIn proposing_of with_proposing market (secured_of state.serving secured) (secured_of other.serving secured)
  left_alike secured = served_good market secured state.serving other.serving (left market state.serving kept no_worse line state.serving.closed)

  handed_alike : (said : Result Request Fault) → Clears said → Alike (λ s. handed_on s line said)
  handed_alike said none stay =
      served_good market state.secured (handed_on state line said).1.serving (handed_on other line said).1.serving
      (said_alike market state.serving kept no_worse line said none stay)

  withdrawn_alike : (account amount : ℕ) → Alike (λ s. withdrawn s account amount)
  withdrawn_alike account amount stay =
      served_good market state.secured (withdrawn state account amount).1.serving (withdrawn other account amount).1.serving
      (withdrawal_alike market state.serving kept no_worse line account amount stay)

  -- ---- commands
  ruled_alike : (account amount : ℕ) → Clears (Ok (asks.Command (Withdraw account amount))) → (own : Bool)
      → Alike (λ s. if own then withdrawn s account amount else handed_on s line (Ok (asks.Command (Withdraw account amount))))
  ruled_alike account amount none true stay = withdrawn_alike account amount stay
  ruled_alike account amount none false stay = handed_alike (Ok (asks.Command (Withdraw account amount))) none stay

  through_alike : (command : Command) → Clears (Ok (asks.Command command)) → Alike (λ s. let_through s line command)
  through_alike (Withdraw account amount) none stay = ruled_alike account amount none (is_secured state.secured account) stay
  through_alike (Open account) none stay = handed_alike (Ok (asks.Command (Open account))) none stay
  through_alike (Deposit account amount) none stay = handed_alike (Ok (asks.Command (Deposit account amount))) none stay
  through_alike (Market listed underlyings) none stay = handed_alike (Ok (asks.Command (Market listed underlyings))) none stay
  through_alike (Trade side account traded kind strike price quantity count weights) none stay =
      handed_alike (Ok (asks.Command (Trade side account traded kind strike price quantity count weights))) none stay
  through_alike (Bundle side account traded price quantity bundle) none stay = handed_alike (Ok (asks.Command (Bundle side account traded price quantity bundle))) none stay
  through_alike (Cancel account order) none stay = handed_alike (Ok (asks.Command (Cancel account order))) none stay
  through_alike (Clear cleared budget) none stay = handed_alike (Ok (asks.Command (Clear cleared budget))) none stay
  through_alike (Settle settled count prices) none stay = handed_alike (Ok (asks.Command (Settle settled count prices))) none stay
  through_alike (Balance account) none stay = handed_alike (Ok (asks.Command (Balance account))) none stay

  command_alike : (command : Command) → Clears (Ok (asks.Command command)) → Alike (λ s. command_reply s line command)
  command_alike command none = by (kept_from state command)
    where
      by : (need : Option Need) → Alike (λ s. option_map_or (λ n. (uncovered_reply n, s)) need (let_through s line command))
      by None stay = through_alike command none stay
      by (Some need) stay = left_alike state.secured

  -- ---- what a line says
  pub secured_alike : (said : Result Request Fault) → Clears said → Alike (λ s. secured_reply s line said)
  secured_alike =
      by_kind (λ said. Clears said → Alike (λ s. secured_reply s line said)) (λ account none stay. left_alike (secure_reply state account).1.secured)
      (λ account none stay. left_alike state.secured) command_alike
      (λ said kind none.
      let same : (λ (s : SecuredState). handed_on s line said) ≡ (λ (s : SecuredState). secured_reply s line said) =
      λ i s. sym (kind.handed s line) i in
      subst Alike same (handed_alike said none))

pub lines_alike : StepsAlike proposing_of secured_line with_proposing
lines_alike market line state kept no_worse none =
    secured_alike market state kept no_worse line.bytes (said_in SERVED line.bytes)
    (λ budget is. none budget (command_to_run SERVED line.bytes (Clear market budget) is))

pub secured_lowers_nothing : LowersNothing proposing_of secured_line with_proposing
secured_lowers_nothing = lowers_nothing proposing_of secured_line with_proposing lines_alike (λ state now. refl)
