-- No proposal lowers what is cleared, for as long as the orders of its market stay.
use Rattle.std.specs.Prelude.{ℕ, ◌≡◌, List, [], ◌∷◌, Ok, ⊤}
use Rattle.command_text.specs.declared.command.Body.{Body}
use Rattle.command_text.specs.declared.command.Body.TheVariants.{Command}
use Rattle.command_text.specs.declared.command.Command.TheVariants.{Clear}
use Rattle.command_text.specs.Commands.{body_of_line}
use Rattle.exact_num.specs.Fraction.{AtMost}
use Rattle.exchange_core.specs.Step.{batch_in}
use Rattle.exchange_lines.specs.LineSteps.{InputLine}
use Rattle.proposal_lines.specs.Laws.{cleared_surplus}
use Rattle.proposal_lines.specs.Output.{proposing_line}
use Rattle.proposal_lines.specs.Answers.{state_by}
use Rattle.proposal_lines.specs.Proposed.{proposed_reply}
use Rattle.proposal_lines.specs.ProposingState.{ProposingState}
use Rattle.proposal_lines.specs.declared.proposed.Proposed.{Proposed}

-- what a line says is no clear of the market
abbrev pub IsNoClearOf : ℕ → Body → Type 0
IsNoClearOf market said = (budget : ℕ) → said ≡ Command (Clear market budget) → ⊥

-- with a proposal the exchange is as it is without it, and a clear of any market tells no lower
-- surplus
pub record IsUnharmed (without with : ProposingState) : Type 0 where
  pub exchange : with.exchange ≡ without.exchange
  pub surplus : (market budget : ℕ) → AtMost (cleared_surplus without market budget) (cleared_surplus with market budget)

-- a way of answering over states in which an exchange stands that takes proposals
module _ {S : Type 0} (proposing : S → ProposingState) (step : ℕ → S → List ℕ → List ℕ × S) where
  -- the lines do not clear the market, and leave its live orders as they are
  abbrev pub LeaveOrders : ℕ → S → List InputLine → Type 0
  LeaveOrders market state [] = ⊤
  LeaveOrders market state (line ∷ lines) =
      let next = (step line.number state line.bytes).1 in
      IsNoClearOf market (body_of_line line.bytes) × (batch_in (proposing next).exchange market ≡ batch_in (proposing state).exchange market)
      × LeaveOrders market next lines

  -- so it is behind such lines whatever is proposed before them, where `placing` puts an exchange
  -- into a state
  abbrev pub LowersNothing : (S → ProposingState → S) → Type 0
  LowersNothing placing =
      (state : S) (proposed : Proposed) (lines : List InputLine) → LeaveOrders proposed.market state lines
      → IsUnharmed (proposing (state_by step state lines))
      (proposing (state_by step (placing state (proposed_reply (proposing state) (Ok proposed)).1) lines))

-- by an exchange that takes proposals, and no more
abbrev pub ProposalsLowerNothing : Type 0
ProposalsLowerNothing = LowersNothing (λ state. state) proposing_line (λ state now. now)
