-- What is kept for a market is let go of where it is cleared or settled.
use Rattle.std.specs.Prelude.{ℕ, ◌≡◌, false, nat_eq, Option, None, Some, IfSome}
use Rattle.auction_phases.specs.Phases.{ended_by}
use Rattle.exchange_lines.specs.LineSteps.{InputLine}
use Rattle.proposal_lines.specs.Answers.{IsToldFor, ProposalAnswer, beside, bounded, replied, taken}
use Rattle.proposal_lines.specs.KeptByMarket.{KeptProposals, kept_in}
use Rattle.proposal_lines.specs.ProposingState.{ProposingState}

-- the market that an answer tells as cleared, by a run or as proposals had it, or as settled
abbrev pub ended_by_answer : ProposalAnswer → Option ℕ
ended_by_answer (replied answer) = ended_by answer.reply
ended_by_answer (bounded answer) = Some answer.market
ended_by_answer (taken answer) = None
ended_by_answer (beside line text) = None

-- nothing is kept for the market, and for each other what was kept
pub record IsLetGo (market : ℕ) (before after : KeptProposals) : Type 0 where
  pub none : kept_in market after ≡ None
  pub others : (other : ℕ) → nat_eq other market ≡ false → kept_in other after ≡ kept_in other before

-- so it is after each clear and each settlement, whatever the line
abbrev pub EndsLetGo : Type 0
EndsLetGo =
    (state : ProposingState) (line : InputLine) (answer : ProposalAnswer) (after : ProposingState) → IsToldFor state line answer after
    → IfSome (ended_by_answer answer) (λ market. IsLetGo market state.kept after.kept)
