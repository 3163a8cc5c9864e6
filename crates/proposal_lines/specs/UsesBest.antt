-- A better proposal is used, for as long as the live orders of its market stay: said of lines and
-- what is told for them alone.
use Rattle.std.specs.Prelude.{ℕ, ◌≡◌, ⊤, List, [], ◌∷◌, nat_eq, Option, None, Some, IfSome, if◌then◌else◌}
use Rattle.exact_num.specs.Fraction.{AtMost, Fraction}
use Rattle.exchange_core.specs.Step.{batch_in}
use Rattle.exchange_lines.specs.LineSteps.{InputLine}
use Rattle.frac.specs.Value.{fraction_of}
use Rattle.reply_print.specs.declared.replies.Reply.{Reply}
use Rattle.reply_print.specs.declared.replies.Reply.TheVariants.{Opened, Deposited, Withdrawn, Listed, Placed, Cancelled, Cleared, Settled, Balance, Refused}
use Rattle.proposal_lines.specs.Answers.{AreToldFor, ProposalAnswer, TakenAnswer, beside, bounded, replied, taken}
use Rattle.proposal_lines.specs.Laws.{IsSound}
use Rattle.proposal_lines.specs.Output.{proposing_line}
use Rattle.proposal_lines.specs.ProposingState.{ProposingState}

-- ---- what a clear tells
-- its surplus, and its bound where it is marked bounded
pub record ToldClear : Type 0 where
  pub surplus : Fraction
  pub bound : Option Fraction

abbrev pub told_clear : Fraction → Option Fraction → ToldClear
told_clear surplus bound = record { surplus = surplus; bound = bound }

-- where it is of this market
abbrev pub if_of : ℕ → ℕ → ToldClear → Option ToldClear
if_of market other told = if nat_eq other market then Some told else None

abbrev pub cleared_in : ℕ → Reply → Option ToldClear
cleared_in market (Opened account) = None
cleared_in market (Deposited account balance) = None
cleared_in market (Withdrawn account balance) = None
cleared_in market (Listed other underlyings) = None
cleared_in market (Placed order) = None
cleared_in market (Cancelled order) = None
cleared_in market (Cleared number other batch outcome) = if_of market other (told_clear (fraction_of outcome.claim.surplus) None)
cleared_in market (Settled other lapsed payouts) = None
cleared_in market (Balance account balance reserved) = None
cleared_in market (Refused number field) = None

-- what an answer tells of a clear of the market
abbrev pub clear_in : ℕ → ProposalAnswer → Option ToldClear
clear_in market (replied answer) = cleared_in market answer.reply
clear_in market (bounded answer) =
    if_of market answer.market
    (told_clear (fraction_of answer.better.proposal.claim.surplus) (Some (fraction_of answer.better.bound)))
clear_in market (taken answer) = None
clear_in market (beside line text) = None

-- ---- it is as good as a proposal
-- it tells at least the proposal's surplus and at most its bound, and no bound above that
pub record IsAsGood (surplus bound : Fraction) (told : ToldClear) : Type 0 where
  pub no_less : AtMost surplus told.surplus
  pub within : AtMost told.surplus bound
  pub no_more : IfSome told.bound (λ least. AtMost least bound)

abbrev pub clears_or : Fraction → Fraction → Option ToldClear → Type 0 → Type 0
clears_or surplus bound (Some told) later = IsAsGood surplus bound told
clears_or surplus bound None later = later

-- where the answer is that a proposal is taken
abbrev pub IfTaken : (TakenAnswer → Type 0) → ProposalAnswer → Type 0
IfTaken P (replied answer) = ⊤
IfTaken P (bounded answer) = ⊤
IfTaken P (taken answer) = P answer
IfTaken P (beside line text) = ⊤

-- a way of answering over states in which an exchange stands that takes proposals
module _ {S : Type 0} (proposing : S → ProposingState) (step : ℕ → S → List ℕ → List ℕ × S) where
  -- the first clear of the market is as good, if until then its live orders stay as they are
  abbrev pub IsUsedBy : ℕ → Fraction → Fraction → S → List InputLine → List ProposalAnswer → Type 0
  IsUsedBy market surplus bound state [] answers = ⊤
  IsUsedBy market surplus bound state (line ∷ lines) [] = ⊤
  IsUsedBy market surplus bound state (line ∷ lines) (answer ∷ answers) =
      let next = (step line.number state line.bytes).1 in
      clears_or surplus bound (clear_in market answer)
      (batch_in (proposing next).exchange market ≡ batch_in (proposing state).exchange market → IsUsedBy market surplus bound next lines answers)

  -- each proposal that is taken is used by the lines behind it
  abbrev pub UsesBest : S → List InputLine → List ProposalAnswer → Type 0
  UsesBest state [] answers = ⊤
  UsesBest state (line ∷ lines) [] = ⊤
  UsesBest state (line ∷ lines) (answer ∷ answers) =
      let next = (step line.number state line.bytes).1 in
      IfTaken (λ t. IsUsedBy t.proposed.market (fraction_of t.proposed.submission.proposal.claim.surplus) (fraction_of t.bound) next lines answers) answer
      × UsesBest next lines answers

  -- so it is wherever lines are told their answers
  abbrev pub UsesTheBest : Type 0
  UsesTheBest =
      (state : S) (lines : List InputLine) (answers : List ProposalAnswer) → IsSound (proposing state)
      → AreToldFor proposing step state lines answers → UsesBest state lines answers

-- by an exchange that takes proposals, and no more
abbrev pub BestIsUsed : Type 0
BestIsUsed = UsesTheBest (λ state. state) proposing_line
