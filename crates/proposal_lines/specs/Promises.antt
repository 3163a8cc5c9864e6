-- What is promised of the bytes that are written where proposals are taken.
use Rattle.std.specs.Prelude.{ℕ, ◌≡◌, ⊤, List, [], ◌∷◌, true, Ok}
use Rattle.std.specs.List.{All}
use Rattle.proposal_check.specs.ProposalLaws.{Proves}
use Rattle.frac.specs.Value.{fraction_of}
use Rattle.proposals.specs.Laws.{as_proposal}
use Rattle.cert_check.specs.declared.outcome.Mark.TheVariants.{Budget}
use Rattle.cert_check.specs.declared.outcome.Outcome.{Outcome}
use Rattle.clearing.specs.Outcome.{outcome_of}
use Rattle.exchange_core.specs.ExchangeState.{empty_exchange}
use Rattle.exchange_lines.specs.LineSteps.{InputLine, input_lines}
use Rattle.exchange_lines.specs.Promises.{KeepsPromises}
use Rattle.command_text.specs.Said.{said_in}
use Rattle.command_text.specs.declared.requests.ProposeRequest.{ProposeRequest}
use Rattle.command_text.specs.declared.requests.Request.TheVariants as asks
use Rattle.command_text.specs.declared.words.TheConstants.{SERVED}
use Rattle.exchange_lines.specs.GainRuns.{HouseGains}
use Rattle.live_lines.specs.Output.{output_of}
use Rattle.proposal_text.specs.declared.replies.BoundedOutcome.{BoundedOutcome}
use Rattle.reply_print.specs.declared.replies.Reply.{Reply}
use Rattle.reply_print.specs.declared.replies.Reply.TheVariants.{Cleared}
use Rattle.proposal_lines.specs.Laws.{IsBetter, IsSound}
use Rattle.proposal_lines.specs.Output.{proposing_line}
pub use Rattle.proposal_lines.specs.Reading.{reading_line, reading_said}
use Rattle.proposal_lines.specs.ProposingState.{ProposingState, empty_state}
pub use Rattle.proposal_lines.specs.Answers.{IsToldFor, ProposalAnswer, TellsAsked, beside, bounded, replied, state_by, taken}
use Rattle.proposal_lines.specs.Answers.{AreToldFor, TakenAnswer, told_texts}
use Rattle.proposal_lines.specs.UsesBest.{UsesBest}

-- ---- of each line
-- what is charged, as the outcome of a batch whose mark is not optimal
abbrev pub charged : BoundedOutcome → Outcome
charged better = record { fills = better.proposal.fills; claim = better.proposal.claim; mark = Budget; units = better.units }

-- the replies that move anything
abbrev pub replies_in : List ProposalAnswer → List Reply
replies_in [] = []
replies_in (replied answer ∷ more) = answer.reply ∷ replies_in more
replies_in (bounded answer ∷ more) = Cleared answer.number answer.market answer.batch (charged answer.better) ∷ replies_in more
replies_in (taken answer ∷ more) = replies_in more
replies_in (beside line text ∷ more) = replies_in more

-- the proposal proves the bound that is told for the batch: its fills cover the surplus that is told
-- at every settlement, and no fractional fills cover more than the bound. So do the fills and the
-- measure that are kept after it, of the surplus and the bound that are told of them
pub record ProvesTaken (answer : TakenAnswer) : Type 0 where
  pub proposed : Proves answer.batch answer.proposed.submission.proposal (fraction_of answer.bound)
  pub kept : Proves answer.batch (as_proposal answer.best) (fraction_of answer.best.bounded.bound)

-- a run's keeps what is promised of a run; a batch that was cleared as proposals had it is better
-- than what the reference run answers within the budget; a proposal that was taken proves its bound
abbrev pub KeepsProposalPromises : ProposalAnswer → Type 0
KeepsProposalPromises (replied answer) = KeepsPromises answer
KeepsProposalPromises (bounded answer) = IsBetter answer.batch (outcome_of answer.batch answer.budget) answer.better
KeepsProposalPromises (taken answer) = ProvesTaken answer
KeepsProposalPromises (beside line text) = ⊤

-- ---- of an input
-- a way of answering over states in which an exchange stands that takes proposals
module _ {S : Type 0} (proposing : S → ProposingState) (step : ℕ → S → List ℕ → List ℕ × S) where
  -- the bytes are the text of the answers to the lines of the input. Each keeps what is promised,
  -- each proposal that is taken is used, they leave the house its gains, batches that were cleared as
  -- proposals had it among them, and the state is one that an exchange which takes proposals may be in
  pub record TellsBy (first : S) (input bytes : List ℕ) : Type 0 where
    pub answers : List ProposalAnswer
    pub to_lines : AreToldFor proposing step first (input_lines input) answers
    pub text : bytes ≡ told_texts answers
    pub promises : All KeepsProposalPromises answers
    pub best : UsesBest proposing step first (input_lines input) answers
    pub gains : HouseGains (proposing (state_by step first (input_lines input))).exchange.entries (replies_in answers)
    pub kept : IsSound (proposing (state_by step first (input_lines input)))

-- an exchange that takes proposals, and no more
abbrev pub TellProposals : List ℕ → List ℕ → Type 0
TellProposals = TellsBy (λ state. state) proposing_line empty_state

-- what is written for an input, whose mark is skipped
abbrev pub proposing_output : List ℕ → List ℕ
proposing_output input = output_of proposing_line true empty_state input

abbrev pub OutputsTellProposals : Type 0
OutputsTellProposals = (input : List ℕ) → TellProposals input (proposing_output input)

-- ---- where nothing is proposed
abbrev pub ProposesNothing : InputLine → Type 0
ProposesNothing line = (request : ProposeRequest) → said_in SERVED line.bytes ≡ Ok (asks.Propose request) → ⊥

-- so it is written for an input of which no line proposes
abbrev pub WithoutProposals : Type 0
WithoutProposals =
    (input : List ℕ) → All ProposesNothing (input_lines input) → proposing_output input ≡ output_of reading_line true empty_exchange input
