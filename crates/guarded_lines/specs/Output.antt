-- What is written for a line that may ask for a margin.
use Rattle.std.specs.Prelude.{◌≡◌, ◌⊎◌, ℕ, List, [], ◌∷◌, ◌++◌}
use Rattle.exchange_core.specs.ExchangeState.{ExchangeState}
use Rattle.exchange_lines.specs.LineSteps.{IsRefusalText}
use Rattle.proposal_text.specs.declared.margins.ToldMargin.{ToldMargin}
use Rattle.proposal_text.specs.declared.needs.Need.{Need}
use Rattle.command_text.specs.Said.{said_in}
use Rattle.command_text.specs.declared.words.TheConstants.{GUARDED}
use Rattle.proposal_text.specs.declared.replies.ProposalReply.TheVariants.{Margin, Uncovered}
use Rattle.proposal_text.specs.Pieces.{proposal_line, written_reply}
use Rattle.guarded_lines.specs.Replies.{guarded_reply_to}

-- what is written for a line of these bytes, and the state after it
abbrev pub guarded_line : ℕ → ExchangeState → List ℕ → List ℕ × ExchangeState
guarded_line number state line = written_reply number (guarded_reply_to state (said_in GUARDED line))

-- a text is the line of a margin that was asked for, with its line feed
abbrev pub IsToldText : ℕ → List ℕ → Type 0
IsToldText number text = (account : ℕ) × (market : ℕ) × (margin : ToldMargin) × (text ≡ proposal_line number (Margin account market margin) ++ 10 ∷ [])

-- of a need that is not covered
abbrev pub IsUncoveredText : ℕ → List ℕ → Type 0
IsUncoveredText number text = (need : Need) × (text ≡ proposal_line number (Uncovered need) ++ 10 ∷ [])

-- of one of these, or of a refusal
abbrev pub IsMarginText : ℕ → List ℕ → Type 0
IsMarginText number text = IsRefusalText number text ⊎ (IsToldText number text ⊎ IsUncoveredText number text)
