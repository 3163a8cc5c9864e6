-- The lines that ask nothing, as an input of their own, and what is promised of the answers to them.
use Rattle.std.specs.Prelude.{ℕ, ◌≡◌, Bool, false, List, ◌∷◌, drop, if◌then◌else◌}
use Rattle.command_text.specs.Lines.{mark_size}
use Rattle.live_lines.specs.Output.{lines_output, output_of}
use Rattle.asked_lines.specs.Asked.{AskedState, asked_step, asking_first}
use Rattle.asked_lines.specs.Laws.{ToldLine, all_text, lines_of, other_text, told_from, without_questions}

-- an input without the mark at its start, where one is skipped
abbrev pub bare : Bool → List ℕ → List ℕ
bare skips input = if skips then drop (mark_size input) input else input

-- the lines that ask nothing; where a mark is skipped they stand behind one, so that none of them
-- loses its own
abbrev pub others_alone : Bool → List ℕ → List ℕ
others_alone skips input =
    let others = without_questions false (bare skips input) in if skips then 0xEF ∷ 0xBB ∷ 0xBF ∷ others else others

module _ {S : Type 0} (ask : ℕ → S → List ℕ → List ℕ) (step : ℕ → S → List ℕ → List ℕ × S) (skips : Bool) (start : S) where
  -- what is told for the lines of an input, each in the state that the lines before it left, and the
  -- state after them
  abbrev pub told_for : List ℕ → List ToldLine × AskedState S
  told_for input = told_from ask step false 1 (asking_first start) (lines_of (bare skips input))

  -- Bytes are the texts that are told for the lines of an input. Those of the lines that ask nothing
  -- keep what is promised of these lines as an input of their own, and the state is that after it.
  pub record TellBeside (Tell : List ℕ → List ℕ → Type 0) (input bytes : List ℕ) : Type 0 where
    pub whole : bytes ≡ all_text (told_for input).0
    pub others : Tell (others_alone skips input) (other_text (told_for input).0)
    pub state : (told_for input).1.inner ≡ (lines_output step skips 1 start (lines_of (others_alone skips input))).1

-- Of what is written for an input, whatever it is, the texts of the lines that ask nothing are what
-- is written for these lines as an input of their own.
abbrev pub OthersAreToldAlone : {S : Type 0} → (ℕ → S → List ℕ → List ℕ) → (ℕ → S → List ℕ → List ℕ × S) → Type 0
OthersAreToldAlone {S} ask step =
    (skips : Bool) (start : S) (input : List ℕ)
    → TellBeside ask step skips start (λ alone text. text ≡ output_of step skips start alone) input (output_of (asked_step ask step) skips (asking_first start) input)
