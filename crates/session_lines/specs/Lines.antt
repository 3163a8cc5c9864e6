-- The lines of an input, numbered from 1.
use Rattle.std.specs.Prelude.{ℕ, ◌+◌, ◌==◌, List, [], ◌∷◌, ◌++◌, length, if◌then◌else◌}
use Rattle.std.specs.List.{slice_split}
use Rattle.command_text.specs.Lines.{without_return}

-- a line that is not empty, without the carriage return at its end
pub record NumberedLine : Type 0 where
  pub number : ℕ
  pub text : List ℕ

abbrev pub line_of : ℕ → List ℕ → NumberedLine
line_of number text = record { number = number; text = text }

-- a line, unless it is empty
abbrev pub line_in : ℕ → List ℕ → List NumberedLine
line_in number piece = if length (without_return piece) == 0 then [] else line_of number (without_return piece) ∷ []

-- empty lines count
abbrev pub lines_from : ℕ → List (List ℕ) → List NumberedLine
lines_from number [] = []
lines_from number (piece ∷ pieces) = line_in number piece ++ lines_from (number + 1) pieces

-- the lines of an input, of which no bytes are skipped
abbrev pub lines_in : List ℕ → List NumberedLine
lines_in input = lines_from 1 (slice_split (λ b. b == 10) input)
