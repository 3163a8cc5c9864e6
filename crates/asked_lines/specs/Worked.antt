-- A worked row: which number each line is answered with.
use Rattle.std.specs.Prelude.{ℕ, ◌≡◌, ◌+◌, true, List, [], ◌∷◌, codes}
use Rattle.live_lines.specs.Output.{output_of}
use Rattle.asked_lines.specs.Asked.{asked_step, asking_first}

-- each answer is the number of the line and how many lines were answered before
abbrev pub counting : ℕ → ℕ → List ℕ → List ℕ × ℕ
counting number before line = (number ∷ before ∷ [], before + 1)

-- and so is what is told
abbrev pub told : ℕ → ℕ → List ℕ → List ℕ
told number before body = number ∷ before ∷ body

-- ?a, b, ?c, an empty line, d, ?
abbrev pub lines : List ℕ
lines = codes "?a\nb\n?c\n\nd\r\n?"

pub record NumbersByHand : Type 0 where
  pub numbers : output_of (asked_step told counting) true (asking_first 0) lines ≡ 1 ∷ 0 ∷ 97 ∷ 1 ∷ 0 ∷ 2 ∷ 1 ∷ 99 ∷ 3 ∷ 1 ∷ 4 ∷ 2 ∷ []
