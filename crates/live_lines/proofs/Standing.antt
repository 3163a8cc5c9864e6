-- A state before the line of a number.
use Rattle.std.proofs.Common.{◌≡◌, ◌<◌, ℕ, suc, ◌+◌, List, [], ◌∷◌, Bool, length, sym, ap, subst, arith}
use Rattle.live_lines.specs.Answering.{Answering, AnswersLine, AnswersLines}
use Rattle.live_lines.specs.Open.{Open, line_text}
use Rattle.live_lines.specs.Taken.{Took}
use Rattle.live_lines.proofs.Places.{empty_text}

-- a line that is answered has bytes
pub some_bytes : (skips : Bool) (number : ℕ) (line : List ℕ) → 0 < length (line_text skips number line) → 0 < length line
some_bytes skips number [] some = absurd (omega (arith, some, ap length (empty_text skips number)))
some_bytes skips number (b ∷ line) some = omega arith

module _ {S : Type 0} (Answers : Answering S) (Stands : ℕ → S → Type 0)
    (on : (number : ℕ) (state : S) → Stands number state → Stands (number + 1) state × ((line text : List ℕ) (new : S) → Answers number state line text new → Stands (number + 1) new)) where
  stands_line : (number : ℕ) (old : S) (line text : List ℕ) (new : S) → AnswersLine Answers number old line text new → Stands number old → Stands (number + 1) new
  stands_line number old [] text new a h = subst (Stands (number + 1)) (sym a.1) (on number old h).0
  stands_line number old (b ∷ line) text new a h = (on number old h).1 (b ∷ line) text new a

  stands_after : (skips : Bool) (number : ℕ) (old : S) (lines : List (List ℕ)) (text : List ℕ) (new : S) → AnswersLines Answers skips number old lines text new
      → Stands number old → Stands (number + length lines) new
  stands_after skips number old [] text new a h = let same : number ≡ number + 0 = omega arith in subst (λ n. Stands n new) same (subst (Stands number) (sym a.1) h)
  stands_after skips number old (line ∷ lines) text new a h =
      let moved : number + 1 + length lines ≡ number + suc (length lines) = omega arith in
      subst (λ n. Stands n new) moved
      (stands_after skips (number + 1) a.1 lines a.2 new a.4 (stands_line number old (line_text skips number line) a.0 a.1 a.3 h))

  -- behind the lines that bytes completed
  pub took_stands : (old new : S) (line next : Open) (bytes text : List ℕ) → Took Answers old line new next bytes text → Stands line.number old
      → Stands next.number new
  took_stands old new line next bytes text h first =
      subst (λ n. Stands n new) (sym h.count) (stands_after line.skips line.number old h.lines text new h.answers first)
