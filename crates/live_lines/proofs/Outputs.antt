-- The output of what came so far.
use Rattle.std.proofs.Common.{◌≡◌, ℕ, ◌+◌, List, [], ◌∷◌, ◌++◌, Bool, length, refl, sym, ap, ◌∙◌, subst, append-nil}
use Rattle.command_text.proofs.LineParts.{cut}
use Rattle.live_lines.specs.Answering.{Answering, AnswersLine, AnswersLines, IsLastAnswer, IsOutput}
use Rattle.live_lines.specs.Open.{IsOneLine, Open, line_text, new_open}
use Rattle.live_lines.specs.Taken.{AreWithin, Took, with_feeds}
use Rattle.live_lines.proofs.Cuts.{cut_lines, cut_one}
use Rattle.live_lines.proofs.Places.{empty_text}
use Rattle.live_lines.proofs.Takes.{behind, lines_append, lines_part}

module _ {S : Type 0} (Answers : Answering S) (skips : Bool) (start : S) where
  -- of lines and one that has not ended
  lines_and_rest : (lines : List (List ℕ)) (rest first last : List ℕ) (mid new : S) → AreWithin skips 1 lines → IsOneLine rest
      → AnswersLines Answers skips 1 start lines first mid
      → AnswersLine Answers (1 + length lines) mid (line_text skips (1 + length lines) rest) last new → IsOutput Answers skips start (with_feeds lines ++ rest) (first ++ last)
  lines_and_rest lines rest first last mid new within one before now =
      let parts : cut (with_feeds lines ++ rest) ≡ lines ++ rest ∷ [] = cut_lines skips 1 lines rest within ∙ ap (λ l. lines ++ l) (cut_one rest one) in (
        new,
        subst (λ l. AnswersLines Answers skips 1 start l (first ++ last) new) (sym parts)
            (lines_append Answers skips 1 start mid new lines (rest ∷ []) first last before (last, new, [], now, (refl, refl), sym (append-nil last))),
      )

  -- of lines alone
  pub lines_alone : (lines : List (List ℕ)) (text : List ℕ) (new : S) → AreWithin skips 1 lines → AnswersLines Answers skips 1 start lines text new
      → IsOutput Answers skips start (with_feeds lines) text
  lines_alone lines text new within h =
      let none : AnswersLine Answers (1 + length lines) new (line_text skips (1 + length lines) []) [] new =
      subst (λ line. AnswersLine Answers (1 + length lines) new line [] new) (sym (empty_text skips (1 + length lines))) (refl, refl) in
      subst (λ bytes. IsOutput Answers skips start bytes text) (append-nil (with_feeds lines))
      (subst (IsOutput Answers skips start (with_feeds lines ++ [])) (append-nil text) (lines_and_rest lines [] text [] new new within refl h none))

  pub alone_lines : (lines : List (List ℕ)) (text : List ℕ) → AreWithin skips 1 lines → IsOutput Answers skips start (with_feeds lines) text
      → (end : S) × AnswersLines Answers skips 1 start lines text end
  alone_lines lines text within h =
      let parts : cut (with_feeds lines) ≡ lines ++ [] ∷ [] = ap cut (sym (append-nil (with_feeds lines))) ∙ cut_lines skips 1 lines [] within in
      let part = lines_part Answers skips 1 start h.0 lines ([] ∷ []) text (subst (λ l. AnswersLines Answers skips 1 start l text h.0) parts h.1) in
      let last = part.4 in
      let empty = subst (λ line. AnswersLine Answers (1 + length lines) part.1 line last.0 last.1) (empty_text skips (1 + length lines)) last.3 in
      let none : part.2 ≡ [] = last.5 ∙ (λ i. empty.0 i ++ last.4.0 i) in
      (part.1, subst (λ t. AnswersLines Answers skips 1 start lines t part.1) (sym (part.5 ∙ ap (λ l. part.0 ++ l) none ∙ append-nil part.0)) part.3)

  -- at the end: what was written, and the answer to the line that is left
  pub whole_output : (state : S) (line : Open) (bytes text last : List ℕ) → Took Answers start (new_open skips) state line bytes text
      → IsLastAnswer Answers state line last → IsOutput Answers skips start bytes (text ++ last)
  whole_output state line bytes text last h left =
      let now = behind Answers start state (new_open skips) line bytes text h (λ s n. AnswersLine Answers n state (line_text s n line.rest) last left.0) left.1 in
      subst (λ b. IsOutput Answers skips start b (text ++ last)) (sym h.split)
      (lines_and_rest h.lines line.rest text last state left.0 h.within h.open_within.0 h.answers now)

  -- before the end: what was written is the output of the complete lines
  pub lines_written : (state : S) (line : Open) (bytes text : List ℕ) (h : Took Answers start (new_open skips) state line bytes text)
      → IsOutput Answers skips start (with_feeds h.lines) text
  lines_written state line bytes text h = lines_alone h.lines text state h.within h.answers
