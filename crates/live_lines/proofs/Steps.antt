-- Where a function answers, an input has one output.
use Rattle.std.proofs.Common.{◌≡◌, ℕ, ◌+◌, List, [], ◌∷◌, ◌++◌, Bool, false, Option, ◌==◌, length, if◌then◌else◌, refl, sym, ap, ◌∙◌, subst, arith}
use Rattle.std.proofs.lemmas.Bool.Decides.{nat_tests}
use Rattle.byte_streams.specs.Writes.{AppendsFront}
use Rattle.command_text.proofs.LineParts.{cut}
use Rattle.live_lines.specs.Answering.{Answering, AnswersLine, AnswersLines, IsFirstOutput, IsOutput, by_step}
use Rattle.live_lines.specs.Open.{line_text}
use Rattle.live_lines.specs.Output.{answer_to, lines_output, output_of}
use Rattle.live_lines.specs.Taken.{AreWithin, with_feeds}
use Rattle.live_lines.proofs.Cuts.{cut_lines}
use Rattle.live_lines.proofs.Fronts.{front_longer}
use Rattle.live_lines.proofs.Outputs.{lines_alone}
use Rattle.live_lines.proofs.Places.{output_is}
use Rattle.live_lines.proofs.Takes.{lines_part}

-- ---- what it writes is written
answered : {S : Type 0} (step : ℕ → S → List ℕ → List ℕ × S) (number : ℕ) (old : S) (b : ℕ) (line : List ℕ)
    → answer_to step number old (b ∷ line) ≡ step number old (b ∷ line)
answered {S} step number old b line =
    let some : (length (b ∷ line) == 0) ≡ false = grind (arith, nat_tests) in
    ap (λ (t : Bool). let out : List ℕ × S = if t then ([], old) else step number old (b ∷ line) in out) some

module _ {S : Type 0} (step : ℕ → S → List ℕ → List ℕ × S) (skips : Bool) where
  line_by : (number : ℕ) (old : S) (line : List ℕ) → AnswersLine (by_step step) number old line (answer_to step number old line).0 (answer_to step number old line).1
  line_by number old [] = (refl, refl)
  line_by number old (b ∷ line) = answered step number old b line

  lines_by : (number : ℕ) (old : S) (lines : List (List ℕ))
      → AnswersLines (by_step step) skips number old lines (lines_output step skips number old lines).0 (lines_output step skips number old lines).1
  lines_by number old [] = (refl, refl)
  lines_by number old (line ∷ lines) =
      let now = answer_to step number old (line_text skips number line) in
      (now.0, now.1, (lines_output step skips (number + 1) now.1 lines).0, line_by number old (line_text skips number line), lines_by (number + 1) now.1 lines, refl)

-- ---- and nothing else is
module _ {S : Type 0} (Answers : Answering S) (step : ℕ → S → List ℕ → List ℕ × S)
    (is : (number : ℕ) (old : S) (line text : List ℕ) (new : S) → Answers number old line text new → (text, new) ≡ step number old line) (skips : Bool) where
  line_is : (number : ℕ) (old : S) (line text : List ℕ) (new : S) → AnswersLine Answers number old line text new → (text, new) ≡ answer_to step number old line
  line_is number old [] text new h = λ i. (h.0 i, h.1 i)
  line_is number old (b ∷ line) text new h = is number old (b ∷ line) text new h ∙ sym (answered step number old b line)

  pub lines_are : (number : ℕ) (old : S) (lines : List (List ℕ)) (text : List ℕ) (new : S) → AnswersLines Answers skips number old lines text new
      → (text, new) ≡ lines_output step skips number old lines
  lines_are number old [] text new h = λ i. (h.0 i, h.1 i)
  lines_are number old (line ∷ lines) text new h =
      let now = line_is number old (line_text skips number line) h.0 h.1 h.3 in
      let later = lines_are (number + 1) h.1 lines h.2 new h.4 in
      ap (λ (t : List ℕ). (t, new)) h.5 ∙ ap (λ (r : List ℕ × S). (h.0 ++ r.0, r.1)) later
      ∙ ap (λ (r : List ℕ × S). let out = lines_output step skips (number + 1) r.1 lines in (r.0 ++ out.0, out.1)) now

  pub one_output : (start : S) (input text : List ℕ) → IsOutput Answers skips start input text → text ≡ output_of step skips start input
  one_output start input text h =
      ap (λ (r : List ℕ × S). r.0) (lines_are 1 start (cut input) text h.0 h.1) ∙ sym (output_is step skips start input)

module _ {S : Type 0} (Answers : Answering S) (step : ℕ → S → List ℕ → List ℕ × S)
    (is : (number : ℕ) (old : S) (line text : List ℕ) (new : S) → Answers number old line text new → (text, new) ≡ step number old line)
    (skips : Bool) (start : S) (input text : List ℕ) (h : IsFirstOutput Answers skips start input text) where
  -- what is written for the first lines of an input is a front of its output
  pub first_begins : (rest : List ℕ) × (output_of step skips start input ≡ text ++ rest)
  first_begins =
      let out = lines_output step skips 1 start (cut input) in
      let all = subst (λ l. AnswersLines (by_step step) skips 1 start l out.0 out.1) h.3 (lines_by step skips 1 start (cut input)) in
      let part = lines_part (by_step step) skips 1 start out.1 h.0 h.1 out.0 all in
      let own = lines_are (by_step step) step (λ number old line text new same. same) skips 1 start h.0 part.0 part.1 part.3 in
      let same : part.0 ≡ text = ap (λ (r : List ℕ × S). r.0) (own ∙ sym (lines_are Answers step is skips 1 start h.0 text h.2 h.4)) in
      (part.2, output_is step skips start input ∙ part.5 ∙ ap (λ l. l ++ part.2) same)

  pub front_of_all : (old new : Option (List ℕ)) → AppendsFront old new text → AppendsFront old new (output_of step skips start input)
  front_of_all old new front = let begins = first_begins in front_longer old new text (output_of step skips start input) begins.0 front begins.1

-- lines that are given again with more behind them
pub lines_begin : {S : Type 0} (step : ℕ → S → List ℕ → List ℕ × S) (skips : Bool) (start : S) (lines : List (List ℕ)) (more : List ℕ) → AreWithin skips 1 lines
    → (rest : List ℕ) × (output_of step skips start (with_feeds lines ++ more) ≡ output_of step skips start (with_feeds lines) ++ rest)
lines_begin step skips start lines more within =
    let out = lines_output step skips 1 start lines in
    let by = lines_by step skips 1 start lines in
    let begins = first_begins (by_step step) step (λ number old line text new same. same) skips start (with_feeds lines ++ more) out.0 (lines, cut more, out.1, cut_lines skips 1 lines more within, by) in
    let own = one_output (by_step step) step (λ number old line text new same. same) skips start (with_feeds lines) out.0 (lines_alone (by_step step) skips start lines out.0 out.1 within by) in
    (begins.0, begins.1 ∙ ap (λ l. l ++ begins.0) own)
