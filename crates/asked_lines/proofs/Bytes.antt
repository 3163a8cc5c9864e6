-- The bytes of an input without the lines that ask.
use Rattle.std.proofs.Common.{◌≡◌, ℕ, ◌+◌, Bool, true, false, List, [], ◌∷◌, ◌++◌, All, if◌then◌else◌, refl, sym, ap, ◌∙◌, append-nil}
use Rattle.std.proofs.lemmas.List.Elements.{All-head, All-tail}
use Rattle.command_text.proofs.LineParts.{IsParted, all_parted, cut}
use Rattle.live_lines.specs.Open.{line_text}
use Rattle.live_lines.specs.Output.{answer_to, lines_output}
use Rattle.live_lines.proofs.Cuts.{cut_line, cut_one}
use Rattle.live_lines.proofs.Places.{no_answer, output_is}
use Rattle.asked_lines.specs.Asked.{asked_step, asking_first, is_question}
use Rattle.asked_lines.specs.Laws.{AskingChangesNothing, other_bytes, other_lines, without_questions}
use Rattle.asked_lines.proofs.Asking.{all_is, first}

module _ {S : Type 0} (step : ℕ → S → List ℕ → List ℕ × S) (skips : Bool) where
  abbrev Alone : ℕ → S → List (List ℕ) → List ℕ × S
  Alone m state lines = lines_output step skips m state lines

  -- an empty line alone
  one_empty : (m : ℕ) (state : S) → Alone m state ([] ∷ []) ≡ ([], state)
  one_empty m state = ap (λ (r : List ℕ × S). (r.0 ++ [], r.1)) (no_answer step skips m state)

  one_more : (m : ℕ) (state : S) (line : List ℕ) (some others : List (List ℕ)) → ((next : ℕ) (after : S) → Alone next after some ≡ Alone next after others)
      → Alone m state (line ∷ some) ≡ Alone m state (line ∷ others)
  one_more m state line some others same =
      let now = answer_to step m state (line_text skips m line) in
      ap (λ (r : List ℕ × S). (now.0 ++ r.0, r.1)) (same (m + 1) now.1)

  -- cut again, they are the lines that ask nothing, behind which there may be an empty one
  abbrev IsCut : ℕ → List (List ℕ) → Type 0
  IsCut n lines = (m : ℕ) (state : S) → Alone m state (cut (other_bytes skips n lines)) ≡ Alone m state (other_lines skips n lines)

  last_line : (n : ℕ) (line : List ℕ) → IsParted line → IsCut n (line ∷ [])
  last_line n line parted m state = by (is_question (line_text skips n line))
    where
      by : (asks : Bool) → Alone m state (cut (if asks then [] else line ++ [])) ≡ Alone m state (if asks then [] else line ∷ [])
      by true = one_empty m state
      by false = ap (λ bytes. Alone m state (cut bytes)) (append-nil line) ∙ ap (λ l. Alone m state l) (cut_one line parted)

  front_line : (n : ℕ) (line next : List ℕ) (more : List (List ℕ)) → IsParted line → IsCut (n + 1) (next ∷ more) → IsCut n (line ∷ next ∷ more)
  front_line n line next more parted rest m state = by (is_question (line_text skips n line))
    where
      later : List ℕ
      later = other_bytes skips (n + 1) (next ∷ more)

      others : List (List ℕ)
      others = other_lines skips (n + 1) (next ∷ more)

      by : (asks : Bool) → Alone m state (cut (if asks then later else line ++ 10 ∷ later)) ≡ Alone m state (if asks then others else line ∷ others)
      by true = rest m state
      by false = ap (λ l. Alone m state l) (cut_line line later parted) ∙ one_more m state line (cut later) others rest

  same_lines : (n : ℕ) (lines : List (List ℕ)) → All IsParted lines → IsCut n lines
  same_lines n [] parted = one_empty
  same_lines n (line ∷ []) parted = last_line n line (All-head IsParted line [] parted)
  same_lines n (line ∷ next ∷ more) parted =
      front_line n line next more (All-head IsParted line (next ∷ more) parted) (same_lines (n + 1) (next ∷ more) (All-tail IsParted line (next ∷ more) parted))

pub asking_changes_nothing : {S : Type 0} (ask : ℕ → S → List ℕ → List ℕ) (step : ℕ → S → List ℕ → List ℕ × S) → AskingChangesNothing ask step
asking_changes_nothing ask step skips start input unmarked =
    let lines = cut input in
    let same = first ask step skips 1 0 start lines refl unmarked in
    let cuts = same_lines step skips 1 lines (all_parted input) 1 start in
    record {
      whole = output_is (asked_step ask step) skips (asking_first start) input ∙ all_is ask step skips 1 (asking_first start) lines;
      others = same.texts ∙ sym (ap (λ (r : List ℕ × _). r.0) cuts) ∙ sym (output_is step skips start (without_questions skips input));
      state = same.states ∙ sym (ap (λ (r : List ℕ × _). r.1) cuts);
    }
