-- Asking changes nothing, line by line.
use Rattle.std.proofs.Common.{◌≡◌, ◌≤◌, ◌==◌, ℕ, ◌+◌, ◌-◌, Bool, true, false, List, [], ◌∷◌, ◌++◌, length, drop, if◌then◌else◌, refl, sym, ap, ◌∙◌, subst, true≢false, arith}
use Rattle.std.proofs.lemmas.Bool.Decides.{nat_tests}
use Rattle.command_text.specs.Lines.{mark_size, without_return}
use Rattle.live_lines.specs.Open.{line_text}
use Rattle.live_lines.specs.Output.{answer_to, lines_output}
use Rattle.asked_lines.specs.Asked.{AskedState, asked_state, asked_step, is_question, other_step, question_step}
use Rattle.asked_lines.specs.Laws.{IsUnmarked, ToldLine, all_text, other_lines, other_text, told_from}

-- ---- the text of a line
not_first : (n : ℕ) → 2 ≤ n → (n == 1) ≡ false
not_first n two = grind (arith, nat_tests)

-- behind the first line a mark is no mark
same_text : (skips : Bool) (n m : ℕ) (line : List ℕ) → 2 ≤ n → 2 ≤ m → line_text skips m line ≡ line_text skips n line
same_text false n m line a b = refl
same_text true n m line a b = ap (λ t. without_return (if t then drop (mark_size line) line else line)) (not_first m b ∙ sym (not_first n a))

longer : (b : ℕ) (text : List ℕ) → (length (b ∷ text) == 0) ≡ false
longer b text = grind (arith, nat_tests)

-- an empty line asks nothing
never : (text : List ℕ) → (length text == 0) ≡ true → is_question text ≡ true → ⊥
never [] empty asks = true≢false (sym asks)
never (b ∷ text) empty asks = true≢false (sym empty ∙ longer b text)

-- the texts of the lines that ask nothing are one, and the states
pub record AreSame {S : Type 0} (all : List ToldLine × AskedState S) (others : List ℕ × S) : Type 0 where
  pub texts : other_text all.0 ≡ others.0
  pub states : all.1.inner ≡ others.1

module _ {S : Type 0} (ask : ℕ → S → List ℕ → List ℕ) (step : ℕ → S → List ℕ → List ℕ × S) (skips : Bool) where
  -- what all have from a line on, of this number and behind so many that asked
  abbrev All : ℕ → ℕ → S → List (List ℕ) → List ToldLine × AskedState S
  All n k state lines = told_from ask step skips n (asked_state k state) lines

  -- and what the others have alone, the first having this number
  abbrev Alone : ℕ → S → List (List ℕ) → List ℕ × S
  Alone m state lines = lines_output step skips m state lines

  -- ---- one line
  module _ (n k m : ℕ) (state : S) (line : List ℕ) (lines : List (List ℕ)) (at : n ≡ m + k) where
    abbrev text : List ℕ
    text = line_text skips n line

    abbrev others : List (List ℕ)
    others = other_lines skips (n + 1) lines

    own : n - k ≡ m
    own = omega (arith, at)

    -- the line, where it is empty and where it asks
    abbrev AllBy : Bool → Bool → List ToldLine × AskedState S
    AllBy empty asks =
        let st = asked_state k state in
        let now : List ℕ × AskedState S = if empty then ([], st) else (if asks then question_step ask n st text else other_step step n st text) in
        let later = told_from ask step skips (n + 1) now.1 lines in
        (record { asks = asks; text = now.0 } ∷ later.0, later.1)

    -- alone, where it is empty, and has this text
    abbrev AloneBy : Bool → List ℕ → List ℕ × S
    AloneBy empty t =
        let now : List ℕ × S = if empty then ([], state) else step m state t in
        let later = lines_output step skips (m + 1) now.1 others in
        (now.0 ++ later.0, later.1)

    alone_is : line_text skips m line ≡ text → (empty : Bool) → (length text == 0) ≡ empty → Alone m state (line ∷ others) ≡ AloneBy empty text
    alone_is same empty is = ap (λ t. AloneBy (length t == 0) t) same ∙ ap (λ e. AloneBy e text) is

    -- another line, answered with this number
    abbrev Other : ℕ → List ToldLine × AskedState S
    Other p =
        let now = step p state text in
        let later = All (n + 1) k now.1 lines in
        (record { asks = false; text = now.0 } ∷ later.0, later.1)

    other_answered : ((after : S) → AreSame (All (n + 1) k after lines) (Alone (m + 1) after others)) → (p : ℕ) → p ≡ m → AreSame (Other p) (AloneBy false text)
    other_answered next p is =
        let now = step m state text in
        let rest = next now.1 in
        subst (λ q. AreSame (Other q) (AloneBy false text)) (sym is) (record { texts = ap (λ t. now.0 ++ t) rest.texts; states = rest.states })

    one_line : (is_question text ≡ false → line_text skips m line ≡ text) → (is_question text ≡ false → (after : S) → AreSame (All (n + 1) k after lines) (Alone (m + 1) after others))
        → (is_question text ≡ true → AreSame (All (n + 1) (k + 1) state lines) (Alone m state others))
        → AreSame (All n k state (line ∷ lines)) (Alone m state (other_lines skips n (line ∷ lines)))
    one_line same other asked = by (length text == 0) refl (is_question text) refl
      where
        by : (empty : Bool) → (length text == 0) ≡ empty → (asks : Bool) → is_question text ≡ asks → AreSame (AllBy empty asks) (Alone m state (if asks then others else line ∷ others))
        by true e true q = absurd (never text e q)
        by true e false q =
            let rest = other q state in
            subst (λ r. AreSame (AllBy true false) r) (sym (alone_is (same q) true e)) (record { texts = rest.texts; states = rest.states })
        by false e true q = let rest = asked q in record { texts = rest.texts; states = rest.states }
        by false e false q = subst (λ r. AreSame (AllBy false false) r) (sym (alone_is (same q) false e)) (other_answered (other q) (n - k) own)

  -- ---- all lines
  -- behind the first that asks nothing
  later : (n k m : ℕ) (state : S) (lines : List (List ℕ)) → n ≡ m + k → 2 ≤ m → AreSame (All n k state lines) (Alone m state (other_lines skips n lines))
  later n k m state [] at two = record { texts = refl; states = refl }
  later n k m state (line ∷ lines) at two =
      one_line n k m state line lines at (λ other. same_text skips n m line (omega (arith, at, two)) two)
      (λ other after. later (n + 1) k (m + 1) after lines (omega (arith, at)) (omega (arith, two)))
      (λ asks. later (n + 1) (k + 1) m state lines (omega (arith, at)) two)

  -- from the first of all on
  pub first : (n k : ℕ) (state : S) (lines : List (List ℕ)) → n ≡ 1 + k → IsUnmarked skips n lines → AreSame (All n k state lines) (Alone 1 state (other_lines skips n lines))
  first n k state [] at unmarked = record { texts = refl; states = refl }
  first n k state (line ∷ lines) at unmarked =
      one_line n k 1 state line lines at unmarked.1
      (λ other after. later (n + 1) k 2 after lines (omega (arith, at)) (omega arith))
      (λ asks. first (n + 1) (k + 1) state lines (omega (arith, at)) (unmarked.0 asks))

  -- what is written is the text of all
  pub all_is : (number : ℕ) (state : AskedState S) (lines : List (List ℕ)) → (lines_output (asked_step ask step) skips number state lines).0 ≡ all_text (told_from ask step skips number state lines).0
  all_is number state [] = refl
  all_is number state (line ∷ lines) =
      let now = answer_to (asked_step ask step) number state (line_text skips number line) in
      ap (λ t. now.0 ++ t) (all_is (number + 1) now.1 lines)
