-- Bodies, one after another, are the lines of one input.
use Rattle.std.proofs.Common.{◌≡◌, ◌<◌, ◌==◌, ℕ, ◌+◌, ◌-◌, Bool, true, false, not, ◌&&◌, nat_eq, nat_le, List, [], ◌∷◌, ◌++◌, length, length-append, take, drop, All, if◌then◌else◌, refl, sym, ap, ap₂, ◌∙◌, append_assoc, arith}
use Rattle.std.specs.List.{list_any, slice_split, starts_with}
use Rattle.std.proofs.lemmas.Bool.{not-true, or_parts}
use Rattle.std.proofs.lemmas.Bool.Decides.{nat_tests}
use Rattle.std.proofs.lemmas.List.Elements.{All-nil, All-cons, All-head, All-tail}
use Rattle.std.proofs.lemmas.List.Splits.{slice_split_at}
use Rattle.command_text.specs.Fields.{begins_with_mark}
use Rattle.command_text.specs.Lines.{mark_size, without_return}
use Rattle.live_lines.specs.Open.{line_text}
use Rattle.live_lines.specs.Output.{answer_to, lines_output, output_of}
use Rattle.live_lines.proofs.Places.{no_answer, output_is}
use Rattle.session_gate.specs.Bodies.{is_body, byte_order_mark}
use Rattle.session_gate.specs.Runs.{Replies}
use Rattle.limits.specs.declared.TheConstants.{MAX_BYTES}
use Rattle.session_lines.specs.Laws.{as_input}
use Rattle.session_lines.specs.Served.{EndsLines, reply_by, state_after, without_feed}
use Rattle.session_lines.proofs.Served.{last_reply-push, state_after-push}

-- ---- what is said of a body

abbrev pub IsBody : List ℕ → Type 0
IsBody body = is_body body ≡ true

record Five (a b c d e : Bool) : Type 0 where
  first : a ≡ true
  second : b ≡ true
  third : c ≡ true
  fourth : d ≡ true
  fifth : e ≡ true

five : (a b c d e : Bool) → (a && b && c && d && e) ≡ true → Five a b c d e
five true true true true true h = record { first = refl; second = refl; third = refl; fourth = refl; fifth = refl }
five false b c d e h = cc
five true false c d e h = cc
five true true false d e h = cc
five true true true false e h = cc
five true true true true false h = cc

none_of : (test : ℕ → Bool) (bytes : List ℕ) → list_any test bytes ≡ false → All (λ b. test b ≡ false) bytes
none_of test [] h = All-nil (λ b. test b ≡ false)
none_of test (b ∷ bytes) h =
    let both = or_parts (test b) (list_any test bytes) h in
    All-cons (λ c. test c ≡ false) b bytes both.0 (none_of test bytes both.1)

module _ (body : List ℕ) (is : IsBody body) where
  parts : Five (not (length body == 0)) (nat_le (length body) MAX_BYTES) (not (list_any (λ byte. nat_eq byte 13) body)) (not (list_any (λ byte. nat_eq byte 10) body))
      (not (starts_with nat_eq body byte_order_mark))
  parts = five _ _ _ _ _ is

  pub some : (length body == 0) ≡ false
  some = not-true _ parts.first

  no_return : All (λ b. (b == 13) ≡ false) body
  no_return = none_of (λ byte. nat_eq byte 13) body (not-true _ parts.third)

  no_feed : All (λ b. (b == 10) ≡ false) body
  no_feed = none_of (λ byte. nat_eq byte 10) body (not-true _ parts.fourth)

  pub no_mark : starts_with nat_eq body byte_order_mark ≡ false
  no_mark = not-true _ parts.fifth

  pub longer : 0 < length body
  longer = let e = some in grind (arith, nat_tests)

  pub whole : without_return body ≡ body
  whole = ap (λ b. if b then take (length body - 1) body else body) (no_return (length body - 1) 0 (omega (arith, longer)))

-- no mark is skipped in front of it
not_marked : (body : List ℕ) → starts_with nat_eq body byte_order_mark ≡ false → begins_with_mark body ≡ false
not_marked [] none = refl
not_marked (a ∷ []) none = refl
not_marked (a ∷ b ∷ []) none = refl
not_marked (a ∷ b ∷ c ∷ body) none = grind (arith, nat_tests)

body_text : (skips : Bool) (number : ℕ) (body : List ℕ) → IsBody body → line_text skips number body ≡ body
body_text skips number body is = ap without_return (bare (skips && (number == 1))) ∙ whole body is
  where
    bare : (b : Bool) → (if b then drop (mark_size body) body else body) ≡ body
    bare true = ap (λ b. drop (if b then 3 else 0) body) (not_marked body (no_mark body is))
    bare false = refl

-- ---- the lines of such an input

pub split_input : (bodies : List (List ℕ)) → All IsBody bodies → slice_split (λ b. b == 10) (as_input bodies) ≡ bodies ++ [] ∷ []
split_input [] are = refl
split_input (body ∷ bodies) are =
    slice_split_at (λ b. b == 10) body 10 (as_input bodies) (no_feed body (All-head IsBody body bodies are)) refl
    ∙ ap (λ (l : List (List ℕ)). body ∷ l) (split_input bodies (All-tail IsBody body bodies are))

-- ---- the replies to them

-- the replies to bodies behind those that were taken before, each with a line feed
abbrev pub replies_of : Replies → List (List ℕ) → List (List ℕ) → List ℕ
replies_of reply before [] = []
replies_of reply before (body ∷ bodies) = reply (before ++ body ∷ []) ++ 10 ∷ replies_of reply (before ++ body ∷ []) bodies

module _ {S : Type 0} (step : ℕ → S → List ℕ → List ℕ × S) (skips : Bool) where
  -- a body is answered as it stands
  pub body_answered : (number : ℕ) (state : S) (body : List ℕ) → IsBody body → answer_to step number state (line_text skips number body) ≡ step number state body
  body_answered number state body is =
      ap (answer_to step number state) (body_text skips number body is) ∙ ap (λ (b : Bool). if b then ([], state) else step number state body) (some body is)

  module _ (start : S) (ends : EndsLines step) where
    of_one_run : (before bodies : List (List ℕ)) → All IsBody bodies
        → replies_of (reply_by step start) before bodies ≡ (lines_output step skips (1 + length before) (state_after step 1 start before) (bodies ++ [] ∷ [])).0
    of_one_run before [] are = sym (ap (λ (r : List ℕ × S). r.0 ++ []) (no_answer step skips (1 + length before) (state_after step 1 start before)))
    of_one_run before (body ∷ bodies) are =
        let state = state_after step 1 start before in
        let number = 1 + length before in
        let now = step number state body in
        let turned : 1 + length (before ++ body ∷ []) ≡ number + 1 = omega (arith, length-append before (body ∷ [])) in
        let rest = of_one_run (before ++ body ∷ []) bodies (All-tail IsBody body bodies are) ∙ (λ i. (lines_output step skips (turned i) (state_after-push step 1 start before body i) (bodies ++ [] ∷ [])).0) in
        let more = (lines_output step skips (number + 1) now.1 (bodies ++ [] ∷ [])).0 in
        ap₂ (λ (t r : List ℕ). t ++ 10 ∷ r) (last_reply-push step 1 start before body) rest
        ∙ sym (append_assoc (without_feed now.0) (10 ∷ []) more) ∙ ap (λ t. t ++ more) (sym (ends number state body))
        ∙ sym (ap (λ (r : List ℕ × S). r.0 ++ (lines_output step skips (number + 1) r.1 (bodies ++ [] ∷ [])).0) (body_answered number state body (All-head IsBody body bodies are)))

    pub output_is_replies : (bodies : List (List ℕ)) → All IsBody bodies → replies_of (reply_by step start) [] bodies ≡ output_of step skips start (as_input bodies)
    output_is_replies bodies are =
        of_one_run [] bodies are ∙ ap (λ (l : List (List ℕ)). (lines_output step skips 1 start l).0) (sym (split_input bodies are)) ∙ sym (output_is step skips start (as_input bodies))
