-- An input whose lines are within the limits.
use Rattle.std.proofs.Common.{◌≡◌, ◌≤◌, ◌<◌, ◌⊎◌, ℕ, suc, ◌+◌, List, [], ◌∷◌, ◌++◌, Bool, true, false, ◌==◌, ◌&&◌, length, drop, refl, sym, ap, ◌∙◌, subst, inl, inr, arith, append_assoc, length-append, length-drop, if◌then◌else◌}
use Rattle.std.proofs.lemmas.Bool.{cases_Bool}
use Rattle.std.specs.Prelude.{nat_eq}
use Rattle.command_text.specs.Lines.{mark_size, without_last_empty}
use Rattle.command_text.proofs.LineParts.{cut, cut_feed, cut_other, cut_parts}
use Rattle.live_lines.specs.Answering.{Answering}
use Rattle.live_lines.specs.Open.{FitsLine, IsOneLine, Open, new_open}
use Rattle.limits.specs.declared.TheConstants.{MAX_BYTES, MAX_LINES}
use Rattle.live_lines.specs.Serving.{IsInputWithin}
use Rattle.live_lines.specs.Taken.{AreWithin, IsTooLong, Took, with_feeds}
use Rattle.live_lines.proofs.Cuts.{cut_front, cut_lines, cut_one}
use Rattle.live_lines.proofs.Takes.{within_append}

-- ---- it tells no line that is too long
within_part : (skips : Bool) (number : ℕ) (a b : List (List ℕ)) → AreWithin skips number (a ++ b) → AreWithin skips (number + length a) b
within_part skips number [] b w = let same : number ≡ number + 0 = omega arith in subst (λ n. AreWithin skips n b) same w
within_part skips number (line ∷ a) b w =
    let moved : number + 1 + length a ≡ number + suc (length a) = omega arith in
    subst (λ n. AreWithin skips n b) moved (within_part skips (number + 1) a b w.3)

without_append : (a : List (List ℕ)) (first : List ℕ) (rest : List (List ℕ)) → without_last_empty (a ++ first ∷ rest) ≡ a ++ without_last_empty (first ∷ rest)
without_append [] first rest = refl
without_append (line ∷ []) first rest = refl
without_append (line ∷ next ∷ a) first rest = ap (λ l. line ∷ l) (without_append (next ∷ a) first rest)

-- the first line of bytes that are not empty is a line
first_within : (skips : Bool) (number b : ℕ) (line : List ℕ) (rest : List (List ℕ)) → AreWithin skips number (without_last_empty ((b ∷ line) ∷ rest))
    → (number ≤ MAX_LINES) × FitsLine skips number (b ∷ line)
first_within skips number b line [] w = (w.0, w.2)
first_within skips number b line (next ∷ rest) w = (w.0, w.2)

number_within : (skips : Bool) (number : ℕ) (line : List ℕ) (rest : List (List ℕ)) → 0 < length line ⊎ (0 < length rest)
    → AreWithin skips number (without_last_empty (line ∷ rest)) → number ≤ MAX_LINES
number_within skips number [] [] some w = absurd (elim some [ inl lt ↦ omega arith | inr lt ↦ omega arith ])
number_within skips number [] (next ∷ rest) some w = w.0
number_within skips number (b ∷ line) rest some w = (first_within skips number b line rest w).0

first_fits : (skips : Bool) (number : ℕ) (line : List ℕ) (rest : List (List ℕ)) → 0 < length line → AreWithin skips number (without_last_empty (line ∷ rest))
    → FitsLine skips number line
first_fits skips number [] rest some w = absurd (omega arith)
first_fits skips number (b ∷ line) rest some w = (first_within skips number b line rest w).1

-- bytes that are not empty are cut to a line that is not, or to more than one
some_cut : (bytes : List ℕ) → 0 < length bytes
    → (first : List ℕ) × (rest : List (List ℕ)) × (cut bytes ≡ first ∷ rest) × ((0 < length first) ⊎ (0 < length rest))
some_cut [] lt = absurd (omega arith)
some_cut (b ∷ bytes) lt =
    let p = cut_parts bytes in
    elim (cases_Bool (nat_eq b 10)) [
      | inl feed ↦ ([], p.0 ∷ p.1, cut_feed b bytes feed ∙ ap (λ (l : List (List ℕ)). [] ∷ l) p.2, inr (omega arith))
      | inr other ↦ (b ∷ p.0, p.1, cut_other b bytes p.0 p.1 other p.2, inl (omega arith))
    ]

wider_if : (b : Bool) (line more : List ℕ) → MAX_BYTES < length (if b then drop (mark_size line) line else line)
    → MAX_BYTES < length (if b then drop (mark_size (line ++ more)) (line ++ more) else (line ++ more))
wider_if true [] more lt = absurd (omega arith)
wider_if true (a ∷ []) more lt = absurd (omega arith)
wider_if true (a ∷ b ∷ []) more lt = absurd (omega arith)
wider_if true (a ∷ b ∷ c ∷ line) more lt =
    let m : ℕ = mark_size (a ∷ b ∷ c ∷ line) in
    let size : length (drop m (a ∷ b ∷ c ∷ line)) ≤ length (drop m (a ∷ b ∷ c ∷ (line ++ more))) =
    omega (arith, length-drop m (a ∷ b ∷ c ∷ line), length-drop m (a ∷ b ∷ c ∷ (line ++ more)), length-append line more) in
    omega (arith, size, lt)
wider_if false line more lt = omega (arith, length-append line more)

shorter_if : (b : Bool) (n : ℕ) (line : List ℕ) → length (if b then drop n line else line) ≤ length line
shorter_if true n line = omega (arith, length-drop n line)
shorter_if false n line = omega arith

-- behind these lines
behind : (skips : Bool) (lines : List (List ℕ)) (bytes first : List ℕ) (rest : List (List ℕ)) → AreWithin skips 1 lines → cut bytes ≡ first ∷ rest
    → IsInputWithin skips (with_feeds lines ++ bytes)
    → AreWithin skips (1 + length lines) (without_last_empty (first ∷ rest))
behind skips lines bytes first rest within is all =
    let parts : without_last_empty (cut (with_feeds lines ++ bytes)) ≡ lines ++ without_last_empty (first ∷ rest) =
    ap without_last_empty (cut_lines skips 1 lines bytes within ∙ ap (λ l. lines ++ l) is) ∙ without_append lines first rest in
    within_part skips 1 lines (without_last_empty (first ∷ rest)) (subst (λ l. AreWithin skips 1 l) parts all)

pub tells_none : (skips : Bool) (lines : List (List ℕ)) (rest more : List ℕ) → AreWithin skips 1 lines → IsTooLong skips (1 + length lines) rest
    → IsInputWithin skips (with_feeds lines ++ (rest ++ more)) → ⊥
tells_none skips lines rest more within too_long all = elim too_long [
  | inl many ↦
      let some : 0 < length (rest ++ more) = omega (arith, many.1, length-append rest more) in
      let p = some_cut (rest ++ more) some in
      let few : 1 + length lines ≤ MAX_LINES = number_within skips (1 + length lines) p.0 p.1 p.3 (behind skips lines (rest ++ more) p.0 p.1 within p.2 all) in
      omega (arith, many.0, few)
  | inr long ↦
      let line = long.0 in
      let p = cut_parts (long.1 ++ more) in
      let number = 1 + length lines in
      let wide = long.4 in
      let same : cut (rest ++ more) ≡ (line ++ p.0) ∷ p.1 = ap (λ l. cut (l ++ more)) long.2 ∙ ap cut (append_assoc line long.1 more) ∙ cut_front line (long.1 ++ more) p.0 p.1 long.3 p.2 in
      let some : 0 < length (line ++ p.0) = omega (arith, length-append line p.0, wide, shorter_if (skips && (number == 1)) (mark_size line) line) in
      let fits : FitsLine skips number (line ++ p.0) = first_fits skips number (line ++ p.0) p.1 some (behind skips lines (rest ++ more) (line ++ p.0) p.1 within same all) in
      omega (arith, fits, wider_if (skips && (number == 1)) line p.0 wide)
]

-- ---- what was taken is within the limits
last_within : (skips : Bool) (number : ℕ) (rest : List ℕ) → IsOneLine rest → FitsLine skips number rest → (0 < length rest → number ≤ MAX_LINES)
    → AreWithin skips number (without_last_empty (rest ∷ []))
last_within skips number [] one fits few = tt
last_within skips number (b ∷ rest) one fits few = (few (omega arith), one, fits, tt)

pub took_within : {S : Type 0} (Answers : Answering S) (skips : Bool) (start state : S) (line : Open) (bytes text : List ℕ)
    → Took Answers start (new_open skips) state line bytes text → IsInputWithin skips bytes
took_within Answers skips start state line bytes text h =
    let number = 1 + length h.lines in
    let fits = subst (λ n. FitsLine skips n line.rest) h.count (subst (λ s. FitsLine s line.number line.rest) h.same h.open_within.1) in
    let last = last_within skips number line.rest h.open_within.0 fits (λ some. omega (arith, h.count, h.open_within.2 some)) in
    let parts : without_last_empty (cut bytes) ≡ h.lines ++ without_last_empty (line.rest ∷ []) =
    ap (λ b. without_last_empty (cut b)) h.split
    ∙ ap without_last_empty (cut_lines skips 1 h.lines line.rest h.within ∙ ap (λ l. h.lines ++ l) (cut_one line.rest h.open_within.0)) ∙ without_append h.lines line.rest [] in
    subst (λ l. AreWithin skips 1 l) (sym parts) (within_append skips 1 h.lines (without_last_empty (line.rest ∷ [])) h.within last)

-- ---- what tells a line past the limits is more than they are
feeds_size : (lines : List (List ℕ)) → length lines ≤ length (with_feeds lines)
feeds_size [] = omega arith
feeds_size (line ∷ lines) = omega (arith, feeds_size lines, length-append line (10 ∷ with_feeds lines))

pub more_than_limit : (skips : Bool) (lines : List (List ℕ)) (rest : List ℕ) → IsTooLong skips (1 + length lines) rest
    → MAX_BYTES + 1 ≤ length (with_feeds lines ++ rest)
more_than_limit skips lines rest too_long = elim too_long [
  | inl many ↦ omega (arith, many.0, many.1, feeds_size lines, length-append (with_feeds lines) rest)
  | inr long ↦
      omega (arith, long.4, shorter_if (skips && (1 + length lines == 1)) (mark_size long.0) long.0, ap length long.2, length-append long.0 long.1, length-append (with_feeds lines) rest)
]
