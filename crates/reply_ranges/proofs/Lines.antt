-- The numbers of the lines of an input rise, and are at most as many as its bytes; none is above the
-- limit where the input is within the limits.
use Rattle.std.proofs.Common.{◌≡◌, ℕ, zero, suc, ◌+◌, ◌<◌, ◌≤◌, List, [], ◌∷◌, ◌++◌, length, drop, map, Bool, true, false, ◌==◌, if◌then◌else◌, refl, ap, sym, subst, inl, inr, arith}
use Rattle.std.specs.Prelude.{nat_eq}
use Rattle.std.proofs.lemmas.Bool.{cases_Bool}
use Rattle.std.proofs.lemmas.List.{length-drop}
use Rattle.command_text.specs.declared.command.Line.{Line}
use Rattle.command_text.specs.declared.lines.RawLine.{RawLine}
use Rattle.command_text.specs.Lines.{commands_in, line_at, mark_size, pieces_of, raw_from, span, without_last_empty, without_return}
use Rattle.command_text.proofs.LineParts.{cut, cut_feed, cut_other, cut_parts, span_cut}
use Rattle.command_text.proofs.LinePlaces.{lines_are_at_their_places}
use Rattle.exchange_lines.specs.LineSteps.{InputLine, input_line, input_lines}
use Rattle.form.specs.Naturals.{is_empty}
use Rattle.limits.specs.declared.TheConstants.{MAX_LINES}
use Rattle.live_lines.specs.Serving.{IsInputWithin}
use Rattle.live_lines.specs.Taken.{AreWithin}

-- each number is above the one before it, and none above a bound
abbrev pub AreNumbered : {A : Type 0} → (A → ℕ) → ℕ → ℕ → List A → Type 0
AreNumbered number_of low high [] = Unit {0}
AreNumbered number_of low high (line ∷ lines) = (low < number_of line) × (number_of line ≤ high) × AreNumbered number_of (number_of line) high lines

module _ {A : Type 0} (number_of : A → ℕ) (made : RawLine → A) (is : (raw : RawLine) → number_of (made raw) ≡ raw.number) where
  later_numbered : (low next high : ℕ) (lines : List A) → low ≤ next → AreNumbered number_of next high lines → AreNumbered number_of low high lines
  later_numbered low next high [] le numbered = tt
  later_numbered low next high (line ∷ lines) le numbered = (omega (arith, le, numbered.0), numbered.1, numbered.2)

  pieces_numbered : (low high from : ℕ) (pieces : List (List ℕ)) → low + length pieces ≤ high → AreNumbered number_of low high (map made (raw_from (low + 1) from pieces))
  pieces_numbered low high from [] few = tt
  pieces_numbered low high from (piece ∷ pieces) few =
      let raw : RawLine = record { number = low + 1; from = from; to = from + length (without_return piece) } in
      let places : List RawLine = raw_from (low + 1 + 1) (from + length piece + 1) pieces in
      let rest = pieces_numbered (low + 1) high (from + length piece + 1) pieces (omega (arith, few)) in
      let same : number_of (made raw) ≡ low + 1 = is raw in
      elim (length (without_return piece) == 0) as (λ b. AreNumbered number_of low high (map made ((if b then [] else raw ∷ []) ++ places))) [
        | true ↦ later_numbered low (low + 1) high (map made places) (omega arith) rest
        | false ↦ (omega (arith, same), omega (arith, same, few), subst (λ n. AreNumbered number_of n high (map made places)) (sym same) rest)
      ]

-- ---- the lines of a run
abbrev pub line_number : Line → ℕ
line_number line = line.number

-- the last piece is no line where it is empty
some_line : (piece : List ℕ) (b : Bool) → is_empty piece ≡ b → length (if b then [] else piece ∷ []) + 1 ≤ length piece + 1
some_line piece true is = omega arith
some_line [] false is = cc
some_line (byte ∷ piece) false is = omega arith

lines_few : (piece : List ℕ) (pieces : List (List ℕ)) → length (without_last_empty (piece ∷ pieces)) + 1 ≤ span (piece ∷ pieces)
lines_few piece [] = omega (arith, some_line piece (is_empty piece) refl)
lines_few piece (next ∷ more) = omega (arith, lines_few next more)

pieces_few : (bytes : List ℕ) → length (pieces_of bytes) ≤ length bytes
pieces_few bytes =
    let rest = drop (mark_size bytes) bytes in
    let p = cut_parts rest in
    let few = lines_few p.0 p.1 in
    omega (arith, few, ap (λ l. length (without_last_empty l)) p.2, ap span p.2, span_cut rest, length-drop (mark_size bytes) bytes)

pub inputs_numbered : (bytes : List ℕ) → AreNumbered line_number 0 (length bytes) (commands_in bytes)
inputs_numbered bytes =
    subst (AreNumbered line_number 0 (length bytes)) (sym (lines_are_at_their_places bytes))
    (pieces_numbered line_number (line_at bytes) (λ raw. refl) 0 (length bytes) (mark_size bytes) (pieces_of bytes) (omega (arith, pieces_few bytes)))

-- ---- a mark that is skipped makes no further line
abbrev lines_in : List ℕ → List (List ℕ)
lines_in bytes = without_last_empty (cut bytes)

longer_first : (b : ℕ) (first : List ℕ) (rest : List (List ℕ)) → length (without_last_empty (first ∷ rest)) ≤ length (without_last_empty ((b ∷ first) ∷ rest))
longer_first b [] [] = omega arith
longer_first b (c ∷ first) [] = omega arith
longer_first b first (next ∷ more) = omega arith

one_less : (b : ℕ) (bytes : List ℕ) → length (lines_in bytes) ≤ length (lines_in (b ∷ bytes))
one_less b bytes =
    let p = cut_parts bytes in
    let now = ap (λ l. length (without_last_empty l)) p.2 in
    elim (cases_Bool (nat_eq b 10)) [
      | inl feed ↦
          let longer = ap (λ l. length (without_last_empty l)) (cut_feed b bytes feed) in
          let more = ap (λ l. length (without_last_empty ([] ∷ l))) p.2 in
          omega (arith, now, longer, more)
      | inr other ↦
          let longer = ap (λ l. length (without_last_empty l)) (cut_other b bytes p.0 p.1 other p.2) in
          omega (arith, now, longer, longer_first b p.0 p.1)
    ]

fewer : (n : ℕ) (bytes : List ℕ) → length (lines_in (drop n bytes)) ≤ length (lines_in bytes)
fewer zero bytes = omega arith
fewer (suc n) [] = omega arith
fewer (suc n) (b ∷ bytes) = omega (arith, fewer n bytes, one_less b bytes)

within_few : (skips : Bool) (number : ℕ) (lines : List (List ℕ)) → number ≤ MAX_LINES + 1 → AreWithin skips number lines → number + length lines ≤ MAX_LINES + 1
within_few skips number [] few within = omega (arith, few)
within_few skips number (line ∷ lines) few within =
    let here = within.0 in omega (arith, within_few skips (number + 1) lines (omega (arith, here)) within.3)

abbrev pub input_number : InputLine → ℕ
input_number line = line.number

pub inputs_counted : (input : List ℕ) → IsInputWithin true input → AreNumbered input_number 0 MAX_LINES (input_lines input)
inputs_counted input within =
    let mark = mark_size input in
    let few = within_few true 1 (lines_in input) (omega arith) within in
    pieces_numbered input_number (input_line input) (λ raw. refl) 0 MAX_LINES mark (pieces_of input) (omega (arith, few, fewer mark input))
