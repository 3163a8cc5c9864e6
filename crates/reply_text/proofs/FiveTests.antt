-- The tests over any kind of line: what passes them is within its ranges and spelled so, and what
-- is written passes them.
use Rattle.std.proofs.Common.{◌≡◌, List, ℕ, Bool, true, false, Option, Some, None, option_map, option_and_then, Result, Ok, Err, refl, sym, ap, ap₂, ◌∙◌, subst, arith, true≢false, if◌then◌else◌, codes}
use Rattle.std.specs.Str.{bytes_eq}
use Rattle.std.proofs.lemmas.Slice.Eq.{bytes_eq-Decides}
use Rattle.serde_json.specs.Data.{Data}
use Rattle.limits.specs.declared.TheConstants.{MAX_LINES}
use Rattle.reply_print.specs.Piece.{Piece, piece_text}
use Rattle.reply_print.specs.PieceData.{piece_data}
use Rattle.reply_print.specs.Within.{IsLine}
use Rattle.reply_print.specs.Written.{IsWritten}
use Rattle.reply_print.proofs.Ascii.{utf8-piece}
use Rattle.reply_print.proofs.PlainPieces.{HasPlainTexts}
use Rattle.reply_print.proofs.ReadBack.{read-piece}
use Rattle.reply_print.specs.Look.{word_at}
use Rattle.reply_text.specs.declared.faults.LineFault.{LineFault}
use Rattle.reply_text.specs.declared.faults.LineFault.TheVariants.{NotJson, Shape, Number, Range, Spelling, Memory}
use Rattle.reply_text.specs.Tests.{ReplyTests, Tests, in_range_by, json_by, json_of, read_by, spelled_by, tests_of, value_by}
use Rattle.reply_text.proofs.Sound.{Sound, after, mapped, natural_sound}

-- the text of a piece reads as its value
pub json_of-piece : (p : Piece) → HasPlainTexts p → IsWritten 6 p → json_of (piece_text p) ≡ Some (piece_data p)
json_of-piece p plain h = rw (utf8-piece 6 p h) (read-piece 6 p plain h (omega arith))

module _ {A : Type 0} (tests : Tests A) (text : List ℕ) where
  -- ---- one test after another
  module _ (d : Data) where
    pub not_shape : tests.has_shape d ≡ false → value_by tests text d ≡ Err Shape
    not_shape e = rw e refl

    pub not_number : tests.has_shape d ≡ true → tests.has_numbers d ≡ false → value_by tests text d ≡ Err Number
    not_number e f = rw (e, f) refl

    pub not_range : tests.has_shape d ≡ true → tests.has_numbers d ≡ true → tests.taken d ≡ None → value_by tests text d ≡ Err Range
    not_range e f g = rw (e, f) (ap (in_range_by tests text) g)

    pub spelled : (a : A) → tests.has_shape d ≡ true → tests.has_numbers d ≡ true → tests.taken d ≡ Some a → tests.print a ≡ text → value_by tests text d ≡ Ok a
    spelled a e f g h = rw (e, f) (ap (in_range_by tests text) g ∙ rw ((bytes_eq-Decides (tests.print a) text).1 h) refl)

    other_by : (b : Bool) (a : A) → bytes_eq (tests.print a) text ≡ b → (tests.print a ≡ text → ⊥) → spelled_by tests text a ≡ Err Spelling
    other_by true a e h = absurd (h ((bytes_eq-Decides (tests.print a) text).0 e))
    other_by false a e h = rw e refl

    pub not_spelled : (a : A) → tests.has_shape d ≡ true → tests.has_numbers d ≡ true → tests.taken d ≡ Some a → (tests.print a ≡ text → ⊥) → value_by tests text d ≡ Err Spelling
    not_spelled a e f g h = rw (e, f) (ap (in_range_by tests text) g ∙ other_by _ a refl h)

  -- ---- what passes
  module _ (IsWithin : A → Type 0) where
    abbrev pub Passes : Result A LineFault → Type 0
    Passes (Ok a) = IsWithin a × (text ≡ tests.print a)
    Passes (Err fault) = Unit {0}

    passes_spelled : (b : Bool) (a : A) → bytes_eq (tests.print a) text ≡ b → IsWithin a → Passes (spelled_by tests text a)
    passes_spelled true a e h = rw e (h, sym ((bytes_eq-Decides (tests.print a) text).0 e))
    passes_spelled false a e h = rw e tt

    passes_range : (o : Option A) → Sound IsWithin o → Passes (in_range_by tests text o)
    passes_range None h = tt
    passes_range (Some a) h = passes_spelled _ a refl h

    passes_value : (b c : Bool) (d : Data) → tests.has_shape d ≡ b → tests.has_numbers d ≡ c → Sound IsWithin (tests.taken d) → Passes (value_by tests text d)
    passes_value true true d e f h = rw (e, f) (passes_range (tests.taken d) h)
    passes_value true false d e f h = rw (e, f) tt
    passes_value false c d e f h = rw e tt

    passes_json : ((d : Data) → Sound IsWithin (tests.taken d)) → (o : Option Data) → Passes (json_by tests text o)
    passes_json sound None = tt
    passes_json sound (Some d) = passes_value _ _ d refl refl (sound d)

    pub passes : ((d : Data) → Sound IsWithin (tests.taken d)) → (a : A) → read_by tests text ≡ Ok a → IsWithin a × (text ≡ tests.print a)
    passes sound a e = subst Passes e (passes_json sound (json_of text))

-- ---- no text is read as want of memory

abbrev is_memory : {A : Type 0} → Result A LineFault → Bool
is_memory (Ok a) = false
is_memory (Err NotJson) = false
is_memory (Err Shape) = false
is_memory (Err Number) = false
is_memory (Err Range) = false
is_memory (Err Spelling) = false
is_memory (Err Memory) = true

module _ {A : Type 0} (tests : Tests A) (text : List ℕ) where
  is_spelled : (b : Bool) (a : A) → is_memory {A = A} (if b then Ok a else Err Spelling) ≡ false
  is_spelled true a = refl
  is_spelled false a = refl

  in_range : (o : Option A) → is_memory (in_range_by tests text o) ≡ false
  in_range None = refl
  in_range (Some a) = is_spelled (bytes_eq (tests.print a) text) a

  tested : (read : Result A LineFault) (shape numbers : Bool) → is_memory read ≡ false → is_memory (if shape then (if numbers then read else Err Number) else Err Shape) ≡ false
  tested read true true h = h
  tested read true false h = refl
  tested read false numbers h = refl

  value_read : (d : Data) → is_memory (value_by tests text d) ≡ false
  value_read d = tested (in_range_by tests text (tests.taken d)) (tests.has_shape d) (tests.has_numbers d) (in_range (tests.taken d))

  pub never_memory : (d : Data) → value_by tests text d ≡ Err Memory → ⊥
  never_memory d e = true≢false (sym (ap is_memory e) ∙ value_read d)

  json_read : (o : Option Data) → is_memory (json_by tests text o) ≡ false
  json_read None = refl
  json_read (Some d) = value_read d

  pub never_memory_in : read_by tests text ≡ Err Memory → ⊥
  never_memory_in e = true≢false (sym (ap is_memory e) ∙ json_read (json_of text))

-- ---- what is written

-- the value of a piece passes the tests before the last, and this is taken out of it
pub record IsTaken {A : Type 0} (tests : Tests A) (d : Data) (a : A) : Type 0 where
  pub shape : tests.has_shape d ≡ true
  pub numbers : tests.has_numbers d ≡ true
  pub taken : tests.taken d ≡ Some a

pub written_passes : {A : Type 0} (tests : Tests A) (a : A) (p : Piece) → tests.print a ≡ piece_text p → HasPlainTexts p → IsWritten 6 p → IsTaken tests (piece_data p) a
    → read_by tests (tests.print a) ≡ Ok a
written_passes tests a p print plain h t =
    ap (json_by tests (tests.print a)) (ap json_of print ∙ json_of-piece p plain h)
    ∙ spelled tests (tests.print a) (piece_data p) a t.shape t.numbers t.taken refl

-- ---- replies of a kind, each told on a numbered line

-- a pair from its parts
pub paired : {R : Type 0} (taken_line : Option ℕ) (taken : Option R) (line : ℕ) (reply : R) → taken_line ≡ Some line → taken ≡ Some reply
    → option_and_then {U = ℕ × R} (λ l. option_map {U = ℕ × R} (λ r. (l, r)) taken) taken_line ≡ Some (line, reply)
paired {R} taken_line taken line reply e f = ap₂ (λ a b. option_and_then {U = ℕ × R} (λ (l : ℕ). option_map {U = ℕ × R} (λ (r : R). (l, r)) b) a) e f

-- a number of a line, and a reply within its ranges
abbrev pub IsPairWithin : {R : Type 0} → (R → Type 0) → ℕ × R → Type 0
IsPairWithin IsReplyWithin pair = IsLine pair.0 × IsReplyWithin pair.1

-- what is taken out of a line is within its ranges, where each reply is
pub pair_sound : {R : Type 0} (kind : ReplyTests R) (IsReplyWithin : R → Type 0) → ((word : List ℕ) (d : Data) → Sound IsReplyWithin (kind.reply_by word d))
    → (d : Data) → Sound (IsPairWithin IsReplyWithin) ((tests_of kind).taken d)
pair_sound kind IsReplyWithin sound d =
    after IsLine (IsPairWithin IsReplyWithin) _ _ (natural_sound 1 MAX_LINES (codes "line") d)
    (λ line l. mapped IsReplyWithin (IsPairWithin IsReplyWithin) _ _ (sound (word_at (codes "reply") d) d) (λ reply r. (l, r)))
