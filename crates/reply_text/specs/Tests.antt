-- The five tests over any kind of line: what is taken out of the value of a text, where the text is
-- its print.
use Rattle.std.specs.Prelude.{List, ℕ, Bool, Option, Some, None, Result, Ok, Err, option_map, option_and_then, codes, if◌then◌else◌}
use Rattle.std.specs.Str.{bytes_eq, is_utf8}
use Rattle.serde_json.specs.Data.{Data}
use Rattle.serde_json.specs.Read.{read}
use Rattle.limits.specs.declared.TheConstants.{MAX_LINES}
use Rattle.reply_print.specs.Look.{word_at}
use Rattle.reply_text.specs.declared.faults.LineFault.{LineFault}
use Rattle.reply_text.specs.declared.faults.LineFault.TheVariants.{NotJson, Shape, Number, Range, Spelling}
use Rattle.reply_text.specs.Taking.{natural_at}

-- of a kind of line: its shape, whether its texts are numbers, what is taken out where it is within
-- its ranges, and the print
pub record Tests (A : Type 0) : Type 0 where
  pub has_shape : Data → Bool
  pub has_numbers : Data → Bool
  pub taken : Data → Option A
  pub print : A → List ℕ

abbrev pub spelled_by : {A : Type 0} → Tests A → List ℕ → A → Result A LineFault
spelled_by tests text a = if bytes_eq (tests.print a) text then Ok a else Err Spelling

abbrev pub in_range_by : {A : Type 0} → Tests A → List ℕ → Option A → Result A LineFault
in_range_by tests text None = Err Range
in_range_by tests text (Some a) = spelled_by tests text a

-- the tests on the value of a text
abbrev pub value_by : {A : Type 0} → Tests A → List ℕ → Data → Result A LineFault
value_by tests text d =
    if tests.has_shape d then (if tests.has_numbers d then in_range_by tests text (tests.taken d) else Err Number) else Err Shape

abbrev pub json_of : List ℕ → Option Data
json_of text = if is_utf8 text then read text else None

abbrev pub json_by : {A : Type 0} → Tests A → List ℕ → Option Data → Result A LineFault
json_by tests text None = Err NotJson
json_by tests text (Some d) = value_by tests text d

-- what a text is read as, or the first test that it fails
abbrev pub read_by : {A : Type 0} → Tests A → List ℕ → Result A LineFault
read_by tests text = json_by tests text (json_of text)

-- ---- replies of a kind, each told on a numbered line

-- by the word of the reply: its shape, whether its texts are numbers, and what is taken out; and
-- the line that tells it
pub record ReplyTests (R : Type 0) : Type 0 where
  pub shape_by : List ℕ → Data → Bool
  pub numbers_by : List ℕ → Data → Bool
  pub reply_by : List ℕ → Data → Option R
  pub line : ℕ → R → List ℕ

-- what the word of the reply names
abbrev pub by_word : {A : Type 0} → (List ℕ → Data → A) → Data → A
by_word named d = named (word_at (codes "reply") d) d

-- the number of the line, and its reply
abbrev pub pair_by : {R : Type 0} → Data → Option R → Option (ℕ × R)
pair_by d taken = option_and_then (λ line. option_map (λ reply. (line, reply)) taken) (natural_at 1 MAX_LINES (codes "line") d)

-- the tests of their lines
abbrev pub tests_of : {R : Type 0} → ReplyTests R → Tests (ℕ × R)
tests_of kind = record {
  has_shape = by_word kind.shape_by;
  has_numbers = by_word kind.numbers_by;
  taken = λ d. pair_by d (by_word kind.reply_by d);
  print = λ pair. kind.line pair.0 pair.1;
}
