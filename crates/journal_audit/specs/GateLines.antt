-- The lines by which a gate refuses messages, as they are written and read.
use Rattle.std.specs.Prelude.{ℕ, ◌≡◌, ◌+◌, ⊤, List, Bool, true, ◌&&◌, ◌==◌, Option, Some, option_map, option_and_then, codes, if◌then◌else◌}
use Rattle.form.specs.Between.{Between}
use Rattle.serde_json.specs.Data.{Data}
use Rattle.limits.specs.declared.TheConstants.{MAX_SESSION, MAX_MESSAGE}
use Rattle.reply_print.specs.BatchPieces.{natural}
use Rattle.reply_print.specs.Piece.{Piece, words, object, Fields, no_fields, field, piece_text}
use Rattle.reply_print.specs.Within.{IsLine}
use Rattle.reply_print.specs.Look.{has_members, has_at, is_whole, is_word, number_at}
use Rattle.reply_text.specs.Taking.{natural_at}
use Rattle.reply_text.specs.Tests.{ReplyTests, Tests, tests_of}
use Rattle.journal_audit.specs.declared.gate_lines.GateLine.{GateLine}
use Rattle.journal_audit.specs.declared.gate_lines.GateLine.TheVariants.{Malformed, Sessions, Expecting}
use Rattle.journal_audit.specs.declared.gate_lines.Why.{Why}
use Rattle.journal_audit.specs.declared.gate_lines.Why.TheVariants.{Old, Ahead, Changed}

-- ---- as they are written

abbrev pub why_number : Why → ℕ
why_number Old = 16
why_number Ahead = 17
why_number Changed = 18

abbrev pub why_word : Why → List ℕ
why_word Old = codes "Old"
why_word Ahead = codes "Ahead"
why_word Changed = codes "Changed"

-- the part of each, before what is told of the session
abbrev pub refusal_fields : ℕ → ℕ → List ℕ → Fields → Fields
refusal_fields line number reason more =
    field (codes "line") (natural line)
    (field (codes "number") (natural number) (field (codes "reason") (words reason) (field (codes "reply") (words (codes "gate")) more)))

abbrev pub session_field : ℕ → Fields
session_field session = field (codes "session") (natural session) no_fields

abbrev pub gate_piece : ℕ → GateLine → Piece
gate_piece line Malformed = object (refusal_fields line 15 (codes "Malformed") no_fields)
gate_piece line (Sessions session) = object (refusal_fields line 19 (codes "Sessions") (session_field session))
gate_piece line (Expecting session expected why) =
    object (field (codes "expected") (natural expected) (refusal_fields line (why_number why) (why_word why) (session_field session)))

-- without its line feed
abbrev pub gate_line : ℕ → GateLine → List ℕ
gate_line line refused = piece_text (gate_piece line refused)

-- ---- their ranges

abbrev pub IsSessionNumber : ℕ → Type 0
IsSessionNumber session = Between 1 MAX_SESSION session

-- one more than a number of a message
abbrev pub IsExpected : ℕ → Type 0
IsExpected expected = Between 1 (MAX_MESSAGE + 1) expected

abbrev pub IsGateWithin : GateLine → Type 0
IsGateWithin Malformed = ⊤
IsGateWithin (Sessions session) = IsSessionNumber session
IsGateWithin (Expecting session expected why) = IsSessionNumber session × IsExpected expected

abbrev pub IsGateLineWithin : ℕ → GateLine → Type 0
IsGateLineWithin line refused = IsLine line × IsGateWithin refused

-- ---- as they are read

abbrev pub has_reason : List ℕ → Data → Bool
has_reason reason d = has_at (codes "line") is_whole d && has_at (codes "reason") (is_word reason) d

abbrev pub sessions_shape : Data → Bool
sessions_shape d = has_members 5 d && (has_reason (codes "Sessions") d && has_at (codes "session") is_whole d)

abbrev pub expecting_shape : List ℕ → Data → Bool
expecting_shape reason d =
    has_members 6 d && (has_reason reason d && (has_at (codes "expected") is_whole d && has_at (codes "session") is_whole d))

-- by the number of the refusal
abbrev pub gate_shape_by : ℕ → Data → Bool
gate_shape_by number d =
    if number == 15 then has_members 4 d && has_reason (codes "Malformed") d
    else if number == 16 then expecting_shape (codes "Old") d
    else if number == 17 then expecting_shape (codes "Ahead") d
    else if number == 18 then expecting_shape (codes "Changed") d
    else number == 19 && sessions_shape d

abbrev pub has_gate_shape : Data → Bool
has_gate_shape d = gate_shape_by (number_at (codes "number") d) d

abbrev pub session_at : Data → Option ℕ
session_at d = natural_at 1 MAX_SESSION (codes "session") d

abbrev pub expecting_from : Why → Data → Option GateLine
expecting_from why d =
    option_and_then (λ session. option_map (λ expected. Expecting session expected why) (natural_at 1 (MAX_MESSAGE + 1) (codes "expected") d)) (session_at d)

abbrev pub gate_by : ℕ → Data → Option GateLine
gate_by number d =
    if number == 15 then Some Malformed
    else if number == 16 then expecting_from Old d
    else if number == 17 then expecting_from Ahead d
    else if number == 18 then expecting_from Changed d
    else option_map Sessions (session_at d)

abbrev pub gate_from : Data → Option GateLine
gate_from d = gate_by (number_at (codes "number") d) d

-- all have one word, and no text of a number
abbrev pub gate_lines : ReplyTests GateLine
gate_lines = record {
  shape_by = λ word. has_gate_shape;
  numbers_by = λ word d. true;
  reply_by = λ word. gate_from;
  line = gate_line;
}

-- the tests of these lines
abbrev pub gate_tests : Tests (ℕ × GateLine)
gate_tests = tests_of gate_lines

-- the text is such a line, within its ranges
abbrev pub IsGateLineOf : List ℕ → ℕ → GateLine → Type 0
IsGateLineOf text line refused = IsGateLineWithin line refused × (text ≡ gate_line line refused)
