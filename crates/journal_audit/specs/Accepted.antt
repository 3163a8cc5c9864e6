-- Lines that tell the reply to an accepted message, or to a question.
use Rattle.std.specs.Prelude.{ℕ, ◌-◌, ◌++◌, ◌∷◌, [], List, length, take, drop, Bool, false, ◌&&◌, ◌==◌, Option, Some, None, option_map, option_and_then, is_some, codes, decimal, if◌then◌else◌}
use Rattle.std.specs.Str.{bytes_eq}
use Rattle.serde_json.specs.Data.{Data}
use Rattle.serde_json.specs.Find.{as_object}
use Rattle.limits.specs.declared.TheConstants.{MAX_SESSION, MAX_MESSAGE}
use Rattle.session_gate.specs.Heads.{accepted_head}
use Rattle.reply_print.specs.Look.{has_members, has_at, is_whole, is_word}
use Rattle.reply_text.specs.Taking.{natural_at}

-- behind the reply
abbrev pub tail_text : ℕ → List ℕ
tail_text session = codes ",\"session\":" ++ (decimal session ++ codes "}")

-- the line of the reply to a message of this number in this session, without its line feed
abbrev pub accepted_line : ℕ → ℕ → List ℕ → List ℕ
accepted_line number session reply = accepted_head number ++ (reply ++ tail_text session)

-- behind the reply to a question
abbrev pub question_tail : ℕ → List ℕ
question_tail session = codes ",\"reply\":\"asked\",\"session\":" ++ (decimal session ++ codes "}")

-- the line of the reply to a question of this session, without its line feed
abbrev pub question_line : ℕ → List ℕ → List ℕ
question_line session reply = codes "{\"of\":" ++ (reply ++ question_tail session)

-- ---- as they are read

abbrev pub is_object : Data → Bool
is_object d = is_some (as_object d)

-- the value of such a line
abbrev pub is_accepted : Data → Bool
is_accepted d =
    has_members 3 d && (has_at (codes "number") is_whole d && (has_at (codes "of") is_object d && has_at (codes "session") is_whole d))

-- the value of one that tells the reply to a question
abbrev pub is_questioned : Data → Bool
is_questioned d =
    has_members 3 d && (has_at (codes "of") is_object d && (has_at (codes "reply") (is_word (codes "asked")) d && has_at (codes "session") is_whole d))

-- the numbers of the message and of its session, within their ranges
abbrev pub message_from : Data → Option (ℕ × ℕ)
message_from d =
    option_and_then (λ number. option_map (λ session. (number, session)) (natural_at 1 MAX_SESSION (codes "session") d)) (natural_at 1 MAX_MESSAGE (codes "number") d)

-- what stands before an end
abbrev pub before_end : List ℕ → List ℕ → Option (List ℕ)
before_end end text = if bytes_eq (drop (length text - length end) text) end then Some (take (length text - length end) text) else None

-- what stands between a front and an end
abbrev pub between : List ℕ → List ℕ → List ℕ → Option (List ℕ)
between front end text = if bytes_eq (take (length front) text) front then before_end end (drop (length front) text) else None

-- it begins and ends as an object does
abbrev pub is_braced : List ℕ → Bool
is_braced [] = false
is_braced (b ∷ bs) = (b == 123) && bytes_eq (drop (length bs - 1) bs) (125 ∷ [])

abbrev pub if_braced : List ℕ → Option (List ℕ)
if_braced text = if is_braced text then Some text else None

-- the text of the reply to a message, where the line is spelled as such a line is
abbrev pub reply_in : List ℕ → ℕ × ℕ → Option (List ℕ)
reply_in text message = option_and_then if_braced (between (accepted_head message.0) (tail_text message.1) text)

-- the text of the reply to a question of the session, likewise
abbrev pub question_in : List ℕ → ℕ → Option (List ℕ)
question_in text session = option_and_then if_braced (between (codes "{\"of\":") (question_tail session) text)
