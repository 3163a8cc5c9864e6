-- The text of an answer: a compact JSON object, keys in byte order.
use Rattle.std.specs.Prelude.{ℕ, List, ◌++◌, Option, None, Some, unwrap_or, codes, decimal}
use Rattle.session_gate.specs.declared.answer.Answer.{Answer}
use Rattle.session_gate.specs.declared.answer.Answer.TheVariants.{First, Repeat, Old, Ahead, Changed, Sessions}
use Rattle.session_gate.specs.Gate.{Message}
pub use Rattle.session_gate.specs.Heads.{accepted_head}

-- an accepted message, behind the reply
abbrev pub accepted_tail : ℕ → List ℕ
accepted_tail session = codes ",\"session\":" ++ (decimal session ++ codes "}\n")

abbrev pub accepted_text : ℕ → ℕ → List ℕ → List ℕ
accepted_text session number reply = accepted_head number ++ (reply ++ accepted_tail session)

-- the part of each refusal
abbrev pub refusal_text : ℕ → ℕ → List ℕ → List ℕ
refusal_text line number reason =
    codes "\"line\":" ++ (decimal line ++ (codes ",\"number\":" ++ (decimal number ++ (codes ",\"reason\":\"" ++ (reason ++ codes "\",\"reply\":\"gate\"")))))

-- a line that is no message
abbrev pub malformed_text : ℕ → List ℕ
malformed_text line = codes "{" ++ (refusal_text line 15 (codes "Malformed") ++ codes "}\n")

-- a message that would make one session too many
abbrev pub sessions_text : ℕ → ℕ → List ℕ
sessions_text line session = codes "{" ++ (refusal_text line 19 (codes "Sessions") ++ accepted_tail session)

-- a message whose session goes on with another number
abbrev pub expecting_text : ℕ → ℕ → ℕ → ℕ → List ℕ → List ℕ
expecting_text line session expected number reason =
    codes "{\"expected\":" ++ (decimal expected ++ (codes "," ++ (refusal_text line number reason ++ accepted_tail session)))

-- the line that refuses a message; none where it is accepted
abbrev pub refused_text : ℕ → Message → Answer → Option (List ℕ)
refused_text line message First = None
refused_text line message Repeat = None
refused_text line message (Old expected) = Some (expecting_text line message.session expected 16 (codes "Old"))
refused_text line message (Ahead expected) = Some (expecting_text line message.session expected 17 (codes "Ahead"))
refused_text line message (Changed expected) = Some (expecting_text line message.session expected 18 (codes "Changed"))
refused_text line message Sessions = Some (sessions_text line message.session)

-- the line that tells an answer to a message, with its line feed; the reply is the one that is kept
abbrev pub answer_text : ℕ → Message → Answer → List ℕ → List ℕ
answer_text line message answer reply = unwrap_or (refused_text line message answer) (accepted_text message.session message.number reply)
