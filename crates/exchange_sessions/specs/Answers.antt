-- The answers of an exchange to an input, and what is written for it.
use Rattle.std.specs.Prelude.{ℕ, List}
use Rattle.session_lines.specs.Answers.{LineAnswer, answers_by, answers_text}
use Rattle.exchange_sessions.specs.Served.{exchange_reply}

-- the answers to an input
abbrev pub answers : List ℕ → List LineAnswer
answers input = answers_by exchange_reply input

-- what is written for an input
abbrev pub sessions_output : List ℕ → List ℕ
sessions_output input = answers_text (answers input)
