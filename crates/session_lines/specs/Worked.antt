-- Worked rows: questions between messages.
use Rattle.std.specs.Prelude.{ℕ, ◌≡◌, List, [], ◌∷◌, ◌++◌, codes, decimal}
use Rattle.session_lines.specs.Questions.{BodyQuestion, asked_text, session_asks}
use Rattle.session_lines.specs.Sessions.{new_sessions}
use Rattle.session_lines.specs.Texts.{malformed_text}

-- what is told: the session, the number that the next body would have, and the body
abbrev pub told : BodyQuestion ℕ
told session number state body = session ∷ number ∷ (body ++ 10 ∷ [])

-- before any message, as the third line
abbrev pub asked : List ℕ → List ℕ
asked line = session_asks told 3 (new_sessions 0) line

pub record QuestionsByHand : Type 0 where
  pub text : asked_text 7 (codes "0") ≡ codes "{\"of\":0,\"reply\":\"asked\",\"session\":" ++ (decimal 7 ++ codes "}\n")
  pub of_session : asked (codes "7,balance,1") ≡ asked_text 7 (7 ∷ 1 ∷ codes "balance,1")
  pub commas : asked (codes "7,8,9") ≡ asked_text 7 (7 ∷ 1 ∷ codes "8,9")
  pub no_session : asked (codes "0,balance,1") ≡ malformed_text 3
  pub no_body : asked (codes "7") ≡ malformed_text 3
  pub empty_body : asked (codes "7,") ≡ malformed_text 3
  pub none : asked [] ≡ malformed_text 3
