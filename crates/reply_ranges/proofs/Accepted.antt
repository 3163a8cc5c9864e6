-- What a run writes is a sound journal.
use Rattle.std.proofs.Common.{◌≡◌, ℕ, List, [], ◌∷◌, ◌++◌, map, get_or, refl, ap, ◌∙◌, append_assoc}
use Rattle.std.specs.List.{All}
use Rattle.std.proofs.lemmas.List.Elements.{All-map}
use Rattle.journal_check.specs.Findings.{reply_finding}
use Rattle.journal_check.specs.Laws.{IsSoundReply, journal_of}
use Rattle.journal_check.specs.Reports.{sound_report, report_of}
use Rattle.journal_check.proofs.Journals.{journals_are_counted}
use Rattle.journal_audit.proofs.Accepting.{run_sound}
use Rattle.reply_print.specs.declared.replies.Reply.{Reply}
use Rattle.reply_print.specs.ReplyPieces.{reply_line}
use Rattle.exchange_lines.specs.Replies.{Answer, answers, answers_text}
use Rattle.exchange_lines.proofs.Answered.{answers_are_judged_yes, output_is_answers}
use Rattle.reply_ranges.specs.Accepted.{IsInput, RunsAreAccepted}
use Rattle.reply_ranges.proofs.Texts.{certified}
use Rattle.reply_ranges.proofs.Within.{answers_are_within}

-- the line of an answer and its reply
abbrev told : Answer → ℕ × Reply
told answer = (answer.line, answer.reply)

text_is_journal : (all : List Answer) → answers_text all ≡ journal_of (map told all)
text_is_journal [] = refl
text_is_journal (answer ∷ more) =
    append_assoc (reply_line answer.line answer.reply) (10 ∷ []) (answers_text more)
    ∙ ap (λ l. reply_line answer.line answer.reply ++ 10 ∷ l) (text_is_journal more)

sound_answers : (input : List ℕ) → IsInput input → All (λ answer. IsSoundReply (told answer)) (answers input)
sound_answers input few k answer inside =
    let reply = (get_or (answers input) k answer).reply in
    record { within = answers_are_within input few k answer inside; sound = run_sound reply (certified reply (answers_are_judged_yes input k answer inside)) }

findings_told : (all : List Answer) → map (λ (pair : ℕ × Reply). reply_finding pair.1) (map told all) ≡ map (λ (answer : Answer). reply_finding answer.reply) all
findings_told [] = refl
findings_told (answer ∷ more) = ap (λ l. reply_finding answer.reply ∷ l) (findings_told more)

pub runs_are_accepted : RunsAreAccepted
runs_are_accepted input few =
    let all = answers input in
    ap report_of (output_is_answers input ∙ text_is_journal all)
    ∙ journals_are_counted (map told all) (All-map IsSoundReply told all (sound_answers input few))
    ∙ ap sound_report (findings_told all)
