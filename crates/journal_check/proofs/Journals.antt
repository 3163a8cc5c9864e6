-- The report on the journal of replies.
use Rattle.std.proofs.Common.{◌≡◌, ℕ, ◌+◌, List, [], ◌∷◌, ◌++◌, ◌==◌, map, None, refl, ap, ◌∙◌, arith}
use Rattle.std.specs.List.{All, slice_split}
use Rattle.std.proofs.lemmas.List.Elements.{All-head, All-tail}
use Rattle.std.proofs.lemmas.List.Splits.{slice_split_at, length-slice_split}
use Rattle.reply_print.specs.declared.replies.Reply.{Reply}
use Rattle.reply_print.specs.ReplyPieces.{reply_line}
use Rattle.reply_print.proofs.Ascii.{line_has_no_feed}
use Rattle.reply_text.proofs.RoundTrip.{reading-reply_line}
use Rattle.journal_check.specs.declared.findings.Finding.{Finding}
use Rattle.journal_check.specs.JournalLines.{lines_of, without_last_empty}
use Rattle.journal_check.specs.Findings.{finding_of, read_finding, reply_finding}
use Rattle.journal_check.specs.Reports.{fault_or, first_fault, report_on, report_with}
use Rattle.journal_check.specs.Laws.{IsSoundReply, JournalsAreCounted, journal_of}
use Rattle.journal_check.proofs.FirstLine.{more}

abbrev found : ℕ × Reply → Finding
found pair = reply_finding pair.1

line_found : (pair : ℕ × Reply) → IsSoundReply pair → finding_of (reply_line pair.0 pair.1) ≡ found pair
line_found pair h = ap read_finding (reading-reply_line pair.0 pair.1 h.within)

lines_found : (pairs : List (ℕ × Reply)) → All IsSoundReply pairs → map finding_of (lines_of (journal_of pairs)) ≡ map found pairs
lines_found [] h = refl
lines_found (pair ∷ pairs) h =
    let p = λ (b : ℕ). b == 10 in
    let first : IsSoundReply pair = All-head IsSoundReply pair pairs h in
    let line = reply_line pair.0 pair.1 in
    let rest = journal_of pairs in
    let parts : lines_of (line ++ 10 ∷ rest) ≡ line ∷ lines_of rest
    = ap without_last_empty (slice_split_at p line 10 rest (line_has_no_feed pair.0 pair.1 first.within) refl)
    ∙ more line (slice_split p rest) (omega (arith, length-slice_split p rest)) in
    let later = lines_found pairs (All-tail IsSoundReply pair pairs h) in
    ap (map finding_of) parts ∙ (λ i. line_found pair first i ∷ later i)

no_fault : (n : ℕ) (pairs : List (ℕ × Reply)) → All IsSoundReply pairs → first_fault n (map found pairs) ≡ None
no_fault n [] h = refl
no_fault n (pair ∷ pairs) h =
    ap (λ f. fault_or n f (first_fault (n + 1) (map found pairs))) (All-head IsSoundReply pair pairs h).sound
    ∙ no_fault (n + 1) pairs (All-tail IsSoundReply pair pairs h)

pub journals_are_counted : JournalsAreCounted
journals_are_counted pairs h = ap report_on (lines_found pairs h) ∙ ap (report_with (map found pairs)) (no_fault 1 pairs h)
