-- What is found of a line says what the line is.
use Rattle.std.proofs.Common.{◌≡◌, ℕ, List, Ok, Err, refl}
use Rattle.frac.specs.Range.{limit}
use Rattle.form.specs.declared.orders.Batch.{Batch}
use Rattle.cert_check.specs.declared.outcome.FailedCondition.{FailedCondition}
use Rattle.cert_check.specs.declared.outcome.FailedCondition.TheVariants as no
use Rattle.cert_check.specs.declared.outcome.Verdict.{Verdict}
use Rattle.cert_check.specs.declared.outcome.Verdict.TheVariants as judgement
use Rattle.cert_check.specs.declared.outcome.Outcome.{Outcome}
use Rattle.cert_check.specs.Conditions.{IsFirstUnmet}
use Rattle.cert_check.specs.Events.{verdict_of}
use Rattle.cert_check.proofs.Yes.{said, yes_covers, yes_has_its_measure, yes_on_optimal_proves}
use Rattle.reply_print.specs.declared.replies.Reply.{Reply}
use Rattle.reply_print.specs.declared.replies.Reply.TheVariants.{Opened, Deposited, Withdrawn, Listed, Placed, Cancelled, Cleared as ClearedReply, Settled, Balance, Refused}
use Rattle.reply_text.specs.declared.faults.LineFault.TheVariants as fault
use Rattle.reply_text.specs.Reading.{LineRead, reading, IsLineOf, run_tests}
use Rattle.reply_text.proofs.FiveTests.{never_memory_in}
use Rattle.reply_text.proofs.RoundTrip.{reading_spells}
use Rattle.journal_check.specs.declared.findings.Finding.{Finding}
use Rattle.journal_check.specs.declared.findings.Finding.TheVariants.{Plain, Cleared, Bounded, Faulty}
use Rattle.journal_check.specs.declared.reports.Reason.{Reason}
use Rattle.journal_check.specs.Findings.{finding_of, read_finding, reply_finding, cleared_finding, no_reason, is_batch, is_bounded, is_marked, is_optimal}
use Rattle.journal_check.specs.Laws.{Counts, HasReason, IfCleared, IsCertified, IsClearedLine, IsSoundLineOf, clears, clears_bounded, clears_optimal, reply_counts}

-- a sound line of a reply, which counts as what is found
pub record IsCountedBy {R : Type 0} (IsLine : List ℕ → R → Type 0) (counts : Counts R) (text : List ℕ) (finding : Finding) : Type 0 where
  pub reply : R
  pub is_line : IsLine text reply
  pub batch : counts.batch reply ≡ is_batch finding
  pub bounded : counts.bounded reply ≡ is_bounded finding
  pub optimal : counts.optimal reply ≡ is_optimal finding

-- what is found of a line says what it is, where lines are of any kind
abbrev pub FindingSaysBy : {R : Type 0} → (List ℕ → R → Type 0) → Counts R → (List ℕ → Reason → Type 0) → List ℕ → Finding → Type 0
FindingSaysBy IsLine counts Fails text (Faulty reason) = Fails text reason
FindingSaysBy IsLine counts Fails text (Cleared optimal) = IsCountedBy IsLine counts text (Cleared optimal)
FindingSaysBy IsLine counts Fails text Bounded = IsCountedBy IsLine counts text Bounded
FindingSaysBy IsLine counts Fails text Plain = IsCountedBy IsLine counts text Plain

abbrev pub FindingSays : List ℕ → Finding → Type 0
FindingSays = FindingSaysBy IsSoundLineOf reply_counts HasReason

-- ---- what is found

counted : (text : List ℕ) (finding : Finding) (line : ℕ) (reply : Reply) → IsLineOf text line reply → IfCleared reply IsCertified
    → clears reply ≡ is_batch finding → clears_bounded reply ≡ is_bounded finding → clears_optimal reply ≡ is_optimal finding → IsCountedBy IsSoundLineOf reply_counts text finding
counted text finding line reply h certified batch bounded optimal = record {
  reply = reply;
  is_line = record { line = line; is_line = h; certified = certified };
  batch = batch;
  bounded = bounded;
  optimal = optimal;
}

cleared_line : {P : Batch → Outcome → Type 0} (text : List ℕ) (line number market : ℕ) (batch : Batch) (outcome : Outcome)
    → IsLineOf text line (ClearedReply number market batch outcome) → P batch outcome → IsClearedLine text P
cleared_line text line number market batch outcome h has =
    record { line = line; number = number; market = market; batch = batch; outcome = outcome; is_line = h; has = has }

unmet : (text : List ℕ) (line number market : ℕ) (batch : Batch) (outcome : Outcome) (condition : FailedCondition) → IsLineOf text line (ClearedReply number market batch outcome)
    → IsFirstUnmet batch outcome condition → HasReason text (no_reason condition)
unmet text line number market batch outcome no.BatchShape h f = cleared_line text line number market batch outcome h f
unmet text line number market batch outcome no.Fill h f = cleared_line text line number market batch outcome h f
unmet text line number market batch outcome no.Cover h f = cleared_line text line number market batch outcome h f
unmet text line number market batch outcome no.Measure h f = cleared_line text line number market batch outcome h f
unmet text line number market batch outcome no.Bound h f = cleared_line text line number market batch outcome h f

judged : (text : List ℕ) (line number market : ℕ) (batch : Batch) (outcome : Outcome) (j : Verdict) → IsLineOf text line (ClearedReply number market batch outcome)
    → verdict_of limit batch outcome ≡ j → FindingSays text (cleared_finding j outcome.mark)
judged text line number market batch outcome judgement.Yes h e =
    counted text (Cleared (is_marked outcome.mark)) line (ClearedReply number market batch outcome) h
    (record {
      yes = e;
      covered = yes_covers batch outcome e;
      proved = yes_on_optimal_proves batch outcome e;
      measured = yes_has_its_measure batch outcome e;
    })
    refl refl refl
judged text line number market batch outcome (judgement.No condition) h e =
    unmet text line number market batch outcome condition h (said batch outcome (judgement.No condition) e).1
judged text line number market batch outcome (judgement.Wide w) h e = cleared_line text line number market batch outcome h (w, e)

sound : (text : List ℕ) (line : ℕ) (r : Reply) → IsLineOf text line r → FindingSays text (reply_finding r)
sound text line (Opened account) h = counted text Plain line (Opened account) h tt refl refl refl
sound text line (Deposited account balance) h = counted text Plain line (Deposited account balance) h tt refl refl refl
sound text line (Withdrawn account balance) h = counted text Plain line (Withdrawn account balance) h tt refl refl refl
sound text line (Listed market underlyings) h = counted text Plain line (Listed market underlyings) h tt refl refl refl
sound text line (Placed order) h = counted text Plain line (Placed order) h tt refl refl refl
sound text line (Cancelled order) h = counted text Plain line (Cancelled order) h tt refl refl refl
sound text line (ClearedReply number market batch outcome) h = judged text line number market batch outcome (verdict_of limit batch outcome) h refl
sound text line (Settled market lapsed payouts) h = counted text Plain line (Settled market lapsed payouts) h tt refl refl refl
sound text line (Balance account balance reserved) h = counted text Plain line (Balance account balance reserved) h tt refl refl refl
sound text line (Refused number field) h = counted text Plain line (Refused number field) h tt refl refl refl

found : (text : List ℕ) (read : LineRead) → reading text ≡ read → FindingSays text (read_finding read)
found text (Ok pair) e = sound text pair.0 pair.1 (reading_spells text pair.0 pair.1 e)
found text (Err fault.NotJson) e = e
found text (Err fault.Shape) e = e
found text (Err fault.Number) e = e
found text (Err fault.Range) e = e
found text (Err fault.Spelling) e = e
found text (Err fault.Memory) e = absurd (never_memory_in run_tests text e)

pub line_says : (text : List ℕ) → FindingSays text (finding_of text)
line_says text = found text (reading text) refl
