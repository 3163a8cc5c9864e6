-- A line of `serve` that is not found faulty is a sound one.
use Rattle.std.proofs.Common.{◌≡◌, ℕ, List, Bool, true, false, Option, Some, None, Result, Ok, Err, codes, refl, sym, ap, ◌∙◌, subst, if◌then◌else◌}
use Rattle.frac.specs.Range.{limit}
use Rattle.frac.specs.Value.{fraction_of}
use Rattle.form.specs.declared.orders.Batch.{Batch}
use Rattle.cert_check.specs.declared.outcome.Verdict.{Verdict}
use Rattle.cert_check.specs.declared.outcome.Verdict.TheVariants as judgement
use Rattle.proposal_check.specs.Proposals.{bounded_verdict_of}
use Rattle.proposal_check.proofs.Proposals.{bounded_shows}
use Rattle.serde_json.specs.Data.{Data}
use Rattle.reply_print.specs.Look.{word_at}
use Rattle.reply_text.specs.declared.faults.LineFault.{LineFault}
use Rattle.reply_text.specs.declared.faults.LineFault.TheVariants.{NotJson, Shape, Number, Range, Spelling, Memory}
use Rattle.reply_text.specs.Reading.{LineRead, reading, run_tests}
use Rattle.reply_text.specs.Tests.{Tests, json_by, json_of, read_by, value_by}
use Rattle.reply_text.proofs.FiveTests.{never_memory, never_memory_in}
use Rattle.proposal_text.specs.declared.replies.BoundedOutcome.{BoundedOutcome}
use Rattle.proposal_text.specs.declared.replies.ProposalReply.{ProposalReply}
use Rattle.proposal_text.specs.declared.replies.ProposalReply.TheVariants.{Book, Positions, Proposed, Bounded as BoundedReply, Stale, Unproved, Closed, Reopened, MarketIsClosed, MarketIsOpen, Secured, Needs, Uncovered, Quoted, Priced, Margin, Tried, Barred}
use Rattle.proposal_text.specs.declared.replies.ServedReply.TheVariants as answered
use Rattle.proposal_text.specs.ReplyValues.{IsProposalLineOf, proposal_tests}
use Rattle.proposal_text.proofs.ReadExactly.{line_of}
use Rattle.journal_check.specs.declared.findings.Finding.{Finding}
use Rattle.journal_check.specs.declared.findings.Finding.TheVariants.{Plain, Cleared, Bounded, Faulty}
use Rattle.journal_check.specs.Findings.{bounded_finding, fault_finding, finding_of, read_finding, reply_finding}
use Rattle.journal_check.specs.Laws.{IsSoundLineOf, reply_counts}
use Rattle.journal_check.proofs.LineSays.{FindingSays, IsCountedBy, line_says}
use Rattle.journal_audit.specs.Findings.{beside, proposal_finding, proposal_found, served_finding, tells_proposal, told_finding, value_finding}
use Rattle.journal_audit.specs.Laws.{IfBounded, IsServedLineOf, is_bounded, served_counts}

-- where the line is not found faulty
abbrev pub IfSound : Finding → Type 0 → Type 0
IfSound (Faulty reason) P = Unit {0}
IfSound (Cleared optimal) P = P
IfSound Bounded P = P
IfSound Plain P = P

pub sounder : {P Q : Type 0} (f : Finding) → (P → Q) → IfSound f P → IfSound f Q
sounder (Faulty reason) step h = tt
sounder (Cleared optimal) step h = step h
sounder Bounded step h = step h
sounder Plain step h = step h

pub fault_sound : (P : Type 0) (f : LineFault) → (f ≡ Memory → ⊥) → IfSound (fault_finding f) P
fault_sound P NotJson some = tt
fault_sound P Shape some = tt
fault_sound P Number some = tt
fault_sound P Range some = tt
fault_sound P Spelling some = tt
fault_sound P Memory some = absurd (some refl)

-- a sound line of `serve`, which counts as what is found
abbrev pub IsServedAs : List ℕ → Finding → Type 0
IsServedAs = IsCountedBy IsServedLineOf served_counts

abbrev pub IsSoundAs : List ℕ → Finding → Type 0
IsSoundAs text f = IfSound f (IsServedAs text f)

fault_served : (text : List ℕ) (f : LineFault) → (f ≡ Memory → ⊥) → IsSoundAs text (fault_finding f)
fault_served text f some = fault_sound (IsServedAs text (fault_finding f)) f some

-- ---- lines of a run

run_told : (text : List ℕ) (f : Finding) → IsCountedBy IsSoundLineOf reply_counts text f → IsServedAs text f
run_told text f h = record { reply = answered.Plain h.reply; is_line = h.is_line; batch = h.batch; bounded = h.bounded; optimal = h.optimal }

run_says : (text : List ℕ) (f : Finding) → FindingSays text f → IsSoundAs text f
run_says text (Faulty reason) h = tt
run_says text (Cleared optimal) h = run_told text (Cleared optimal) h
run_says text Bounded h = run_told text Bounded h
run_says text Plain h = run_told text Plain h

pub run_sound : (text : List ℕ) (f : Finding) → finding_of text ≡ f → IsSoundAs text f
run_sound text f e = run_says text f (subst (FindingSays text) e (line_says text))

-- ---- lines beside those of a run

-- by the value of the text
pub read_value : {A : Type 0} (tests : Tests A) (text : List ℕ) (d : Data) → json_of text ≡ Some d → read_by tests text ≡ value_by tests text d
read_value tests text d e = ap (json_by tests text) e

judged : (text : List ℕ) (line number market : ℕ) (batch : Batch) (outcome : BoundedOutcome) (j : Verdict) → j ≡ bounded_verdict_of limit batch outcome.proposal (fraction_of outcome.bound)
    → IsProposalLineOf text line (BoundedReply number market batch outcome) → IsSoundAs text (bounded_finding j)
judged text line number market batch outcome judgement.Yes e h =
    let shows = (bounded_shows batch outcome.proposal outcome.bound judgement.Yes e).0 in
    record {
      reply = answered.Told (BoundedReply number market batch outcome);
      is_line = record {
        line = line;
        is_line = h;
        proved = record { yes = sym e; covered = shows.covered; measured = shows.measured; bounds = shows.bounds };
      };
      batch = refl;
      bounded = refl;
      optimal = refl;
    }
judged text line number market batch outcome (judgement.No condition) e h = tt
judged text line number market batch outcome (judgement.Wide w) e h = tt

told_plain : (text : List ℕ) (line : ℕ) (reply : ProposalReply) → IsProposalLineOf text line reply → IfBounded reply → is_bounded reply ≡ false → IsServedAs text Plain
told_plain text line reply h proved none =
    record { reply = answered.Told reply; is_line = record { line = line; is_line = h; proved = proved }; batch = none; bounded = none; optimal = refl }

proposal_says : (text : List ℕ) (line : ℕ) (reply : ProposalReply) → IsProposalLineOf text line reply → IsSoundAs text (proposal_finding reply)
proposal_says text line (Book market batch) h = told_plain text line (Book market batch) h tt refl
proposal_says text line (Positions account market positions) h = told_plain text line (Positions account market positions) h tt refl
proposal_says text line (Proposed market surplus bound best_surplus least_bound) h = told_plain text line (Proposed market surplus bound best_surplus least_bound) h tt refl
proposal_says text line (BoundedReply number market batch outcome) h =
    judged text line number market batch outcome (bounded_verdict_of limit batch outcome.proposal (fraction_of outcome.bound)) refl h
proposal_says text line Stale h = told_plain text line Stale h tt refl
proposal_says text line (Unproved f) h = told_plain text line (Unproved f) h tt refl
proposal_says text line (Closed market orders) h = told_plain text line (Closed market orders) h tt refl
proposal_says text line (Reopened market) h = told_plain text line (Reopened market) h tt refl
proposal_says text line MarketIsClosed h = told_plain text line MarketIsClosed h tt refl
proposal_says text line MarketIsOpen h = told_plain text line MarketIsOpen h tt refl
proposal_says text line (Secured account amount) h = told_plain text line (Secured account amount) h tt refl
proposal_says text line (Needs needed) h = told_plain text line (Needs needed) h tt refl
proposal_says text line (Uncovered need) h = told_plain text line (Uncovered need) h tt refl
proposal_says text line (Quoted market bid ask) h = told_plain text line (Quoted market bid ask) h tt refl
proposal_says text line (Priced market quantity ask bid) h = told_plain text line (Priced market quantity ask bid) h tt refl
proposal_says text line (Margin account market margin) h = told_plain text line (Margin account market margin) h tt refl
proposal_says text line (Tried market trial) h = told_plain text line (Tried market trial) h tt refl
proposal_says text line (Barred bar) h = told_plain text line (Barred bar) h tt refl

module _ (text : List ℕ) (d : Data) (json : json_of text ≡ Some d) where
  proposal_read : (r : Result (ℕ × ProposalReply) LineFault) → value_by proposal_tests text d ≡ r → IsSoundAs text (proposal_found r)
  proposal_read (Ok pair) e = proposal_says text pair.0 pair.1 (line_of text pair.0 pair.1 (read_value proposal_tests text d json ∙ e))
  proposal_read (Err f) e = fault_served text f (λ memory. never_memory proposal_tests text d (e ∙ ap Err memory))

  by_tests : (tells : Bool) (f : LineFault) → (f ≡ Memory → ⊥)
      → IsSoundAs text (if tells then proposal_found (value_by proposal_tests text d) else fault_finding f)
  by_tests true f some = proposal_read (value_by proposal_tests text d) refl
  by_tests false f some = fault_served text f some

  pub value_sound : (f : LineFault) (word : List ℕ) → (f ≡ Memory → ⊥) → IsSoundAs text (value_finding text f word d)
  value_sound f word some = by_tests (tells_proposal word d) f some

beside_sound : (text : List ℕ) (f : LineFault) (value : Option Data) → json_of text ≡ value → (f ≡ Memory → ⊥) → IsSoundAs text (beside text f value)
beside_sound text f None json some = fault_served text f some
beside_sound text f (Some d) json some = value_sound text d json f (word_at (codes "reply") d) some

told_sound : (text : List ℕ) (read : LineRead) → reading text ≡ read → IsSoundAs text (told_finding text read)
told_sound text (Ok pair) e = run_sound text (reply_finding pair.1) (ap read_finding e)
told_sound text (Err f) e = beside_sound text f (json_of text) refl (λ memory. never_memory_in run_tests text (e ∙ ap Err memory))

pub served_sound : (text : List ℕ) → IsSoundAs text (served_finding text)
served_sound text = told_sound text (reading text) refl
