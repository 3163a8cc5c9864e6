-- A line of `serve` or of `serve sessions` that is not found faulty is a sound one, and what a
-- report says of its lines.
use Rattle.std.proofs.Common.{◌≡◌, ℕ, ◌-◌, List, ◌++◌, length, take, drop, Bool, true, false, ◌==◌, Option, Some, None, Result, Ok, Err, refl, sym, ap, ap₂, ◌∙◌, inl, inr, if◌then◌else◌, codes}
use Rattle.std.specs.Str.{bytes_eq}
use Rattle.std.proofs.lemmas.List.{take-append-drop}
use Rattle.std.proofs.lemmas.Slice.Eq.{bytes_eq-Decides}
use Rattle.form.specs.Between.{Between}
use Rattle.serde_json.specs.Data.{Data}
use Rattle.session_gate.specs.Heads.{accepted_head}
use Rattle.limits.specs.declared.TheConstants.{MAX_SESSION, MAX_MESSAGE}
use Rattle.reply_print.specs.Look.{word_at, number_at}
use Rattle.reply_text.specs.declared.faults.LineFault.{LineFault}
use Rattle.reply_text.specs.declared.faults.LineFault.TheVariants.{Memory}
use Rattle.reply_text.specs.Reading.{LineRead, reading, run_tests}
use Rattle.reply_text.specs.Tests.{json_of, value_by}
use Rattle.reply_text.proofs.FiveTests.{IsPairWithin, never_memory, never_memory_in, pair_sound, passes}
use Rattle.reply_text.proofs.Sound.{Sound, after, mapped, either, natural_sound}
use Rattle.journal_check.specs.declared.findings.Finding.{Finding}
use Rattle.journal_check.specs.declared.findings.Finding.TheVariants.{Plain, Cleared, Bounded, Faulty}
use Rattle.journal_check.specs.declared.reports.Reason.TheVariants as reason
use Rattle.journal_check.specs.Findings.{fault_finding, read_finding, reply_finding}
use Rattle.journal_check.proofs.LineSays.{FindingSaysBy, IsCountedBy}
use Rattle.journal_check.proofs.ReportsSay.{reports_say_by}
use Rattle.journal_audit.specs.declared.gate_lines.GateLine.{GateLine}
use Rattle.journal_audit.specs.declared.gate_lines.GateLine.TheVariants.{Sessions, Expecting}
use Rattle.journal_audit.specs.declared.gate_lines.Why.{Why}
use Rattle.journal_audit.specs.declared.gate_lines.Why.TheVariants.{Old, Ahead, Changed}
use Rattle.journal_audit.specs.Accepted.{accepted_line, before_end, between, if_braced, is_accepted, is_braced, is_questioned, message_from, question_in, question_line, question_tail, reply_in, tail_text}
use Rattle.journal_audit.specs.Findings.{accepted_finding, audit_finding, line_finding, plain_found, questioned_finding, reply_found, served_finding, session_beside, unspelled, value_finding}
use Rattle.journal_audit.specs.GateLines.{IsExpected, IsGateWithin, IsSessionNumber, expecting_from, gate_by, gate_lines, gate_tests, session_at}
use Rattle.journal_audit.specs.Laws.{AuditsSay, IsAuditedLineOf, IsFoundFaulty, OfGate, OfQuestion, OfServe, audit_counts}
use Rattle.journal_audit.proofs.ServedLines.{IfSound, IsServedAs, IsSoundAs, fault_sound, read_value, run_sound, served_sound, sounder, value_sound}

-- ---- lines of the gate

expecting_sound : (why : Why) (d : Data) → Sound IsGateWithin (expecting_from why d)
expecting_sound why d =
    after IsSessionNumber IsGateWithin _ (session_at d) (natural_sound 1 MAX_SESSION (codes "session") d)
    (λ session s. mapped IsExpected IsGateWithin (λ expected. Expecting session expected why) _ (natural_sound 1 1000001 (codes "expected") d) (λ expected e. (s, e)))

gate_sound : (number : ℕ) (d : Data) → Sound IsGateWithin (gate_by number d)
gate_sound number d =
    either IsGateWithin (number == 15) _ _ tt
    (either IsGateWithin (number == 16) _ _ (expecting_sound Old d)
    (either IsGateWithin (number == 17) _ _ (expecting_sound Ahead d)
    (either IsGateWithin (number == 18) _ _ (expecting_sound Changed d)
    (mapped IsSessionNumber IsGateWithin Sessions (session_at d) (natural_sound 1 MAX_SESSION (codes "session") d) (λ session s. s)))))

-- a sound line, which counts as what is found
abbrev pub IsAuditedAs : List ℕ → Finding → Type 0
IsAuditedAs = IsCountedBy IsAuditedLineOf audit_counts

abbrev pub IsHeard : List ℕ → Finding → Type 0
IsHeard text f = IfSound f (IsAuditedAs text f)

fault_heard : (text : List ℕ) (f : LineFault) → (f ≡ Memory → ⊥) → IsHeard text (fault_finding f)
fault_heard text f some = fault_sound (IsAuditedAs text (fault_finding f)) f some

gate_read : (text : List ℕ) (d : Data) → json_of text ≡ Some d → (r : Result (ℕ × GateLine) LineFault) → value_by gate_tests text d ≡ r → IsHeard text (plain_found r)
gate_read text d json (Ok pair) e =
    let sound = pair_sound gate_lines IsGateWithin (λ word d. gate_sound (number_at (codes "number") d) d) in
    let is_line = passes gate_tests text (IsPairWithin IsGateWithin) sound pair (read_value gate_tests text d json ∙ e) in
    record { reply = OfGate pair.1; is_line = (pair.0, is_line); batch = refl; bounded = refl; optimal = refl }
gate_read text d json (Err f) e = fault_heard text f (λ memory. never_memory gate_tests text d (e ∙ ap Err memory))

-- ---- replies to accepted messages

abbrev Stands : List ℕ → List ℕ → List ℕ → List ℕ → Type 0
Stands front end text inner = text ≡ front ++ (inner ++ end)

ends : (b : Bool) (end text : List ℕ) → bytes_eq (drop (length text - length end) text) end ≡ b → Sound (λ inner. text ≡ inner ++ end) (before_end end text)
ends true end text e =
    let n = length text - length end in
    rw e (sym (take-append-drop n text) ∙ ap (λ l. take n text ++ l) ((bytes_eq-Decides (drop n text) end).0 e))
ends false end text e = rw e tt

stands : (b : Bool) (front end text : List ℕ) → bytes_eq (take (length front) text) front ≡ b → Sound (Stands front end text) (between front end text)
stands true front end text e =
    let n = length front in
    rw e (inside front end text (before_end end (drop n text)) ((bytes_eq-Decides (take n text) front).0 e) (ends _ end (drop n text) refl))
  where
    inside : (front end text : List ℕ) (o : Option (List ℕ)) → take (length front) text ≡ front → Sound (λ inner. drop (length front) text ≡ inner ++ end) o → Sound (Stands front end text) o
    inside front end text None f h = tt
    inside front end text (Some inner) f h = sym (take-append-drop (length front) text) ∙ ap₂ (λ (a b : List ℕ). a ++ b) f h
stands false front end text e = rw e tt

braced : (P : List ℕ → Type 0) (text : List ℕ) → P text → Sound P (if_braced text)
braced P text h = either P (is_braced text) (Some text) None h tt

reply_stands : (text : List ℕ) (message : ℕ × ℕ) → Sound (λ reply. text ≡ accepted_line message.0 message.1 reply) (reply_in text message)
reply_stands text message =
    let P = Stands (accepted_head message.0) (tail_text message.1) text in
    after P P if_braced (between (accepted_head message.0) (tail_text message.1) text) (stands _ (accepted_head message.0) (tail_text message.1) text refl) (λ reply h. braced P reply h)

abbrev IsMessage : ℕ × ℕ → Type 0
IsMessage message = Between 1 MAX_MESSAGE message.0 × IsSessionNumber message.1

message_sound : (d : Data) → Sound IsMessage (message_from d)
message_sound d =
    after (Between 1 MAX_MESSAGE) IsMessage _ _ (natural_sound 1 MAX_MESSAGE (codes "number") d)
    (λ number n. mapped IsSessionNumber IsMessage _ _ (natural_sound 1 MAX_SESSION (codes "session") d) (λ session s. (n, s)))

accepted_as : (text : List ℕ) (message : ℕ × ℕ) → IsMessage message → (reply : List ℕ) → text ≡ accepted_line message.0 message.1 reply → (f : Finding) → IsServedAs reply f → IsAuditedAs text f
accepted_as text message m reply stands_in f h = record {
  reply = OfServe h.reply;
  is_line = inr (record { number = message.0; session = message.1; inner = reply; message = m; served = h.is_line; is_line = stands_in });
  batch = h.batch;
  bounded = h.bounded;
  optimal = h.optimal;
}

questioned_as : (text : List ℕ) (session : ℕ) → IsSessionNumber session → (reply : List ℕ) → text ≡ question_line session reply → (f : Finding) → IsServedAs reply f → IsAuditedAs text f
questioned_as text session s reply stands_in f h = record {
  reply = OfQuestion h.reply;
  is_line = record { session = session; inner = reply; is_session = s; served = h.is_line; is_line = stands_in };
  batch = h.batch;
  bounded = h.bounded;
  optimal = h.optimal;
}

-- a line counts as the reply inside it does
module _ (text reply : List ℕ) (counted : (f : Finding) → IsServedAs reply f → IsAuditedAs text f) where
  spelled_sound : (f : Finding) → IsSoundAs reply f → IsHeard text (unspelled f)
  spelled_sound (Faulty reason.NotJson) h = tt
  spelled_sound (Faulty reason.Shape) h = tt
  spelled_sound (Faulty reason.Number) h = tt
  spelled_sound (Faulty reason.Range) h = tt
  spelled_sound (Faulty reason.Spelling) h = tt
  spelled_sound (Faulty reason.BatchShape) h = tt
  spelled_sound (Faulty reason.Fill) h = tt
  spelled_sound (Faulty reason.Cover) h = tt
  spelled_sound (Faulty reason.Measure) h = tt
  spelled_sound (Faulty reason.Bound) h = tt
  spelled_sound (Faulty reason.Wide) h = tt
  spelled_sound (Cleared optimal) h = counted (Cleared optimal) h
  spelled_sound Bounded h = counted Bounded h
  spelled_sound Plain h = counted Plain h

reply_sound : (text : List ℕ) (message : ℕ × ℕ) → IsMessage message → (o : Option (List ℕ)) → Sound (λ reply. text ≡ accepted_line message.0 message.1 reply) o → IsHeard text (reply_found o)
reply_sound text message m None h = tt
reply_sound text message m (Some reply) h = spelled_sound text reply (accepted_as text message m reply h) (served_finding reply) (served_sound reply)

accepted_sound : (text : List ℕ) (o : Option (ℕ × ℕ)) → Sound IsMessage o → IsHeard text (accepted_finding text o)
accepted_sound text None h = tt
accepted_sound text (Some message) h = reply_sound text message h (reply_in text message) (reply_stands text message)

-- ---- replies to questions

question_stands : (text : List ℕ) (session : ℕ) → Sound (λ reply. text ≡ question_line session reply) (question_in text session)
question_stands text session =
    let P = Stands (codes "{\"of\":") (question_tail session) text in
    after P P if_braced (between (codes "{\"of\":") (question_tail session) text) (stands _ (codes "{\"of\":") (question_tail session) text refl) (λ reply h. braced P reply h)

question_sound : (text : List ℕ) (session : ℕ) → IsSessionNumber session → (o : Option (List ℕ)) → Sound (λ reply. text ≡ question_line session reply) o → IsHeard text (reply_found o)
question_sound text session s None h = tt
question_sound text session s (Some reply) h = spelled_sound text reply (questioned_as text session s reply h) (served_finding reply) (served_sound reply)

questioned_sound : (text : List ℕ) (o : Option ℕ) → Sound IsSessionNumber o → IsHeard text (questioned_finding text o)
questioned_sound text None h = tt
questioned_sound text (Some session) h = question_sound text session h (question_in text session) (question_stands text session)

-- ---- all lines

as_line : (text : List ℕ) (f : Finding) → IsServedAs text f → IsAuditedAs text f
as_line text f h = record { reply = OfServe h.reply; is_line = inl h.is_line; batch = h.batch; bounded = h.bounded; optimal = h.optimal }

as_heard : (text : List ℕ) (f : Finding) → IsSoundAs text f → IsHeard text f
as_heard text f h = sounder f (as_line text f) h

by_kind : (text : List ℕ) (d : Data) (json : json_of text ≡ Some d) (a q b : Bool) (f : LineFault) (word : List ℕ) → (f ≡ Memory → ⊥)
    → IsHeard text (if a then accepted_finding text (message_from d) else if q then questioned_finding text (session_at d) else if b then plain_found (value_by gate_tests text d) else value_finding text f word d)
by_kind text d json true q b f word some = accepted_sound text (message_from d) (message_sound d)
by_kind text d json false true b f word some = questioned_sound text (session_at d) (natural_sound 1 MAX_SESSION (codes "session") d)
by_kind text d json false false true f word some = gate_read text d json (value_by gate_tests text d) refl
by_kind text d json false false false f word some = as_heard text (value_finding text f word d) (value_sound text d json f word some)

beside_sound : (text : List ℕ) (f : LineFault) (value : Option Data) → json_of text ≡ value → (f ≡ Memory → ⊥) → IsHeard text (session_beside text f value)
beside_sound text f None json some = fault_heard text f some
beside_sound text f (Some d) json some =
    let word = word_at (codes "reply") d in
    by_kind text d json (is_accepted d) (is_questioned d) (bytes_eq word (codes "gate")) f word some

line_sound : (text : List ℕ) (read : LineRead) → reading text ≡ read → IsHeard text (line_finding text read)
line_sound text (Ok pair) e = as_heard text (reply_finding pair.1) (run_sound text (reply_finding pair.1) (ap read_finding e))
line_sound text (Err f) e = beside_sound text f (json_of text) refl (λ memory. never_memory_in run_tests text (e ∙ ap Err memory))

pub line_heard : (text : List ℕ) → IsHeard text (audit_finding text)
line_heard text = line_sound text (reading text) refl

finding_says : (text : List ℕ) (f : Finding) → audit_finding text ≡ f → IsHeard text f → FindingSaysBy IsAuditedLineOf audit_counts IsFoundFaulty text f
finding_says text (Faulty reason) e h = e
finding_says text (Cleared optimal) e h = h
finding_says text Bounded e h = h
finding_says text Plain e h = h

pub audits_say : AuditsSay
audits_say = reports_say_by IsAuditedLineOf audit_counts IsFoundFaulty audit_finding (λ text. finding_says text (audit_finding text) refl (line_heard text))
