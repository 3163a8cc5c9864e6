-- Each sound line is found sound.
use Rattle.std.proofs.Common.{◌≡◌, ℕ, ◌-◌, List, [], ◌∷◌, ◌++◌, length, take, drop, Bool, true, false, Some, None, Ok, Err, option_map, option_and_then, refl, sym, ap, ◌∙◌, subst, inl, inr, codes, decimal, arith, append_assoc, length-append}
use Rattle.std.specs.Str.{bytes_eq}
use Rattle.std.proofs.lemmas.Slice.Eq.{bytes_eq-Decides}
use Rattle.std.proofs.Math.Seq.{take-append_seam, drop-append_seam}
use Rattle.form.specs.Between.{Between}
use Rattle.serde_json.specs.Data.{Data}
use Rattle.session_gate.specs.Heads.{accepted_head}
use Rattle.limits.specs.declared.TheConstants.{MAX_SESSION, MAX_MESSAGE}
use Rattle.reply_print.specs.declared.replies.Reply.{Reply}
use Rattle.reply_print.specs.declared.replies.Reply.TheVariants.{Opened, Deposited, Withdrawn, Listed, Placed, Cancelled, Cleared as ClearedReply, Settled, Balance, Refused}
use Rattle.reply_print.specs.BatchPieces.{natural}
use Rattle.reply_print.specs.Piece.{Piece, Fields, whole, words, truth, list, object, no_fields, field, comma_after, piece_text, fields_text}
use Rattle.reply_print.specs.PieceData.{piece_data}
use Rattle.reply_print.specs.ReplyPieces.{reply_piece}
use Rattle.reply_print.specs.Written.{IsWritten}
use Rattle.reply_print.proofs.Ascii.{utf8-piece}
use Rattle.reply_print.proofs.PlainPieces.{HasPlainTexts, reply_plain}
use Rattle.reply_print.proofs.ReadBack.{read-piece}
use Rattle.reply_print.proofs.WrittenReplies.{short, written}
use Rattle.reply_print.specs.Look.{word_at}
use Rattle.reply_text.specs.declared.faults.LineFault.TheVariants.{Shape}
use Rattle.reply_text.specs.Reading.{reading, run_tests}
use Rattle.reply_text.specs.Tests.{Tests, json_by, json_of, read_by, value_by}
use Rattle.reply_text.proofs.FiveTests.{json_of-piece}
use Rattle.reply_text.proofs.RoundTrip.{reading-reply_line}
use Rattle.reply_text.proofs.Taken.{natural_taken}
use Rattle.reply_text.proofs.TakenReplies.{then_taken}
use Rattle.proposal_text.specs.declared.margins.ToldMargin.TheVariants as margin
use Rattle.proposal_text.specs.declared.replies.Bar.TheVariants.{NotAllowed, NotAsked, OverQuota}
use Rattle.proposal_text.specs.declared.replies.ProposalReply.{ProposalReply}
use Rattle.proposal_text.specs.declared.replies.ProposalReply.TheVariants.{Book, Positions, Proposed, Bounded as BoundedReply, Stale, Unproved, Closed, Reopened, MarketIsClosed, MarketIsOpen, Secured, Needs, Uncovered, Quoted, Priced, Margin, Tried, Barred}
use Rattle.proposal_text.specs.declared.replies.ServedReply.{ServedReply}
use Rattle.proposal_text.specs.declared.replies.ServedReply.TheVariants as answered
use Rattle.proposal_text.specs.Pieces.{proposal_piece}
use Rattle.proposal_text.specs.ReplyValues.{proposal_tests}
use Rattle.proposal_text.proofs.PlainProposals.{reply_plain as proposal_plain}
use Rattle.proposal_text.proofs.ReadExactly.{reply_reads}
use Rattle.proposal_text.proofs.WrittenProposals.{reply_written as proposal_written}
use Rattle.journal_check.specs.declared.findings.Finding.{Finding}
use Rattle.journal_check.specs.declared.findings.Finding.TheVariants.{Plain, Cleared, Bounded, Faulty}
use Rattle.journal_check.specs.Findings.{bounded_finding, cleared_finding, fault_in, reply_finding}
use Rattle.journal_check.specs.Laws.{IfCleared, IsCertified, IsSoundLineOf}
use Rattle.journal_audit.specs.declared.gate_lines.GateLine.{GateLine}
use Rattle.journal_audit.specs.declared.gate_lines.GateLine.TheVariants.{Malformed, Sessions, Expecting}
use Rattle.journal_audit.specs.Accepted.{accepted_line, before_end, between, if_braced, is_accepted, is_braced, is_object, is_questioned, message_from, question_in, question_line, question_tail, reply_in, tail_text}
use Rattle.journal_audit.specs.Findings.{accepted_finding, audit_finding, beside, line_finding, plain_found, proposal_finding, proposal_found, questioned_finding, reply_found, served_finding, session_beside, tells_proposal, told_finding, unspelled, value_finding}
use Rattle.journal_audit.specs.GateLines.{IsGateLineOf, IsSessionNumber, gate_piece, gate_tests}
use Rattle.journal_audit.specs.Laws.{AuditedReply, IfBounded, IsAcceptedLineOf, IsAuditedLine, IsAuditedLineOf, IsProposedLineOf, IsQuestionLineOf, IsServedLineOf, OfGate, OfQuestion, OfServe, SoundLinesAreFoundSo}
use Rattle.journal_audit.proofs.AuditSays.{IsHeard, line_heard}
use Rattle.journal_audit.proofs.GateTaken.{gate_plain, gate_reads, gate_written}
use Rattle.journal_audit.proofs.ServedLines.{read_value}

abbrev IsNoFault : Finding → Type 0
IsNoFault f = fault_in f ≡ None

-- ---- what is found of a reply

pub run_sound : (reply : Reply) → IfCleared reply IsCertified → IsNoFault (reply_finding reply)
run_sound (Opened account) h = refl
run_sound (Deposited account balance) h = refl
run_sound (Withdrawn account balance) h = refl
run_sound (Listed market underlyings) h = refl
run_sound (Placed order) h = refl
run_sound (Cancelled order) h = refl
run_sound (ClearedReply number market batch outcome) h = ap (λ j. fault_in (cleared_finding j outcome.mark)) h.yes
run_sound (Settled market lapsed payouts) h = refl
run_sound (Balance account balance reserved) h = refl
run_sound (Refused number place) h = refl

proposal_sound : (reply : ProposalReply) → IfBounded reply → IsNoFault (proposal_finding reply)
proposal_sound (Book market batch) h = refl
proposal_sound (Positions account market positions) h = refl
proposal_sound (Proposed market surplus bound best_surplus least_bound) h = refl
proposal_sound (BoundedReply number market batch outcome) h = ap (λ j. fault_in (bounded_finding j)) h.yes
proposal_sound Stale h = refl
proposal_sound (Unproved f) h = refl
proposal_sound (Closed market orders) h = refl
proposal_sound (Reopened market) h = refl
proposal_sound MarketIsClosed h = refl
proposal_sound MarketIsOpen h = refl
proposal_sound (Secured account amount) h = refl
proposal_sound (Needs needed) h = refl
proposal_sound (Uncovered n) h = refl
proposal_sound (Quoted market bid ask) h = refl
proposal_sound (Priced market quantity ask bid) h = refl
proposal_sound (Margin account market margin) h = refl
proposal_sound (Tried market trial) h = refl
proposal_sound (Barred bar) h = refl

-- ---- values of lines that are none of a run

-- no line of a run, no reply to a message or a question, no line of a gate
record IsBeside (d : Data) : Type 0 where
  shape : run_tests.has_shape d ≡ false
  accepted : is_accepted d ≡ false
  questioned : is_questioned d ≡ false
  gate : bytes_eq (word_at (codes "reply") d) (codes "gate") ≡ false

-- a line of the gate
record IsOfGate (d : Data) : Type 0 where
  shape : run_tests.has_shape d ≡ false
  accepted : is_accepted d ≡ false
  questioned : is_questioned d ≡ false
  gate : bytes_eq (word_at (codes "reply") d) (codes "gate") ≡ true

proposal_beside : (line : ℕ) (reply : ProposalReply) → IsBeside (piece_data (proposal_piece line reply))
proposal_beside line (Book market batch) = record { shape = refl; accepted = refl; questioned = refl; gate = refl }
proposal_beside line (Positions account market positions) = record { shape = refl; accepted = refl; questioned = refl; gate = refl }
proposal_beside line (Proposed market surplus bound best_surplus least_bound) = record { shape = refl; accepted = refl; questioned = refl; gate = refl }
proposal_beside line (BoundedReply number market batch outcome) = record { shape = refl; accepted = refl; questioned = refl; gate = refl }
proposal_beside line Stale = record { shape = refl; accepted = refl; questioned = refl; gate = refl }
proposal_beside line (Unproved f) = record { shape = refl; accepted = refl; questioned = refl; gate = refl }
proposal_beside line (Closed market orders) = record { shape = refl; accepted = refl; questioned = refl; gate = refl }
proposal_beside line (Reopened market) = record { shape = refl; accepted = refl; questioned = refl; gate = refl }
proposal_beside line MarketIsClosed = record { shape = refl; accepted = refl; questioned = refl; gate = refl }
proposal_beside line MarketIsOpen = record { shape = refl; accepted = refl; questioned = refl; gate = refl }
proposal_beside line (Secured account amount) = record { shape = refl; accepted = refl; questioned = refl; gate = refl }
proposal_beside line (Needs needed) = record { shape = refl; accepted = refl; questioned = refl; gate = refl }
proposal_beside line (Uncovered n) = record { shape = refl; accepted = refl; questioned = refl; gate = refl }
proposal_beside line (Quoted market bid ask) = record { shape = refl; accepted = refl; questioned = refl; gate = refl }
proposal_beside line (Priced market quantity ask bid) = record { shape = refl; accepted = refl; questioned = refl; gate = refl }
proposal_beside line (Margin account market (margin.Least liability at)) = record { shape = refl; accepted = refl; questioned = refl; gate = refl }
proposal_beside line (Margin account market (margin.Unbounded ray)) = record { shape = refl; accepted = refl; questioned = refl; gate = refl }
proposal_beside line (Margin account market margin.Wide) = record { shape = refl; accepted = refl; questioned = refl; gate = refl }
proposal_beside line (Margin account market margin.Budget) = record { shape = refl; accepted = refl; questioned = refl; gate = refl }
proposal_beside line (Tried market trial) = record { shape = refl; accepted = refl; questioned = refl; gate = refl }
proposal_beside line (Barred NotAllowed) = record { shape = refl; accepted = refl; questioned = refl; gate = refl }
proposal_beside line (Barred NotAsked) = record { shape = refl; accepted = refl; questioned = refl; gate = refl }
proposal_beside line (Barred OverQuota) = record { shape = refl; accepted = refl; questioned = refl; gate = refl }

gate_beside : (line : ℕ) (refused : GateLine) → IsOfGate (piece_data (gate_piece line refused))
gate_beside line Malformed = record { shape = refl; accepted = refl; questioned = refl; gate = refl }
gate_beside line (Sessions session) = record { shape = refl; accepted = refl; questioned = refl; gate = refl }
gate_beside line (Expecting session expected why) = record { shape = refl; accepted = refl; questioned = refl; gate = refl }

module _ (text : List ℕ) (d : Data) (json : json_of text ≡ Some d) where
  no_run : run_tests.has_shape d ≡ false → reading text ≡ Err Shape
  no_run shape = ap (json_by run_tests text) json ∙ rw shape refl

  -- as a line of `serve`, and as any line
  record IsFoundAs (f : Finding) : Type 0 where
    served : served_finding text ≡ f
    heard : audit_finding text ≡ f

  by_value : IsBeside d → IsFoundAs (value_finding text Shape (word_at (codes "reply") d) d)
  by_value h = record {
    served = ap (told_finding text) (no_run h.shape) ∙ ap (beside text Shape) json;
    heard = ap (line_finding text) (no_run h.shape) ∙ ap (session_beside text Shape) json ∙ rw (h.accepted, h.questioned, h.gate) refl;
  }

  value_is : {A : Type 0} (tests : Tests A) (a : A) → read_by tests text ≡ Ok a → value_by tests text d ≡ Ok a
  value_is tests a e = sym (read_value tests text d json) ∙ e

-- ---- objects

abbrev IsObject : Piece → Type 0
IsObject (object fs) = Unit {0}
IsObject (whole z) = ⊥
IsObject (words text) = ⊥
IsObject (truth b) = ⊥
IsObject (list ps) = ⊥

run_object : (line : ℕ) (reply : Reply) → IsObject (reply_piece line reply)
run_object line (Opened account) = tt
run_object line (Deposited account balance) = tt
run_object line (Withdrawn account balance) = tt
run_object line (Listed market underlyings) = tt
run_object line (Placed order) = tt
run_object line (Cancelled order) = tt
run_object line (ClearedReply number market batch outcome) = tt
run_object line (Settled market lapsed payouts) = tt
run_object line (Balance account balance reserved) = tt
run_object line (Refused number place) = tt

proposal_object : (line : ℕ) (reply : ProposalReply) → IsObject (proposal_piece line reply)
proposal_object line (Book market batch) = tt
proposal_object line (Positions account market positions) = tt
proposal_object line (Proposed market surplus bound best_surplus least_bound) = tt
proposal_object line (BoundedReply number market batch outcome) = tt
proposal_object line Stale = tt
proposal_object line (Unproved f) = tt
proposal_object line (Closed market orders) = tt
proposal_object line (Reopened market) = tt
proposal_object line MarketIsClosed = tt
proposal_object line MarketIsOpen = tt
proposal_object line (Secured account amount) = tt
proposal_object line (Needs needed) = tt
proposal_object line (Uncovered n) = tt
proposal_object line (Quoted market bid ask) = tt
proposal_object line (Priced market quantity ask bid) = tt
proposal_object line (Margin account market (margin.Least liability at)) = tt
proposal_object line (Margin account market (margin.Unbounded ray)) = tt
proposal_object line (Margin account market margin.Wide) = tt
proposal_object line (Margin account market margin.Budget) = tt
proposal_object line (Tried market trial) = tt
proposal_object line (Barred bar) = tt

object_data : (p : Piece) → IsObject p → is_object (piece_data p) ≡ true
object_data (object fs) h = refl
object_data (whole z) h = absurd h
object_data (words text) h = absurd h
object_data (truth b) h = absurd h
object_data (list ps) h = absurd h

-- the last byte is a closing brace
abbrev EndsSo : List ℕ → Type 0
EndsSo bytes = (front : List ℕ) × (bytes ≡ front ++ 125 ∷ [])

ends_behind : (xs ys : List ℕ) → EndsSo ys → EndsSo (xs ++ ys)
ends_behind xs ys h = (xs ++ h.0, ap (λ l. xs ++ l) h.1 ∙ sym (append_assoc xs h.0 (125 ∷ [])))

fields_end : (later : Bool) (fs : Fields) → EndsSo (fields_text later fs)
fields_end later no_fields = ([], refl)
fields_end later (field key p fs) =
    ends_behind (comma_after later) _ (ends_behind (34 ∷ (key ++ 34 ∷ [])) _ (ends_behind (58 ∷ []) _ (ends_behind (piece_text p) (fields_text true fs) (fields_end true fs))))

last_is : (bytes : List ℕ) → EndsSo bytes → bytes_eq (drop (length bytes - 1) bytes) (125 ∷ []) ≡ true
last_is bytes h =
    let size : length (h.0 ++ 125 ∷ []) - 1 ≡ length h.0 = omega (arith, length-append h.0 (125 ∷ [])) in
    let last : drop (length bytes - 1) bytes ≡ 125 ∷ []
    = ap (λ l. drop (length l - 1) l) h.1 ∙ ap (λ n. drop n (h.0 ++ 125 ∷ [])) size ∙ drop-append_seam h.0 (125 ∷ []) in
    (bytes_eq-Decides (drop (length bytes - 1) bytes) (125 ∷ [])).1 last

object_braced : (p : Piece) → IsObject p → is_braced (piece_text p) ≡ true
object_braced (object fs) h = last_is (fields_text false fs) (fields_end false fs)
object_braced (whole z) h = absurd h
object_braced (words text) h = absurd h
object_braced (truth b) h = absurd h
object_braced (list ps) h = absurd h

-- ---- lines of `serve`

-- it is found sound, as a line of `serve` and as any line, and is the print of an object of few
-- levels
record IsFoundSound (text : List ℕ) : Type 0 where
  served : IsNoFault (served_finding text)
  heard : IsNoFault (audit_finding text)
  piece : Piece
  is_object : IsObject piece
  plain : HasPlainTexts piece
  levels : IsWritten 6 piece
  print : text ≡ piece_text piece

run_found : (text : List ℕ) (reply : Reply) → IsSoundLineOf text reply → IsFoundSound text
run_found text reply h =
    let e : reading text ≡ Ok (h.line, reply) = ap reading h.is_line.1 ∙ reading-reply_line h.line reply h.is_line.0 in
    record {
      served = ap (λ r. fault_in (told_finding text r)) e ∙ run_sound reply h.certified;
      heard = ap (λ r. fault_in (line_finding text r)) e ∙ run_sound reply h.certified;
      piece = reply_piece h.line reply;
      is_object = run_object h.line reply;
      plain = reply_plain h.line reply;
      levels = written h.line reply h.is_line.0;
      print = h.is_line.1;
    }

-- a line that is none of a run, where its value is found no fault
beside_found : (text : List ℕ) (p : Piece) → IsObject p → HasPlainTexts p → IsWritten 6 p → text ≡ piece_text p → IsBeside (piece_data p)
    → (json_of text ≡ Some (piece_data p) → IsNoFault (value_finding text Shape (word_at (codes "reply") (piece_data p)) (piece_data p))) → IsFoundSound text
beside_found text p is plain levels print besides sound =
    let json : json_of text ≡ Some (piece_data p) = ap json_of print ∙ json_of-piece p plain levels in
    let found = by_value text (piece_data p) json besides in
    record {
      served = ap fault_in found.served ∙ sound json;
      heard = ap fault_in found.heard ∙ sound json;
      piece = p;
      is_object = is;
      plain = plain;
      levels = levels;
      print = print;
    }

proposal_tells : (line : ℕ) (reply : ProposalReply) → let d = piece_data (proposal_piece line reply) in tells_proposal (word_at (codes "reply") d) d ≡ true
proposal_tells line (Book market batch) = refl
proposal_tells line (Positions account market positions) = refl
proposal_tells line (Proposed market surplus bound best_surplus least_bound) = refl
proposal_tells line (BoundedReply number market batch outcome) = refl
proposal_tells line Stale = refl
proposal_tells line (Unproved f) = refl
proposal_tells line (Closed market orders) = refl
proposal_tells line (Reopened market) = refl
proposal_tells line MarketIsClosed = refl
proposal_tells line MarketIsOpen = refl
proposal_tells line (Secured account amount) = refl
proposal_tells line (Needs needed) = refl
proposal_tells line (Uncovered n) = refl
proposal_tells line (Quoted market bid ask) = refl
proposal_tells line (Priced market quantity ask bid) = refl
proposal_tells line (Margin account market (margin.Least liability at)) = refl
proposal_tells line (Margin account market (margin.Unbounded ray)) = refl
proposal_tells line (Margin account market margin.Wide) = refl
proposal_tells line (Margin account market margin.Budget) = refl
proposal_tells line (Tried market trial) = refl
proposal_tells line (Barred NotAllowed) = refl
proposal_tells line (Barred NotAsked) = refl
proposal_tells line (Barred OverQuota) = refl

proposal_found_sound : (text : List ℕ) (reply : ProposalReply) → IsProposedLineOf text reply → IsFoundSound text
proposal_found_sound text reply h =
    let p = proposal_piece h.line reply in
    let d = piece_data p in
    beside_found text p (proposal_object h.line reply) (proposal_plain h.line reply) (proposal_written h.line reply h.is_line.0) h.is_line.1 (proposal_beside h.line reply)
    (λ json. rw (proposal_tells h.line reply)
    (ap (λ r. fault_in (proposal_found r)) (value_is text d json proposal_tests (h.line, reply) (ap (read_by proposal_tests) h.is_line.1 ∙ reply_reads h.line reply h.is_line.0))
    ∙ proposal_sound reply h.proved))

served_found : (text : List ℕ) (reply : ServedReply) → IsServedLineOf text reply → IsFoundSound text
served_found text (answered.Plain reply) h = run_found text reply h
served_found text (answered.Told reply) h = proposal_found_sound text reply h

-- ---- lines of the gate

gate_found_sound : (text : List ℕ) (line : ℕ) (refused : GateLine) → IsGateLineOf text line refused → IsNoFault (audit_finding text)
gate_found_sound text line refused h =
    let p = gate_piece line refused in
    let d = piece_data p in
    let json : json_of text ≡ Some d = ap json_of h.1 ∙ json_of-piece p (gate_plain line refused) (gate_written line refused h.0) in
    let none = gate_beside line refused in
    let found : value_by gate_tests text d ≡ Ok (line, refused) = value_is text d json gate_tests (line, refused) (ap (read_by gate_tests) h.1 ∙ gate_reads line refused h.0) in
    ap (λ r. fault_in (line_finding text r)) (no_run text d json none.shape)
    ∙ ap (λ o. fault_in (session_beside text Shape o)) json
    ∙ rw (none.accepted, none.questioned, none.gate) (ap (λ r. fault_in (plain_found r)) found)

-- ---- replies to accepted messages

ended : (end inner : List ℕ) → before_end end (inner ++ end) ≡ Some inner
ended end inner =
    let size : length (inner ++ end) - length end ≡ length inner = omega (arith, length-append inner end) in
    let drops : drop (length (inner ++ end) - length end) (inner ++ end) ≡ end = ap (λ k. drop k (inner ++ end)) size ∙ drop-append_seam inner end in
    let takes : take (length (inner ++ end) - length end) (inner ++ end) ≡ inner = ap (λ k. take k (inner ++ end)) size ∙ take-append_seam inner end in
    rw ((bytes_eq-Decides (drop (length (inner ++ end) - length end) (inner ++ end)) end).1 drops) (ap Some takes)

enclosed : (front end inner : List ℕ) → between front end (front ++ (inner ++ end)) ≡ Some inner
enclosed front end inner =
    let begins = take-append_seam front (inner ++ end) in
    rw ((bytes_eq-Decides (take (length front) (front ++ (inner ++ end))) front).1 begins)
    (ap (before_end end) (drop-append_seam front (inner ++ end)) ∙ ended end inner)

unspelled_sound : (f : Finding) → IsNoFault f → IsNoFault (unspelled f)
unspelled_sound (Faulty reason) h = cc
unspelled_sound (Cleared optimal) h = refl
unspelled_sound Bounded h = refl
unspelled_sound Plain h = refl

-- the object of such a line
abbrev message_piece : ℕ → ℕ → Piece → Piece
message_piece number session p =
    object (field (codes "number") (natural number) (field (codes "of") p (field (codes "session") (natural session) no_fields)))

module _ (number session : ℕ) (n : Between 1 MAX_MESSAGE number) (s : IsSessionNumber session) (p : Piece) (is : IsObject p) (plain : HasPlainTexts p) (levels : IsWritten 6 p) where
  message_text : accepted_line number session (piece_text p) ≡ piece_text (message_piece number session p)
  message_text = ap (λ l. codes "{\"number\":" ++ l) (append_assoc (decimal number) (codes ",\"of\":") (piece_text p ++ tail_text session))

  message_json : json_of (piece_text (message_piece number session p)) ≡ Some (piece_data (message_piece number session p))
  message_json =
      let written : IsWritten 7 (message_piece number session p) = (refl, (refl, short number (omega arith), (refl, levels, (refl, short session (omega arith), tt)))) in
      rw (utf8-piece 7 (message_piece number session p) written)
      (read-piece 7 (message_piece number session p) (refl, tt, (refl, plain, (refl, tt, tt))) written (omega arith))

  message_accepted : is_accepted (piece_data (message_piece number session p)) ≡ true
  message_accepted = rw (object_data p is) refl

  message_taken : message_from (piece_data (message_piece number session p)) ≡ Some (number, session)
  message_taken =
      then_taken _ _ number _ (natural_taken 1 MAX_MESSAGE number n) (ap (option_map {U = ℕ × ℕ} (λ (k : ℕ). (number, k))) (natural_taken 1 MAX_SESSION session s))

  reply_within : (text : List ℕ) → text ≡ accepted_line number session (piece_text p) → reply_in text (number, session) ≡ Some (piece_text p)
  reply_within text e =
      ap (λ l. option_and_then if_braced (between (accepted_head number) (tail_text session) l)) e
      ∙ ap (option_and_then if_braced) (enclosed (accepted_head number) (tail_text session) (piece_text p))
      ∙ rw (object_braced p is) refl

  accepted_heard : (text : List ℕ) → text ≡ accepted_line number session (piece_text p) → audit_finding text ≡ unspelled (served_finding (piece_text p))
  accepted_heard text e =
      let d = piece_data (message_piece number session p) in
      let json : json_of text ≡ Some d = ap json_of (e ∙ message_text) ∙ message_json in
      ap (line_finding text) (no_run text d json refl)
      ∙ ap (session_beside text Shape) json
      ∙ rw message_accepted (ap (accepted_finding text) message_taken ∙ ap reply_found (reply_within text e))

accepted_found : (text : List ℕ) (reply : ServedReply) → IsAcceptedLineOf text reply → IsNoFault (audit_finding text)
accepted_found text reply h =
    let inner = served_found h.inner reply h.served in
    let e : text ≡ accepted_line h.number h.session (piece_text inner.piece) = h.is_line ∙ ap (accepted_line h.number h.session) inner.print in
    ap fault_in (accepted_heard h.number h.session h.message.0 h.message.1 inner.piece inner.is_object inner.plain inner.levels text e)
    ∙ unspelled_sound (served_finding (piece_text inner.piece)) (subst (λ t. IsNoFault (served_finding t)) inner.print inner.served)

-- ---- replies to questions

-- the object of such a line
abbrev question_piece : ℕ → Piece → Piece
question_piece session p =
    object (field (codes "of") p (field (codes "reply") (words (codes "asked")) (field (codes "session") (natural session) no_fields)))

module _ (session : ℕ) (s : IsSessionNumber session) (p : Piece) (is : IsObject p) (plain : HasPlainTexts p) (levels : IsWritten 6 p) where
  question_json : json_of (piece_text (question_piece session p)) ≡ Some (piece_data (question_piece session p))
  question_json =
      let written : IsWritten 7 (question_piece session p) = (refl, (refl, levels, (refl, refl, (refl, short session (omega arith), tt)))) in
      rw (utf8-piece 7 (question_piece session p) written)
      (read-piece 7 (question_piece session p) (refl, plain, (refl, refl, (refl, tt, tt))) written (omega arith))

  question_is : is_questioned (piece_data (question_piece session p)) ≡ true
  question_is = rw (object_data p is) refl

  question_within : (text : List ℕ) → text ≡ question_line session (piece_text p) → question_in text session ≡ Some (piece_text p)
  question_within text e =
      ap (λ l. option_and_then if_braced (between (codes "{\"of\":") (question_tail session) l)) e
      ∙ ap (option_and_then if_braced) (enclosed (codes "{\"of\":") (question_tail session) (piece_text p))
      ∙ rw (object_braced p is) refl

  question_heard : (text : List ℕ) → text ≡ question_line session (piece_text p) → audit_finding text ≡ unspelled (served_finding (piece_text p))
  question_heard text e =
      let d = piece_data (question_piece session p) in
      let json : json_of text ≡ Some d = ap json_of e ∙ question_json in
      ap (line_finding text) (no_run text d json refl)
      ∙ ap (session_beside text Shape) json
      ∙ rw question_is (ap (questioned_finding text) (natural_taken 1 MAX_SESSION session s) ∙ ap reply_found (question_within text e))

question_found : (text : List ℕ) (reply : ServedReply) → IsQuestionLineOf text reply → IsNoFault (audit_finding text)
question_found text reply h =
    let inner = served_found h.inner reply h.served in
    let e : text ≡ question_line h.session (piece_text inner.piece) = h.is_line ∙ ap (question_line h.session) inner.print in
    ap fault_in (question_heard h.session h.is_session inner.piece inner.is_object inner.plain inner.levels text e)
    ∙ unspelled_sound (served_finding (piece_text inner.piece)) (subst (λ t. IsNoFault (served_finding t)) inner.print inner.served)

-- ---- all lines

line_found : (text : List ℕ) (reply : AuditedReply) → IsAuditedLineOf text reply → IsNoFault (audit_finding text)
line_found text (OfServe reply) (inl h) = (served_found text reply h).heard
line_found text (OfServe reply) (inr h) = accepted_found text reply h
line_found text (OfQuestion reply) h = question_found text reply h
line_found text (OfGate refused) h = gate_found_sound text h.0 refused h.1

line_of_found : (text : List ℕ) (f : Finding) → IsHeard text f → IsNoFault f → IsAuditedLine text
line_of_found text (Faulty reason) h none = cc
line_of_found text (Cleared optimal) h none = record { reply = h.reply; is_line = h.is_line }
line_of_found text Bounded h none = record { reply = h.reply; is_line = h.is_line }
line_of_found text Plain h none = record { reply = h.reply; is_line = h.is_line }

pub sound_lines_are_found_so : SoundLinesAreFoundSo
sound_lines_are_found_so text = (line_of_found text (audit_finding text) (line_heard text), λ h. line_found text h.reply h.is_line)
