-- A report on sound lines names none; and what is written for the lines of an input, between which some
-- ask, is sound where the answer to each is.
use Rattle.std.proofs.Common.{◌≡◌, ℕ, ◌+◌, ◌-◌, ◌≤◌, List, [], ◌∷◌, ◌++◌, ◌==◌, false, length, get_or, None, refl, ap, ◌∙◌, subst, arith, append_assoc, Bool, true, if◌then◌else◌, sym}
use Rattle.std.specs.List.{All, slice_split}
use Rattle.std.proofs.lemmas.List.Elements.{All-nil, All-cons, All-head, All-tail}
use Rattle.std.proofs.lemmas.List.Splits.{slice_split_at, length-slice_split}
use Rattle.journal_check.specs.declared.reports.Report.{Report}
use Rattle.journal_check.specs.declared.reports.Report.TheVariants.{Sound, Faulty}
use Rattle.journal_check.specs.Findings.{fault_in}
use Rattle.journal_check.specs.JournalLines.{lines_of, without_last_empty}
use Rattle.journal_check.proofs.FirstLine.{more}
use Rattle.journal_audit.specs.Findings.{audit_finding, audit_of}
use Rattle.journal_audit.specs.Laws.{AuditSays, IsAuditedLine}
use Rattle.journal_audit.proofs.Accepting.{sound_lines_are_found_so}
use Rattle.journal_audit.proofs.AuditSays.{audits_say}
use Rattle.live_lines.specs.Taken.{with_feeds, AreWithin}
use Rattle.reply_ranges.specs.Audits.{NamesNoLine}
use Rattle.command_text.specs.Lines.{without_last_empty as pieces_without}
use Rattle.live_lines.specs.Open.{line_text}
use Rattle.reply_print.specs.Within.{IsLine}
use Rattle.live_lines.specs.Output.{lines_output, output_of}
use Rattle.live_lines.specs.Serving.{IsInputWithin}
use Rattle.live_lines.proofs.Places.{no_answer, output_is}
use Rattle.asked_lines.specs.Asked.{AskedState, asked_by, asked_step, asking_first, is_question, other_step, question_step}
use Rattle.asked_lines.specs.Standing.{StandsAsked}

abbrev pub HasNoFeed : List ℕ → Type 0
HasNoFeed text = All (λ b. (b == 10) ≡ false) text

-- a sound line, which is one line
pub record IsAccepted (text : List ℕ) : Type 0 where
  pub sound : IsAuditedLine text
  pub one : HasNoFeed text

-- with its line feed
pub record IsOneLine (bytes : List ℕ) : Type 0 where
  pub text : List ℕ
  pub is : bytes ≡ text ++ 10 ∷ []
  pub accepted : IsAccepted text

-- ---- the lines of a text of lines
pub lines_again : (texts : List (List ℕ)) → All IsAccepted texts → lines_of (with_feeds texts) ≡ texts
lines_again [] all = refl
lines_again (text ∷ texts) all =
    let p = λ (b : ℕ). b == 10 in
    let rest = with_feeds texts in
    ap without_last_empty (slice_split_at p text 10 rest (All-head IsAccepted text texts all).one refl)
    ∙ more text (slice_split p rest) (omega (arith, length-slice_split p rest))
    ∙ ap (λ l. text ∷ l) (lines_again texts (All-tail IsAccepted text texts all))

-- ---- the report
none_named : (texts : List (List ℕ)) (report : Report) → All IsAccepted texts → AuditSays texts report → NamesNoLine report
none_named texts (Sound batches bounded lines optimal) all says = tt
none_named texts (Faulty line reason) all says =
    let inside : line - 1 + 1 ≤ length texts = omega (arith, says.some, says.within) in
    let accepted = all (line - 1) [] (omega (arith, inside)) in
    let text = get_or texts (line - 1) [] in
    let none : fault_in (audit_finding text) ≡ None = (sound_lines_are_found_so text).1 accepted.sound in
    let told = ap fault_in says.fails in
    absurd (cc)

-- so it is where the bytes are sound lines
pub record AreAccepted (bytes : List ℕ) : Type 0 where
  pub texts : List (List ℕ)
  pub are_lines : bytes ≡ with_feeds texts
  pub accepted : All IsAccepted texts

pub accepted_report : (bytes : List ℕ) → AreAccepted bytes → NamesNoLine (audit_of bytes)
accepted_report bytes h =
    let same : lines_of bytes ≡ h.texts = ap lines_of h.are_lines ∙ lines_again h.texts h.accepted in
    none_named h.texts (audit_of bytes) h.accepted (subst (λ l. AuditSays l (audit_of bytes)) same (audits_say bytes))

-- ---- lines one behind another
pub no_lines : AreAccepted []
no_lines = record { texts = []; are_lines = refl; accepted = All-nil IsAccepted }

pub one_more : (bytes more : List ℕ) → IsOneLine bytes → AreAccepted more → AreAccepted (bytes ++ more)
one_more bytes more line h = record {
  texts = line.text ∷ h.texts;
  are_lines = ap (λ l. l ++ more) line.is ∙ append_assoc line.text (10 ∷ []) more ∙ ap (λ l. line.text ++ 10 ∷ l) h.are_lines;
  accepted = All-cons IsAccepted line.text h.texts line.accepted h.accepted;
}

-- a sound line is written, and what is left stands before the next one
abbrev pub IsAnswered : {S : Type 0} → (S → Type 0) → List ℕ × S → Type 0
IsAnswered Next now = IsOneLine now.0 × Next now.1

-- the state before the line of each number stands so, behind an empty line as behind one that is
-- answered
module _ {S : Type 0} (step : ℕ → S → List ℕ → List ℕ × S) (Stands : ℕ → S → Type 0)
    (passes : (number : ℕ) (state : S) → Stands number state → Stands (number + 1) state)
    (answers : (number : ℕ) (state : S) (line : List ℕ) → IsLine number → Stands number state → IsAnswered (Stands (number + 1)) (step number state line)) where
  first_accepted : (skips : Bool) (number : ℕ) (state : S) (line : List ℕ) (lines : List (List ℕ)) → IsLine number → Stands number state
      → ((next : S) → Stands (number + 1) next → AreAccepted (lines_output step skips (number + 1) next lines).0)
      → AreAccepted (lines_output step skips number state (line ∷ lines)).0
  first_accepted skips number state line lines is_line h later = by (length text == 0)
    where
      text : List ℕ
      text = line_text skips number line

      by : (b : Bool)
          → AreAccepted (let now = (if b then ([], state) else step number state text) in now.0 ++ (lines_output step skips (number + 1) now.1 lines).0)
      by true = later state (passes number state h)
      by false =
          let now = step number state text in
          let one = answers number state text is_line h in
          one_more now.0 (lines_output step skips (number + 1) now.1 lines).0 one.0 (later now.1 one.1)

  pieces_accepted : (skips : Bool) (number : ℕ) (state : S) (pieces : List (List ℕ)) → 1 ≤ number → AreWithin skips number (pieces_without pieces) → Stands number state
      → AreAccepted (lines_output step skips number state pieces).0
  pieces_accepted skips number state [] some within h = no_lines
  pieces_accepted skips number state ([] ∷ []) some within h = subst (λ (r : List ℕ × S). AreAccepted (r.0 ++ [])) (sym (no_answer step skips number state)) no_lines
  pieces_accepted skips number state ((b ∷ bs) ∷ []) some within h = first_accepted skips number state (b ∷ bs) [] (some, within.0) h (λ next stands. no_lines)
  pieces_accepted skips number state (piece ∷ next ∷ more) some within h =
      first_accepted skips number state piece (next ∷ more) (some, within.0) h
      (λ after stands. pieces_accepted skips (number + 1) after (next ∷ more) (omega arith) within.3 stands)

  pub output_accepted : (skips : Bool) (start : S) (input : List ℕ) → IsInputWithin skips input → Stands 1 start → AreAccepted (output_of step skips start input)
  output_accepted skips start input within h =
      subst AreAccepted (sym (output_is step skips start input)) (pieces_accepted skips 1 start (slice_split (λ b. b == 10) input) (omega arith) within h)

module _ {S : Type 0} (ask : ℕ → S → List ℕ → List ℕ) (step : ℕ → S → List ℕ → List ℕ × S) (Stands : ℕ → S → Type 0)
    (passes : (number : ℕ) (state : S) → Stands number state → Stands (number + 1) state)
    (tells : (number : ℕ) (state : S) (body : List ℕ) → IsLine number → Stands number state → IsOneLine (ask number state body))
    (answers : (number : ℕ) (state : S) (line : List ℕ) → IsLine number → Stands number state → IsAnswered (Stands (number + 1)) (step number state line)) where
  pub none_asked : (start : S) → Stands 1 start → StandsAsked Stands 1 (asking_first start)
  none_asked start h = (omega arith, h)

  module _ (number : ℕ) (state : AskedState S) (h : StandsAsked Stands number state) where
    abbrev own : ℕ
    own = number - state.asked

    -- the number among those that ask nothing goes on
    goes : own + 1 ≡ (number + 1) - state.asked
    goes = omega (arith, h.0)

    -- or stays
    stays : own ≡ (number + 1) - (state.asked + 1)
    stays = omega (arith, h.0)

    pub passes_asked : StandsAsked Stands (number + 1) state
    passes_asked = (omega (arith, h.0), subst (λ n. Stands n state.inner) goes (passes own state.inner h.1))

    module _ (is_line : IsLine number) (line : List ℕ) where
      own_line : IsLine own
      own_line = (omega (arith, h.0), omega (arith, is_line.1))

      question_answered : IsAnswered (StandsAsked Stands (number + 1)) (question_step ask number state line)
      question_answered =
          (tells own state.inner (asked_by line) own_line h.1, (omega (arith, h.0), subst (λ n. Stands n state.inner) stays h.1))

      other_answered : IsAnswered (StandsAsked Stands (number + 1)) (other_step step number state line)
      other_answered =
          let told = answers own state.inner line own_line h.1 in
          (told.0, (omega (arith, h.0), subst (λ n. Stands n (step own state.inner line).1) goes told.1))

      by : (b : Bool) → IsAnswered (StandsAsked Stands (number + 1)) (if b then question_step ask number state line else other_step step number state line)
      by true = question_answered
      by false = other_answered

      pub asked_answers : IsAnswered (StandsAsked Stands (number + 1)) (asked_step ask step number state line)
      asked_answers = by (is_question line)
