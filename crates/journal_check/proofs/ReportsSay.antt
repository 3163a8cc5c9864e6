-- What a report says of the lines of a journal, of any kind, and of those of a run.
use Rattle.std.proofs.Common.{◌≡◌, ℕ, suc, ◌+◌, ◌-◌, ◌<◌, Bool, if◌then◌else◌, List, [], ◌∷◌, length, map, take, get_or, count_by, Option, Some, None, refl, sym, ap, ◌∙◌, subst, arith}
use Rattle.std.specs.List.{All}
use Rattle.std.proofs.lemmas.List.Elements.{All-cons, All-nil}
use Rattle.std.proofs.lemmas.List.Sums.{sum_by-cons}
use Rattle.journal_check.specs.declared.findings.Finding.{Finding}
use Rattle.journal_check.specs.declared.findings.Finding.TheVariants.{Plain, Cleared, Bounded, Faulty}
use Rattle.journal_check.specs.declared.reports.Reason.{Reason}
use Rattle.journal_check.specs.JournalLines.{lines_of}
use Rattle.journal_check.specs.Findings.{finding_of, fault_in, is_batch, is_bounded, is_optimal}
use Rattle.journal_check.specs.Reports.{fault_or, first_fault, report_by, report_with}
use Rattle.journal_check.specs.Laws.{AreSoundBy, Counts, HasReason, IsSomeLine, IsSoundLineOf, ReportsSay, SaysBy, reply_counts}
use Rattle.journal_check.proofs.LineSays.{FindingSaysBy, IsCountedBy, line_says}

-- one item more is counted by the same answer
counts_more : {A B : Type 0} (p : A → Bool) (q : B → Bool) (x : A) (xs : List A) (y : B) (ys : List B) → q y ≡ p x → count_by p xs ≡ count_by q ys
    → count_by p (x ∷ xs) ≡ count_by q (y ∷ ys)
counts_more p q x xs y ys same counts =
    sum_by-cons (λ v. if p v then 1 else 0) x xs
    ∙ (ap (λ (is : Bool). (if is then 1 else 0) + count_by p xs) (sym same) ∙ ap (λ n. (if q y then 1 else 0) + n) counts)
    ∙ sym (sum_by-cons (λ v. if q v then 1 else 0) y ys)

module _ {R : Type 0} (IsLine : List ℕ → R → Type 0) (counts : Counts R) (Fails : List ℕ → Reason → Type 0) (finding : List ℕ → Finding) where
  -- the fault stands at a place of the lines, which are numbered from n on
  record IsFaultAt (n : ℕ) (texts : List (List ℕ)) (fault : ℕ × Reason) : Type 0 where
    place : ℕ
    number : fault.0 ≡ n + place
    within : place < length texts
    before : All (IsSomeLine IsLine) (take place texts)
    reason : Fails (get_or texts place []) fault.1

  -- no line has a fault, and so they are counted
  abbrev AreCounted : List (List ℕ) → Type 0
  AreCounted texts =
      let findings = map finding texts in
      AreSoundBy IsLine counts texts (count_by is_batch findings) (count_by is_bounded findings) (length findings) (count_by is_optimal findings)

  abbrev SaysFrom : ℕ → List (List ℕ) → Option (ℕ × Reason) → Type 0
  SaysFrom n texts None = AreCounted texts
  SaysFrom n texts (Some fault) = IsFaultAt n texts fault

  some_line : (text : List ℕ) → IsCountedBy IsLine counts text (finding text) → IsSomeLine IsLine text
  some_line text h = record { reply = h.reply; is_line = h.is_line }

  counted : (text : List ℕ) (texts : List (List ℕ)) → IsCountedBy IsLine counts text (finding text) → AreCounted texts → AreCounted (text ∷ texts)
  counted text texts h later =
      let found = finding text in
      let findings = map finding texts in
      record {
        sound = All-cons (IsSomeLine IsLine) text texts (some_line text h) later.sound;
        replies = h.reply ∷ later.replies;
        are_lines = (h.is_line, later.are_lines);
        count = ap suc later.count;
        cleared = counts_more is_batch counts.batch found findings h.reply later.replies h.batch later.cleared;
        limited = counts_more is_bounded counts.bounded found findings h.reply later.replies h.bounded later.limited;
        marked = counts_more is_optimal counts.optimal found findings h.reply later.replies h.optimal later.marked;
      }

  behind : (n : ℕ) (text : List ℕ) (texts : List (List ℕ)) (later : Option (ℕ × Reason)) → IsCountedBy IsLine counts text (finding text) → SaysFrom (n + 1) texts later
      → SaysFrom n (text ∷ texts) later
  behind n text texts None h s = counted text texts h s
  behind n text texts (Some fault) h s = record {
    place = suc s.place;
    number = omega (arith, s.number);
    within = omega (arith, s.within);
    before = All-cons (IsSomeLine IsLine) text (take s.place texts) (some_line text h) s.before;
    reason = s.reason;
  }

  joined : (n : ℕ) (text : List ℕ) (texts : List (List ℕ)) (found : Finding) (later : Option (ℕ × Reason)) → finding text ≡ found → FindingSaysBy IsLine counts Fails text found
      → SaysFrom (n + 1) texts later → SaysFrom n (text ∷ texts) (fault_or n (fault_in found) later)
  joined n text texts (Faulty reason) later is h s = record {
    place = 0;
    number = omega arith;
    within = omega arith;
    before = All-nil (IsSomeLine IsLine);
    reason = h;
  }
  joined n text texts (Cleared optimal) later is h s = behind n text texts later (subst (IsCountedBy IsLine counts text) (sym is) h) s
  joined n text texts Bounded later is h s = behind n text texts later (subst (IsCountedBy IsLine counts text) (sym is) h) s
  joined n text texts Plain later is h s = behind n text texts later (subst (IsCountedBy IsLine counts text) (sym is) h) s

  reported : (texts : List (List ℕ)) (fault : Option (ℕ × Reason)) → SaysFrom 1 texts fault → SaysBy IsLine counts Fails texts (report_with (map finding texts) fault)
  reported texts None h = h
  reported texts (Some fault) h =
      let place : h.place ≡ fault.0 - 1 = omega (arith, h.number) in
      record {
        some = omega (arith, h.number);
        within = omega (arith, h.number, h.within);
        before = subst (λ k. All (IsSomeLine IsLine) (take k texts)) place h.before;
        fails = subst (λ k. Fails (get_or texts k []) fault.1) place h.reason;
      }

  module _ (says : (text : List ℕ) → FindingSaysBy IsLine counts Fails text (finding text)) where
    says_from : (n : ℕ) (texts : List (List ℕ)) → SaysFrom n texts (first_fault n (map finding texts))
    says_from n [] = record { sound = All-nil (IsSomeLine IsLine); replies = []; are_lines = refl; count = refl; cleared = refl; limited = refl; marked = refl }
    says_from n (text ∷ texts) = joined n text texts (finding text) (first_fault (n + 1) (map finding texts)) refl (says text) (says_from (n + 1) texts)

    -- where each finding says what it should, so does the report
    pub reports_say_by : (bytes : List ℕ) → SaysBy IsLine counts Fails (lines_of bytes) (report_by finding bytes)
    reports_say_by bytes = reported (lines_of bytes) (first_fault 1 (map finding (lines_of bytes))) (says_from 1 (lines_of bytes))

pub reports_say : ReportsSay
reports_say = reports_say_by IsSoundLineOf reply_counts HasReason finding_of line_says
