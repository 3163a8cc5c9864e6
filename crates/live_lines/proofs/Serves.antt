-- How the answers to an input go on, and how they end.
use Rattle.std.proofs.Common.{◌≡◌, ◌≤◌, ◌<◌, ◌⊎◌, ℕ, zero, suc, ◌+◌, ◌-◌, ◌*◌, List, [], ◌∷◌, ◌++◌, Bool, true, false, ◌==◌, length, drop, refl, sym, ap, ◌∙◌, subst, inl, inr, arith, append-nil, append_assoc, length-append, length-drop, Option, Some, None, IfSome, Result, Ok, Err, IsOk, OnErr, OnOk, if◌then◌else◌}
use Rattle.std.proofs.KnownBytes.{Appends-nil, Appends-trans, Consumes-kept, Consumes-nil, Consumes-trans}
use Rattle.std.specs.Io.KnownBytes.{Appends, Consumes, IsAtEnd, Keeps}
use Rattle.std.specs.Prelude.{IsSomeAnd}
use Rattle.std.proofs.lemmas.Option.{IfSome_then}
use Rattle.byte_streams.specs.Faults.{Rose, last_count, raised_by}
use Rattle.byte_streams.specs.Reads.{LastRead, WasReadAt}
use Rattle.command_text.specs.Fields.{begins_with_mark}
use Rattle.command_text.specs.Lines.{mark_size}
use Rattle.command_text.proofs.LineParts.{cut}
use Rattle.live_lines.specs.Answering.{Answering, IsLastAnswer, IsOutput}
use Rattle.live_lines.specs.Open.{Open, new_open, unmarked}
use Rattle.limits.specs.declared.TheConstants.{MAX_BYTES, MAX_LINES}
use Rattle.live_lines.specs.Serving.{AnsweredAll, AnsweredBefore, AnsweredLines, AnsweredSome, Counts, Ends, IsInputWithin, IsServed, IsServedInTime, Known, OfAll, OfBefore, OfLines, OfSome, TookAll, Wrote, WroteFirst, WroteSome, piece_limit}
use Rattle.live_lines.specs.Taken.{AreWithin, IsOpenWithin, Took, with_feeds}
use Rattle.byte_streams.specs.declared.stop.IoStop.{IoStop}
use Rattle.byte_streams.specs.declared.stop.IoStop.TheVariants.{ReadFault, WriteFault, TooLong, Memory}
use Rattle.live_lines.proofs.Cuts.{cut_lines}
use Rattle.live_lines.proofs.Fronts.{front_behind, whole_front}
use Rattle.live_lines.proofs.Outputs.{alone_lines, lines_alone, lines_written, whole_output}
use Rattle.live_lines.proofs.Takes.{completes_more, stops_more, took_more, took_none}
use Rattle.live_lines.proofs.Turning.{BeganSome, Came, IsOver, ReadsTo, TellsTooLong}
use Rattle.live_lines.proofs.Within.{more_than_limit, tells_none, took_within}

-- what was left and written at the start, and now
abbrev pub known_of : Option (List ℕ) → Option (List ℕ) → Option (List ℕ) → Option (List ℕ) → Known
known_of left still written writes = record { left = left; still = still; written = written; writes = writes }

abbrev pub counts_of : ℕ → ℕ → ℕ → ℕ → ℕ → ℕ → Counts
counts_of read reads write writes taken takes = record { read = read; reads = reads; write = write; writes = writes; taken = taken; takes = takes }

-- ---- the bytes that were left
of_more : (left still : Option (List ℕ)) (bytes : List ℕ) (P : List ℕ → Type 0) → Consumes left still bytes → ((more : List ℕ) → P (bytes ++ more))
    → IfSome left P
of_more None still bytes P gave all = tt
of_more (Some xs) None bytes P gave all = absurd gave
of_more (Some xs) (Some ys) bytes P gave all = subst P (sym gave) (all ys)

taken_whole : (left still stays : Option (List ℕ)) (bytes : List ℕ) → Consumes left still bytes → Keeps still stays → IsAtEnd still
    → IfSome left (λ input. (bytes ≡ input) × (stays ≡ Some []))
taken_whole None still stays bytes gave kept at_end = tt
taken_whole (Some xs) None stays bytes gave kept at_end = absurd gave
taken_whole (Some xs) (Some ys) None bytes gave kept at_end = absurd kept
taken_whole (Some xs) (Some ys) (Some zs) bytes gave kept at_end =
    (sym (gave ∙ ap (λ l. bytes ++ l) at_end ∙ append-nil bytes), ap (λ (l : List ℕ). Some l) (kept ∙ at_end))

of_whole : (left : Option (List ℕ)) (bytes : List ℕ) (Q : Type 0) (P : List ℕ → Type 0) → IfSome left (λ input. (bytes ≡ input) × Q) → (Q → P bytes) → IfSome left P
of_whole None bytes Q P all p = tt
of_whole (Some input) bytes Q P all p = subst P all.0 (p all.1)

pub open_within : (skips : Bool) → IsOpenWithin (new_open skips)
open_within true = (refl, omega arith, λ lt. absurd (omega arith))
open_within false = (refl, omega arith, λ lt. absurd (omega arith))

-- ---- between two reads
counted_none : (taken : ℕ) → taken ≤ last_count → taken ≡ raised_by taken 0
counted_none taken low = omega (arith, low)

counted_more : (taken takes now a b : ℕ) → takes ≡ raised_by taken a → now ≡ raised_by takes b → now ≡ raised_by taken (a + b)
counted_more taken takes now a b p q = omega (arith, p, q)

counted_less : (taken now a b : ℕ) → a ≤ b → now ≡ raised_by taken b → raised_by taken a ≤ now
counted_less taken now a b le is = omega (arith, le, is)

module _ {S : Type 0} (Answers : Answering S) where
  pub came_none : (state : S) (line : Open) (left written : Option (List ℕ)) (read write taken : ℕ) → IsOpenWithin line → taken ≤ last_count
      → Came Answers state line state line (known_of left left written written) (counts_of read read write write taken taken)
  came_none state line left written read write taken within low = record {
    bytes = [];
    text = [];
    gave = Consumes-nil left;
    counted = counted_none taken low;
    wrote = Appends-nil written;
    took = took_none Answers line.skips state line refl within;
    read_calm = refl;
    write_calm = refl;
  }

  module _ (old state : S) (first line : Open) (left still written writes : Option (List ℕ)) (read reads write writers taken takes : ℕ)
      (came : Came Answers old first state line (known_of left still written writes) (counts_of read reads write writers taken takes)) where
    pub came_more : (after : S) (next : Open) (stays adds : Option (List ℕ)) (r w t limit : ℕ)
        → ReadsTo Answers state line after next limit (known_of still stays writes adds) (counts_of reads r writers w takes t) (Ok true)
        → Came Answers old first after next (known_of left stays written adds) (counts_of read r write w taken t)
    came_more after next stays adds r w t limit on = let more = on.0 in record {
      bytes = came.bytes ++ more.bytes;
      text = came.text ++ more.text;
      gave = Consumes-trans left still stays came.bytes more.bytes came.gave more.gave;
      counted = counted_more taken takes t (length came.bytes) (length more.bytes) came.counted more.counted ∙ ap (raised_by taken) (sym (length-append came.bytes more.bytes));
      wrote = Appends-trans written writes adds came.text more.text came.wrote more.wrote;
      took = took_more Answers old state first line came.bytes came.text came.took more.bytes more.text after next more.took;
      read_calm = more.read_calm ∙ came.read_calm;
      write_calm = more.write_calm ∙ came.write_calm;
    }

-- ---- how a turn ends
module _ {S : Type 0} (Answers : Answering S) (skips : Bool) (start state : S) (line : Open) (left still written writes : Option (List ℕ))
    (read reads write writers taken takes : ℕ) (came : Came Answers start (new_open skips) state line (known_of left still written writes) (counts_of read reads write writers taken takes)) where
  long_after : (stays adds : Option (List ℕ)) (r w t limit : ℕ) → limit ≤ piece_limit
      → TellsTooLong Answers state line limit (known_of still stays writes adds) (counts_of reads r writers w takes t)
      → AnsweredBefore Answers skips start (known_of left stays written adds) × (raised_by taken (MAX_BYTES + 1) ≤ t)
  long_after stays adds r w t limit low told =
      let piece = told.0 in
      let stops = stops_more Answers start state (new_open skips) line came.bytes came.text came.took piece told.1 told.6 in
      let all = stops.0 in
      let text = came.text ++ told.1 in
      let many = more_than_limit skips all.lines all.rest stops.1 in
      let now = counted_more taken takes t (length came.bytes) (length piece) came.counted told.4 in (
        (
          all.lines,
          all.rest,
          subst (Consumes left stays) all.split (Consumes-trans left still stays came.bytes piece came.gave told.2),
          all.within,
          stops.1,
          (text, lines_alone Answers skips start all.lines text all.after all.within all.answers, Appends-trans written writes adds came.text told.1 came.wrote told.5),
          (came.bytes, piece, sym all.split, omega (arith, told.3, low), took_within Answers skips start state line came.bytes came.text came.took),
        ),
        counted_less taken t (MAX_BYTES + 1) (length came.bytes + length piece) (omega (arith, many, ap length all.split, length-append came.bytes piece)) now,
      )

  -- all that was left was taken
  all_taken : (stays adds : Option (List ℕ)) → IsOver (known_of still stays writes adds) → TookAll (known_of left stays written adds) came.bytes
  all_taken stays adds over = (Consumes-kept left still stays came.bytes came.gave over.0, taken_whole left still stays came.bytes came.gave over.0 over.1)

  -- behind what was written comes a last answer
  whole : (last : List ℕ) → IsLastAnswer Answers state line last → IsOutput Answers skips start came.bytes (came.text ++ last)
  whole last left = whole_output Answers skips start state line came.bytes came.text last came.took left

  -- nothing more is written
  lines_after : (stays adds : Option (List ℕ)) → Keeps still stays → adds ≡ writes → AnsweredLines Answers skips start (known_of left stays written adds)
  lines_after stays adds kept same = (
    came.took.lines,
    line.rest,
    subst (Consumes left stays) came.took.split (Consumes-kept left still stays came.bytes came.gave kept),
    came.took.within,
    came.took.open_within.0,
    (
      came.text,
      lines_written Answers skips start state line came.bytes came.text came.took,
      subst (λ now. Appends written now came.text) (sym same) came.wrote,
    ),
  )

  front_after : (stays adds : Option (List ℕ)) → BeganSome Answers state line (known_of still stays writes adds)
      → AnsweredSome Answers skips start (known_of left stays written adds)
  front_after stays adds some = elim some [
    | inl lines ↦
        let all = completes_more Answers start state (new_open skips) line came.bytes came.text came.took lines.0 lines.1 lines.4 in
        let text = came.text ++ lines.1 in
        inl (
          all.lines,
          all.rest,
          subst (Consumes left stays) all.split (Consumes-trans left still stays came.bytes lines.0 came.gave lines.2),
          all.within,
          (text, lines_alone Answers skips start all.lines text all.after all.within all.answers, front_behind written writes adds came.text lines.1 came.wrote lines.3),
        )
    | inr over ↦ elim over.1 [
      | inl same ↦
          let lines = lines_after stays adds over.0.0 same in
          inl (lines.0, lines.1, lines.2, lines.3, (lines.5.0, lines.5.1, whole_front written adds lines.5.0 lines.5.2))
      | inr last ↦ inr (
        came.bytes,
        all_taken stays adds over.0,
        (came.text ++ last.0, whole last.0 last.1, front_behind written writes adds came.text last.0 came.wrote last.2),
      )
    ]
  ]

  pub ends_after : (after : S) (next : Open) (stays adds : Option (List ℕ)) (r w t limit : ℕ)
      → ReadsTo Answers state line after next limit (known_of still stays writes adds) (counts_of reads r writers w takes t) (Ok false)
      → Ends Answers skips start (known_of left stays written adds) (counts_of read r write w taken t) (Ok tt)
  ends_after after next stays adds r w t limit turn =
      let last = turn.1 in (
        came.bytes,
        all_taken stays adds turn.0,
        took_within Answers skips start state line came.bytes came.text came.took,
        (came.text ++ last.0, whole last.0 last.1, Appends-trans written writes adds came.text last.0 came.wrote last.2),
      )

  pub stops_after : (after : S) (next : Open) (stays adds : Option (List ℕ)) (r w t limit : ℕ) (e : IoStop) → limit ≤ piece_limit
      → ReadsTo Answers state line after next limit (known_of still stays writes adds) (counts_of reads r writers w takes t) (Err e)
      → Ends Answers skips start (known_of left stays written adds) (counts_of read r write w taken t) (Err e)
  stops_after after next stays adds r w t limit ReadFault low turn = (lines_after stays adds turn.0 turn.1, subst (λ n. Rose n r) came.read_calm turn.2)
  stops_after after next stays adds r w t limit WriteFault low turn = (front_after stays adds turn.0, subst (λ n. Rose n w) came.write_calm turn.1)
  stops_after after next stays adds r w t limit TooLong low turn =
      let long = long_after stays adds r w t limit low turn.0 in (long.0, turn.1 ∙ came.read_calm, long.1)
  stops_after after next stays adds r w t limit Memory low turn = front_after stays adds turn

  -- and how it stood before the read
  pub in_time : (last : Option LastRead) → WasReadAt last still writes → IsServedInTime (Wrote Answers skips start) skips left written last
  in_time last was = IfSome_then last was (λ now is.
      subst (λ (n : LastRead). AnsweredLines Answers skips start (known_of left n.left written n.written)) (sym is) (
        came.took.lines,
        line.rest,
        subst (Consumes left still) came.took.split came.gave,
        came.took.within,
        came.took.open_within.0,
        (came.text, lines_written Answers skips start state line came.bytes came.text came.took, came.wrote),
      ))

-- ---- each piece makes the rest smaller
size_if : (b : Bool) (n : ℕ) (line : List ℕ) → n ≤ 3 → length line ≤ length (if b then drop n line else line) + 3
size_if true n line le = omega (arith, length-drop n line)
size_if false n line le = omega arith

mark_small_if : (b : Bool) → (if b then 3 else 0) ≤ 3
mark_small_if true = omega arith
mark_small_if false = omega arith

bare_size : (skips : Bool) (number : ℕ) (line : List ℕ) → length line ≤ length (unmarked skips number line) + 3
bare_size true number line = size_if (number == 1) (mark_size line) line (mark_small_if (begins_with_mark line))
bare_size false number line = omega arith

count_within : (skips : Bool) (number : ℕ) (lines : List (List ℕ)) → AreWithin skips number lines → number ≤ MAX_LINES + 1
    → number + length lines ≤ MAX_LINES + 1
count_within skips number [] within le = omega arith
count_within skips number (line ∷ lines) within le = omega (arith, count_within skips (number + 1) lines within.3 (omega (arith, within.0)))

grows : (lines : List (List ℕ)) (rest bytes next : List ℕ) → rest ++ bytes ≡ with_feeds lines ++ next → length lines ≡ 0
    → length next ≡ length rest + length bytes
grows [] rest bytes next is e = sym (ap length is) ∙ length-append rest bytes
grows (line ∷ lines) rest bytes next is e = absurd (omega arith)

falls : (number next lines rest size bytes : ℕ) → next ≡ number + lines → next ≤ 16777217 → rest ≤ 16777219 → size ≤ 16777219 → 1 ≤ bytes
    → (lines ≡ 0 → size ≡ rest + bytes)
    → 16777220 * (16777218 - next) + (16777220 - size) < 16777220 * (16777218 - number) + (16777220 - rest)
falls number next zero rest size bytes is few low within some g = let e : size ≡ rest + bytes = g refl in omega arith
falls number next (suc lines) rest size bytes is few low within some g = omega arith

pub smaller : {S : Type 0} (Answers : Answering S) (start state after : S) (skips : Bool) (line next : Open) (before told bytes tells : List ℕ)
    → Took Answers start (new_open skips) state line before told → Took Answers state line after next bytes tells → 1 ≤ length bytes
    → 16777220 * (16777218 - next.number) + (16777220 - length next.rest) < 16777220 * (16777218 - line.number) + (16777220 - length line.rest)
smaller Answers start state after skips line next before told bytes tells p q some =
    let all = took_more Answers start state (new_open skips) line before told p bytes tells after next q in
    let few : next.number ≤ 16777217 = omega (arith, all.count, count_within skips 1 all.lines all.within (omega arith)) in
    falls line.number next.number (length q.lines) (length line.rest) (length next.rest) (length bytes) q.count few
    (omega (arith, bare_size line.skips line.number line.rest, p.open_within.1)) (omega (arith, bare_size next.skips next.number next.rest, q.open_within.1)) some
    (grows q.lines line.rest bytes next.rest q.split)

-- ---- an input within the limits tells no line that is too long
module _ (skips : Bool) where
  pub past_limits : (left still written writes : Option (List ℕ)) (Said : List ℕ → Type 0) → OfBefore skips (known_of left still written writes) Said
      → IfSome left (λ input. ¬ (IsInputWithin skips input))
  past_limits None still written writes Said h = tt
  past_limits (Some xs) None written writes Said h = absurd h.2
  past_limits (Some xs) (Some ys) written writes Said h =
      λ within. tells_none skips h.0 h.1 ys h.3 h.4 (subst (IsInputWithin skips) (h.2 ∙ append_assoc (with_feeds h.0) h.1 ys) within)

-- ---- what is said of the bytes
pub ok_then : {T E : Type 0} (r : Result T E) {P Q : Type 0} → OnOk r P → (P → Q) → OnOk r Q
ok_then (Ok _) h so = so h
ok_then (Err _) h so = tt

pub err_then : {T E : Type 0} (r : Result T E) {P Q : Type 0} → OnErr r P → (P → Q) → OnErr r Q
err_then (Ok _) h so = tt
err_then (Err _) h so = so h

-- by what it implies
module _ (skips : Bool) (known : Known) (P Q : List ℕ → Type 0) (implies : (bytes : List ℕ) → P bytes → Q bytes) where
  all_so : OfAll skips known P → OfAll skips known Q
  all_so h = (h.0, h.1, h.2, implies h.0 h.3)

  lines_so : OfLines skips known P → OfLines skips known Q
  lines_so h = (h.0, h.1, h.2, h.3, h.4, implies (with_feeds h.0) h.5)

  before_so : OfBefore skips known P → OfBefore skips known Q
  before_so h = (h.0, h.1, h.2, h.3, h.4, implies (with_feeds h.0) h.5, h.6)

  some_so : OfSome skips known P → OfSome skips known Q
  some_so h = elim h [
    | inl lines ↦ inl (lines.0, lines.1, lines.2, lines.3, implies (with_feeds lines.0) lines.4)
    | inr all ↦ inr (all.0, all.1, implies all.0 all.2)
  ]

-- of all that was left
said_of_all : (skips : Bool) (known : Known) (P : List ℕ → Type 0) → OfAll skips known P → IfSome known.left (λ input. (known.still ≡ Some []) × P input)
said_of_all skips known P h = of_whole known.left h.0 (known.still ≡ Some []) (λ input. (known.still ≡ Some []) × P input) h.1.1 (λ none. (none, h.3))

-- ---- what the ends say
not_within : (left : Option (List ℕ)) (P : List ℕ → Type 0) → IfSome left (λ input. ¬ (P input)) → IsSomeAnd left P → ⊥
not_within None P none some = some
not_within (Some input) P none some = none some

abbrev End : Type 0
End = Result (Unit {0}) IoStop

module _ {S : Type 0} (Answers : Answering S) (skips : Bool) (start : S) (known : Known) (counts : Counts) where
  done : (e : End) → Ends Answers skips start known counts e → OnOk e (AnsweredAll Answers skips start known)
  done (Ok _) h = h
  done (Err _) h = tt

  -- it is a front of what is written for the first lines of all bytes that were left
  front_of_all : AnsweredSome Answers skips start known → IfSome known.left (WroteFirst Answers skips start known)
  front_of_all front = elim front [
    | inl some ↦ of_more known.left known.still (with_feeds some.0 ++ some.1) (WroteFirst Answers skips start known) some.2 (λ more.
        let wrote = some.4 in
        let lines = alone_lines Answers skips start some.0 wrote.0 some.3 wrote.1 in
        let parts = ap cut (append_assoc (with_feeds some.0) some.1 more) ∙ cut_lines skips 1 some.0 (some.1 ++ more) some.3 in
        (wrote.0, (some.0, cut (some.1 ++ more), lines.0, parts, lines.1), wrote.2))
    | inr all ↦ of_whole known.left all.0 (known.still ≡ Some []) (WroteFirst Answers skips start known) all.1.1
        (λ none. (all.2.0, (cut all.0, [], all.2.1.0, sym (append-nil (cut all.0)), all.2.1.1), all.2.2))
  ]

  past : OfBefore skips known (Wrote Answers skips start known) → IfSome known.left (λ input. ¬ (IsInputWithin skips input))
  past h = past_limits skips known.left known.still known.written known.writes (Wrote Answers skips start known) h

  -- within the limits, and without a fault
  complete : (e : End) → Ends Answers skips start known counts e → IsSomeAnd known.left (IsInputWithin skips)
      → ¬ (Rose counts.read counts.reads) → ¬ (Rose counts.write counts.writes) → IsOk e ⊎ (e ≡ Err Memory)
  complete (Ok _) h within r w = inl refl
  complete (Err ReadFault) h within r w = absurd (r h.1)
  complete (Err WriteFault) h within r w = absurd (w h.1)
  complete (Err TooLong) h within r w = absurd (not_within known.left (IsInputWithin skips) (past h.0) within)
  complete (Err Memory) h within r w = inr refl

  ends_served : (e : End) → Ends Answers skips start known counts e
      → IsServed (Wrote Answers skips start) (WroteSome Answers skips start) (WroteFirst Answers skips start) skips known counts e
  ends_served e h =
      let At : End → Type 0 = Ends Answers skips start known counts in
      let front : (e ≡ Err WriteFault) ⊎ (e ≡ Err Memory) → AnsweredSome Answers skips start known =
      elim [ inl is ↦ (subst At is h).0 | inr is ↦ subst At is h ] in
      record {
        done = done e h;
        whole = ok_then e (done e h) (said_of_all skips known (Wrote Answers skips start known));
        read_fault = λ is. (subst At is h).0;
        too_long = λ is. (subst At is h).0;
        too_long_input = λ is. past (subst At is h).0;
        too_long_no_fault = λ is. (subst At is h).1;
        too_many = λ is. (subst At is h).2;
        front = front;
        front_of_all = λ which. front_of_all (front which);
        read_cause = λ is. (subst At is h).1;
        write_cause = λ is. (subst At is h).1;
        complete = complete e h;
      }

  -- from the line and the answers that stand at the start
  pub served_from : (line : Open) (answers : S) (e : End) → line ≡ new_open skips → answers ≡ start → Ends Answers line.skips answers known counts e
      → IsServed (Wrote Answers skips start) (WroteSome Answers skips start) (WroteFirst Answers skips start) skips known counts e
  served_from line answers e is same h =
      ends_served e (subst (λ a. Ends Answers skips a known counts e) same (subst (λ (l : Open). Ends Answers l.skips answers known counts e) is h))

pub in_time_from : {S : Type 0} (Answers : Answering S) (skips : Bool) (start : S) (left written : Option (List ℕ)) (line : Open) (answers : S) (last : Option LastRead)
    → line ≡ new_open skips → answers ≡ start → IsServedInTime (Wrote Answers line.skips answers) line.skips left written last
    → IsServedInTime (Wrote Answers skips start) skips left written last
in_time_from Answers skips start left written line answers last is same h =
    subst (λ a. IsServedInTime (Wrote Answers skips a) skips left written last) same
    (subst (λ (l : Open). IsServedInTime (Wrote Answers l.skips answers) l.skips left written last) is h)

-- what the facts of what is written imply
pub served_so : {P F G Q H I : Known → List ℕ → Type 0} (skips : Bool) (known : Known) (counts : Counts) (e : Result (Unit {0}) IoStop)
    → ((known : Known) (bytes : List ℕ) → P known bytes → Q known bytes) → ((known : Known) (bytes : List ℕ) → F known bytes → H known bytes)
    → ((known : Known) (bytes : List ℕ) → G known bytes → I known bytes) → IsServed P F G skips known counts e → IsServed Q H I skips known counts e
served_so {P} {F} {G} {Q} {H} {I} skips known counts e so front first h =
    record {
      done = ok_then e h.done (all_so skips known (P known) (Q known) (so known));
      whole = ok_then e h.whole (λ all. IfSome_then known.left all (λ input w. (w.0, so known input w.1)));
      read_fault = λ is. lines_so skips known (P known) (Q known) (so known) (h.read_fault is);
      too_long = λ is. before_so skips known (P known) (Q known) (so known) (h.too_long is);
      too_long_input = h.too_long_input;
      too_long_no_fault = h.too_long_no_fault;
      too_many = h.too_many;
      front = λ which. some_so skips known (F known) (H known) (front known) (h.front which);
      front_of_all = λ which. IfSome_then known.left (h.front_of_all which) (first known);
      read_cause = h.read_cause;
      write_cause = h.write_cause;
      complete = h.complete;
    }

pub in_time_so : {P Q : Known → List ℕ → Type 0} (skips : Bool) (left written : Option (List ℕ)) (last : Option LastRead)
    → ((known : Known) (bytes : List ℕ) → P known bytes → Q known bytes) → IsServedInTime P skips left written last → IsServedInTime Q skips left written last
in_time_so {P} {Q} skips left written last so h =
    IfSome_then last h (λ now told. let known = known_of left now.left written now.written in lines_so skips known (P known) (Q known) (so known) told)
