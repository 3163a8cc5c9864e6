-- A piece that is taken line by line.
use Rattle.std.proofs.Common.{◌≡◌, ◌≤◌, ℕ, ◌+◌, ◌-◌, List, [], ◌∷◌, ◌++◌, take, drop, length, refl, sym, ap, subst, ◌∙◌, inr, arith, take-append-drop, append-nil, append_assoc, length-drop, Option, None, Some}
use Rattle.std.proofs.KnownBytes.{Appends-trans}
use Rattle.std.proofs.lemmas.List.{take_all, take_rest}
use Rattle.std.proofs.Math.Seq.{take-add}
use Rattle.std.specs.Io.KnownBytes.{Appends}
use Rattle.byte_streams.specs.Writes.{AppendsFront}
use Rattle.live_lines.specs.Answering.{Answering, AnswersLine}
use Rattle.live_lines.specs.Open.{Open, line_text}
use Rattle.live_lines.specs.Taken.{Completes, Stops, Took}
use Rattle.live_lines.specs.Turns.{AddsAnswer, Answered, BeganLast, Turned, WroteLast}
use Rattle.live_lines.proofs.Fronts.{front_behind, no_front}
use Rattle.live_lines.proofs.Takes.{stops_more, took_complete, took_more}

-- ---- one line
module _ {S : Type 0} (Answers : Answering S) (old new : S) where
  empty_line : (number : ℕ) (line : List ℕ) → length line ≡ 0 → AnswersLine Answers number old line [] old
  empty_line number [] none = (refl, refl)
  empty_line number (b ∷ line) none = absurd (omega (arith, none))

  module _ (line : Open) (text : List ℕ) (is : text ≡ line_text line.skips line.number line.rest) (before : List ℕ) where
    pub none_added : length text ≡ 0 → AddsAnswer Answers old line old before before
    none_added none = ([], sym (append-nil before), subst (λ t. AnswersLine Answers line.number old t [] old) is (empty_line line.number text none))

  -- at the end, to a text that was empty
  module _ (line : Open) (before after : List ℕ) (none : before ≡ []) (adds : AddsAnswer Answers old line new before after) (written writes : Option (List ℕ)) where
    alone : after ≡ adds.0
    alone = adds.1 ∙ ap (λ l. l ++ adds.0) none

    pub last_written : Appends written writes after → WroteLast Answers old line written writes
    last_written wrote = (adds.0, (new, adds.2), subst (Appends written writes) alone wrote)

    pub last_begun : AppendsFront written writes after → BeganLast Answers old line written writes
    last_begun front = inr (adds.0, (new, adds.2), subst (AppendsFront written writes) alone front)

-- ---- lines of a piece
module _ {S : Type 0} (Answers : Answering S) (old : S) (line : Open) (written : Option (List ℕ)) where
  module _ (mid : S) (open_line : Open) (now : Option (List ℕ)) (piece text : List ℕ) (start : ℕ) (low : start ≤ length piece) (before : Answered Answers old line mid open_line written now (take start piece) text) where
    abbrev rest : List ℕ
    rest = take (length piece - start) (drop start piece)

    module _ (new : S) (next : Open) (after : List ℕ) (used : Option ℕ) (turned : Turned Answers mid open_line new next rest text after used) where
      says : (turn : Option ℕ) → used ≡ turn → Turned Answers mid open_line new next (drop start piece) text after turn
      says turn is = subst (Turned Answers mid open_line new next (drop start piece) text after) is (subst (λ bytes. Turned Answers mid open_line new next bytes text after used) (take_rest piece start) turned)

      pub one_more : (count : ℕ) → used ≡ Some count
          → (start + count ≤ length piece) × Answered Answers old line new next written now (take (start + count) piece) after
      one_more count is =
          let h = says (Some count) is in
          let told = before.told in
          let more = took_more Answers old mid line open_line _ _ before.took _ _ new next h.4 in
          let same : (told ++ text) ++ h.2 ≡ told ++ after = append_assoc told text h.2 ∙ ap (λ l. told ++ l) (sym h.3) in (
            omega (arith, h.1, length-drop start piece),
            record {
              told = told;
              wrote = before.wrote;
              took = subst (λ bytes. Took Answers old line new next bytes (told ++ after)) (sym (take-add start count piece)) (subst (Took Answers old line new next (take start piece ++ take count (drop start piece))) same more);
            },
          )

      stopped : used ≡ None → Stops Answers old line piece (before.told ++ after)
      stopped is =
          let h = says None is in
          let more = stops_more Answers old mid line open_line _ _ before.took _ _ h.1 in
          subst (λ bytes. Stops Answers old line bytes (before.told ++ after)) (take-append-drop start piece)
          (subst (Stops Answers old line (take start piece ++ drop start piece)) (append-nil (before.told ++ text) ∙ ap (λ l. before.told ++ l) (sym h.0)) more)

      pub stopped_told : used ≡ None → (new : Option (List ℕ)) → Appends now new after
          → (all : List ℕ) × Appends written new all × Stops Answers old line piece all
      stopped_told is new adds = (before.told ++ after, Appends-trans written now new before.told after before.wrote adds, stopped is)

      pub stopped_front : used ≡ None → (new : Option (List ℕ)) → AppendsFront now new after
          → (all : List ℕ) × AppendsFront written new all × Completes Answers old line piece all
      stopped_front is new front = (before.told ++ after, front_behind written now new before.told after before.wrote front, (stopped is).0)

    -- some of the text, or all, is written
    pub wrote_more : (more kept : List ℕ) (new : Option (List ℕ)) → text ≡ more ++ kept → Appends now new more
        → Answered Answers old line mid open_line written new (take start piece) kept
    wrote_more more kept new parts adds = record {
      told = before.told ++ more;
      wrote = Appends-trans written now new before.told more before.wrote adds;
      took = subst (Took Answers old line mid open_line (take start piece)) (ap (λ l. before.told ++ l) parts ∙ sym (append_assoc before.told more kept)) before.took;
    }

    -- a front of it is written
    pub some_front : (new : Option (List ℕ)) → AppendsFront now new text → (all : List ℕ) × AppendsFront written new all × Completes Answers old line piece all
    some_front new front = (
      before.told ++ text,
      front_behind written now new before.told text before.wrote front,
      subst (λ bytes. Completes Answers old line bytes (before.told ++ text)) (take-append-drop start piece) (took_complete Answers old mid line open_line (take start piece) _ before.took (drop start piece)),
    )

    -- none of it is written
    pub no_more : (new : Option (List ℕ)) → new ≡ now → (all : List ℕ) × AppendsFront written new all × Completes Answers old line piece all
    no_more new same = some_front new (no_front now new text same)

    -- all of the piece was taken
    pub all_told : (new : Option (List ℕ)) → length piece ≤ start → Appends now new text
        → (all : List ℕ) × Appends written new all × Took Answers old line mid open_line piece all
    all_told new ends adds = (
      before.told ++ text,
      Appends-trans written now new before.told text before.wrote adds,
      subst (λ bytes. Took Answers old line mid open_line bytes (before.told ++ text)) (take_all start piece ends) before.took,
    )
