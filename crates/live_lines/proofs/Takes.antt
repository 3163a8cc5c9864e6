-- Bytes that come piece by piece.
use Rattle.std.proofs.Common.{◌≡◌, ◌≤◌, ◌<◌, ℕ, suc, ◌+◌, List, [], ◌∷◌, ◌++◌, Bool, length, refl, sym, ap, ◌∙◌, subst, inl, inr, arith, append_assoc, append-nil, length-append}
use Rattle.live_lines.specs.Answering.{Answering, AnswersLine, AnswersLines}
use Rattle.live_lines.specs.Open.{FitsLine, IsOneLine, Open, line_text, unmarked}
use Rattle.limits.specs.declared.TheConstants.{MAX_BYTES, MAX_LINES}
use Rattle.live_lines.specs.Taken.{AreWithin, Completes, IsOpenWithin, IsTooLong, Stops, Took, with_feeds}
use Rattle.live_lines.proofs.Cuts.{feeds_append}

-- ---- lines, and then lines
pub within_append : (skips : Bool) (number : ℕ) (a b : List (List ℕ)) → AreWithin skips number a → AreWithin skips (number + length a) b
    → AreWithin skips number (a ++ b)
within_append skips number [] b p q = let same : number + 0 ≡ number = omega arith in subst (λ n. AreWithin skips n b) same q
within_append skips number (line ∷ a) b p q =
    let moved : number + suc (length a) ≡ number + 1 + length a = omega arith in
    (p.0, p.1, p.2, within_append skips (number + 1) a b p.3 (subst (λ n. AreWithin skips n b) moved q))

module _ {S : Type 0} (Answers : Answering S) (skips : Bool) where
  pub lines_append : (number : ℕ) (old mid new : S) (a b : List (List ℕ)) (first second : List ℕ) → AnswersLines Answers skips number old a first mid
      → AnswersLines Answers skips (number + length a) mid b second new → AnswersLines Answers skips number old (a ++ b) (first ++ second) new
  lines_append number old mid new [] b first second p q =
      let same : number + 0 ≡ number = omega arith in
      subst (λ t. AnswersLines Answers skips number old b (t ++ second) new) (sym p.0)
      (subst (λ s. AnswersLines Answers skips number s b second new) p.1 (subst (λ n. AnswersLines Answers skips n mid b second new) same q))
  lines_append number old mid new (line ∷ a) b first second p q =
      let moved : number + suc (length a) ≡ number + 1 + length a = omega arith in
      let later = lines_append (number + 1) p.1 mid new a b p.2 second p.4 (subst (λ n. AnswersLines Answers skips n mid b second new) moved q) in
      (p.0, p.1, p.2 ++ second, p.3, later, ap (λ t. t ++ second) p.5 ∙ append_assoc p.0 p.2 second)

  -- lines, and the lines behind them
  pub lines_part : (number : ℕ) (old new : S) (a b : List (List ℕ)) (text : List ℕ) → AnswersLines Answers skips number old (a ++ b) text new
      → (first : List ℕ) × (mid : S) × (second : List ℕ) × AnswersLines Answers skips number old a first mid
      × AnswersLines Answers skips (number + length a) mid b second new × (text ≡ first ++ second)
  lines_part number old new [] b text h =
      let same : number ≡ number + 0 = omega arith in
      ([], old, text, (refl, refl), subst (λ n. AnswersLines Answers skips n old b text new) same h, refl)
  lines_part number old new (line ∷ a) b text h =
      let more = lines_part (number + 1) h.1 new a b h.2 h.4 in
      let moved : number + 1 + length a ≡ number + suc (length a) = omega arith in (
        h.0 ++ more.0,
        more.1,
        more.2,
        (h.0, h.1, more.0, h.3, more.3, refl),
        subst (λ n. AnswersLines Answers skips n more.1 b more.2 new) moved more.4,
        h.5 ∙ ap (λ l. h.0 ++ l) more.5 ∙ sym (append_assoc h.0 more.0 more.2),
      )

  -- ---- pieces
  -- nothing came
  pub took_none : (state : S) (line : Open) → line.skips ≡ skips → IsOpenWithin line → Took Answers state line state line [] []
  took_none state line same within = record {
    lines = [];
    split = append-nil line.rest;
    within = tt;
    open_within = within;
    same = refl;
    count = omega arith;
    answers = (refl, refl);
  }

module _ {S : Type 0} (Answers : Answering S) where
  -- bytes that end no line
  pub kept : (state : S) (line next : Open) (bytes : List ℕ) → next ≡ record line { rest = line.rest ++ bytes } → IsOpenWithin next
      → Took Answers state line state next bytes []
  kept state line next bytes is within = record {
    lines = [];
    split = sym (ap (λ (l : Open). l.rest) is);
    within = tt;
    open_within = within;
    same = ap (λ (l : Open). l.skips) is;
    count = ap (λ (l : Open). l.number) is ∙ omega arith;
    answers = (refl, refl);
  }

  -- bytes that end one line, with its line feed
  pub ended : (state after : S) (line whole next : Open) (front text : List ℕ) → whole ≡ record line { rest = line.rest ++ front }
      → next ≡ record whole { number = whole.number + 1; rest = [] }
      → line.number ≤ MAX_LINES → IsOneLine whole.rest → FitsLine whole.skips whole.number whole.rest
      → AnswersLine Answers whole.number state (line_text whole.skips whole.number whole.rest) text after
      → Took Answers state line after next (front ++ 10 ∷ []) text
  ended state after line whole next front text is then few one fits answer =
      let rest : whole.rest ≡ line.rest ++ front = ap (λ (l : Open). l.rest) is in
      let none : next.rest ≡ [] = ap (λ (l : Open). l.rest) then in
      let Fits : Open → Type 0 = λ l. FitsLine l.skips l.number l.rest in
      let Now : Open → Type 0 = λ l. AnswersLine Answers l.number state (line_text l.skips l.number l.rest) text after in
      record {
        lines = (line.rest ++ front) ∷ [];
        split = sym (append_assoc line.rest front (10 ∷ [])) ∙ sym (append-nil ((line.rest ++ front) ++ 10 ∷ [])) ∙ ap (λ l. ((line.rest ++ front) ++ 10 ∷ []) ++ l) (sym none);
        within = (few, subst IsOneLine rest one, subst Fits is fits, tt);
        open_within = (subst IsOneLine (sym none) refl, subst (λ l. FitsLine next.skips next.number l) (sym none) (search (arith)), λ lt. absurd (omega (arith, ap length none)));
        same = ap (λ (l : Open). l.skips) then ∙ ap (λ (l : Open). l.skips) is;
        count = ap (λ (l : Open). l.number) then ∙ ap (λ (l : Open). l.number + 1) is;
        answers = (text, after, [], subst Now is answer, (refl, refl), sym (append-nil text));
      }

  -- bytes that complete no line
  abbrev none_complete : (state : S) (line : Open) (bytes : List ℕ) → Completes Answers state line bytes []
  none_complete state line bytes = record { lines = []; rest = line.rest ++ bytes; split = refl; within = tt; after = state; answers = (refl, refl) }

  -- a line is one too many
  pub too_many : (state : S) (line : Open) (bytes : List ℕ) → MAX_LINES < line.number → 0 < length bytes → Stops Answers state line bytes []
  too_many state line bytes many some = (none_complete state line bytes, inl (omega (arith), omega (arith, length-append line.rest bytes)))

  -- a line is too long
  pub too_wide : (state : S) (line next : Open) (bytes front more : List ℕ) → bytes ≡ front ++ more → next ≡ record line { rest = line.rest ++ front }
      → IsOneLine next.rest
      → ¬ (FitsLine next.skips next.number next.rest) → Stops Answers state line bytes []
  too_wide state line next bytes front more parts is one wide =
      let P : Open → Type 0 = λ l. ¬ (FitsLine l.skips l.number l.rest) in
      let long : ¬ (FitsLine line.skips line.number (line.rest ++ front)) = subst P is wide in
      let rest : next.rest ≡ line.rest ++ front = ap (λ (l : Open). l.rest) is in
      let same : line.number ≡ line.number + 0 = omega arith in
      let greater : MAX_BYTES < length (unmarked line.skips line.number (line.rest ++ front)) = omega arith in (
        none_complete state line bytes,
        inr (
          line.rest ++ front,
          more,
          ap (λ l. line.rest ++ l) parts ∙ sym (append_assoc line.rest front more),
          subst IsOneLine rest one,
          subst (λ n. MAX_BYTES < length (unmarked line.skips n (line.rest ++ front))) same greater,
        ),
      )

  pub joined : (rest first second : List ℕ) (a b : List (List ℕ)) (middle last : List ℕ) → rest ++ first ≡ with_feeds a ++ middle
      → middle ++ second ≡ with_feeds b ++ last
      → rest ++ (first ++ second) ≡ with_feeds (a ++ b) ++ last
  joined rest first second a b middle last p q =
      sym (append_assoc rest first second) ∙ ap (λ l. l ++ second) p ∙ append_assoc (with_feeds a) middle second ∙ ap (λ l. with_feeds a ++ l) q
      ∙ sym (append_assoc (with_feeds a) (with_feeds b) last) ∙ ap (λ l. l ++ last) (sym (feeds_append a b))

  -- bytes, and then bytes
  module _ (start middle : S) (line mid : Open) (first told : List ℕ) (p : Took Answers start line middle mid first told) where
    -- what is said of the line that is open then
    pub behind : (P : Bool → ℕ → Type 0) → P mid.skips mid.number → P line.skips (line.number + length p.lines)
    behind P h = subst (λ s. P s (line.number + length p.lines)) p.same (subst (P mid.skips) p.count h)

    module _ (second tells : List ℕ) where
      pub took_more : (last : S) (next : Open) → Took Answers middle mid last next second tells → Took Answers start line last next (first ++ second) (told ++ tells)
      took_more last next q = record {
        lines = p.lines ++ q.lines;
        split = joined line.rest first second p.lines q.lines mid.rest next.rest p.split q.split;
        within = within_append line.skips line.number p.lines q.lines p.within (behind (λ s n. AreWithin s n q.lines) q.within);
        open_within = q.open_within;
        same = q.same ∙ p.same;
        count = omega (arith, p.count, q.count, length-append p.lines q.lines);
        answers = lines_append Answers line.skips line.number start middle last p.lines q.lines told tells p.answers
            (behind (λ s n. AnswersLines Answers s n middle q.lines tells last) q.answers);
      }

      -- bytes, and then bytes that complete lines
      abbrev pub completes_more : Completes Answers middle mid second tells → Completes Answers start line (first ++ second) (told ++ tells)
      completes_more q = record {
        lines = p.lines ++ q.lines;
        rest = q.rest;
        split = joined line.rest first second p.lines q.lines mid.rest q.rest p.split q.split;
        within = within_append line.skips line.number p.lines q.lines p.within (behind (λ s n. AreWithin s n q.lines) q.within);
        after = q.after;
        answers = lines_append Answers line.skips line.number start middle q.after p.lines q.lines told tells p.answers
            (behind (λ s n. AnswersLines Answers s n middle q.lines tells q.after) q.answers);
      }

      -- bytes, and then bytes that tell a line that is too long
      pub stops_more : Stops Answers middle mid second tells → Stops Answers start line (first ++ second) (told ++ tells)
      stops_more q =
          let lines = q.0.lines in
          let count : line.number + length p.lines + length lines ≡ line.number + length (p.lines ++ lines) = omega (arith, length-append p.lines lines) in
          (completes_more q.0, subst (λ n. IsTooLong line.skips n q.0.rest) count (behind (λ s n. IsTooLong s (n + length lines) q.0.rest) q.1))

    -- what bytes completed, whatever is behind them
    pub took_complete : (more : List ℕ) → Completes Answers start line (first ++ more) told
    took_complete more = record {
      lines = p.lines;
      rest = mid.rest ++ more;
      split = sym (append_assoc line.rest first more) ∙ ap (λ l. l ++ more) p.split ∙ append_assoc (with_feeds p.lines) mid.rest more;
      within = p.within;
      after = middle;
      answers = p.answers;
    }
