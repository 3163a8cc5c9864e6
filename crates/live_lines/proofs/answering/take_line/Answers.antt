use Rattle.std.proofs.Common.{◌≡◌, ℕ, List, [], ◌++◌, take, drop, rules, sym, ap, subst, arith, take-append-drop, append-nil, length}
use Rattle.std.proofs.lemmas.List.{take_all}
use Rattle.live_lines.specs.Open.{FitsLine, IsOneLine, Open}
use Rattle.live_lines.specs.Taken.{Took}
use Rattle.live_lines.proofs.OneLine.{front_one, whole_one, one_append, feed_taken}
use Rattle.live_lines.proofs.Takes.{ended, kept, too_many, too_wide}
use Rattle.live_lines.proofs.answering.take_line.Goals as goal

-- the line with further bytes is one line
still_one : (line next : Open) (bytes : List ℕ) → next ≡ record line { rest = line.rest ++ bytes } → IsOneLine line.rest → IsOneLine bytes → IsOneLine next.rest
still_one line next bytes is p q = subst IsOneLine (sym (ap (λ (l : Open). l.rest) is)) (one_append line.rest bytes p q)

pub returns-then-from-gt-MAX_LINES : goal.returns-then-from-gt-MAX_LINES
returns-then-from-gt-MAX_LINES g c = (search rules, too_many _ _ _ _ (omega arith) c.requires.some)

pub add-requires : goal.add-requires
add-requires g c = front_one _ _ c.in-Some.ensures

-- the number of the line is as it was
pub add_answer-requires-clause-few : goal.add_answer-requires-clause-few
add_answer-requires-clause-few g c = λ some. omega (arith, ap (λ (l : Open). l.number) c.in_ok-add-in-Some.ensures)

pub add_answer-requires-clause-next : goal.add_answer-requires-clause-next
add_answer-requires-clause-next g c =
    subst (λ n. g.A.LineAnswers.stands n c.args.answers.now) (sym (ap (λ (l : Open). l.number) c.in_ok-add-in-Some.ensures)) c.requires.next

-- the test says so
unfit : (P Q : Type 0) → (P → Q) × (Q → P) → ¬ P → ¬ Q
unfit P Q both fails q = fails (both.1 q)

pub returns-then-not-fits : goal.returns-then-not-fits
returns-then-not-fits g c =
    let bytes = c.args.bytes.now in
    let end = c.in-Some.end in (
      search rules,
      too_wide _ _ c.args.line.now c.add.new.self bytes (take end bytes) (drop end bytes) (sym (take-append-drop end bytes)) c.in_ok-add-in-Some.ensures
          (still_one c.args.line.now c.add.new.self (take end bytes) c.in_ok-add-in-Some.ensures c.requires.one_line (front_one _ _ c.in-Some.ensures)) (unfit _ _ c.if-not-fits.ensures (search rules)),
    )

pub add-requires-in-None : goal.add-requires-in-None
add-requires-in-None g c = whole_one _ c.in-None.ensures

pub returns-then-not-fits-2 : goal.returns-then-not-fits-2
returns-then-not-fits-2 g c =
    let bytes = c.args.bytes.now in (
      search rules,
      too_wide _ _ c.args.line.now c.add-in-None.new.self bytes bytes [] (sym (append-nil bytes)) c.in_ok-add-in-None.ensures
          (still_one c.args.line.now c.add-in-None.new.self bytes c.in_ok-add-in-None.ensures c.requires.one_line (whole_one _ c.in-None.ensures)) (unfit _ _ c.if-not-fits-2.ensures (search rules)),
    )

pub returns-in_ok-add_answer-in-Some : goal.returns-in_ok-add_answer-in-Some
returns-in_ok-add_answer-in-Some g c =
    let bytes = c.args.bytes.now in
    let end = c.in-Some.end in
    let line = c.args.line.now in
    let whole = c.add.new.self in
    let Answers = g.A.LineAnswers.answers in
    let told = c.in_ok-add_answer-in-Some.ensures in
    let one = still_one line whole (take end bytes) c.in_ok-add-in-Some.ensures c.requires.one_line (front_one _ _ c.in-Some.ensures) in
    let fits : FitsLine whole.skips whole.number whole.rest = c.if-not-fits.ensures.0 (search rules) in (
      omega arith,
      omega (arith, c.in-Some.ensures.0.high),
      told.0,
      told.1,
      subst (λ b. Took Answers c.args.answers.now line c.add_answer.new.answers c.end.new.self b told.0) (sym (feed_taken bytes end c.in-Some.ensures))
          (ended Answers c.args.answers.now c.add_answer.new.answers line whole c.end.new.self (take end bytes) told.0 c.in_ok-add-in-Some.ensures c.end.ensures (omega arith) one fits told.2),
    )

pub returns-else-not-fits-2 : goal.returns-else-not-fits-2
returns-else-not-fits-2 g c =
    let bytes = c.args.bytes.now in
    let line = c.args.line.now in
    let next = c.add-in-None.new.self in
    let one = still_one line next bytes c.in_ok-add-in-None.ensures c.requires.one_line (whole_one _ c.in-None.ensures) in
    let fits : FitsLine next.skips next.number next.rest = c.if-not-fits-2.ensures.0 (search rules) in
    let number : next.number ≡ line.number = ap (λ (l : Open). l.number) c.in_ok-add-in-None.ensures in
    let Answers = g.A.LineAnswers.answers in
    let took = kept Answers _ line next bytes c.in_ok-add-in-None.ensures (one, fits, λ lt. omega (arith, number)) in (
      omega (arith, c.requires.some),
      omega arith,
      [],
      sym (append-nil _),
      subst (λ b. Took Answers c.args.answers.now line c.args.answers.now next b []) (sym (take_all (length bytes) bytes (omega arith))) took,
    )
