use Rattle.std.proofs.Common.{rules, ◌≡◌, true, Some, None, Ok, sym, ap, ap₂, ◌∙◌, inr}
use Rattle.serde_json.specs.View.{view}
use Rattle.reply_text.specs.Tests.{pair_by, tests_of}
use Rattle.reply_text.proofs.FiveTests.{spelled, not_range, not_spelled}
use Rattle.reply_text.proofs.tested.read_value.Goals as goal

pub returns-clause-ok : goal.returns-clause-ok
returns-clause-ok g c =
    let kind = g.R.TestedReply.tests in
    let d = view c.args.value.now in
    let word = sym c.word_at-word.ensures in
    let pair : pair_by d (kind.reply_by c.word_at-word.result.now d) ≡ Some (c.in-Some.line, c.in-Some.reply) = search rules in
    let shape : kind.shape_by c.word_at-word.result.now d ≡ true = search rules in
    let numbers : kind.numbers_by c.word_at-word.result.now d ≡ true = search rules in
    let same : (c.in-Some-2.pair.0 ≡ c.in-Some.line) × (c.in-Some-2.pair.1 ≡ c.in-Some.reply) × (kind.line c.in-Some.line c.in-Some.reply ≡ c.args.text.now) = search rules in
    spelled (tests_of kind) c.args.text.now d (c.in-Some.line, c.in-Some.reply) (ap (λ w. kind.shape_by w d) word ∙ shape) (ap (λ w. kind.numbers_by w d) word ∙ numbers)
    (ap (λ w. pair_by d (kind.reply_by w d)) word ∙ pair) same.2
    ∙ ap₂ (λ l r. Ok (l, r)) (sym same.0) (sym same.1)

pub returns-in_default-2-clause-err : goal.returns-in_default-2-clause-err
returns-in_default-2-clause-err g c =
    let kind = g.R.TestedReply.tests in
    let d = view c.args.value.now in
    let word = sym c.word_at-word.ensures in
    let pair : pair_by d (kind.reply_by c.word_at-word.result.now d) ≡ Some (c.in-Some.line, c.in-Some.reply) = search rules in
    let shape : kind.shape_by c.word_at-word.result.now d ≡ true = search rules in
    let numbers : kind.numbers_by c.word_at-word.result.now d ≡ true = search rules in
    let other : kind.line c.in-Some.line c.in-Some.reply ≡ c.args.text.now → ⊥ = search rules in
    inr
    (not_spelled (tests_of kind) c.args.text.now d (c.in-Some.line, c.in-Some.reply) (ap (λ w. kind.shape_by w d) word ∙ shape) (ap (λ w. kind.numbers_by w d) word ∙ numbers)
    (ap (λ w. pair_by d (kind.reply_by w d)) word ∙ pair) other)

pub returns-in_default-clause-err : goal.returns-in_default-clause-err
returns-in_default-clause-err g c =
    let kind = g.R.TestedReply.tests in
    let d = view c.args.value.now in
    let word = sym c.word_at-word.ensures in
    let pair : pair_by d (kind.reply_by c.word_at-word.result.now d) ≡ None = search rules in
    let shape : kind.shape_by c.word_at-word.result.now d ≡ true = search rules in
    let numbers : kind.numbers_by c.word_at-word.result.now d ≡ true = search rules in
    inr
    (not_range (tests_of kind) c.args.text.now d (ap (λ w. kind.shape_by w d) word ∙ shape) (ap (λ w. kind.numbers_by w d) word ∙ numbers)
    (ap (λ w. pair_by d (kind.reply_by w d)) word ∙ pair))
