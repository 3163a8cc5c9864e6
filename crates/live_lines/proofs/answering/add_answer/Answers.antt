use Rattle.std.proofs.Common.{◌≡◌, ◌≤◌, ◌<◌, length, rules, sym, subst}
use Rattle.limits.specs.declared.TheConstants.{MAX_LINES}
use Rattle.live_lines.proofs.Pieces.{none_added}
use Rattle.live_lines.proofs.Standing.{some_bytes}
use Rattle.live_lines.proofs.answering.add_answer.Goals as goal

pub answer-requires-clause-few : goal.answer-requires-clause-few
answer-requires-clause-few g c =
    let line = c.args.line.now in
    let some : 0 < length c.text-text.result.now = search rules in
    subst (λ number. number ≤ MAX_LINES) (sym c.number.ensures)
    (c.requires.few (some_bytes line.skips line.number line.rest (subst (λ text. 0 < length text) c.text-text.ensures.text some)))

pub answer-requires-clause-next : goal.answer-requires-clause-next
answer-requires-clause-next g c = subst (λ number. g.A.LineAnswers.stands number c.args.answers.now) (sym c.number.ensures) c.requires.next

pub returns-then-is_empty : goal.returns-then-is_empty
returns-then-is_empty g c =
    let none : length c.text-text.result.now ≡ 0 = search rules in
    none_added g.A.LineAnswers.answers c.args.answers.now c.args.answers.now c.args.line.now c.text-text.result.now c.text-text.ensures.text c.args.replies.now.items none
