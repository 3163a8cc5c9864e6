use Rattle.std.proofs.Common.{◌≡◌, ◌++◌, ◌∷◌, [], List, ℕ, map, rules, ap, ◌∙◌}
use Rattle.std.proofs.lemmas.Result.{IfOk-weaker}
use Rattle.form.specs.declared.orders.Order.{Order}
use Rattle.book_proposals.specs.Answers.{proposing_text}
use Rattle.book_proposals.proofs.answers.proposing_line.Goals as goal

pub returns : goal.returns
returns c =
    let same : c.as_slice.result.now ≡ c.args.batch.now.orders = search rules in
    let numbers = c.from_vec.ensures ∙ c.in_ok-numbers_of.ensures ∙ ap (map (λ (order : Order). order.id)) same in
    IfOk-weaker c.submitting_line.result _ _
    (λ line is. is ∙ ap (λ (orders : List ℕ). proposing_text c.args.market (record { orders = orders; proposal = c.args.proposal }) ++ 10 ∷ []) numbers)
    c.submitting_line.ensures
