use Rattle.std.proofs.Common.{◌≡◌, ◌+◌, rules, ap, sym, ◌∙◌}
use Rattle.cert_check.specs.Shape.{forms_have}
use Rattle.book_proposals.proofs.LiveOrders.{live, live_forms}
use Rattle.book_proposals.proofs.batch_limits.is_within_limits.Goals as goal

pub returns : goal.returns
returns c =
    let batch = c.args.batch.now in
    let same : c.as_slice.result.now ≡ batch.orders = search rules in
    let is = c.are_on.ensures ∙ ap (forms_have (batch.underlyings + 1)) same in
    (λ t. live batch c.requires.ranges (sym is ∙ t) c.requires.rise, λ within. is ∙ live_forms batch within)
