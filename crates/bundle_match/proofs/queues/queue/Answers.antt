use Rattle.std.proofs.Common.{◌≡◌, rules, ◌∙◌, ap}
use Rattle.std.proofs.lemmas.Fn.{always_returns_same}
use Rattle.std.specs.Ordering.{is_lt}
use Rattle.bundle_match.specs.Queue.{stands_before, in_line}
use Rattle.bundle_match.proofs.InLine.{is_order, stable_sort_is}
use Rattle.bundle_match.proofs.queues.queue.Goals as goal

pub returns : goal.returns
returns c =
    let side = c.args.side in
    let answers = always_returns_same _ (λ a r. is_lt r ≡ stands_before side a.0.now a.1.0.now) _ (λ a r f k. search rules) in
    let sorted = c.in_ok-sort_by.ensures.sorted (stands_before side) (is_order side) answers in
    let stable = c.sort_by.ensures.stable (stands_before side) (is_order side) answers in
    c.from.ensures.0 ∙ stable_sort_is side _ _ sorted stable ∙ ap (in_line side) c.in_ok-offers.ensures
