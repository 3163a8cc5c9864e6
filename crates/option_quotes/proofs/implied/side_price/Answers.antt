use Rattle.std.proofs.Common.{rules, ◌≡◌, true, false, ◌∙◌}
use Rattle.std.proofs.lemmas.Result.{IfOk-weaker}
use Rattle.option_quotes.specs.declared.ends.Probed.{Probed}
use Rattle.option_quotes.specs.Probes.{is_optimal, is_raised}
use Rattle.option_quotes.proofs.Walks.{best_never, best_on, best_unmarked}
use Rattle.option_quotes.proofs.implied.side_price.Goals as goal

pub returns-then-not-is_optimal : goal.returns-then-not-is_optimal
returns-then-not-is_optimal c =
    let p = c.args.probing.now in
    let best : Probed = record { price = c.best_price-price.result; outcome = c.in_ok-outcome.outcome } in
    let not_optimal : is_optimal c.in_ok-outcome.outcome ≡ false = search rules in
    best_unmarked p.batch.now p.order p.limit c.args.base.now best c.requires.base.is c.best_price-price.ensures c.in_ok-outcome.ensures not_optimal

pub returns-then-not-is_raised : goal.returns-then-not-is_raised
returns-then-not-is_raised c =
    let p = c.args.probing.now in
    let best : Probed = record { price = c.best_price-price.result; outcome = c.in_ok-outcome.outcome } in
    let optimal : is_optimal c.in_ok-outcome.outcome ≡ true = search rules in
    let not_raised : is_raised c.args.base.now c.in_ok-outcome.outcome ≡ false = search rules in
    best_never p.batch.now p.order p.limit c.args.base.now best c.requires.base.is c.best_price-price.ensures c.in_ok-outcome.ensures optimal not_raised

pub returns : goal.returns
returns c =
    let p = c.args.probing.now in
    let best : Probed = record { price = c.best_price-price.result; outcome = c.in_ok-outcome.outcome } in
    let optimal : is_optimal c.in_ok-outcome.outcome ≡ true = search rules in
    let raised : is_raised c.args.base.now c.in_ok-outcome.outcome ≡ true = search rules in
    let on = best_on p.batch.now p.order p.limit c.args.base.now best c.requires.base.is c.best_price-price.ensures c.in_ok-outcome.ensures optimal raised in
    IfOk-weaker c.walked.result _ _ (λ found is. is ∙ on) c.walked.ensures
