use Rattle.std.proofs.Common.{pos, ◌≤ℤ◌, ◌∙◌, sym, ap, subst}
use Rattle.std.proofs.lemmas.Result.{IfOk-weaker}
use Rattle.std.specs.List.{zip}
use Rattle.clearing_model.specs.Balance.{AreBalanced}
use Rattle.clearing_model.specs.Clearing.{AreFills, premium}
use Rattle.bundle_match.specs.Match.{match_by_bundle}
use Rattle.bundle_match.proofs.Fills.{match_is_the_auction}
use Rattle.bundle_match.proofs.MatchLaws.{match_is_within, match_is_balanced, match_owes_nothing, match_earns, match_is_the_best}
use Rattle.bundle_match.specs.Laws.{AreFilledByAuction, IsBestBalanced, OwesNothing}
use Rattle.bundle_match.proofs.matches.match_each.Goals as goal

pub returns-clause-auction : goal.returns-clause-auction
returns-clause-auction c =
    let orders = c.args.batch.now.orders in
    IfOk-weaker c.fills.result _ _ (λ fills is. subst (AreFilledByAuction orders) (sym (is ∙ ap match_by_bundle c.as_slice-orders.ensures)) (match_is_the_auction orders)) c.fills.ensures

pub returns-clause-within : goal.returns-clause-within
returns-clause-within c =
    let orders = c.args.batch.now.orders in
    IfOk-weaker c.fills.result _ _ (λ fills is. subst (λ g. AreFills orders g 1) (sym (is ∙ ap match_by_bundle c.as_slice-orders.ensures)) (match_is_within orders)) c.fills.ensures

pub returns-clause-balanced : goal.returns-clause-balanced
returns-clause-balanced c =
    let orders = c.args.batch.now.orders in
    IfOk-weaker c.fills.result _ _ (λ fills is. subst (λ g. AreBalanced (zip orders g)) (sym (is ∙ ap match_by_bundle c.as_slice-orders.ensures)) (match_is_balanced orders)) c.fills.ensures

pub returns-clause-owes_nothing : goal.returns-clause-owes_nothing
returns-clause-owes_nothing c =
    let orders = c.args.batch.now.orders in
    IfOk-weaker c.fills.result _ _ (λ fills is. subst (λ g. OwesNothing (zip orders g)) (sym (is ∙ ap match_by_bundle c.as_slice-orders.ensures)) (match_owes_nothing orders)) c.fills.ensures

pub returns-clause-earns : goal.returns-clause-earns
returns-clause-earns c =
    let orders = c.args.batch.now.orders in
    IfOk-weaker c.fills.result _ _ (λ fills is. subst (λ g. pos 0 ≤ℤ premium (zip orders g)) (sym (is ∙ ap match_by_bundle c.as_slice-orders.ensures)) (match_earns orders)) c.fills.ensures

pub returns-clause-best : goal.returns-clause-best
returns-clause-best c =
    let orders = c.args.batch.now.orders in
    IfOk-weaker c.fills.result _ _ (λ fills is. subst (IsBestBalanced orders) (sym (is ∙ ap match_by_bundle c.as_slice-orders.ensures)) (match_is_the_best orders)) c.fills.ensures
