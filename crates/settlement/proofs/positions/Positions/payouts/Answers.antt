use Rattle.std.proofs.Common.{◌≡◌, ◌+◌, ◌<◌, [], ◌∷◌, ◌++◌, List, length, get_or, drop, rules, ap, subst, ◌∙◌}
use Rattle.arithmetic.proofs.Lists.{item_first}
use Rattle.settlement.specs.declared.position.Position.{Position}
use Rattle.settlement.specs.Positions.{PositionsState, paid_out}
use Rattle.settlement.proofs.HeldIn.{settled_first, settled_rest, paid_more, paid_same}
use Rattle.settlement.proofs.positions.Positions.payouts.Goals as goal
use Rattle.settlement.proofs.positions.Positions.payouts.Goals.{then-position-market+in_ok-push, else-position-market}

pub paid_out-requires-clause-settled : goal.paid_out-requires-clause-settled
paid_out-requires-clause-settled c =
    let i = c.loop-position.position-index in
    let list = c.args.self.now.list in
    let p = c.position-item.result in
    let all = c.deref-position-items.ensures.value ∙ ap (λ (s : PositionsState). s.list) c.self.view_is in
    let first = item_first list i p (subst (λ (l : List Position). i < length l) all c.loop-position-test.true) (subst (λ (l : List Position). p ≡ get_or l i p) all c.position-item.is) in
    settled_first c.args.market c.args.prices.now p (drop (i + 1) list) (drop i list) first c.if-position-market.true c.loop-position.invariant.0

pub loop-position-preserved : goal.loop-position-preserved
loop-position-preserved c =
    let i = c.loop-position.position-index in
    let list = c.args.self.now.list in
    let p = c.position-item.result in
    let paid = c.loop-position.paid.items in
    let more = c.if-position-market.paid.items in
    let all = c.deref-position-items.ensures.value ∙ ap (λ (s : PositionsState). s.list) c.self.view_is in
    let first = item_first list i p (subst (λ (l : List Position). i < length l) all c.loop-position-test.true) (subst (λ (l : List Position). p ≡ get_or l i p) all c.position-item.is) in (
      settled_rest c.args.market c.args.prices.now p (drop (i + 1) list) (drop i list) first c.loop-position.invariant.0,
      elim c.if-position-market.branch [
        | then-position-market+in_ok-push w ↦
            let is : more ≡ paid ++ paid_out c.args.prices.now p ∷ [] = search rules in
            paid_more c.args.market c.args.prices.now p (drop (i + 1) list) (drop i list) first paid more w.if-position-market.true is ∙ c.loop-position.invariant.1
        | else-position-market w ↦
            let is : more ≡ paid = search rules in
            paid_same c.args.market c.args.prices.now p (drop (i + 1) list) (drop i list) first paid more w.if-position-market.false is ∙ c.loop-position.invariant.1
      ],
    )
