use Rattle.std.proofs.Common.{◌≡◌, ◌+◌, ◌<◌, ◌≤◌, List, ◌∷◌, drop, ap, arith, get_or, length, map, sym, subst, ◌∙◌}
use Rattle.form.specs.Payoff.{legs_in}
use Rattle.sign_tree.specs.Legs.{FractionLeg, fraction_legs}
use Rattle.sign_tree.specs.Left.{IsAtLeg, IsOfFirst}
use Rattle.sign_tree.proofs.LegLists.{first_left, next_order, of_first, at_start}
use Rattle.sign_tree.proofs.legs.first_leg.Goals as goal

pub returns-then-next-legs : goal.returns-then-next-legs
returns-then-next-legs g c =
    let left = c.args.left in
    let os = left.orders.now in
    let fs = left.fills.now in
    let o = c.in_ok-order.order.now in
    let orders = c.in_ok-order.ensures.cases.0 in
    let more : left.next + 1 < length (legs_in o.bundle) = rw (← c.as_slice-legs.ensures) c.if-next-legs.true in
    let at : c.index-legs-left.result ≡ get_or (legs_in o.bundle) left.next c.index-legs-left.result = rw (← c.as_slice-legs.ensures) c.index-legs-left.is in
    let first = first_left g.N.Exact.fraction os c.in_ok-order.orders.now fs c.in_ok-fill.fills.now left.next o c.in_ok-fill.fill.now c.index-legs-left.result orders c.in_ok-fill.ensures.cases.0 (omega (arith, more)) at in
    let after : List FractionLeg = drop (left.next + 1) (fraction_legs os (map g.N.Exact.fraction fs)) in
    let is_at : IsAtLeg (record { orders = left.orders; fills = left.fills; next = left.next + 1 }) = record { fills = c.requires.fills; next = of_first os c.in_ok-order.orders.now o (left.next + 1) orders more } in
    (first ∙ ap (λ (leg : FractionLeg). leg ∷ after) (sym c.leg_of-leg.ensures), is_at)

pub returns : goal.returns
returns g c =
    let left = c.args.left in
    let os = left.orders.now in
    let fs = left.fills.now in
    let o = c.in_ok-order.order.now in
    let f = c.in_ok-fill.fill.now in
    let orders = c.in_ok-order.ensures.cases.0 in
    let fills = c.in_ok-fill.ensures.cases.0 in
    let rest = c.in_ok-order.orders.now in
    let others = c.in_ok-fill.fills.now in
    let end : length (legs_in o.bundle) ≤ left.next + 1 = rw (← c.as_slice-legs.ensures) c.if-next-legs.false in
    let within : left.next < length (legs_in o.bundle) = subst (λ os. IsOfFirst os left.next) orders c.requires.next in
    let at : c.index-legs-left.result ≡ get_or (legs_in o.bundle) left.next c.index-legs-left.result = rw (← c.as_slice-legs.ensures) c.index-legs-left.is in
    let first = first_left g.N.Exact.fraction os rest fs others left.next o f c.index-legs-left.result orders fills within at in
    let last = next_order g.N.Exact.fraction os rest fs others (left.next + 1) o f orders fills (omega (arith, end, within)) in
    let after : List FractionLeg = fraction_legs rest (map g.N.Exact.fraction others) in
    let lengths : length others ≡ length rest = omega (arith, c.requires.fills, c.in_ok-order.ensures.cases.1, c.in_ok-fill.ensures.cases.1) in
    let is_at : IsAtLeg (record { orders = c.in_ok-order.orders; fills = c.in_ok-fill.fills; next = 0 }) = record { fills = lengths; next = at_start rest } in
    (first ∙ (λ i. sym c.leg_of-leg.ensures i ∷ last i), is_at)
