use Rattle.std.proofs.Common.{◌+◌, slice_get, ap, sym, ◌∙◌, ◌≤◌, length, Some}
use Rattle.form.specs.Payoff.{legs_in}
use Rattle.sign_tree.proofs.LegLists.{legs_from, order_first, leg_here, leg_past}
use Rattle.sign_tree.proofs.legs.leg_at.Goals as goal

pub returns-then-i-legs : goal.returns-then-i-legs
returns-then-i-legs g c =
    let os = c.args.orders.now in
    let fs = c.args.fills.now in
    let o = c.index-orders-k.result in
    let f = c.index-fills-k.result in
    let k = c.loop-k.k in
    let leg = c.index-legs-i.result in
    let first = order_first g.N.Exact.fraction os fs k o f c.requires c.loop-k-test.true c.index-orders-k.is c.index-fills-k.is in
    let here = leg_here o (g.N.Exact.fraction f) (legs_from g.N.Exact.fraction os fs (k + 1)) c.loop-k.i leg (rw (← c.as_slice-legs.ensures) c.if-i-legs.true) (rw (← c.as_slice-legs.ensures) c.index-legs-i.is) in
    ap Some c.leg_of.ensures ∙ sym (c.loop-k.invariant ∙ ap (λ legs. slice_get legs c.loop-k.i) first ∙ here)

pub loop-k-preserved : goal.loop-k-preserved
loop-k-preserved g c =
    let os = c.args.orders.now in
    let fs = c.args.fills.now in
    let o = c.index-orders-k.result in
    let f = c.index-fills-k.result in
    let k = c.loop-k.k in
    let first = order_first g.N.Exact.fraction os fs k o f c.requires c.loop-k-test.true c.index-orders-k.is c.index-fills-k.is in
    let past : length (legs_in o.bundle) ≤ c.loop-k.i = rw (← c.as_slice-legs.ensures) c.if-i-legs.false in
    rw (c.as_slice-legs.ensures) (c.loop-k.invariant ∙ ap (λ legs. slice_get legs c.loop-k.i) first ∙ leg_past o (g.N.Exact.fraction f) (legs_from g.N.Exact.fraction os fs (k + 1)) c.loop-k.i past)
