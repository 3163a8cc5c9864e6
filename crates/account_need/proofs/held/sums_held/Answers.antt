use Rattle.std.proofs.Common.{◌≡◌, ◌≤◌, ◌++◌, ◌^◌, List, length, map, take, All, arith, rules, ap, subst, sym, ◌∙◌, take-append-drop, length-drop}
use Rattle.std.proofs.lemmas.List.Elements.{All-drop}
use Rattle.form.specs.Payoff.{bundle_legs}
use Rattle.settlement.specs.declared.position.Position.{Position}
use Rattle.settlement.specs.Positions.{IsHeldPosition}
use Rattle.account_need.specs.Rounded.{each_once, options_at, options_held, options_of, sum_of}
use Rattle.account_need.proofs.HeldSums.{held_more}
use Rattle.account_need.proofs.held.sums_held.Goals as goal

pub add_sums-requires-clause-held : goal.add_sums-requires-clause-held
add_sums-requires-clause-held c =
    subst (All IsHeldPosition) (sym c.from_place-left.ensures) (All-drop IsHeldPosition c.loop-before.before c.args.positions.now c.requires.held)

pub add_sums-requires-clause-few : goal.add_sums-requires-clause-few
add_sums-requires-clause-few c =
    let ps = c.args.positions.now in
    let i = c.loop-before.before in
    subst (λ (xs : List Position). length xs ≤ 2 ^ 24) (sym c.from_place-left.ensures) (omega (arith, length-drop i ps, c.requires.few))

pub loop-before-preserved : goal.loop-before-preserved
loop-before-preserved c =
    let ps = c.args.positions.now in
    let i = c.loop-before.before in
    let p = c.index-positions-before.result in
    let left = c.from_place-left.result.now in
    let split : take i ps ++ left ≡ ps = ap (λ (xs : List Position). take i ps ++ xs) c.from_place-left.ensures ∙ take-append-drop i ps in
    let start = c.loop-before.invariant ∙ ap (λ (xs : List Position). map (sum_of xs) (options_held (take i ps))) (sym split) in
    c.in_ok-add_sums.ensures (take i ps) start
    ∙ ap (λ (q : Position). map (sum_of (take i ps ++ left)) (each_once (options_at (take i ps) ++ options_of (bundle_legs q.bundle)))) (sym c.index-positions-before.is)
    ∙ ap (λ (xs : List Position). map (sum_of xs) (each_once (options_at (take i ps) ++ options_of (bundle_legs p.bundle)))) split
    ∙ ap (map (sum_of ps)) (held_more ps i p (search rules) c.index-positions-before.is)
