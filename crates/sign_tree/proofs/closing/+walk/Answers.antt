use Rattle.std.proofs.Common.{◌-◌, map, set, negsuc, ◌∷◌, ◌∙◌}
use Rattle.std.proofs.lemmas.Result.{err_from_is_err_and}
use Rattle.frac.specs.Range.{limit}
use Rattle.frac.specs.Value.{fraction_of}
use Rattle.sign_tree.specs.Read.{node_of, placed_of, sign_of}
use Rattle.sign_tree.specs.Walk.{walk}
use Rattle.sign_tree.specs.Left.{batch_legs}
use Rattle.sign_tree.proofs.Sides.{plus_first, no_split, ends_alike, minus_signs, signs_again}
use Rattle.sign_tree.proofs.closing.+walk.Goals as goal

pub split-returns-in_default-clause-walks : goal.split-returns-in_default-clause-walks
split-returns-in_default-clause-walks t c pending =
    no_split limit (c.args.filled.now.entries - 1) (batch_legs fraction_of c.args.filled.now.orders.now c.args.filled.now.fills.now) (fraction_of c.args.filled.now.liability.now) (map node_of c.args.left.nodes.now) c.args.signs.now pending (map placed_of c.args.left.multipliers.now) c.args.place c.in_default.ensures

pub split-returns-in_err-middle-clause-walks : goal.split-returns-in_err-middle-clause-walks
split-returns-in_err-middle-clause-walks t c pending =
    let p = err_from_is_err_and c.from_residual.result c.from_residual.ensures.1 in
    let ss = c.args.signs.now in
    let legs = batch_legs fraction_of c.args.filled.now.orders.now c.args.filled.now.fills.now in
    let first = plus_first limit (c.args.filled.now.entries - 1) (batch_legs fraction_of c.args.filled.now.orders.now c.args.filled.now.fills.now) (fraction_of c.args.filled.now.liability.now) (map node_of c.args.left.nodes.now) ss pending (map placed_of c.args.left.multipliers.now) c.args.place
    c.in-Some.i c.in-Some.ensures in
    rw (p.1, p.2) (first ∙ c.in_err-middle.ensures.walks (map sign_of (set ss c.in-Some.i (negsuc 0)) ∷ pending)
    ∙ ends_alike (λ nodes ms. walk limit (c.args.filled.now.entries - 1) legs (fraction_of c.args.filled.now.liability.now) nodes (map sign_of (set ss c.in-Some.i (negsuc 0)) ∷ pending) ms)
    (λ nodes ms. walk limit (c.args.filled.now.entries - 1) legs (fraction_of c.args.filled.now.liability.now) nodes pending ms) c.in_err-middle.field-0.0)

pub split-returns-in_err-rest-clause-walks : goal.split-returns-in_err-rest-clause-walks
split-returns-in_err-rest-clause-walks t c pending =
    let p = err_from_is_err_and c.from_residual-in_err-rest.result c.from_residual-in_err-rest.ensures.1 in
    let ss = c.args.signs.now in
    let first = plus_first limit (c.args.filled.now.entries - 1) (batch_legs fraction_of c.args.filled.now.orders.now c.args.filled.now.fills.now) (fraction_of c.args.filled.now.liability.now) (map node_of c.args.left.nodes.now) ss pending (map placed_of c.args.left.multipliers.now) c.args.place
    c.in-Some.i c.in-Some.ensures in
    let signs = minus_signs ss c.subtree.new.signs c.in-Some.i c.in_ok-middle.ensures.signs in
    rw (p.1, p.2) (first ∙ c.in_ok-middle.ensures.walks (map sign_of (set ss c.in-Some.i (negsuc 0)) ∷ pending) ∙ rw (← signs) (c.in_err-rest.ensures.walks pending))

pub split-returns-clause-walks : goal.split-returns-clause-walks
split-returns-clause-walks t c pending =
    let ss = c.args.signs.now in
    let first = plus_first limit (c.args.filled.now.entries - 1) (batch_legs fraction_of c.args.filled.now.orders.now c.args.filled.now.fills.now) (fraction_of c.args.filled.now.liability.now) (map node_of c.args.left.nodes.now) ss pending (map placed_of c.args.left.multipliers.now) c.args.place
    c.in-Some.i c.in-Some.ensures in
    let signs = minus_signs ss c.subtree.new.signs c.in-Some.i c.in_ok-middle.ensures.signs in
    first ∙ c.in_ok-middle.ensures.walks (map sign_of (set ss c.in-Some.i (negsuc 0)) ∷ pending) ∙ rw (← signs) (c.in_ok-rest.ensures.walks pending)

pub split-returns-clause-signs : goal.split-returns-clause-signs
split-returns-clause-signs t c =
    let ss = c.args.signs.now in
    signs_again ss _ c.in-Some.i c.in-Some.ensures.none (c.in_ok-rest.ensures.signs ∙ minus_signs ss c.subtree.new.signs c.in-Some.i c.in_ok-middle.ensures.signs)
