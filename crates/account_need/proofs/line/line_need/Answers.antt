use Rattle.std.proofs.Common.{◌≡◌, ◌+◌, ◌*◌, ℕ, ℤ, length, pos, ◌+ℤ◌, ap, sym, subst, ◌∙◌}
use Rattle.std.proofs.lemmas.Int.{to_z-of_z}
use mir.Syntax.{w128}
use Rattle.arithmetic.specs.Sums.{positive_part}
use Rattle.account_need.specs.Exposure.{IsEnough}
use Rattle.account_need.specs.Line.{line_need}
use Rattle.account_need.specs.Prices.{in_code}
use Rattle.account_need.specs.Rounded.{Summed}
use Rattle.account_need.proofs.LineFits.{bound_fits}
use Rattle.account_need.proofs.Reached.{line_need_is_enough}
use Rattle.account_need.proofs.Runs.{orders_within}
use Rattle.account_need.proofs.line.line_need.Goals as goal

pub returns-clause-need : goal.returns-clause-need
returns-clause-need c =
    let b = c.line_bound.result in
    let eb = to_z-of_z w128 b (bound_fits b c.line_bound.ensures.small) in
    let asked = rw (eb) at c.asked.ensures.asked in
    let bound = ap (λ (x : ℤ). positive_part (x +ℤ pos (c.args.positions + 2 * length c.args.live.now))) (c.line_bound.ensures.bound c.args.positions) in
    (λ i. c.reserve.ensures.reserve i + (asked ∙ bound) i)

pub returns-clause-enough : goal.returns-clause-enough
returns-clause-enough c = λ p one is.
    let b = c.line_bound.result in
    let eb = to_z-of_z w128 b (bound_fits b c.line_bound.ensures.small) in
    let asked = rw (eb) at c.asked.ensures.asked in
    let bound = ap (λ (x : ℤ). positive_part (x +ℤ pos (c.args.positions + 2 * length c.args.live.now))) (c.line_bound.ensures.bound c.args.positions) in
    let need : c.reserve.result + c.asked.result ≡ line_need (in_code c.args.sums.now c.args.positions c.args.live.now) = (λ i. c.reserve.ensures.reserve i + (asked ∙ bound) i) in
    subst (λ (n : ℕ). IsEnough p (pos n)) (sym need) (subst (λ (m : Summed). IsEnough p (pos (line_need m))) is (line_need_is_enough p one))

pub reserve-requires-clause-within : goal.reserve-requires-clause-within
reserve-requires-clause-within c = orders_within 2 c.args.live.now c.requires.exposed.of_orders
