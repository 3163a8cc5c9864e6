use Rattle.std.proofs.Common.{◌≡◌, length, map, ap, arith}
use Rattle.std.proofs.lemmas.Grind.{common_steps}
use Rattle.std.proofs.lemmas.List.{length-map}
use Rattle.form.specs.States.{vector_of}
use Rattle.line_cover.specs.Breakpoints.{line_states}
use Rattle.line_cover.proofs.Counted.{line_states_are_few}
use Rattle.line_cover.proofs.states.breakpoints.Goals as goal

pub loop-price-preserved : goal.loop-price-preserved
loop-price-preserved c = grind (arith, common_steps)

pub returns-clause-states : goal.returns-clause-states
returns-clause-states c = grind (arith, common_steps)

pub returns-clause-few : goal.returns-clause-few
returns-clause-few c =
    let states = c.push-2.new.self.items in
    let orders = c.args.batch.now.orders in
    let is : map vector_of states ≡ line_states orders = returns-clause-states c in
    let sizes = ap length is in
    omega (arith, length-map states vector_of, sizes, line_states_are_few orders)
