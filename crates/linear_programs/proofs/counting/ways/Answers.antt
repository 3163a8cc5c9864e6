use Rattle.std.proofs.Common.{sym, ◌∙◌, refl, arith}
use Rattle.linear_programs.proofs.Choosing.{ways_none, next_ways, step_some, step_none, too_many}
use Rattle.linear_programs.proofs.counting.ways.Goals as goal

pub loop-k-init : goal.loop-k-init
loop-k-init c = record { number = sym (ways_none c.args.others); low = omega arith }

pub loop-k-preserved : goal.loop-k-preserved
loop-k-preserved c =
    let step = step_some c.with_one_more.result _ c.in-Some.next _ c.with_one_more.ensures c.in-Some.is in
    record {
      number = step.0 ∙ next_ways c.args.others c.loop-k.k c.loop-k.number _ _ c.loop-k.invariant.number refl refl;
      low = step.1;
    }

pub returns-in_default-clause-fits : goal.returns-in_default-clause-fits
returns-in_default-clause-fits c =
    let a = c.args.others in
    let k = c.loop-k.k in
    let high = step_none c.with_one_more.result _ _ c.with_one_more.ensures c.in_default.not-Some in
    let next = next_ways a k c.loop-k.number _ _ c.loop-k.invariant.number refl refl in
    let more = too_many a k c.args.chosen 9223372036854775808 c.loop-k-test.true (rw next at high) in
    ((λ e. cc), (λ low. absurd (omega (arith, low, more))))
