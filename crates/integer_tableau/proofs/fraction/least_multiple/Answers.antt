use Rattle.std.proofs.Common.{◌≡◌, ◌<◌, ◌+◌, ◌-◌, subst, arith, length, drop, map, ℕ}
use Rattle.run_equivalence.specs.IntegerRows.{least_multiple}
use Rattle.integer_tableau.specs.Within.{HasMultiple}
use Rattle.integer_tableau.proofs.Taken.{no_multiple, has_more}
use Rattle.integer_tableau.proofs.fraction.least_multiple.Goals as goal

pub loop-j-init : goal.loop-j-init
loop-j-init g c = no_multiple g.N.Exact.fraction c.args.entries.now _ (omega arith)

pub loop-j-preserved : goal.loop-j-preserved
loop-j-preserved g c =
    let f = g.N.Exact.fraction in
    let k = c.loop-j.j - 1 in
    let next : c.loop-j.j ≡ k + 1 = omega (arith, c.loop-j-test.true) in
    let low : k < length c.args.entries.now = omega (arith, c.loop-j-test.true, c.loop-j.auto.j) in
    let before = subst (λ (n : ℕ). HasMultiple (least_multiple (map f (drop n c.args.entries.now))) c.loop-j.found) next c.loop-j.invariant in
    let told = c.in-Some.ensures in
    has_more f c.args.entries.now k c.loop-j.found c.in-Some.next c.index-entries-j.result low c.index-entries-j.is before told.0 told.1 told.2

pub returns : goal.returns
returns g c =
    let done : c.loop-j.j ≡ 0 = omega (arith, c.loop-j-test.false) in
    rw done at c.loop-j.invariant
