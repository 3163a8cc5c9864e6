use Rattle.std.proofs.Common.{◌≡◌, drop, map, zip, unsigned_abs}
use Rattle.exact_num.specs.Steps.{fold_steps}
use Rattle.frac.specs.Range.{limit}
use Rattle.form.specs.States.{vector_of}
use Rattle.master_program.specs.Search.{add_filled}
use Rattle.simplex_run.specs.Places.{fraction_zero}
use Rattle.pricing_oracle.proofs.excess.net.Given as goal

-- the sum from here on is the sum
abbrev pub invariant-loop-i : goal.invariant-loop-i
invariant-loop-i g l =
    let step = add_filled limit (unsigned_abs g.N.Exact.LIMIT) (vector_of l.state) in
    let fills = zip l.orders (map g.N.Exact.fraction l.fills) in
    fold_steps step fraction_zero fills ≡ fold_steps step (g.N.Exact.fraction l.total) (drop l.i fills)
