use Rattle.std.proofs.Common.{◌≡◌, ◌≤ℤ◌, pos, map, drop, unsigned_abs}
use Rattle.exact_num.specs.Steps.{fold_steps}
use Rattle.form.specs.Primitive.{common_multiple_of, multiple_with}
use Rattle.form.proofs.primitives.common_multiple.Given as goal

abbrev pub invariant-loop-entry : goal.invariant-loop-entry
invariant-loop-entry g l =
    let limit = unsigned_abs g.N.Exact.LIMIT in
    let fs = map g.N.Exact.fraction l.entries in
    (pos 1 ≤ℤ (g.N.Exact.fraction l.multiple).numerator)
    × (common_multiple_of limit fs ≡ fold_steps (multiple_with limit) (g.N.Exact.fraction l.multiple) (drop l.entry-index fs))
