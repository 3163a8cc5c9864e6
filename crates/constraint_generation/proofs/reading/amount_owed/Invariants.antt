use Rattle.std.proofs.Common.{◌≡◌, drop, map, zip, unsigned_abs}
use Rattle.exact_num.specs.Steps.{fold_steps}
use Rattle.master_program.specs.Reading.{add_owed, owed_of}
use Rattle.constraint_generation.proofs.reading.amount_owed.Given as goal

-- the sum from here on is the sum
abbrev pub invariant-loop-i : goal.invariant-loop-i
invariant-loop-i g l =
    let limit = unsigned_abs g.N.Exact.LIMIT in
    let fills = zip l.orders (map g.N.Exact.fraction l.fills) in
    owed_of limit fills ≡ fold_steps (add_owed limit) (g.N.Exact.fraction l.total) (drop l.i fills)
