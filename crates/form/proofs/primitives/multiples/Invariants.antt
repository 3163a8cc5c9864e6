use Rattle.std.proofs.Common.{map, unsigned_abs}
use Rattle.form.proofs.Multiples.{AreMultiplesTo}
use Rattle.form.proofs.primitives.multiples.Given as goal

abbrev pub invariant-loop-i : goal.invariant-loop-i
invariant-loop-i g l = AreMultiplesTo (unsigned_abs g.N.Exact.LIMIT) (g.N.Exact.fraction l.multiple) (map g.N.Exact.fraction l.entries) l.numerators l.i
