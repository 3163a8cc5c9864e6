use Rattle.std.proofs.Common.{◌≡◌, map, slice_get}
use Rattle.sign_tree.specs.Legs.{fraction_legs}
use Rattle.sign_tree.proofs.LegLists.{legs_from}
use Rattle.sign_tree.proofs.legs.leg_at.Given as goal

-- the leg stands at i among those of the orders that are left
abbrev pub invariant-loop-k : goal.invariant-loop-k
invariant-loop-k g l = slice_get (fraction_legs l.orders (map g.N.Exact.fraction l.fills)) l.index ≡ slice_get (legs_from g.N.Exact.fraction l.orders l.fills l.k) l.i
