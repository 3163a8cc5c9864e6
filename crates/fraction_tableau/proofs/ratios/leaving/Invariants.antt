use Rattle.std.proofs.Common.{◌+◌, unsigned_abs}
use Rattle.std.specs.Option.{option_map}
use Rattle.fraction_tableau.specs.Candidates.{as_ratio, beside_basics}
use Rattle.fraction_tableau.specs.Lists.{fronts}
use Rattle.fraction_tableau.proofs.RatioLoop.{Chooses}
use Rattle.fraction_tableau.proofs.ratios.leaving.Given as goal

abbrev pub invariant-loop-i : goal.invariant-loop-i
invariant-loop-i g l =
    Chooses (unsigned_abs g.N.Exact.LIMIT) l.columns l.c (beside_basics l.basics (fronts g.N.Exact.fraction (l.columns + 1) l.rows.rows)) l.i (option_map (as_ratio g.N.Exact.fraction) l.best)
