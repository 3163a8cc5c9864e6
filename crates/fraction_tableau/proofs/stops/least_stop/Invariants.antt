use Rattle.std.proofs.Common.{◌≡◌, drop, map, unsigned_abs}
use Rattle.simplex_run.specs.Table.{with_right}
use Rattle.fraction_tableau.specs.Labels.{as_stop, least_stop, steps_with}
use Rattle.fraction_tableau.proofs.stops.least_stop.Given as goal

-- the search from this place on finds the stop that is asked for
abbrev pub invariant-loop-i : goal.invariant-loop-i
invariant-loop-i g l =
    least_stop (steps_with g.N.Exact.fraction (unsigned_abs g.N.Exact.LIMIT) l.step (map g.N.Exact.fraction l.row) (map g.N.Exact.fraction l.pivot)) (with_right l.columns l.labels) (as_stop l.best) (drop l.i l.places)
    ≡ least_stop (steps_with g.N.Exact.fraction (unsigned_abs g.N.Exact.LIMIT) l.step (map g.N.Exact.fraction l.row) (map g.N.Exact.fraction l.pivot)) (with_right l.columns l.labels) (as_stop l.fn.found) l.places
