use Rattle.std.proofs.Common.{◌≡◌, ◌+◌, ◌≤◌, drop}
use Rattle.frac.specs.Range.{limit as largest}
use Rattle.portfolio_margin.specs.Need.{whole_of}
use Rattle.portfolio_margin.proofs.needs.sum_of.Given as goal

-- the sum so far fits, and with what is left it is the whole
abbrev pub invariant-loop-margin : goal.invariant-loop-margin
invariant-loop-margin l = record {
  fits : l.total ≤ largest;
  left : l.total + whole_of (drop l.margin-index l.margins) ≡ whole_of l.margins;
}
