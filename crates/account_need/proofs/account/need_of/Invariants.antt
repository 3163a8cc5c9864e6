use Rattle.std.proofs.Common.{◌≡◌, ◌≤◌, drop}
use Rattle.frac.specs.Range.{limit as largest}
use Rattle.account_need.specs.Account.{need_from, need_of, portfolios}
use Rattle.account_need.specs.Given.{numbered}
use Rattle.account_need.proofs.account.need_of.Given as goal

-- the markets that are left, after what those before ask, are all
abbrev pub invariant-loop-market : goal.invariant-loop-market
invariant-loop-market l = record {
  left : need_of (portfolios (numbered l.markets)) ≡ need_from l.total l.spent (drop l.market-index (portfolios (numbered l.markets)));
  fits : l.total ≤ largest;
  few : l.spent ≤ 200;
}
