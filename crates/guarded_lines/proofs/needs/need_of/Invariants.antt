use Rattle.std.proofs.Common.{◌≡◌, None}
use Rattle.portfolio_margin.specs.Need.{first_demand_word}
use Rattle.guarded_lines.specs.Needs.{demands_in}
use Rattle.guarded_lines.proofs.DemandSums.{AreLeft, renamed_demands}
use Rattle.guarded_lines.proofs.needs.need_of.Given as goal

-- each margin so far is least, and they and what the markets demand that are left are all
abbrev pub invariant-loop-market : goal.invariant-loop-market
invariant-loop-market l = record {
  left : AreLeft l.exchange l.account l.market-items (demands_in l.exchange l.account) l.margins.items l.market-index;
  none : first_demand_word (renamed_demands l.margins.items) ≡ None;
}
