use Rattle.std.proofs.Common.{◌≡◌, All, filter, map, take}
use Rattle.account_need.specs.Given.{IsMarket, numbered}
use Rattle.secured_accounts.specs.Secured.{has_some, numbered_in, with_placed}
use Rattle.secured_accounts.proofs.holdings.account_of.Given as goal

-- those of the markets so far in which there is something
abbrev pub invariant-loop-number : goal.invariant-loop-number
invariant-loop-number l = record {
  markets : numbered l.markets.items ≡ filter has_some (map (numbered_in (with_placed l.exchange l.placed) l.account) (take l.number-index l.number-items));
  within : All IsMarket l.markets.items;
}
