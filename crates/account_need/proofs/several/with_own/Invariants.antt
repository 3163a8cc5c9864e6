use Rattle.std.proofs.Common.{◌≡◌, drop, filter}
use Rattle.account_need.specs.Given.{IsFound}
use Rattle.account_need.specs.Several.{is_by_itself, with_own}
use Rattle.account_need.proofs.several.with_own.Given as goal

-- the orders that are left, from the bound so far, are all
abbrev pub invariant-loop-order : goal.invariant-loop-order
invariant-loop-order l = record {
  left : with_own l.underlyings (filter is_by_itself l.live) l.fn.first.0 l.fn.first.1 ≡ with_own l.underlyings (filter is_by_itself (drop l.order-index l.live)) l.found.0 l.found.1;
  found : IsFound l.found;
}
