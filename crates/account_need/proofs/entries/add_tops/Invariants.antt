use Rattle.std.proofs.Common.{◌≡◌, ◌++◌, ◌-◌}
use Rattle.account_need.specs.Several.{tops, tops_from}
use Rattle.account_need.proofs.entries.add_tops.Given as goal

-- those so far, and those that are left
abbrev pub invariant-loop-before : goal.invariant-loop-before
invariant-loop-before l = l.owed.items ++ tops_from l.before (l.underlyings - l.before) ≡ l.fn.owed.items ++ tops l.underlyings
