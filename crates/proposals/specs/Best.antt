-- The best halves of proposals: the fills with the greatest surplus, and the measure with the least
-- bound.
use Rattle.std.specs.Prelude.{ℕ, List, Bool, nat_eq, Option, None, Some, if◌then◌else◌}
use Rattle.std.specs.Cmp.Lexicographic.{pointwise}
use Rattle.exact_num.specs.Fraction.{Fraction}
use Rattle.exact_num.specs.Tests.{is_at_most}
use Rattle.frac.specs.declared.frac128.Frac128.{Frac128}
use Rattle.frac.specs.Value.{fraction_of}
use Rattle.proposal_check.specs.declared.covers.Proposal.{Proposal}
use Rattle.proposals.specs.declared.best.CoveredFills.{CoveredFills}
use Rattle.proposals.specs.declared.best.BoundedMeasure.{BoundedMeasure}
use Rattle.proposals.specs.declared.best.Best.{Best}

-- the same numbers
abbrev pub are_same_orders : List ℕ → List ℕ → Bool
are_same_orders = pointwise nat_eq

abbrev pub surplus_of : CoveredFills → Fraction
surplus_of covered = fraction_of covered.claim.surplus

-- those kept, unless the surplus of the new ones is above theirs
abbrev pub better_fills : CoveredFills → CoveredFills → CoveredFills
better_fills kept new = if is_at_most (surplus_of new) (surplus_of kept) then kept else new

-- the one kept, unless the bound of the new one is below its
abbrev pub better_measure : BoundedMeasure → BoundedMeasure → BoundedMeasure
better_measure kept new = if is_at_most (fraction_of kept.bound) (fraction_of new.bound) then kept else new

-- what one proposal gives
abbrev pub best_of : List ℕ → Proposal → Frac128 → Best
best_of orders proposal bound = record {
  orders = orders;
  covered = record { fills = proposal.fills; claim = proposal.claim; cover = proposal.cover };
  bounded = record { measure = proposal.measure; bound = bound };
}

abbrev pub joined : Best → Best → Best
joined kept new = record {
  orders = kept.orders;
  covered = better_fills kept.covered new.covered;
  bounded = better_measure kept.bounded new.bounded;
}

-- for the same orders the better halves, and for others the new ones
abbrev pub after_best : Best → Best → Best
after_best kept new = if are_same_orders kept.orders new.orders then joined kept new else new

abbrev pub after_offer : Option Best → List ℕ → Proposal → Frac128 → Best
after_offer None orders proposal bound = best_of orders proposal bound
after_offer (Some kept) orders proposal bound = after_best kept (best_of orders proposal bound)

-- what is kept for these orders
abbrev pub best_for : Option Best → List ℕ → Option Best
best_for None orders = None
best_for (Some kept) orders = if are_same_orders kept.orders orders then Some kept else None
