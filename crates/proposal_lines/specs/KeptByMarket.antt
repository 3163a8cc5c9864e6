-- What is kept of proposals for the markets of an exchange.
use Rattle.std.specs.Prelude.{ℕ, List, Option, Some, None, nat_eq, not, filter, option_and_then, if◌then◌else◌}
use Rattle.std.specs.Map.{lookup}
use Rattle.std.specs.Option.{option_map, option_map_or}
use Rattle.indexmap.specs.IndexMap.{insert_entry}
use Rattle.cert_check.specs.declared.outcome.Mark.{Mark}
use Rattle.cert_check.specs.declared.outcome.Mark.TheVariants.{Optimal, Wide, Budget}
use Rattle.cert_check.specs.declared.outcome.Outcome.{Outcome}
use Rattle.exact_num.specs.Tests.{is_at_most}
use Rattle.frac.specs.Value.{fraction_of}
use Rattle.proposal_check.specs.ProposalLaws.{as_match}
use Rattle.proposals.specs.Best.{best_for, surplus_of}
use Rattle.proposals.specs.Laws.{as_proposal}
use Rattle.proposals.specs.declared.best.Best.{Best}
use Rattle.proposal_text.specs.declared.replies.BoundedOutcome.{BoundedOutcome}
use Rattle.proposal_text.specs.declared.replies.StopReason.{StopReason}
use Rattle.proposal_text.specs.declared.replies.StopReason.TheVariants as stop

-- market by market, in the order in which the last proposals for them were taken in
abbrev pub KeptProposals : Type 0
KeptProposals = List (ℕ × Option Best)

abbrev pub kept_in : ℕ → KeptProposals → Option Best
kept_in market kept = option_and_then (λ best. best) (lookup (nat_eq market) kept)

-- what is kept for a market, where it is for these orders
abbrev pub best_in : ℕ → List ℕ → KeptProposals → Option Best
best_in market orders kept = best_for (kept_in market kept) orders

-- what is kept for other markets
abbrev pub without_kept : ℕ → KeptProposals → KeptProposals
without_kept market kept = filter (λ (entry : ℕ × Option Best). not (nat_eq market entry.0)) kept

abbrev pub with_kept : ℕ → Best → KeptProposals → KeptProposals
with_kept market best kept = insert_entry nat_eq (without_kept market kept) market (Some best)

-- what is kept for a market is let go of where it is cleared or settled
abbrev pub after_end : KeptProposals → Option ℕ → KeptProposals
after_end kept ended = option_map_or (λ market. without_kept market kept) ended kept

-- ---- in place of the reference run's outcome
-- why the run stopped; none where the outcome is the greatest
abbrev pub stop_of : Mark → Option StopReason
stop_of (Optimal cover measure) = None
stop_of (Wide wide) = Some stop.Wide
stop_of Budget = Some stop.Budget

-- what is kept, its fills and its measure
abbrev pub bounded_by : Best → StopReason → ℕ → BoundedOutcome
bounded_by best run units = record { proposal = as_proposal best; bound = best.bounded.bound; run = run; units = units }

-- an outcome that is the match, with the measure and the bound that are kept
abbrev pub matched_by : Outcome → StopReason → Best → BoundedOutcome
matched_by outcome run best =
    record { proposal = as_match outcome best.bounded.measure; bound = best.bounded.bound; run = run; units = outcome.units }

-- by whichever covers more; by the match where it is as good
abbrev pub bounded_as : Outcome → StopReason → Best → BoundedOutcome
bounded_as outcome run best =
    if is_at_most (surplus_of best.covered) (fraction_of outcome.claim.surplus) then matched_by outcome run best
    else bounded_by best run outcome.units

-- what takes the place of the outcome of a market's batch with these orders, where its run stopped
-- and something is kept for them
abbrev pub bounded_in : ℕ → List ℕ → Outcome → KeptProposals → Option BoundedOutcome
bounded_in market orders outcome kept =
    option_and_then (λ run. option_map (bounded_as outcome run) (best_in market orders kept)) (stop_of outcome.mark)
