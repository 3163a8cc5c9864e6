-- The replies of a run, counted.
use Rattle.std.specs.Prelude.{◌≡◌, ℕ, ◌<◌, ◌+◌, cond, Bool, true, false, List, ◌∷◌, [], ◌++◌, length}
use Rattle.std.specs.List.{count_by}
use Rattle.cert_check.specs.declared.outcome.Mark.{Mark}
use Rattle.cert_check.specs.declared.outcome.Mark.TheVariants.{Optimal, Wide, Budget}
use Rattle.cert_check.specs.Conditions.{is_optimal_mark}
use Rattle.reply_print.specs.declared.replies.Reply.{Reply}
use Rattle.reply_print.specs.declared.replies.Reply.TheVariants.{Opened, Deposited, Withdrawn, Listed, Placed, Cancelled, Cleared, Settled, Balance, Refused}
use Rattle.demo_run.specs.declared.tally.Tally.{Tally}

abbrev pub is_wide : Mark → Bool
is_wide (Optimal cover measure) = false
is_wide (Wide w) = true
is_wide Budget = false

abbrev pub is_budget : Mark → Bool
is_budget (Optimal cover measure) = false
is_budget (Wide w) = false
is_budget Budget = true

-- a batch was cleared, with such a mark
abbrev pub is_cleared : (Mark → Bool) → Reply → Bool
is_cleared test (Opened account) = false
is_cleared test (Deposited account balance) = false
is_cleared test (Withdrawn account balance) = false
is_cleared test (Listed market underlyings) = false
is_cleared test (Placed order) = false
is_cleared test (Cancelled order) = false
is_cleared test (Cleared number market batch outcome) = test outcome.mark
is_cleared test (Settled market lapsed payouts) = false
is_cleared test (Balance account balance reserved) = false
is_cleared test (Refused number field) = false

abbrev pub is_refused : Reply → Bool
is_refused (Opened account) = false
is_refused (Deposited account balance) = false
is_refused (Withdrawn account balance) = false
is_refused (Listed market underlyings) = false
is_refused (Placed order) = false
is_refused (Cancelled order) = false
is_refused (Cleared number market batch outcome) = false
is_refused (Settled market lapsed payouts) = false
is_refused (Balance account balance reserved) = false
is_refused (Refused number field) = true

abbrev pub tally_of : List Reply → Tally
tally_of replies = record {
  lines = length replies;
  batches = count_by (is_cleared (λ mark. true)) replies;
  optimal = count_by (is_cleared is_optimal_mark) replies;
  wide = count_by (is_cleared is_wide) replies;
  budget = count_by (is_cleared is_budget) replies;
  refused = count_by is_refused replies;
}

-- each count is below a limit
pub record IsBelow (limit : ℕ) (tally : Tally) : Type 0 where
  pub lines : tally.lines < limit
  pub batches : tally.batches < limit
  pub optimal : tally.optimal < limit
  pub wide : tally.wide < limit
  pub budget : tally.budget < limit
  pub refused : tally.refused < limit

-- the tally with one reply more
abbrev pub with_mark : Mark → Tally → Tally
with_mark mark tally = record tally {
  batches = tally.batches + 1;
  optimal = tally.optimal + cond (is_optimal_mark mark) 1 0;
  wide = tally.wide + cond (is_wide mark) 1 0;
  budget = tally.budget + cond (is_budget mark) 1 0;
}

abbrev pub with_reply : Reply → Tally → Tally
with_reply reply tally = record {
  lines = tally.lines + 1;
  batches = tally.batches + cond (is_cleared (λ mark. true) reply) 1 0;
  optimal = tally.optimal + cond (is_cleared is_optimal_mark reply) 1 0;
  wide = tally.wide + cond (is_cleared is_wide reply) 1 0;
  budget = tally.budget + cond (is_cleared is_budget reply) 1 0;
  refused = tally.refused + cond (is_refused reply) 1 0;
}

-- to count a reply is to count the list that it ends
abbrev pub RepliesAreCounted : Type 0
RepliesAreCounted = (replies : List Reply) (reply : Reply) → tally_of (replies ++ reply ∷ []) ≡ with_reply reply (tally_of replies)

-- each batch has one of the three marks
abbrev pub MarksAreCounted : Type 0
MarksAreCounted = (replies : List Reply) → let tally = tally_of replies in tally.batches ≡ tally.optimal + tally.wide + tally.budget
