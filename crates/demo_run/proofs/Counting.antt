-- A reply more is counted.
use Rattle.std.proofs.Common.{refl, ◌≡◌, ℕ, ◌+◌, List, [], ◌∷◌, ◌++◌, length, length-append, Bool, true, cond, arith}
use Rattle.std.specs.List.{count_by, sum_by}
use Rattle.std.proofs.lemmas.List.Sums.{sum_by-append, sum_by-cons}
use Rattle.cert_check.specs.declared.outcome.Mark.{Mark}
use Rattle.cert_check.specs.declared.outcome.Mark.TheVariants.{Optimal, Wide, Budget}
use Rattle.reply_print.specs.declared.replies.Reply.{Reply}
use Rattle.reply_print.specs.declared.replies.Reply.TheVariants.{Opened, Deposited, Withdrawn, Listed, Placed, Cancelled, Cleared, Settled, Balance, Refused}
use Rattle.cert_check.specs.Conditions.{is_optimal_mark}
use Rattle.demo_run.specs.Tally.{is_cleared, is_wide, is_budget, is_refused, RepliesAreCounted, MarksAreCounted}

one_more : (test : Reply → Bool) (replies : List Reply) (reply : Reply) → count_by test (replies ++ reply ∷ []) ≡ count_by test replies + cond (test reply) 1 0
one_more test replies reply = let e = sum_by-append (λ (r : Reply). cond (test r) 1 0) replies (reply ∷ []) in omega arith

pub replies_are_counted : RepliesAreCounted
replies_are_counted replies reply =
    let longer : length (replies ++ reply ∷ []) ≡ length replies + 1 = omega (arith, length-append replies (reply ∷ [])) in
    λ i. record {
      lines = longer i;
      batches = one_more (is_cleared (λ mark. true)) replies reply i;
      optimal = one_more (is_cleared is_optimal_mark) replies reply i;
      wide = one_more (is_cleared is_wide) replies reply i;
      budget = one_more (is_cleared is_budget) replies reply i;
      refused = one_more is_refused replies reply i;
    }

of_mark : (mark : Mark) → 1 ≡ cond (is_optimal_mark mark) 1 0 + cond (is_wide mark) 1 0 + cond (is_budget mark) 1 0
of_mark (Optimal cover measure) = refl
of_mark (Wide w) = refl
of_mark Budget = refl

-- a reply counts for a batch as for one mark
of_reply : (reply : Reply) → cond (is_cleared (λ mark. true) reply) 1 0 ≡ cond (is_cleared is_optimal_mark reply) 1 0 + cond (is_cleared is_wide reply) 1 0 + cond (is_cleared is_budget reply) 1 0
of_reply (Opened account) = refl
of_reply (Deposited account balance) = refl
of_reply (Withdrawn account balance) = refl
of_reply (Listed market underlyings) = refl
of_reply (Placed order) = refl
of_reply (Cancelled order) = refl
of_reply (Cleared number market batch outcome) = of_mark outcome.mark
of_reply (Settled market lapsed payouts) = refl
of_reply (Balance account balance reserved) = refl
of_reply (Refused number field) = refl

-- a sum of parts is the parts' sums
sum_of_parts : (whole a b c : Reply → ℕ) → ((reply : Reply) → whole reply ≡ a reply + b reply + c reply) → (replies : List Reply) → sum_by whole replies ≡ sum_by a replies + sum_by b replies + sum_by c replies
sum_of_parts whole a b c each [] = refl
sum_of_parts whole a b c each (reply ∷ replies) =
    omega (arith, each reply, sum_of_parts whole a b c each replies, sum_by-cons whole reply replies, sum_by-cons a reply replies, sum_by-cons b reply replies, sum_by-cons c reply replies)

pub marks_are_counted : MarksAreCounted
marks_are_counted replies =
    sum_of_parts (λ reply. cond (is_cleared (λ mark. true) reply) 1 0) (λ reply. cond (is_cleared is_optimal_mark reply) 1 0) (λ reply. cond (is_cleared is_wide reply) 1 0) (λ reply. cond (is_cleared is_budget reply) 1 0) of_reply replies
