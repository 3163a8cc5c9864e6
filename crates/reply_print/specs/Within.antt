-- Replies within their ranges.
use Rattle.std.specs.Prelude.{◌≡◌, ℕ, ◌+◌, ◌^◌, ◌<◌, ◌≤◌, ℤ, pos, ◌≤ℤ◌, unsigned_abs, List, [], ◌∷◌, length, Bool, true, ⊤, false}
use Rattle.std.specs.List.{AllByRecursion}
use Rattle.exact_num.specs.Fraction.{IsLowest, over}
use Rattle.form.specs.declared.orders.Side.{Side}
use Rattle.form.specs.declared.orders.Side.TheVariants.{Buy, Sell}
use Rattle.form.specs.declared.limits.TheConstants.{MAX_BUDGET, MAX_ORDER, MAX_ORDERS, MAX_UNDERLYINGS}
use Rattle.form.specs.Limits as limits
use Rattle.limits.specs.declared.TheConstants.{MAX_GAIN, MAX_LINES, MAX_ACCOUNT, MAX_MARKET, MAX_BATCHES, MAX_PLACE, MAX_LAPSED, MAX_REFUSAL, MIN_FIELD, MAX_FIELD}
use Rattle.cert_check.specs.declared.measures.Weighted.{Weighted}
use Rattle.sign_tree.specs.declared.trees.Node.{Node}
use Rattle.sign_tree.specs.declared.trees.Node.TheVariants.{Split, Leaf}
use Rattle.sign_tree.specs.declared.trees.Multiplier.{Multiplier}
use Rattle.cert_check.specs.declared.outcome.Cover.{Cover}
use Rattle.cert_check.specs.declared.outcome.Cover.TheVariants.{Line, Tree}
use Rattle.cert_check.specs.declared.outcome.Mark.{Mark}
use Rattle.cert_check.specs.declared.outcome.Mark.TheVariants as mark
use Rattle.cert_check.specs.declared.outcome.Outcome.{Outcome}
use Rattle.reply_print.specs.Words.{is_range_refusal}
use Rattle.reply_print.specs.OutcomePieces.{state_entries, count_of}
use Rattle.form.specs.declared.orders.Batch.{Batch}
use Rattle.form.specs.declared.orders.Order.{Order}
use Rattle.settlement.specs.declared.position.PaidOut.{PaidOut}
use Rattle.reply_print.specs.declared.replies.Reply.{Reply}
use Rattle.reply_print.specs.declared.replies.Reply.TheVariants.{Opened, Deposited, Withdrawn, Listed, Placed, Cancelled, Cleared, Settled, Balance, Refused}
use Rattle.form.specs.Between.{Between}

abbrev pub IsLine : ℕ → Type 0
IsLine line = Between 1 MAX_LINES line

abbrev pub IsAccount : ℕ → Type 0
IsAccount account = Between 1 MAX_ACCOUNT account

abbrev pub IsMarket : ℕ → Type 0
IsMarket market = Between 1 MAX_MARKET market

abbrev pub IsOrderNumber : ℕ → Type 0
IsOrderNumber order = Between 1 MAX_ORDER order

abbrev pub IsBatchNumber : ℕ → Type 0
IsBatchNumber number = Between 1 MAX_BATCHES number

abbrev pub IsMarketSize : ℕ → Type 0
IsMarketSize underlyings = Between 1 MAX_UNDERLYINGS underlyings

-- at most 2^127 - 1 in size
abbrev pub IsSmall : ℤ → Type 0
IsSmall z = unsigned_abs z < 2 ^ 127

-- ---- orders

abbrev pub IsOrderWithin : Order → Type 0
IsOrderWithin order = IsOrderNumber order.id × IsAccount order.account × limits.IsOrderWithin order

-- ---- certificates

abbrev pub IsPlace : ℕ → Type 0
IsPlace place = Between 1 MAX_PLACE place

abbrev pub IsNodeWithin : Node → Type 0
IsNodeWithin (Split place) = IsPlace place
IsNodeWithin (Leaf count) = ⊤

-- how many multipliers the nodes take
abbrev pub leaves_of : List Node → ℕ
leaves_of [] = 0
leaves_of (node ∷ nodes) = count_of node + leaves_of nodes

abbrev pub IsCoverWithin : Cover → Type 0
IsCoverWithin Line = ⊤
IsCoverWithin (Tree tree) =
    AllByRecursion IsNodeWithin tree.nodes × AllByRecursion (λ (m : Multiplier). IsPlace m.place) tree.multipliers
    × (leaves_of tree.nodes ≡ length tree.multipliers)

-- entries of 128 bits
abbrev pub IsPointWithin : Weighted → Type 0
IsPointWithin point = AllByRecursion IsSmall (state_entries point.state)

-- a pair in lowest terms with a denominator of at least 1
abbrev pub IsPair : ℤ × ℤ → Type 0
IsPair x = IsLowest (over x.0 (unsigned_abs x.1)) × (pos 1 ≤ℤ x.1) × IsSmall x.0 × IsSmall x.1

abbrev pub IsMarkWithin : Mark → Type 0
IsMarkWithin (mark.Optimal cover measure) = IsCoverWithin cover × AllByRecursion IsPointWithin measure.points
IsMarkWithin (mark.Wide w) = IsPair w.left × IsPair w.right
IsMarkWithin mark.Budget = ⊤

abbrev pub IsOutcomeWithin : Outcome → Type 0
IsOutcomeWithin outcome = (outcome.units ≤ MAX_BUDGET) × IsMarkWithin outcome.mark

abbrev pub IsBatchWithin : Batch → Type 0
IsBatchWithin batch = IsMarketSize batch.underlyings × (length batch.orders ≤ MAX_ORDERS) × AllByRecursion IsOrderWithin batch.orders

-- ---- replies

-- a payout of 0 has the side Buy
abbrev pub HasItsSide : Side → ℕ → Type 0
HasItsSide Buy amount = ⊤
HasItsSide Sell amount = 1 ≤ amount

abbrev pub IsPaidWithin : PaidOut → Type 0
IsPaidWithin paid = IsBatchNumber paid.batch × IsOrderNumber paid.order × IsAccount paid.account × (paid.amount ≤ MAX_GAIN) × HasItsSide paid.side paid.amount

-- a field with the refusal Range, and none else
abbrev pub IsRefusal : ℕ → ℕ → Bool → Type 0
IsRefusal number place true = Between MIN_FIELD MAX_FIELD place
IsRefusal number place false = place ≡ 0

abbrev pub IsReplyWithin : Reply → Type 0
IsReplyWithin (Opened account) = IsAccount account
IsReplyWithin (Deposited account balance) = IsAccount account × IsSmall balance
IsReplyWithin (Withdrawn account balance) = IsAccount account × IsSmall balance
IsReplyWithin (Listed market underlyings) = IsMarket market × IsMarketSize underlyings
IsReplyWithin (Placed order) = IsOrderNumber order
IsReplyWithin (Cancelled order) = IsOrderNumber order
IsReplyWithin (Cleared number market batch outcome) = IsBatchNumber number × IsMarket market × IsBatchWithin batch × IsOutcomeWithin outcome
IsReplyWithin (Settled market lapsed payouts) = IsMarket market × (lapsed ≤ MAX_LAPSED) × AllByRecursion IsPaidWithin payouts
IsReplyWithin (Balance account balance reserved) = (account ≤ MAX_ACCOUNT) × IsSmall balance × IsSmall reserved × (pos 0 ≤ℤ reserved)
IsReplyWithin (Refused number place) = Between 1 MAX_REFUSAL number × IsRefusal number place (is_range_refusal number)

-- a line and its reply
abbrev pub IsWithin : ℕ → Reply → Type 0
IsWithin line reply = IsLine line × IsReplyWithin reply
