-- The tests by which a reply is within its ranges. That of the mark wide is left out: no such reply
-- passes.
use Rattle.std.specs.Prelude.{ℕ, ◌*◌, ◌^◌, ℤ, pos, int_le, unsigned_abs, List, length, Bool, true, false, ◌&&◌, ◌==◌, nat_le, nat_lt}
use Rattle.std.specs.List.{list_all}
use Rattle.form.specs.declared.limits.TheConstants.{MAX_BUDGET, MAX_OPTIONS, MAX_ORDER, MAX_ORDERS, MAX_PRICE, MAX_QUANTITY, MAX_UNDERLYINGS}
use Rattle.form.specs.declared.legs.Leg.{Leg}
use Rattle.form.specs.declared.orders.Side.{Side}
use Rattle.form.specs.declared.orders.Side.TheVariants.{Buy, Sell}
use Rattle.form.specs.declared.orders.Order.{Order}
use Rattle.form.specs.declared.orders.Batch.{Batch}
use Rattle.form.specs.Bundles.{legs_in, count_sizes}
use Rattle.form.specs.Payoff.{option_of}
use Rattle.limits.specs.declared.TheConstants.{MAX_GAIN, MAX_ACCOUNT, MAX_MARKET, MAX_BATCHES, MAX_PLACE, MAX_LAPSED, MAX_REFUSAL, MIN_FIELD, MAX_FIELD}
use Rattle.settlement.specs.declared.position.PaidOut.{PaidOut}
use Rattle.cert_check.specs.declared.measures.Measure.{Measure}
use Rattle.cert_check.specs.declared.measures.Weighted.{Weighted}
use Rattle.sign_tree.specs.declared.trees.Node.{Node}
use Rattle.sign_tree.specs.declared.trees.Node.TheVariants.{Split, Leaf}
use Rattle.sign_tree.specs.declared.trees.Multiplier.{Multiplier}
use Rattle.cert_check.specs.declared.outcome.Cover.{Cover}
use Rattle.cert_check.specs.declared.outcome.Cover.TheVariants.{Line, Tree}
use Rattle.cert_check.specs.declared.outcome.Mark.{Mark}
use Rattle.cert_check.specs.declared.outcome.Mark.TheVariants as mark
use Rattle.cert_check.specs.declared.outcome.Outcome.{Outcome}
use Rattle.reply_print.specs.declared.replies.Reply.{Reply}
use Rattle.reply_print.specs.declared.replies.Reply.TheVariants.{Opened, Deposited, Withdrawn, Listed, Placed, Cancelled, Cleared, Settled, Balance, Refused}
use Rattle.reply_print.specs.OutcomePieces.{state_entries}
use Rattle.reply_print.specs.Within.{leaves_of}
use Rattle.reply_print.specs.Words.{is_range_refusal}
use Rattle.reply_guess.specs.Options.{has_limits}

abbrev pub is_from_to : ℕ → ℕ → ℕ → Bool
is_from_to low high n = nat_le low n && nat_le n high

abbrev pub is_small : ℤ → Bool
is_small z = nat_lt (unsigned_abs z) (2 ^ 127)

-- ---- orders

abbrev pub has_options : List Leg → Bool
has_options legs = list_all (λ (leg : Leg). has_limits (option_of leg.form)) legs

abbrev pub has_numbers : Order → Bool
has_numbers order =
    is_from_to 1 MAX_ORDER order.id && (is_from_to 1 MAX_ACCOUNT order.account
    && (nat_le order.price MAX_PRICE && is_from_to 1 MAX_QUANTITY order.quantity))

abbrev pub is_order : Order → Bool
is_order order = has_numbers order && (has_options (legs_in order.bundle) && nat_le (order.quantity * count_sizes order.bundle) MAX_OPTIONS)

abbrev pub is_batch : Batch → Bool
is_batch batch = is_from_to 1 MAX_UNDERLYINGS batch.underlyings && (nat_le (length batch.orders) MAX_ORDERS && list_all is_order batch.orders)

-- ---- outcomes

abbrev pub is_place : ℕ → Bool
is_place place = is_from_to 1 MAX_PLACE place

abbrev pub is_node : Node → Bool
is_node (Split place) = is_place place
is_node (Leaf count) = true

abbrev pub is_multiplier : Multiplier → Bool
is_multiplier m = is_place m.place

abbrev pub is_tree : List Node → List Multiplier → Bool
is_tree nodes ms = list_all is_node nodes && (list_all is_multiplier ms && (leaves_of nodes == length ms))

abbrev pub is_cover : Cover → Bool
is_cover Line = true
is_cover (Tree tree) = is_tree tree.nodes tree.multipliers

abbrev pub is_point : Weighted → Bool
is_point point = list_all is_small (state_entries point.state)

abbrev pub is_certificate : Cover → Measure → Bool
is_certificate cover measure = is_cover cover && list_all is_point measure.points

abbrev pub is_mark : Mark → Bool
is_mark (mark.Optimal cover measure) = is_certificate cover measure
is_mark (mark.Wide w) = false
is_mark mark.Budget = true

abbrev pub is_outcome : Outcome → Bool
is_outcome outcome = nat_le outcome.units MAX_BUDGET && is_mark outcome.mark

-- ---- replies

abbrev pub has_its_side : Side → ℕ → Bool
has_its_side Buy amount = true
has_its_side Sell amount = nat_le 1 amount

abbrev pub is_paid : PaidOut → Bool
is_paid paid =
    is_from_to 1 MAX_BATCHES paid.batch && (is_from_to 1 MAX_ORDER paid.order
    && (is_from_to 1 MAX_ACCOUNT paid.account && (nat_le paid.amount MAX_GAIN && has_its_side paid.side paid.amount)))

abbrev pub is_field : ℕ → Bool → Bool
is_field place true = is_from_to MIN_FIELD MAX_FIELD place
is_field place false = place == 0

abbrev pub is_cleared : ℕ → ℕ → Batch → Outcome → Bool
is_cleared number market batch outcome = is_from_to 1 MAX_BATCHES number && (is_from_to 1 MAX_MARKET market && (is_batch batch && is_outcome outcome))

abbrev pub is_balance : ℕ → ℤ → ℤ → Bool
is_balance account balance reserved = nat_le account MAX_ACCOUNT && (is_small balance && (is_small reserved && int_le (pos 0) reserved))

abbrev pub is_reply : Reply → Bool
is_reply (Opened account) = is_from_to 1 MAX_ACCOUNT account
is_reply (Deposited account balance) = is_from_to 1 MAX_ACCOUNT account && is_small balance
is_reply (Withdrawn account balance) = is_from_to 1 MAX_ACCOUNT account && is_small balance
is_reply (Listed market underlyings) = is_from_to 1 MAX_MARKET market && is_from_to 1 MAX_UNDERLYINGS underlyings
is_reply (Placed order) = is_from_to 1 MAX_ORDER order
is_reply (Cancelled order) = is_from_to 1 MAX_ORDER order
is_reply (Cleared number market batch outcome) = is_cleared number market batch outcome
is_reply (Settled market lapsed payouts) = is_from_to 1 MAX_MARKET market && (nat_le lapsed MAX_LAPSED && list_all is_paid payouts)
is_reply (Balance account balance reserved) = is_balance account balance reserved
is_reply (Refused number place) = is_from_to 1 MAX_REFUSAL number && is_field place (is_range_refusal number)
