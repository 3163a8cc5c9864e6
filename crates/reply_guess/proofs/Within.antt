-- A reply that passes the tests is within its ranges.
use Rattle.std.proofs.Common.{◌≡◌, ℕ, zero, suc, ◌*◌, ◌^◌, ℤ, pos, unsigned_abs, List, [], ◌∷◌, length, Bool, true, false, ◌&&◌, nat_le, sym, arith, true≢false}
use Rattle.std.specs.List.{All, AllByRecursion, list_all}
use Rattle.std.proofs.lemmas.Bool.{and_parts, leb-true, ltb-true, eqb-true}
use Rattle.arithmetic.proofs.Tests.{int_le-yes}
use Rattle.form.specs.Between.{Between}
use Rattle.form.specs.Limits.{IsListed}
use Rattle.form.specs.Bundles.{legs_in, count_sizes}
use Rattle.form.specs.Payoff.{option_of}
use Rattle.form.specs.declared.legs.Leg.{Leg}
use Rattle.form.specs.declared.orders.Side.{Side}
use Rattle.form.specs.declared.orders.Side.TheVariants.{Buy, Sell}
use Rattle.form.specs.declared.orders.Order.{Order}
use Rattle.form.specs.declared.orders.Batch.{Batch}
use Rattle.settlement.specs.declared.position.PaidOut.{PaidOut}
use Rattle.cert_check.specs.declared.measures.Measure.{Measure}
use Rattle.cert_check.specs.declared.measures.Weighted.{Weighted}
use Rattle.sign_tree.specs.declared.trees.Node.{Node}
use Rattle.sign_tree.specs.declared.trees.Node.TheVariants.{Split, Leaf}
use Rattle.sign_tree.specs.declared.trees.Multiplier.{Multiplier}
use Rattle.cert_check.specs.declared.outcome.Cover.{Cover}
use Rattle.cert_check.specs.declared.outcome.Cover.TheVariants.{Line, Tree}
use Rattle.cert_check.specs.declared.outcome.Mark.{Mark}
use Rattle.cert_check.specs.declared.outcome.Mark.TheVariants as mark
use Rattle.cert_check.specs.declared.outcome.Outcome.{Outcome}
use Rattle.reply_print.specs.declared.replies.Reply.{Reply}
use Rattle.reply_print.specs.declared.replies.Reply.TheVariants.{Opened, Deposited, Withdrawn, Listed, Placed, Cancelled, Cleared, Settled, Balance, Refused}
use Rattle.reply_print.specs.OutcomePieces.{state_entries}
use Rattle.reply_print.specs.Within.{IsSmall, IsOrderWithin, IsBatchWithin, IsPlace, IsNodeWithin, IsCoverWithin, IsPointWithin, IsMarkWithin, IsOutcomeWithin, HasItsSide, IsPaidWithin, IsRefusal, IsReplyWithin, leaves_of}
use Rattle.reply_print.specs.Words.{is_range_refusal}
use Rattle.reply_guess.specs.Options.{has_limits}
use Rattle.reply_guess.specs.Ranges.{is_from_to, is_small, has_options, has_numbers, is_order, is_batch, is_place, is_node, is_multiplier, is_cover, is_point, is_certificate, is_mark, is_outcome, has_its_side, is_paid, is_field, is_reply}
use Rattle.reply_guess.proofs.Options.{listed-from}

each : {A : Type 0} (P : A → Type 0) (p : A → Bool) → ((x : A) → p x ≡ true → P x) → (xs : List A) → list_all p xs ≡ true → AllByRecursion P xs
each P p h [] e = tt
each P p h (x ∷ xs) e = let parts = and_parts (p x) (list_all p xs) e in (h x parts.0, each P p h xs parts.1)

to_all : {A : Type 0} (P : A → Type 0) (xs : List A) → AllByRecursion P xs → All P xs
to_all P [] h k d lt = absurd (omega arith)
to_all P (x ∷ xs) h zero d lt = h.0
to_all P (x ∷ xs) h (suc k) d lt = to_all P xs h.1 k d (omega arith)

pub from_to : (low high n : ℕ) → is_from_to low high n ≡ true → Between low high n
from_to low high n e = let parts = and_parts (nat_le low n) (nat_le n high) e in (leb-true low n parts.0, leb-true n high parts.1)

small : (z : ℤ) → is_small z ≡ true → IsSmall z
small z e = ltb-true (unsigned_abs z) (2 ^ 127) e

-- ---- orders

options : (legs : List Leg) → has_options legs ≡ true → All (λ (leg : Leg). IsListed (option_of leg.form)) legs
options legs e =
    to_all (λ (leg : Leg). IsListed (option_of leg.form)) legs
    (each (λ (leg : Leg). IsListed (option_of leg.form)) (λ (leg : Leg). has_limits (option_of leg.form)) (λ leg l. listed-from (option_of leg.form) l) legs e)

order_within : (order : Order) → is_order order ≡ true → IsOrderWithin order
order_within order e =
    let outer = and_parts (has_numbers order) _ e in
    let id = and_parts (is_from_to 1 1000000 order.id) _ outer.0 in
    let account = and_parts (is_from_to 1 999999999 order.account) _ id.1 in
    let price = and_parts (nat_le order.price 1000000000000) _ account.1 in
    let last = and_parts (has_options (legs_in order.bundle)) _ outer.1 in
    let quantity = from_to 1 1000000 order.quantity price.1 in (
      from_to 1 1000000 order.id id.0,
      from_to 1 999999999 order.account account.0,
      record {
        options = options (legs_in order.bundle) last.0;
        price = leb-true order.price 1000000000000 price.0;
        some = quantity.0;
        quantity = quantity.1;
        counted = leb-true (order.quantity * count_sizes order.bundle) 1000000 last.1;
      },
    )

batch_within : (batch : Batch) → is_batch batch ≡ true → IsBatchWithin batch
batch_within batch e =
    let outer = and_parts (is_from_to 1 8 batch.underlyings) _ e in
    let inner = and_parts (nat_le (length batch.orders) 256) _ outer.1 in
    (from_to 1 8 batch.underlyings outer.0, leb-true (length batch.orders) 256 inner.0, each IsOrderWithin is_order order_within batch.orders inner.1)

-- ---- outcomes

place : (n : ℕ) → is_place n ≡ true → IsPlace n
place n e = from_to 1 1024 n e

node_within : (node : Node) → is_node node ≡ true → IsNodeWithin node
node_within (Split n) e = place n e
node_within (Leaf count) e = tt

cover_within : (cover : Cover) → is_cover cover ≡ true → IsCoverWithin cover
cover_within Line e = tt
cover_within (Tree tree) e =
    let outer = and_parts (list_all is_node tree.nodes) _ e in
    let inner = and_parts (list_all is_multiplier tree.multipliers) _ outer.1 in (
      each IsNodeWithin is_node node_within tree.nodes outer.0,
      each (λ (m : Multiplier). IsPlace m.place) is_multiplier (λ m h. place m.place h) tree.multipliers inner.0,
      eqb-true (leaves_of tree.nodes) (length tree.multipliers) inner.1,
    )

point_within : (point : Weighted) → is_point point ≡ true → IsPointWithin point
point_within point e = each IsSmall is_small small (state_entries point.state) e

pub certificate_within : (cover : Cover) (measure : Measure) → is_certificate cover measure ≡ true → IsCoverWithin cover × AllByRecursion IsPointWithin measure.points
certificate_within cover measure e =
    let parts = and_parts (is_cover cover) _ e in
    (cover_within cover parts.0, each IsPointWithin is_point point_within measure.points parts.1)

mark_within : (m : Mark) → is_mark m ≡ true → IsMarkWithin m
mark_within (mark.Optimal cover measure) e = certificate_within cover measure e
mark_within (mark.Wide w) e = absurd (true≢false (sym e))
mark_within mark.Budget e = tt

outcome_within : (outcome : Outcome) → is_outcome outcome ≡ true → IsOutcomeWithin outcome
outcome_within outcome e = let parts = and_parts (nat_le outcome.units 20000) _ e in (leb-true outcome.units 20000 parts.0, mark_within outcome.mark parts.1)

-- ---- replies

own_side : (side : Side) (amount : ℕ) → has_its_side side amount ≡ true → HasItsSide side amount
own_side Buy amount e = tt
own_side Sell amount e = leb-true 1 amount e

paid_within : (paid : PaidOut) → is_paid paid ≡ true → IsPaidWithin paid
paid_within paid e =
    let batch = and_parts (is_from_to 1 2000000 paid.batch) _ e in
    let order = and_parts (is_from_to 1 1000000 paid.order) _ batch.1 in
    let account = and_parts (is_from_to 1 999999999 paid.account) _ order.1 in
    let amount = and_parts (nat_le paid.amount 8001000000000000000) _ account.1 in (
      from_to 1 2000000 paid.batch batch.0,
      from_to 1 1000000 paid.order order.0,
      from_to 1 999999999 paid.account account.0,
      leb-true paid.amount 8001000000000000000 amount.0,
      own_side paid.side paid.amount amount.1,
    )

refusal : (number n : ℕ) (is_range : Bool) → is_field n is_range ≡ true → IsRefusal number n is_range
refusal number n true e = from_to 2 51 n e
refusal number n false e = eqb-true n 0 e

moved : (account : ℕ) (balance : ℤ) → (is_from_to 1 999999999 account && is_small balance) ≡ true → Between 1 999999999 account × IsSmall balance
moved account balance e = let parts = and_parts (is_from_to 1 999999999 account) (is_small balance) e in (from_to 1 999999999 account parts.0, small balance parts.1)

pub reply_within : (reply : Reply) → is_reply reply ≡ true → IsReplyWithin reply
reply_within (Opened account) e = from_to 1 999999999 account e
reply_within (Deposited account balance) e = moved account balance e
reply_within (Withdrawn account balance) e = moved account balance e
reply_within (Listed market underlyings) e =
    let parts = and_parts (is_from_to 1 999999999 market) _ e in (from_to 1 999999999 market parts.0, from_to 1 8 underlyings parts.1)
reply_within (Placed order) e = from_to 1 1000000 order e
reply_within (Cancelled order) e = from_to 1 1000000 order e
reply_within (Cleared number market batch outcome) e =
    let first = and_parts (is_from_to 1 2000000 number) _ e in
    let second = and_parts (is_from_to 1 999999999 market) _ first.1 in
    let third = and_parts (is_batch batch) _ second.1 in
    (from_to 1 2000000 number first.0, from_to 1 999999999 market second.0, batch_within batch third.0, outcome_within outcome third.1)
reply_within (Settled market lapsed payouts) e =
    let first = and_parts (is_from_to 1 999999999 market) _ e in
    let second = and_parts (nat_le lapsed 256) _ first.1 in
    (from_to 1 999999999 market first.0, leb-true lapsed 256 second.0, each IsPaidWithin is_paid paid_within payouts second.1)
reply_within (Balance account balance reserved) e =
    let first = and_parts (nat_le account 999999999) _ e in
    let second = and_parts (is_small balance) _ first.1 in
    let third = and_parts (is_small reserved) _ second.1 in
    (leb-true account 999999999 first.0, small balance second.0, small reserved third.0, int_le-yes (pos 0) reserved third.1)
reply_within (Refused number n) e =
    let parts = and_parts (is_from_to 1 13 number) _ e in (from_to 1 13 number parts.0, refusal number n (is_range_refusal number) parts.1)
