-- The pieces of replies within their ranges are plain and shallow, and their keys rise.
use Rattle.std.proofs.Common.{◌≡◌, ℕ, zero, suc, ◌^◌, ◌<◌, ◌≤◌, ℤ, pos, negsuc, unsigned_abs, List, [], ◌∷◌, take, drop, Bool, true, false, ◌==◌, refl, arith, codes}
use Rattle.std.specs.List.{All, AllByRecursion}
use Rattle.std.proofs.lemmas.Bool.{lt-ltb}
use Rattle.exact_num.specs.Fraction.{over}
use Rattle.exact_num.specs.declared.misfit.Wide.{Wide}
use Rattle.frac.specs.declared.frac128.Frac128.{Frac128}
use Rattle.form.specs.declared.forms.Form.{Form}
use Rattle.form.specs.Limits.{IsListed}
use Rattle.form.specs.Payoff.{option_of}
use Rattle.form.specs.Vector.{strike_entry, weights_of}
use Rattle.cert_check.specs.declared.measures.Weighted.{Weighted}
use Rattle.cert_check.specs.declared.measures.Measure.{Measure}
use Rattle.sign_tree.specs.declared.trees.Node.{Node}
use Rattle.sign_tree.specs.declared.trees.Node.TheVariants.{Split, Leaf}
use Rattle.sign_tree.specs.declared.trees.Multiplier.{Multiplier}
use Rattle.cert_check.specs.declared.outcome.Cover.{Cover}
use Rattle.cert_check.specs.declared.outcome.Cover.TheVariants.{Line, Tree}
use Rattle.cert_check.specs.declared.outcome.Mark.{Mark}
use Rattle.cert_check.specs.declared.outcome.Mark.TheVariants as mark
use Rattle.cert_check.specs.declared.outcome.Outcome.{Outcome}
use Rattle.form.specs.declared.orders.Batch.{Batch}
use Rattle.form.specs.declared.legs.Leg.{Leg}
use Rattle.form.specs.declared.bundles.Bundle.{Bundle}
use Rattle.form.specs.declared.orders.Order.{Order}
use Rattle.form.specs.Bundles.{legs_in, IsCounted}
use Rattle.settlement.specs.declared.position.PaidOut.{PaidOut}
use Rattle.reply_print.specs.declared.replies.Reply.{Reply}
use Rattle.reply_print.specs.declared.replies.Reply.TheVariants.{Opened, Deposited, Withdrawn, Listed, Placed, Cancelled, Cleared, Settled, Balance, Refused}
use Rattle.reply_print.specs.BatchPieces.{whole_words, fraction, pieces_of, form_piece, leg_piece, order_with, order_piece, are_single, version_of}
use Rattle.reply_print.specs.OutcomePieces.{state_entries, point_piece, multiplier_piece, node_pieces, cover_piece, certificate_piece, wide_piece, wide_field}
use Rattle.reply_print.specs.Piece.{Piece, whole}
use Rattle.reply_print.specs.ReplyPieces.{reply_piece, signed_amount, paid_piece, moved_piece, ordered_piece, refused_with, cleared_with, cleared_middle, cleared_end}
use Rattle.reply_print.specs.Words.{reason_word, mark_word}
use Rattle.reply_print.specs.Within.{IsWithin, IsLine, IsBatchNumber, IsMarket, IsPlace, IsBatchWithin, IsOrderWithin, IsMarkWithin, IsCoverWithin, IsNodeWithin, IsPointWithin, IsPaidWithin, IsSmall, IsRefusal}
use Rattle.reply_print.specs.Written.{is_plain, IsWritten, AreWritten, HasWritten, is_short}
use Rattle.reply_print.proofs.Digits.{plain-signed_decimal, plain-fraction_text}
use Rattle.reply_print.proofs.PlainPieces.{reason_plain, side_plain, operator_plain, fraction_plain}

pub short : (n : ℕ) → n < 2 ^ 63 → is_short (pos n) ≡ true
short n h = lt-ltb n (2 ^ 63) h

-- each piece of a list
pub each_written : {A : Type 0} (P : A → Type 0) (n : ℕ) (f : A → Piece) → ((x : A) → P x → IsWritten n (f x)) → (xs : List A) → AllByRecursion P xs → AreWritten n (pieces_of f xs)
each_written P n f step [] h = tt
each_written P n f step (x ∷ xs) h = (step x h.0, each_written P n f step xs h.1)

paid_written : (paid : PaidOut) → IsPaidWithin paid → IsWritten 4 (paid_piece paid)
paid_written paid h = (
  refl,
  (
    refl,
    short paid.account (omega arith),
    (
      refl,
      plain-signed_decimal (signed_amount paid.side paid.amount),
      (refl, short paid.batch (omega arith), (refl, short paid.order (omega arith), tt)),
    ),
  ),
)

moved_written : (reply : List ℕ) (line account : ℕ) (balance : ℤ) → is_plain reply ≡ true → IsLine line → account ≤ 999999999 → IsWritten 6 (moved_piece reply line account balance)
moved_written reply line account balance r l a =
    (refl, (refl, short account (omega arith), (refl, plain-signed_decimal balance, (refl, short line (omega arith), (refl, r, tt)))))

ordered_written : (reply : List ℕ) (line order : ℕ) → is_plain reply ≡ true → IsLine line → order ≤ 1000000 → IsWritten 6 (ordered_piece reply line order)
ordered_written reply line order r l o = (refl, (refl, short line (omega arith), (refl, short order (omega arith), (refl, r, tt))))

refused_written : (line number place : ℕ) (reason : List ℕ) (b : Bool) → IsLine line → number ≤ 13 → IsRefusal number place b → is_plain reason ≡ true → IsWritten 6 (refused_with b line number place reason)
refused_written line number place reason true l n f r =
    (refl, (refl, short place (omega arith), (refl, short line (omega arith), (refl, short number (omega arith), (refl, r, (refl, refl, tt))))))
refused_written line number place reason false l n f r =
    (refl, (refl, short line (omega arith), (refl, short number (omega arith), (refl, r, (refl, refl, tt)))))

-- ---- cleared lines

pub fills_written : (xs : List Frac128) → AreWritten 4 (pieces_of fraction xs)
fills_written [] = tt
fills_written (x ∷ xs) = (fraction_plain x, fills_written xs)

pub from_all : {A : Type 0} (P : A → Type 0) (xs : List A) → All P xs → AllByRecursion P xs
from_all P [] h = tt
from_all P (x ∷ xs) h = (h 0 x (omega arith), from_all P xs (λ k d lt. h (suc k) d (omega arith)))

entry_short : (z : ℤ) → unsigned_abs z ≤ 1000000000 → is_short z ≡ true
entry_short (pos n) h = lt-ltb n (2 ^ 63) (omega arith)
entry_short (negsuc n) h = lt-ltb (suc n) (2 ^ 63) (omega arith)

entries_written : (n : ℕ) (v : List ℤ) → unsigned_abs (strike_entry v) ≤ 1000000000 → AllByRecursion (λ w. unsigned_abs w ≤ 1000) (weights_of v) → AreWritten n (pieces_of whole v)
entries_written n [] s w = tt
entries_written n (z ∷ v) s w = (entry_short z s, each_written (λ w. unsigned_abs w ≤ 1000) n whole (λ x h. entry_short x (omega arith)) v w)

form_written : (n : ℕ) (form : Form) → IsListed (option_of form) → IsWritten (suc n) (form_piece form)
form_written n form h = entries_written n (option_of form) h.strike (from_all _ (weights_of (option_of form)) h.weights)

count_short : (z : ℤ) → unsigned_abs z ≤ 1000 → is_short z ≡ true
count_short z h = entry_short z (omega arith)

-- a leg of an order within its ranges
abbrev pub IsLegWithin : Leg → Type 0
IsLegWithin leg = IsCounted leg × IsListed (option_of leg.form)

pub legs_within : (bundle : Bundle) → All (λ (leg : Leg). IsListed (option_of leg.form)) (legs_in bundle) → AllByRecursion IsLegWithin (legs_in bundle)
legs_within bundle h = from_all IsLegWithin (legs_in bundle) (λ k d lt. (bundle.counted k d lt, h k d lt))

pub leg_written : (leg : Leg) → IsLegWithin leg → IsWritten 2 (leg_piece leg)
leg_written leg h = (refl, (refl, count_short leg.count h.0.1, (refl, form_written 0 leg.form h.1, tt)))

pub order_written : (single : Bool) (legs : List Leg) (order : Order) → AllByRecursion IsLegWithin legs → IsOrderWithin order → IsWritten 4 (order_with single legs order)
order_written true [] order l h =
    (refl, (refl, short order.account (omega arith), (refl, short order.id (omega arith), (refl, short order.price (omega (arith, h.2.price)), (refl, short order.quantity (omega (arith, h.2.quantity)), (refl, side_plain order.side, tt))))))
order_written true (leg ∷ legs) order l h =
    (refl, (refl, short order.account (omega arith), (refl, form_written 2 leg.form l.0.1, (refl, short order.id (omega arith), (refl, short order.price (omega (arith, h.2.price)), (refl, short order.quantity (omega (arith, h.2.quantity)), (refl, side_plain order.side, tt)))))))
order_written false legs order l h =
    (refl, (refl, short order.account (omega arith), (refl, each_written IsLegWithin 2 leg_piece leg_written legs l, (refl, short order.id (omega arith), (refl, short order.price (omega (arith, h.2.price)), (refl, short order.quantity (omega (arith, h.2.quantity)), (refl, side_plain order.side, tt)))))))

-- ---- certificates

pub point_written : (point : Weighted) → IsPointWithin point → IsWritten 3 (point_piece point)
point_written point h = (refl, (refl, each_written IsSmall 1 whole_words (λ z small. plain-signed_decimal z) (state_entries point.state) h, (refl, fraction_plain point.weight, tt)))

multiplier_written : (m : Multiplier) → IsPlace m.place → IsWritten 1 (multiplier_piece m)
multiplier_written m h = (refl, (refl, short m.place (omega arith), (refl, fraction_plain m.by, tt)))

pub front_of : {A : Type 0} (P : A → Type 0) (n : ℕ) (xs : List A) → AllByRecursion P xs → AllByRecursion P (take n xs)
front_of P zero xs h = tt
front_of P (suc n) [] h = tt
front_of P (suc n) (x ∷ xs) h = (h.0, front_of P n xs h.1)

pub rest_of : {A : Type 0} (P : A → Type 0) (n : ℕ) (xs : List A) → AllByRecursion P xs → AllByRecursion P (drop n xs)
rest_of P zero xs h = h
rest_of P (suc n) [] h = tt
rest_of P (suc n) (x ∷ xs) h = rest_of P n xs h.1

abbrev pub HasPlace : Multiplier → Type 0
HasPlace m = IsPlace m.place

nodes_written : (nodes : List Node) (ms : List Multiplier) → AllByRecursion IsNodeWithin nodes → AllByRecursion HasPlace ms → AreWritten 3 (node_pieces nodes ms)
nodes_written [] ms h k = tt
nodes_written (Split place ∷ nodes) ms h k = ((refl, (refl, short place (omega arith), tt)), nodes_written nodes ms h.1 k)
nodes_written (Leaf count ∷ nodes) ms h k =
    ((refl, (refl, each_written HasPlace 1 multiplier_piece multiplier_written (take count ms) (front_of HasPlace count ms k), tt)), nodes_written nodes (drop count ms) h.1 (rest_of HasPlace count ms k))

cover_written : (cover : Cover) → IsCoverWithin cover → IsWritten 4 (cover_piece cover)
cover_written Line h = refl
cover_written (Tree tree) h = nodes_written tree.nodes tree.multipliers h.0 h.1

pub certificate_written : (cover : Cover) (measure : Measure) → IsCoverWithin cover → AllByRecursion IsPointWithin measure.points → IsWritten 5 (certificate_piece cover measure)
certificate_written cover measure c m = (refl, (refl, cover_written cover c, (refl, each_written IsPointWithin 3 point_piece point_written measure.points m, tt)))

wide_written : (w : Wide) → IsWritten 5 (wide_piece w)
wide_written w =
    (refl, (refl, plain-fraction_text (over w.left.0 (unsigned_abs w.left.1)), (refl, operator_plain w.operator, (refl, plain-fraction_text (over w.right.0 (unsigned_abs w.right.1)), tt))))

version_short : (single : Bool) → is_short (pos (version_of single)) ≡ true
version_short true = refl
version_short false = refl

end_written : (mark : Mark) (single : Bool) (batch : Batch) (outcome : Outcome) → IsBatchWithin batch → outcome.units ≤ 20000 → HasWritten 5 (wide_field mark)
    → HasWritten 5 (cleared_end batch outcome mark single)
end_written mark single batch outcome b u w = (
  refl,
  each_written IsOrderWithin 4 (order_piece single) (λ order h. order_written single (legs_in order.bundle) order (legs_within order.bundle h.2.options) h) batch.orders b.2,
  (
    refl,
    refl,
    (
      refl,
      fraction_plain outcome.claim.surplus,
      (refl, short batch.underlyings (omega arith), (refl, short outcome.units (omega arith), (refl, version_short single, w))),
    ),
  ),
)

-- from the fills on
middle_written : (mark : Mark) (single : Bool) (line market : ℕ) (batch : Batch) (outcome : Outcome) → IsLine line → IsMarket market → IsBatchWithin batch → outcome.units ≤ 20000
    → is_plain (mark_word mark) ≡ true → HasWritten 5 (wide_field mark) → HasWritten 5 (cleared_middle mark single line market batch outcome)
middle_written mark single line market batch outcome l m b u word w = (
  refl,
  fills_written outcome.fills,
  (
    refl,
    fraction_plain outcome.claim.liability,
    (
      refl,
      short line (omega arith),
      (refl, word, (refl, short market (omega arith), end_written mark single batch outcome b u w)),
    ),
  ),
)

cleared_written : (mark : Mark) (single : Bool) (line number market : ℕ) (batch : Batch) (outcome : Outcome)
    → IsLine line → IsBatchNumber number → IsMarket market → IsBatchWithin batch → outcome.units ≤ 20000 → IsMarkWithin mark → IsWritten 6 (cleared_with mark single line number market batch outcome)
cleared_written (mark.Optimal cover measure) single line number market batch outcome l n m b u k =
    (refl, (refl, short number (omega arith), (refl, certificate_written cover measure k.0 k.1, middle_written (mark.Optimal cover measure) single line market batch outcome l m b u refl tt)))
cleared_written (mark.Wide w) single line number market batch outcome l n m b u k =
    (refl, (refl, short number (omega arith), middle_written (mark.Wide w) single line market batch outcome l m b u refl (refl, wide_written w, tt)))
cleared_written mark.Budget single line number market batch outcome l n m b u k =
    (refl, (refl, short number (omega arith), middle_written mark.Budget single line market batch outcome l m b u refl tt))

pub written : (line : ℕ) (reply : Reply) → IsWithin line reply → IsWritten 6 (reply_piece line reply)
written line (Opened account) h = (refl, (refl, short account (omega arith), (refl, short line (omega arith), (refl, refl, tt))))
written line (Deposited account balance) h = moved_written (codes "deposited") line account balance refl h.0 (omega arith)
written line (Withdrawn account balance) h = moved_written (codes "withdrawn") line account balance refl h.0 (omega arith)
written line (Listed market underlyings) h = (refl, (refl, short line (omega arith), (refl, short market (omega arith), (refl, refl, (refl, short underlyings (omega arith), tt)))))
written line (Placed order) h = ordered_written (codes "placed") line order refl h.0 (omega arith)
written line (Cancelled order) h = ordered_written (codes "cancelled") line order refl h.0 (omega arith)
written line (Cleared number market batch outcome) h = cleared_written outcome.mark (are_single batch.orders) line number market batch outcome h.0 h.1.0 h.1.1 h.1.2 h.1.3.0 h.1.3.1
written line (Settled market lapsed payouts) h = (
  refl,
  (
    refl,
    short lapsed (omega arith),
    (
      refl,
      short line (omega arith),
      (refl, short market (omega arith), (refl, each_written IsPaidWithin 4 paid_piece (λ p w. paid_written p w) payouts h.1.2, (refl, refl, tt))),
    ),
  ),
)
written line (Balance account balance reserved) h = (
  refl,
  (
    refl,
    short account (omega arith),
    (
      refl,
      plain-signed_decimal balance,
      (refl, short line (omega arith), (refl, refl, (refl, plain-signed_decimal reserved, tt))),
    ),
  ),
)
written line (Refused number place) h = refused_written line number place (reason_word number) (number == 8) h.0 (omega arith) h.1.1 (reason_plain number)
