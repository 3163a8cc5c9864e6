-- The texts in the pieces of every reply are plain.
use Rattle.std.proofs.Common.{◌≡◌, ℕ, ℤ, List, [], ◌∷◌, take, drop, Bool, true, false, ◌==◌, refl, unsigned_abs}
use Rattle.exact_num.specs.Fraction.{over}
use Rattle.exact_num.specs.declared.misfit.Operator.{Operator}
use Rattle.exact_num.specs.declared.misfit.Operator.TheVariants as operator
use Rattle.exact_num.specs.declared.misfit.Wide.{Wide}
use Rattle.frac.specs.declared.frac128.Frac128.{Frac128}
use Rattle.frac.specs.Value.{fraction_of}
use Rattle.form.specs.declared.legs.Leg.{Leg}
use Rattle.form.specs.declared.orders.Batch.{Batch}
use Rattle.form.specs.declared.orders.Order.{Order}
use Rattle.form.specs.declared.orders.Side.{Side}
use Rattle.form.specs.declared.orders.Side.TheVariants.{Buy, Sell}
use Rattle.form.specs.Bundles.{legs_in}
use Rattle.form.specs.Payoff.{option_of}
use Rattle.cert_check.specs.declared.measures.Weighted.{Weighted}
use Rattle.cert_check.specs.declared.measures.Measure.{Measure}
use Rattle.sign_tree.specs.declared.trees.Node.{Node}
use Rattle.sign_tree.specs.declared.trees.Node.TheVariants.{Split, Leaf}
use Rattle.sign_tree.specs.declared.trees.Multiplier.{Multiplier}
use Rattle.cert_check.specs.declared.outcome.Cover.{Cover}
use Rattle.cert_check.specs.declared.outcome.Cover.TheVariants.{Line, Tree}
use Rattle.cert_check.specs.declared.outcome.Mark.{Mark}
use Rattle.cert_check.specs.declared.outcome.Mark.TheVariants as mark
use Rattle.cert_check.specs.declared.outcome.Outcome.{Outcome}
use Rattle.settlement.specs.declared.position.PaidOut.{PaidOut}
use Rattle.reply_print.specs.declared.replies.Reply.{Reply}
use Rattle.reply_print.specs.declared.replies.Reply.TheVariants.{Opened, Deposited, Withdrawn, Listed, Placed, Cancelled, Cleared, Settled, Balance, Refused}
use Rattle.reply_print.specs.BatchPieces.{whole_words, fraction, pieces_of, leg_piece, order_with, order_piece, are_single}
use Rattle.reply_print.specs.OutcomePieces.{state_entries, point_piece, multiplier_piece, node_piece, node_pieces, cover_piece, certificate_piece, wide_piece, wide_field, count_of}
use Rattle.reply_print.specs.Piece.{Piece, whole, words, truth, list, object, Pieces, no_pieces, piece, Fields, no_fields, field}
use Rattle.reply_print.specs.ReplyPieces.{reply_piece, signed_amount, paid_piece, refused_with, cleared_with, cleared_middle, cleared_end}
use Rattle.reply_print.specs.Words.{reason_word, mark_word, operator_word}
use Rattle.form.specs.Sides.{side_word}
use Rattle.reply_print.specs.Written.{is_plain}
use Rattle.reply_print.proofs.Digits.{either_plain, plain-signed_decimal, plain-fraction_text}

-- each text and each key is plain
abbrev mutual
  pub HasPlainTexts : Piece → Type 0
  HasPlainTexts (whole z) = Unit {0}
  HasPlainTexts (words s) = is_plain s ≡ true
  HasPlainTexts (truth b) = Unit {0}
  HasPlainTexts (list ps) = HavePlainTexts ps
  HasPlainTexts (object fs) = HasPlainFields fs

  pub HavePlainTexts : Pieces → Type 0
  HavePlainTexts no_pieces = Unit {0}
  HavePlainTexts (piece p ps) = HasPlainTexts p × HavePlainTexts ps

  pub HasPlainFields : Fields → Type 0
  HasPlainFields no_fields = Unit {0}
  HasPlainFields (field key p fs) = (is_plain key ≡ true) × HasPlainTexts p × HasPlainFields fs

pub each_plain : {A : Type 0} (f : A → Piece) → ((x : A) → HasPlainTexts (f x)) → (xs : List A) → HavePlainTexts (pieces_of f xs)
each_plain f step [] = tt
each_plain f step (x ∷ xs) = (step x, each_plain f step xs)

wholes_plain : (zs : List ℤ) → HavePlainTexts (pieces_of whole zs)
wholes_plain = each_plain whole (λ z. tt)

pub reason_plain : (number : ℕ) → is_plain (reason_word number) ≡ true
reason_plain number =
    either_plain (number == 1) _ _ refl (either_plain (number == 2) _ _ refl (either_plain (number == 3) _ _ refl (either_plain (number == 4) _ _ refl
    (either_plain (number == 5) _ _ refl (either_plain (number == 6) _ _ refl (either_plain (number == 7) _ _ refl (either_plain (number == 8) _ _ refl
    (either_plain (number == 9) _ _ refl (either_plain (number == 10) _ _ refl (either_plain (number == 11) _ _ refl (either_plain (number == 12) _ _ refl refl)))))))))))

pub side_plain : (side : Side) → is_plain (side_word side) ≡ true
side_plain Buy = refl
side_plain Sell = refl

pub operator_plain : (o : Operator) → is_plain (operator_word o) ≡ true
operator_plain operator.Add = refl
operator_plain operator.Mul = refl
operator_plain operator.Div = refl
operator_plain operator.Whole = refl

pub refused_plain : (b : Bool) (line number place : ℕ) (reason : List ℕ) → is_plain reason ≡ true → HasPlainTexts (refused_with b line number place reason)
refused_plain true line number place reason r = (refl, tt, (refl, tt, (refl, tt, (refl, r, (refl, refl, tt)))))
refused_plain false line number place reason r = (refl, tt, (refl, tt, (refl, r, (refl, refl, tt))))

paid_plain : (paid : PaidOut) → HasPlainTexts (paid_piece paid)
paid_plain paid = (refl, tt, (refl, plain-signed_decimal (signed_amount paid.side paid.amount), (refl, tt, (refl, tt, tt))))

pub leg_plain : (leg : Leg) → HasPlainTexts (leg_piece leg)
leg_plain leg = (refl, tt, (refl, wholes_plain (option_of leg.form), tt))

pub order_plain : (single : Bool) (legs : List Leg) (order : Order) → HasPlainTexts (order_with single legs order)
order_plain true [] order = (refl, tt, (refl, tt, (refl, tt, (refl, tt, (refl, side_plain order.side, tt)))))
order_plain true (leg ∷ legs) order = (refl, tt, (refl, wholes_plain (option_of leg.form), (refl, tt, (refl, tt, (refl, tt, (refl, side_plain order.side, tt))))))
order_plain false legs order = (refl, tt, (refl, each_plain leg_piece leg_plain legs, (refl, tt, (refl, tt, (refl, tt, (refl, side_plain order.side, tt))))))

-- ---- certificates
pub fraction_plain : (x : Frac128) → HasPlainTexts (fraction x)
fraction_plain x = plain-fraction_text (fraction_of x)

point_plain : (point : Weighted) → HasPlainTexts (point_piece point)
point_plain point = (refl, each_plain whole_words plain-signed_decimal (state_entries point.state), (refl, fraction_plain point.weight, tt))

multiplier_plain : (m : Multiplier) → HasPlainTexts (multiplier_piece m)
multiplier_plain m = (refl, tt, (refl, fraction_plain m.by, tt))

node_plain : (node : Node) (ms : List Multiplier) → HasPlainTexts (node_piece node ms)
node_plain (Split place) ms = (refl, tt, tt)
node_plain (Leaf count) ms = (refl, each_plain multiplier_piece multiplier_plain ms, tt)

nodes_plain : (nodes : List Node) (ms : List Multiplier) → HavePlainTexts (node_pieces nodes ms)
nodes_plain [] ms = tt
nodes_plain (node ∷ nodes) ms = (node_plain node (take (count_of node) ms), nodes_plain nodes (drop (count_of node) ms))

cover_plain : (cover : Cover) → HasPlainTexts (cover_piece cover)
cover_plain Line = refl
cover_plain (Tree tree) = nodes_plain tree.nodes tree.multipliers

wide_plain : (w : Wide) → HasPlainTexts (wide_piece w)
wide_plain w =
    (refl, plain-fraction_text (over w.left.0 (unsigned_abs w.left.1)), (refl, operator_plain w.operator, (refl, plain-fraction_text (over w.right.0 (unsigned_abs w.right.1)), tt)))

word_plain : (mark : Mark) → is_plain (mark_word mark) ≡ true
word_plain (mark.Optimal cover measure) = refl
word_plain (mark.Wide w) = refl
word_plain mark.Budget = refl

last_plain : (mark : Mark) → HasPlainFields (wide_field mark)
last_plain (mark.Optimal cover measure) = tt
last_plain (mark.Wide w) = (refl, wide_plain w, tt)
last_plain mark.Budget = tt

end_plain : (batch : Batch) (outcome : Outcome) (mark : Mark) (single : Bool) → HasPlainFields (cleared_end batch outcome mark single)
end_plain batch outcome mark single = (
  refl,
  each_plain (order_piece single) (λ order. order_plain single (legs_in order.bundle) order) batch.orders,
  (refl, refl, (refl, fraction_plain outcome.claim.surplus, (refl, tt, (refl, tt, (refl, tt, last_plain mark))))),
)

middle_plain : (mark : Mark) (single : Bool) (line market : ℕ) (batch : Batch) (outcome : Outcome) → HasPlainFields (cleared_middle mark single line market batch outcome)
middle_plain mark single line market batch outcome =
    (refl, each_plain fraction fraction_plain outcome.fills, (refl, fraction_plain outcome.claim.liability, (refl, tt, (refl, word_plain mark, (refl, tt, end_plain batch outcome mark single)))))

pub certificate_plain : (cover : Cover) (measure : Measure) → HasPlainTexts (certificate_piece cover measure)
certificate_plain cover measure = (refl, cover_plain cover, (refl, each_plain point_piece point_plain measure.points, tt))

cleared_plain : (mark : Mark) (single : Bool) (line number market : ℕ) (batch : Batch) (outcome : Outcome) → HasPlainTexts (cleared_with mark single line number market batch outcome)
cleared_plain (mark.Optimal cover measure) single line number market batch outcome =
    (refl, tt, (refl, certificate_plain cover measure, middle_plain (mark.Optimal cover measure) single line market batch outcome))
cleared_plain (mark.Wide w) single line number market batch outcome = (refl, tt, middle_plain (mark.Wide w) single line market batch outcome)
cleared_plain mark.Budget single line number market batch outcome = (refl, tt, middle_plain mark.Budget single line market batch outcome)

pub reply_plain : (line : ℕ) (reply : Reply) → HasPlainTexts (reply_piece line reply)
reply_plain line (Opened account) = (refl, tt, (refl, tt, (refl, refl, tt)))
reply_plain line (Deposited account balance) = (refl, tt, (refl, plain-signed_decimal balance, (refl, tt, (refl, refl, tt))))
reply_plain line (Withdrawn account balance) = (refl, tt, (refl, plain-signed_decimal balance, (refl, tt, (refl, refl, tt))))
reply_plain line (Listed market underlyings) = (refl, tt, (refl, tt, (refl, refl, (refl, tt, tt))))
reply_plain line (Placed order) = (refl, tt, (refl, tt, (refl, refl, tt)))
reply_plain line (Cancelled order) = (refl, tt, (refl, tt, (refl, refl, tt)))
reply_plain line (Cleared number market batch outcome) = cleared_plain outcome.mark (are_single batch.orders) line number market batch outcome
reply_plain line (Settled market lapsed payouts) = (refl, tt, (refl, tt, (refl, tt, (refl, each_plain paid_piece paid_plain payouts, (refl, refl, tt)))))
reply_plain line (Balance account balance reserved) = (refl, tt, (refl, plain-signed_decimal balance, (refl, tt, (refl, refl, (refl, plain-signed_decimal reserved, tt)))))
reply_plain line (Refused number place) = refused_plain (number == 8) line number place (reason_word number) (reason_plain number)
