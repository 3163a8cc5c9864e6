-- What a cleared batch and its orders are written as.
use Rattle.std.specs.Prelude.{ℕ, ℤ, pos, negsuc, List, [], ◌∷◌, Bool, true, false, ◌==◌, codes, if◌then◌else◌}
use Rattle.std.specs.Fmt.{signed_decimal}
use Rattle.std.specs.List.{list_all}
use Rattle.exact_num.specs.Fraction.{Fraction}
use Rattle.frac.specs.declared.frac128.Frac128.{Frac128}
use Rattle.frac.specs.Value.{fraction_of}
use Rattle.form.specs.declared.forms.Form.{Form}
use Rattle.form.specs.Payoff.{option_of}
use Rattle.form.specs.Bundles.{legs_in}
use Rattle.form.specs.declared.legs.Leg.{Leg}
use Rattle.form.specs.declared.orders.Order.{Order}
use Rattle.reply_print.specs.Numbers.{fraction_text}
use Rattle.reply_print.specs.Piece.{Piece, whole, words, list, object, Pieces, no_pieces, piece, Fields, no_fields, field}
use Rattle.form.specs.Sides.{side_word}

abbrev pub natural : ℕ → Piece
natural n = whole (pos n)

-- a whole number as a text
abbrev pub whole_words : ℤ → Piece
whole_words z = words (signed_decimal z)

abbrev pub fraction_words : Fraction → Piece
fraction_words x = words (fraction_text x)

abbrev pub fraction : Frac128 → Piece
fraction x = fraction_words (fraction_of x)

-- each item as a piece
abbrev pub pieces_of : {A : Type 0} → (A → Piece) → List A → Pieces
pieces_of f [] = no_pieces
pieces_of f (x ∷ xs) = piece (f x) (pieces_of f xs)

abbrev pub each : {A : Type 0} → (A → Piece) → List A → Piece
each f xs = list (pieces_of f xs)

abbrev pub form_piece : Form → Piece
form_piece form = each whole (option_of form)

abbrev pub leg_piece : Leg → Piece
leg_piece leg = object (field (codes "count") (whole leg.count) (field (codes "form") (form_piece leg.form) no_fields))

abbrev pub is_one : ℤ → Bool
is_one (pos n) = n == 1
is_one (negsuc n) = false

-- one leg of count 1
abbrev pub is_single : List Leg → Bool
is_single [] = false
is_single (leg ∷ []) = is_one leg.count
is_single (leg ∷ second ∷ more) = false

-- whether the line has version 1: every order is one leg of count 1
abbrev pub are_single : List Order → Bool
are_single orders = list_all (λ (order : Order). is_single (legs_in order.bundle)) orders

-- the form of one leg, or the legs
abbrev pub bundle_field : Bool → List Leg → Fields → Fields
bundle_field true [] more = more
bundle_field true (leg ∷ legs) more = field (codes "form") (form_piece leg.form) more
bundle_field false legs more = field (codes "legs") (each leg_piece legs) more

-- an order for these legs
abbrev pub order_with : Bool → List Leg → Order → Piece
order_with single legs order =
    object (field (codes "account") (natural order.account)
    (bundle_field single legs
    (field (codes "order") (natural order.id)
    (field (codes "price") (natural order.price)
    (field (codes "quantity") (natural order.quantity)
    (field (codes "side") (words (side_word order.side)) no_fields))))))

abbrev pub order_piece : Bool → Order → Piece
order_piece single order = order_with single (legs_in order.bundle) order

abbrev pub version_of : Bool → ℕ
version_of single = if single then 1 else 2
