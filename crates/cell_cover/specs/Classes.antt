-- The classes of a batch: options that are multiples of one another. An option v is g u, where no
-- number above 1 divides the entries of u and the first weight of u that is not 0 is above 0; u is
-- its class and g its factor.
use Rattle.std.specs.Prelude.{ℕ, zero, suc, ◌*◌, Bool, true, false, if◌then◌else◌, List, [], ◌∷◌, ◌++◌, map, get_or, ℤ, pos, negsuc, neg_ℤ, unsigned_abs, int_div}
use Rattle.std.specs.List.{flat_map}
use Rattle.exact_num.specs.Rationals.{Q, ◌+Q◌, ◌*Q◌, neg_Q, 0Q, whole_Q, value}
use Rattle.form.specs.declared.orders.Order.{Order}
use Rattle.form.specs.Payoff.{BundleLeg, bundle_of}
use Rattle.form.specs.Primitive.{common_divisor}
use Rattle.form.specs.Vector.{weights_of, is_same_option}
use Rattle.clearing_model.specs.Legs.{Exposure, Long, Short}
use Rattle.sign_tree.specs.Legs.{FractionLeg}

-- the greatest number that divides each entry, which is the size of the factor
abbrev pub divisor_of : List ℤ → ℕ
divisor_of v = common_divisor (map unsigned_abs v)

-- whether the first of the weights that is not 0 is below 0
abbrev pub begins_below : List ℤ → Bool
begins_below [] = false
begins_below (pos zero ∷ ws) = begins_below ws
begins_below (pos (suc n) ∷ ws) = false
begins_below (negsuc n ∷ ws) = true

-- whether the factor is below 0
abbrev pub is_turned : List ℤ → Bool
is_turned v = begins_below (weights_of v)

abbrev pub turned : Bool → ℤ → ℤ
turned true x = neg_ℤ x
turned false x = x

abbrev pub factor_of : List ℤ → ℤ
factor_of v = turned (is_turned v) (pos (divisor_of v))

-- the entries without their common divisor, their signs turned where the factor is below 0
abbrev pub class_of : List ℤ → List ℤ
class_of v = map (λ x. turned (is_turned v) (int_div x (pos (divisor_of v)))) v

-- ---- the classes of a batch
-- whether the class is among these
abbrev pub is_among : List ℤ → List (List ℤ) → Bool
is_among u [] = false
is_among u (c ∷ cs) = if is_same_option u c then true else is_among u cs

-- the classes, and those of the options that are not among them, as they first come
abbrev pub with_classes : List (List ℤ) → List (List ℤ) → List (List ℤ)
with_classes classes [] = classes
with_classes classes (v ∷ vs) = with_classes (if is_among (class_of v) classes then classes else classes ++ class_of v ∷ []) vs

abbrev pub option_in : BundleLeg → List ℤ
option_in leg = leg.option

-- the options of the orders' legs, order by order and leg by leg
abbrev pub options_in : List Order → List (List ℤ)
options_in orders = flat_map (λ (order : Order). map option_in (bundle_of order)) orders

-- the classes of the orders, which are numbered from 1
abbrev pub classes_of : List Order → List (List ℤ)
classes_of orders = with_classes [] (options_in orders)

-- ---- kinks and slope
-- the sum of f over a list
abbrev pub sum_over : {A : Type 0} → (A → Q) → List A → Q
sum_over f [] = 0Q
sum_over f (x ∷ xs) = f x +Q sum_over f xs

-- a number, with its sign turned where the leg is short
abbrev pub for_exposure : Exposure → Q → Q
for_exposure Long x = x
for_exposure Short x = neg_Q x

-- how much of its class a leg makes the market owe: the fill times the sizes of count and factor
abbrev pub owed_of : FractionLeg → Q
owed_of leg = for_exposure leg.exposure (value leg.fill *Q whole_Q (pos (leg.size * divisor_of leg.option)))

-- how much of the class is owed by all legs
abbrev pub kink_of : List FractionLeg → List ℤ → Q
kink_of legs u = sum_over (λ (leg : FractionLeg). if is_same_option (class_of leg.option) u then owed_of leg else 0Q) legs

-- an option with a factor below 0 pays what its class does, less the class's scalar product with
-- the state: the slope is the sum of these
abbrev pub slope_of : List FractionLeg → ℕ → Q
slope_of legs i = sum_over (λ (leg : FractionLeg). if is_turned leg.option then neg_Q (owed_of leg *Q whole_Q (get_or (class_of leg.option) i (pos 0))) else 0Q) legs

-- a class as covers see it: its entries, and its kink
pub record Class : Type 0 where
  pub entries : ℕ → Q
  pub kink : Q

abbrev pub as_class : List FractionLeg → List ℤ → Class
as_class legs u = record { entries = λ i. whole_Q (get_or u i (pos 0)); kink = kink_of legs u }
