-- Payoffs at states of small entries, and the prices and options of orders.
use Rattle.std.proofs.Common.{ℕ, ◌*◌, ◌/◌, ◌≤◌, List, [], ◌∷◌, zip, ℤ, pos, negsuc, unsigned_abs, length, arith}
use Rattle.std.specs.Prelude.{Ok}
use Rattle.std.specs.List.{All}
use Rattle.std.proofs.Math.Nat.{div-le_self}
use Rattle.std.proofs.lemmas.Int.{ints, unsigned_abs-mul}
use Rattle.std.proofs.lemmas.List.Elements.{All-nil, All-cons, All-head, All-tail, All-map, All-weaker}
use Rattle.std.proofs.lemmas.Nat.{mul-le}
use Rattle.exact_num.specs.Fraction.{Fraction, whole}
use Rattle.exact_num.specs.Steps.{fold_steps, plus_product}
use Rattle.frac.specs.Range.{limit as largest}
use Rattle.form.specs.declared.legs.Leg.{Leg}
use Rattle.form.specs.declared.limits.TheConstants.{MAX_WEIGHT}
use Rattle.form.specs.declared.orders.Order.{Order}
use Rattle.form.specs.Limits.{IsListed, IsOrderWithin}
use Rattle.form.specs.Payoff.{BundleLeg, bundle_of, leg_of, legs_in, option_of}
use Rattle.form.specs.Steps.{add_entry, add_leg, bundle_payoff_of, or_zero, payoff_of}
use Rattle.form.specs.Vector.{over_legs, positive_part, scale_of}
use Rattle.form.proofs.SameBundle.{length-bundle_legs}
use Rattle.master_program.specs.Master.{order_payoff, payoff_at_zero, strike_payoff}
use Rattle.run_values.specs.Values.{IsSmall, IsSmallState, IsValue}
use Rattle.run_values.proofs.Numbers.{Has, after_has, fold_has, plus_product_has, whole_value, zero_value}

-- ---- small numbers
abbrev pub IsEntry : ℤ → Type 0
IsEntry a = unsigned_abs a ≤ 1000000000

-- what is above 0 of a small number is small, and so is a quotient
pub part_small : (most : ℕ) (x : ℤ) → unsigned_abs x ≤ most → positive_part x ≤ most
part_small most (pos n) low = low
part_small most (negsuc n) low = omega arith

pub quotient_small : (n d : ℕ) → IsSmall n → IsSmall (n / d)
quotient_small n d low = omega (arith, low, div-le_self n d)

-- a leg within the limits of orders
pub record IsLegSmall (leg : BundleLeg) : Type 0 where
  pub count : unsigned_abs leg.count ≤ 1000
  pub entries : All IsEntry leg.option

entries_small : (v : List ℤ) → IsListed v → All IsEntry v
entries_small [] listed = All-nil IsEntry
entries_small (a ∷ v) listed =
    let first = listed.strike in
    All-cons IsEntry a v (omega (arith, first)) (All-weaker (λ (w : ℤ). unsigned_abs w ≤ MAX_WEIGHT) IsEntry (λ w low. omega (arith, low)) v listed.weights)

-- an order whose options may be listed
abbrev pub HasListed : Order → Type 0
HasListed order = All (λ (leg : Leg). IsListed (option_of leg.form)) (legs_in order.bundle)

pub all_listed : (orders : List Order) → All IsOrderWithin orders → All HasListed orders
all_listed orders within = All-weaker IsOrderWithin HasListed (λ order one. one.options) orders within

pub legs_small : (order : Order) → HasListed order → All IsLegSmall (bundle_of order)
unfolding bundle_of
legs_small order listed =
    let P : Leg → Type 0 = λ leg. IsLegSmall (leg_of leg) in
    let legs = legs_in order.bundle in
    let counts = order.bundle.counted in
    All-map IsLegSmall leg_of legs (λ k d inside. record { count = (counts k d inside).1; entries = entries_small _ (listed k d inside) })

-- ---- payoffs
abbrev IsTerm : ℤ × ℕ → Type 0
IsTerm t = IsEntry t.0 × (t.1 ≤ largest)

terms_small : (v : List ℤ) (z : List ℕ) → All IsEntry v → IsSmallState z → All IsTerm (zip v z)
terms_small [] z entries small = All-nil IsTerm
terms_small (a ∷ v) [] entries small = All-nil IsTerm
terms_small (a ∷ v) (x ∷ z) entries small =
    All-cons IsTerm (a, x) (zip v z) (All-head IsEntry a v entries, All-head IsSmall x z small) (terms_small v z (All-tail IsEntry a v entries) (All-tail IsSmall x z small))

or_zero_value : (x : Fraction) → IsValue x → IsValue (or_zero x)
or_zero_value x is = whole_value (pos (positive_part x.numerator)) (part_small largest x.numerator is.small.above)

pub payoff_has : (v : List ℤ) (z : List ℕ) → All IsEntry v → IsSmallState z → Has IsValue (payoff_of largest v z)
unfolding payoff_of
payoff_has v z entries small =
    after_has IsValue IsValue (fold_steps (add_entry largest) (whole (pos 0)) (zip v z)) (λ sum. Ok (or_zero sum))
    (fold_has IsValue IsTerm (add_entry largest)
    (λ total t is term. plus_product_has total (whole t.0) (whole (pos t.1)) is (whole_value t.0 (omega (arith, term.0))) (whole_value (pos t.1) term.1))
    (whole (pos 0)) (zip v z) zero_value (terms_small v z entries small))
    or_zero_value

pub bundle_has : (legs : List BundleLeg) (z : List ℕ) → All IsLegSmall legs → IsSmallState z → Has IsValue (bundle_payoff_of largest legs z)
unfolding bundle_payoff_of
bundle_has legs z small state =
    fold_has IsValue IsLegSmall (add_leg largest z)
    (λ total leg is one.
    after_has IsValue IsValue (payoff_of largest leg.option z) (λ h. plus_product largest total (whole leg.count) h) (payoff_has leg.option z one.entries state)
    (λ h pays. plus_product_has total (whole leg.count) h is (whole_value leg.count (let low = one.count in omega (arith, low))) pays))
    (whole (pos 0)) legs zero_value small

pub order_has : (order : Order) (z : List ℕ) → HasListed order → IsSmallState z → Has IsValue (order_payoff largest order z)
unfolding order_payoff
order_has order z listed small = bundle_has (bundle_of order) z (legs_small order listed) small

pub scale_small : (z : List ℕ) → IsSmallState z → scale_of z ≤ largest
scale_small [] small = omega arith
scale_small (t ∷ s) small = All-head IsSmall t s small

-- ---- where all prices are 0
strike_small : (v : List ℤ) → All IsEntry v → strike_payoff v ≤ 1000000000
strike_small [] entries = omega arith
strike_small (a ∷ v) entries = part_small 1000000000 a (All-head IsEntry a v entries)

legs_at_zero : (legs : List BundleLeg) → All IsLegSmall legs → unsigned_abs (over_legs strike_payoff legs) ≤ 1000000000000 * length legs
legs_at_zero [] small = omega arith
legs_at_zero (leg ∷ legs) small =
    let one = All-head IsLegSmall leg legs small in
    let first = mul-le (unsigned_abs leg.count) (strike_payoff leg.option) 1000 1000000000 one.count (strike_small leg.option one.entries) in
    let size = unsigned_abs-mul leg.count (pos (strike_payoff leg.option)) in
    omega (arith, ints, first, size, legs_at_zero legs (All-tail IsLegSmall leg legs small))

pub at_zero_small : (order : Order) → HasListed order → unsigned_abs (payoff_at_zero order) ≤ largest
unfolding payoff_at_zero bundle_of
at_zero_small order listed = omega (arith, legs_at_zero (bundle_of order) (legs_small order listed), length-bundle_legs order.bundle, order.bundle.size_in_range.1)
