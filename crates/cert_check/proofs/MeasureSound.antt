-- The sums over a measure are the model's, over the product of the weights' denominators.
use Rattle.std.proofs.Common.{◌≡◌, ℕ, ◌*◌, Bool, true, false, List, [], ◌∷◌, map, arith, ℤ, pos, ◌+ℤ◌, ◌-ℤ◌, ◌*ℤ◌, ◌≤◌, All, Result, Ok, Err, IfOk, refl, ap, sym, subst}
use Rattle.std.proofs.lemmas.Int.{ints}
use Rattle.std.proofs.lemmas.List.Elements.{All-nil, All-cons}
use Rattle.std.proofs.lemmas.List.Sums.{AllPass-from_list_all, list_all-from_AllPass}
use Rattle.arithmetic.specs.Sums.{total}
use Rattle.arithmetic.proofs.Products.{products}
use Rattle.arithmetic.proofs.Parts.{part_above, part_below}
use Rattle.arithmetic.proofs.Sums.{total-map, total_weighs, All-of_map}
use Rattle.arithmetic.proofs.Tests.{int_le-true, int_le-yes}
use Rattle.exact_num.specs.declared.misfit.Wide.{Wide}
use Rattle.exact_num.specs.Fraction.{Fraction, IsLowest, whole}
use Rattle.exact_num.specs.CommonDenominator.{common_denominator, amount_over, IsRatio}
use Rattle.exact_num.specs.Fits.{after, meaning}
use Rattle.exact_num.specs.Steps.{fold_steps, plus_product}
use Rattle.exact_num.specs.Tests.{is_same, is_above_zero}
use Rattle.exact_num.proofs.After.{after_value}
use Rattle.exact_num.proofs.Values.{whole_is_lowest}
use Rattle.exact_num.proofs.Order.{same_parts}
use Rattle.exact_num.proofs.Fractions.{common_positive, same_from}
use Rattle.exact_num.proofs.LowestRatios.{IsLowestRatio, Adds, amounts_stand, fold_stands, plus_stands, times_stands, difference_stands, whole_stands, above, not_above}
use Rattle.exact_num.proofs.Tested.{ratio_is_same, lowest_are_defined}
use Rattle.frac.specs.declared.frac128.Frac128.{Frac128}
use Rattle.frac.specs.Value.{fraction_of}
use Rattle.form.specs.declared.orders.Side.{Side}
use Rattle.form.specs.declared.orders.Side.TheVariants.{Buy, Sell}
use Rattle.form.specs.declared.orders.Order.{Order}
use Rattle.form.specs.Payoff.{BundleLeg, bundle_of, bundle_payoff, positive_part}
use Rattle.form.proofs.LegSteps.{bundle_payoffs_are_exact}
use Rattle.form.specs.Steps.{bundle_payoff_of}
use Rattle.clearing_model.specs.Measure.{WeightedState, mass_of as model_mass, price_of as model_price, gain, gain_of, bound_of as model_bound}
use Rattle.clearing_model.specs.Certificate.{Point, fraction_weight, points_over, IsWeight, HasUnitMass}
use Rattle.cert_check.specs.declared.measures.Weighted.{Weighted}
use Rattle.cert_check.specs.Points.{point_of}
use Rattle.cert_check.specs.MeasureSums.{is_weight, are_weights, add_mass, mass_of, has_unit_mass, add_price, price_of, gain_at, plus_gain, add_gain, bound_of}
use Rattle.cert_check.specs.MeasureLaws.{MassesAreExact, PricesAreExact, BoundsAreExact}

-- what holds of the value of a definition holds of what a call answers for it
pub of_value : (P : Fraction → Type 0) (step : Result Fraction Wide) (r : Result Frac128 Wide) → meaning fraction_of r ≡ step → ((f : Fraction) → step ≡ Ok f → P f) → IfOk r (λ f. P (fraction_of f))
of_value P step (Ok f) m h = h (fraction_of f) (sym m)
of_value P step (Err w) m h = tt

-- weights of the code stand in lowest terms
pub weights_lowest : (points : List Weighted) → All IsLowest (map fraction_weight (map point_of points))
weights_lowest [] = All-nil IsLowest
weights_lowest (p ∷ ps) = All-cons IsLowest (fraction_of p.weight) (map fraction_weight (map point_of ps)) p.weight.lowest (weights_lowest ps)

-- a common denominator of numbers in lowest terms is above 0
denominator_is_positive : (points : List Point) → All IsLowest (map fraction_weight points) → 1 ≤ common_denominator (map fraction_weight points)
denominator_is_positive points low = common_positive (map fraction_weight points) (lowest_are_defined (map fraction_weight points) low)

-- each weight stands over the common denominator
abbrev HasItsAmount : ℕ → Point → Type 0
HasItsAmount W point = IsLowestRatio point.1 (amount_over W point.1) W

weights_stand : (points : List Point) → All IsLowest (map fraction_weight points) → All (HasItsAmount (common_denominator (map fraction_weight points))) points
weights_stand points low =
    let W = common_denominator (map fraction_weight points) in
    All-of_map (λ f. IsLowestRatio f (amount_over W f) W) fraction_weight points (amounts_stand (map fraction_weight points) low)

-- a sum over points adds up what each step adds
sum_over : (step : Fraction → Point → Result Fraction Wide) (v : WeightedState → ℤ) (points : List Point) (s : Fraction)
    → (let W = common_denominator (map fraction_weight points) in
    All IsLowest (map fraction_weight points) → ((point : Point) → HasItsAmount W point → Adds step (λ (p : Point). v (p.0, amount_over W p.1)) W point)
    → fold_steps step (whole (pos 0)) points ≡ Ok s → IsLowestRatio s (total v (points_over W points)) W)
sum_over step v points s low adds h =
    let W = common_denominator (map fraction_weight points) in
    rw (total-map v (λ (p : Point). (p.0, amount_over W p.1)) points)
    (fold_stands step (λ (p : Point). v (p.0, amount_over W p.1)) W points s (λ k d lt. adds _ (weights_stand points low k d lt)) h)

-- ---- the mass
mass_stands : (limit : ℕ) (points : List Point) (s : Fraction) → All IsLowest (map fraction_weight points) → mass_of limit points ≡ Ok s
    → (let W = common_denominator (map fraction_weight points) in IsLowestRatio s (model_mass (points_over W points)) W)
mass_stands limit points s low h =
    sum_over (add_mass limit) _ points s low (λ point st start t x here step. plus_stands limit start point.1 t _ x _ _ here st step) h

weights_are : (points : List Point) → All IsLowest (map fraction_weight points) → are_weights points ≡ true → All IsWeight points
weights_are points low h = λ k d lt.
    ((All-of_map IsLowest fraction_weight points low k d lt).positive, int_le-yes (pos 0) _ (AllPass-from_list_all is_weight points h k d lt))

weights_pass : (points : List Point) → All IsWeight points → are_weights points ≡ true
weights_pass points are = list_all-from_AllPass is_weight points (λ k d lt. int_le-true (pos 0) _ (are k d lt).1)

-- the sum of the test, which stands for the mass
record MassSum (points : List Point) (is : Bool) : Type 0 where
  sum : Fraction
  test : is_same sum (whole (pos 1)) ≡ is
  stands : (let W = common_denominator (map fraction_weight points) in IsLowestRatio sum (model_mass (points_over W points)) W)

mass_sum : (limit : ℕ) (points : List Point) (is : Bool) → All IsLowest (map fraction_weight points) → are_weights points ≡ true → has_unit_mass limit points ≡ Ok is → MassSum points is
mass_sum limit points is low weights h =
    let sum = after_value (mass_of limit points) (λ sum. Ok (is_same sum (whole (pos 1)))) is (rw weights at h) in
    record { sum = sum.value; test = cc (sum.rest); stands = mass_stands limit points sum.value low sum.first }

masses_pass : (limit : ℕ) (points : List Point) → All IsLowest (map fraction_weight points) → has_unit_mass limit points ≡ Ok true → HasUnitMass points
masses_pass limit points low h = by_test (are_weights points) refl
  where
    by_test : (t : Bool) → are_weights points ≡ t → HasUnitMass points
    by_test false e =
        let no : has_unit_mass limit points ≡ Ok false = rw e refl in
        cc
    by_test true e =
        let W = common_denominator (map fraction_weight points) in
        let s = mass_sum limit points true low e h in
        let one : s.sum ≡ whole (pos 1) = same_parts s.sum (whole (pos 1)) s.stands.lowest (whole_is_lowest (pos 1)) s.test in
        let ratio = subst (λ f. IsRatio f (model_mass (points_over W points)) W) one s.stands.ratio in
        record { weights = weights_are points low e; mass = omega (arith, ints, ratio) }

masses_fail : (limit : ℕ) (points : List Point) → All IsLowest (map fraction_weight points) → has_unit_mass limit points ≡ Ok false → ¬ (HasUnitMass points)
masses_fail limit points low h unit =
    let W = common_denominator (map fraction_weight points) in
    let s = mass_sum limit points false low (weights_pass points unit.weights) h in
    let ratio : IsRatio s.sum (pos W) W = subst (λ x. IsRatio s.sum x W) unit.mass s.stands.ratio in
    let same = ratio_is_same s.sum (whole (pos 1)) (pos W) W (denominator_is_positive points low) ratio (omega (arith, ints)) in
    cc (s.test, same)

pub masses_are_exact : MassesAreExact
masses_are_exact limit points low = (masses_pass limit points low, masses_fail limit points low)

-- ---- prices
price_stands : (limit : ℕ) (bundle : List BundleLeg) (points : List Point) (price : Fraction) → All IsLowest (map fraction_weight points) → price_of limit bundle points ≡ Ok price
    → (let W = common_denominator (map fraction_weight points) in IsLowestRatio price (model_price bundle (points_over W points)) W)
price_stands limit bundle points price low h =
    sum_over (add_price limit bundle) _ points price low (λ point st start s x here step.
    let pays = after_value (bundle_payoff_of limit bundle point.0) (λ p. plus_product limit start point.1 p) s step in
    let is = bundle_payoffs_are_exact limit bundle point.0 pays.value pays.first in
    plus_stands limit start point.1 s (bundle_payoff bundle point.0) x _ _ here st (rw (← is) pays.rest)) h

pub prices_are_exact : PricesAreExact
prices_are_exact limit bundle points price low h = (price_stands limit bundle points price low h).ratio

-- ---- bounds
-- how far the limit is from the price on the order's side
abbrev pub distance : Side → ℤ → ℤ → ℤ
distance Buy bid price = bid -ℤ price
distance Sell ask price = price -ℤ ask

gain_stands : (limit W : ℕ) (side : Side) (bid price g : Fraction) (x y : ℤ) → IsLowestRatio bid x W → IsLowestRatio price y W → gain_at limit side bid price ≡ Ok g → IsLowestRatio g (distance side x y) W
gain_stands limit W Buy bid price g x y sb sp h = difference_stands limit bid price g x y W sb sp h
gain_stands limit W Sell bid price g x y sb sp h = difference_stands limit price bid g y x W sp sb h

gain_is_part : (side : Side) (x y : ℤ) → gain side x y ≡ positive_part (distance side x y)
gain_is_part Buy x y = refl
gain_is_part Sell x y = refl

quantity_gains : (limit W q : ℕ) (start g s : Fraction) (x d : ℤ) → IsLowestRatio start x W → IsLowestRatio g d W → plus_gain limit start q g ≡ Ok s → IsLowestRatio s (x +ℤ pos (q * positive_part d)) W
quantity_gains limit W q start g s x d st sg h = by_test (is_above_zero g) refl
  where
    by_test : (t : Bool) → is_above_zero g ≡ t → IsLowestRatio s (x +ℤ pos (q * positive_part d)) W
    by_test true e =
        let part = part_above d (above g d W sg e) in
        let same : x +ℤ (d *ℤ pos q) ≡ x +ℤ pos (q * positive_part d) = omega (arith, ints, products, ap (λ (w : ℤ). w *ℤ pos q) part) in
        subst (λ w. IsLowestRatio s w W) same (times_stands limit start g s (pos q) x d W st sg (rw e at h))
    by_test false e =
        let none : Ok start ≡ Ok s = rw e at h in
        let stays : start ≡ s = cc in
        let same : x ≡ x +ℤ pos (q * positive_part d) = rw (part_below d (not_above g d W sg e)) (omega (arith, ints)) in
        subst (λ t. IsLowestRatio t (x +ℤ pos (q * positive_part d)) W) stays (subst (λ w. IsLowestRatio start w W) same st)

order_gains : (limit : ℕ) (points : List Point) (o : Order) → All IsLowest (map fraction_weight points)
    → (let W = common_denominator (map fraction_weight points) in Adds (add_gain limit points) (λ o. pos (o.quantity * gain_of (points_over W points) W o)) W o)
order_gains limit points o low start s x st h =
    let W = common_denominator (map fraction_weight points) in
    let price = after_value (price_of limit (bundle_of o) points) (λ price. after (gain_at limit o.side (whole (pos o.price)) price) (plus_gain limit start o.quantity)) s h in
    let gained = after_value (gain_at limit o.side (whole (pos o.price)) price.value) (plus_gain limit start o.quantity) s price.rest in
    let p = model_price (bundle_of o) (points_over W points) in
    let sp : IsLowestRatio price.value p W = price_stands limit (bundle_of o) points price.value low price.first in
    let sg = gain_stands limit W o.side (whole (pos o.price)) price.value gained.value (pos o.price *ℤ pos W) p (whole_stands (pos o.price) W) sp gained.first in
    rw (gain_is_part o.side (pos (o.price * W)) p) (quantity_gains limit W o.quantity start gained.value s x (distance o.side (pos (o.price * W)) p) st sg gained.rest)

bound_stands : (limit : ℕ) (orders : List Order) (points : List Point) (bound : Fraction) → All IsLowest (map fraction_weight points) → bound_of limit orders points ≡ Ok bound
    → (let W = common_denominator (map fraction_weight points) in IsLowestRatio bound (pos (model_bound orders (points_over W points) W)) W)
bound_stands limit orders points bound low h =
    let W = common_denominator (map fraction_weight points) in
    rw (← total_weighs (λ (o : Order). o.quantity) (gain_of (points_over W points) W) orders)
    (fold_stands (add_gain limit points) (λ o. pos (o.quantity * gain_of (points_over W points) W o)) W orders bound (λ k d lt. order_gains limit points _ low) h)

pub bounds_are_exact : BoundsAreExact
bounds_are_exact limit orders points bound low h =
    let W = common_denominator (map fraction_weight points) in
    let st = bound_stands limit orders points bound low h in
    (st.ratio, λ S proves. same_from S bound (pos (model_bound orders (points_over W points) W)) W (denominator_is_positive points low) proves st.ratio)

-- a bound stands in lowest terms
pub bound_is_lowest : (limit : ℕ) (orders : List Order) (points : List Point) (bound : Fraction) → All IsLowest (map fraction_weight points) → bound_of limit orders points ≡ Ok bound → IsLowest bound
bound_is_lowest limit orders points bound low h = (bound_stands limit orders points bound low h).lowest
