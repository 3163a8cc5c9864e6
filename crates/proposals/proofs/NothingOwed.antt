-- Fills that are 0 owe nothing, at any state, and a bare cover shows it.
use Rattle.std.proofs.Common.{◌≡◌, ℕ, zero, suc, ◌+◌, ◌/◌, ◌≤◌, Bool, true, false, if◌then◌else◌, not, List, [], ◌∷◌, length, get_or, zip, replicate, ℤ, pos, unsigned_abs, Some, None, Result, Ok, inl, refl, ap, sym, ◌∙◌, arith}
use Rattle.std.specs.List.{All, cons_option, filter_map}
use Rattle.std.proofs.Math.Nat.{div-le_self}
use Rattle.std.proofs.lemmas.List.Elements.{All-append, All-head, All-map, All-nil, All-tail}
use Rattle.arithmetic.specs.Gcd.{gcd}
use Rattle.exact_num.specs.declared.misfit.Wide.{Wide}
use Rattle.exact_num.specs.Fits.{after}
use Rattle.exact_num.specs.Fraction.{Fraction, whole}
use Rattle.exact_num.specs.Steps.{all_of, fold_steps, less_product}
use Rattle.exact_num.specs.Tests.{is_above_zero}
use Rattle.exact_num.proofs.Units.{sub-zero, zero-mul}
use Rattle.exact_num.proofs.Values.{whole_is_lowest}
use Rattle.frac.specs.Range.{limit}
use Rattle.form.specs.declared.limits.TheConstants.{MAX_WEIGHT}
use Rattle.form.specs.declared.orders.Order.{Order}
use Rattle.form.specs.declared.orders.Side.{Side}
use Rattle.form.specs.declared.orders.Side.TheVariants.{Buy, Sell}
use Rattle.form.specs.Limits.{IsListed, IsOrderWithin}
use Rattle.form.specs.Payoff.{BundleLeg, bundle_legs, bundle_of, bundle_payoff, leg_of, legs_in, positive_part, scale_of}
use Rattle.form.specs.Steps.{add_for_side}
use Rattle.form.specs.Vector.{strike_entry}
use Rattle.form.proofs.NothingAdded.{nothing_added}
use Rattle.clearing_model.specs.Legs.{Exposure, Long, Short}
use Rattle.clearing_model.specs.Line.{weight_entry}
use Rattle.clearing_model.specs.Tree.{Unsigned}
use Rattle.clearing_model.specs.Written.{LeafNode}
use Rattle.line_cover.specs.Line.{bends, breakpoint_of_leg, holds_at, legs_of_orders, line_holds, lowest_state}
use Rattle.line_cover.specs.Net.{add_payoff, net_of}
use Rattle.sign_tree.specs.Legs.{FractionLeg, fraction_leg, fraction_legs, leg_fill, legs_filled}
use Rattle.sign_tree.specs.Walk.{add_leg, add_term, closes_of, entries_close, entry_sum, less_liability, signed_legs}
use Rattle.proposals.proofs.Payoffs.{IsSmallAt, pays, small_on_line}

abbrev pub nothing : Fraction
nothing = whole (pos 0)

-- no fill for so many orders
abbrev pub unfilled : List Order → List (Order × Fraction)
unfilled orders = zip orders (replicate (length orders) nothing)

-- a product with 0 changes no total
pub adds_nothing : (side : Side) (v : ℤ) → add_for_side limit nothing side nothing (whole v) ≡ Ok nothing
adds_nothing side v =
    sym (nothing_added limit nothing side nothing (whole v) (omega arith) (omega arith) (omega arith) (whole_is_lowest (pos 0)) (whole_is_lowest v) (inl refl))

-- ---- the line
net_is_nothing : (z : List ℕ) (orders : List Order) → All IsOrderWithin orders → IsSmallAt z → net_of limit (unfilled orders) z ≡ Ok nothing
net_is_nothing z [] within small = refl
net_is_nothing z (o ∷ orders) within small =
    let pays_here = pays o z (All-head IsOrderWithin o orders within) small in
    let step : add_payoff limit z nothing (o, nothing) ≡ Ok nothing =
    ap (λ r. after r (λ h. add_for_side limit nothing o.side nothing h)) pays_here.fits ∙ adds_nothing o.side (bundle_payoff (bundle_of o) z) in
    ap (λ r. after r (λ next. fold_steps (add_payoff limit z) next (unfilled orders))) step
    ∙ net_is_nothing z orders (All-tail IsOrderWithin o orders within) small

holds : (z : List ℕ) (orders : List Order) → All IsOrderWithin orders → IsSmallAt z → holds_at limit (unfilled orders) nothing z ≡ Ok true
holds z orders within small =
    let net = ap (λ r. after r (λ net. less_product limit net nothing (whole (pos (scale_of z))))) (net_is_nothing z orders within small) in
    ap (λ r. after r (λ e. Ok (not (is_above_zero e)))) (net ∙ adds_nothing Sell (pos (scale_of z)))

-- the options of the legs are listed
abbrev IsListedLeg : BundleLeg → Type 0
IsListedLeg leg = IsListed leg.option

legs_listed : (orders : List Order) → All IsOrderWithin orders → All IsListedLeg (legs_of_orders orders)
unfolding bundle_of
legs_listed [] within = All-nil IsListedLeg
legs_listed (o ∷ orders) within =
    let first = All-head IsOrderWithin o orders within in
    All-append IsListedLeg (bundle_legs o.bundle) (legs_of_orders orders) (All-map IsListedLeg leg_of (legs_in o.bundle) first.options)
    (legs_listed orders (All-tail IsOrderWithin o orders within))

weight_small : (v : List ℤ) → IsListed v → unsigned_abs (weight_entry v) ≤ MAX_WEIGHT
weight_small [] listed = omega arith
weight_small (a ∷ []) listed = omega arith
weight_small (a ∷ w ∷ v) listed = All-head (λ w. unsigned_abs w ≤ MAX_WEIGHT) w v listed.weights

small_break : (v : List ℤ) → IsListed v → IsSmallAt (lowest_state (unsigned_abs (weight_entry v)) (unsigned_abs (strike_entry v)))
small_break v listed =
    let t = unsigned_abs (weight_entry v) in
    let s = unsigned_abs (strike_entry v) in
    small_on_line (t / gcd t s) (s / gcd t s)
    (omega (arith, weight_small v listed, div-le_self t (gcd t s))) (omega (arith, listed.strike, div-le_self s (gcd t s)))

-- the states where these legs bend hold, and so do those where all others do
breaks_hold : (orders : List Order) → All IsOrderWithin orders → (legs : List BundleLeg) → All IsListedLeg legs
    → all_of (holds_at limit (unfilled orders) nothing) (filter_map breakpoint_of_leg legs) ≡ Ok true
breaks_hold orders within [] listed = refl
breaks_hold orders within (leg ∷ legs) listed =
    let v = leg.option in
    let rest = breaks_hold orders within legs (All-tail IsListedLeg leg legs listed) in
    let here = holds _ orders within (small_break v (All-head IsListedLeg leg legs listed)) in
    by_test (bends (strike_entry v) (weight_entry v)) here rest
  where
    by_test : (b : Bool) → holds_at limit (unfilled orders) nothing (lowest_state (unsigned_abs (weight_entry leg.option)) (unsigned_abs (strike_entry leg.option))) ≡ Ok true
        → all_of (holds_at limit (unfilled orders) nothing) (filter_map breakpoint_of_leg legs) ≡ Ok true
        → all_of (holds_at limit (unfilled orders) nothing)
        (cons_option (if b then Some (lowest_state (unsigned_abs (weight_entry leg.option)) (unsigned_abs (strike_entry leg.option))) else None) (filter_map breakpoint_of_leg legs)) ≡ Ok true
    by_test true here rest = rw (here, rest) refl
    by_test false here rest = rest

pub line_is_nothing : (orders : List Order) → All IsOrderWithin orders → line_holds limit (unfilled orders) orders nothing ≡ Ok true
line_is_nothing orders within =
    let first = holds (1 ∷ 0 ∷ []) orders within (small_on_line 1 0 (omega arith) (omega arith)) in
    let last = holds (0 ∷ 1 ∷ []) orders within (small_on_line 0 1 (omega arith) (omega arith)) in
    rw (first, breaks_hold orders within (legs_of_orders orders) (legs_listed orders within), last) refl

-- ---- one leaf
abbrev IsUnfilled : FractionLeg → Type 0
IsUnfilled leg = leg.fill ≡ nothing

fill_is_nothing : (leg : FractionLeg) → IsUnfilled leg → leg_fill limit leg ≡ Ok nothing
fill_is_nothing leg is = rw is (zero-mul limit (whole (pos leg.size)) (whole_is_lowest (pos leg.size)) (omega arith))

term_is_nothing : (exposure : Exposure) (fill : Result Fraction Wide) (x : ℤ) → fill ≡ Ok nothing → add_term limit nothing exposure Unsigned fill nothing x ≡ Ok nothing
term_is_nothing Long fill x is = rw is (adds_nothing Buy (pos (positive_part x)))
term_is_nothing Short fill x is = adds_nothing Sell x

sum_is_nothing : (i place : ℕ) (legs : List FractionLeg) → All IsUnfilled legs → fold_steps (add_leg limit i) nothing (signed_legs place legs (replicate (length legs) Unsigned) []) ≡ Ok nothing
sum_is_nothing i place [] are = refl
sum_is_nothing i place (leg ∷ legs) are =
    let fill = fill_is_nothing leg (All-head IsUnfilled leg legs are) in
    rw (term_is_nothing leg.exposure (leg_fill limit leg) (get_or leg.option i (pos 0)) fill) (sum_is_nothing i (place + 1) legs (All-tail IsUnfilled leg legs are))

less_nothing : (i : ℕ) → less_liability limit nothing i nothing ≡ Ok nothing
less_nothing zero = sub-zero limit nothing (omega arith) (omega arith)
less_nothing (suc i) = refl

entries_are_nothing : (legs : List FractionLeg) → All IsUnfilled legs → (i left : ℕ) → entries_close limit legs nothing (replicate (length legs) Unsigned) [] i left ≡ Ok true
entries_are_nothing legs are i zero = refl
entries_are_nothing legs are i (suc left) =
    let sum : entry_sum limit legs nothing (replicate (length legs) Unsigned) [] i ≡ Ok nothing =
    ap (λ r. after r (less_liability limit nothing i)) (sum_is_nothing i 1 legs are) ∙ less_nothing i in
    rw sum (entries_are_nothing legs are (i + 1) left)

legs_are_unfilled : (orders : List Order) → All IsUnfilled (fraction_legs orders (replicate (length orders) nothing))
legs_are_unfilled [] = All-nil IsUnfilled
legs_are_unfilled (o ∷ orders) =
    All-append IsUnfilled (legs_filled o.side nothing (bundle_of o)) (fraction_legs orders (replicate (length orders) nothing))
    (All-map IsUnfilled (fraction_leg o.side nothing) (bundle_of o) (λ k d lt. refl)) (legs_are_unfilled orders)

pub leaf_is_nothing : (n : ℕ) (orders : List Order) → closes_of limit n (fraction_legs orders (replicate (length orders) nothing)) nothing (LeafNode 0 ∷ []) [] ≡ Ok true
leaf_is_nothing n orders =
    let legs = fraction_legs orders (replicate (length orders) nothing) in
    rw (entries_are_nothing legs (legs_are_unfilled orders) 0 (n + 1)) refl
