-- The four tests of a verdict, each step with a limit: surplus, cover, measure and bound.
use Rattle.std.specs.Prelude.{ℕ, ◌≡◌, ◌≤◌, List, map, zip, ◌&&◌, Bool, pos, Result, Ok, int_le}
use Rattle.exact_num.specs.declared.misfit.Wide.{Wide as Misfit}
use Rattle.exact_num.specs.Fraction.{Fraction, whole}
use Rattle.exact_num.specs.Fits.{sub_of, after}
use Rattle.exact_num.specs.Steps.{fold_steps}
use Rattle.exact_num.specs.Tests.{is_same}
use Rattle.frac.specs.declared.frac128.Frac128.{Frac128}
use Rattle.frac.specs.Value.{fraction_of}
use Rattle.form.specs.declared.orders.Order.{Order}
use Rattle.form.specs.declared.orders.Batch.{Batch}
use Rattle.form.specs.Steps.{add_for_side}
use Rattle.clearing_model.specs.Certificate.{Point}
use Rattle.line_cover.specs.Line.{line_holds}
use Rattle.sign_tree.specs.Read.{node_of, placed_of}
use Rattle.sign_tree.specs.Legs.{fraction_legs, leg_count}
use Rattle.sign_tree.specs.Walk.{closes_of}
use Rattle.sign_tree.specs.declared.closing.TheConstants.{MAX_SIGNS}
use Rattle.cert_check.specs.MeasureSums.{has_unit_mass, bound_of}
use Rattle.cert_check.specs.declared.outcome.Claim.{Claim}
use Rattle.cert_check.specs.declared.outcome.Cover.{Cover}
use Rattle.cert_check.specs.declared.outcome.Cover.TheVariants.{Line, Tree}

-- the orders, each with its fill
abbrev pub order_fills : List Order → List Frac128 → List (Order × Fraction)
order_fills orders fills = zip orders (map fraction_of fills)

-- the total and the premium of a fill
abbrev pub add_premium : ℕ → Fraction → Order × Fraction → Result Fraction Misfit
add_premium limit total fill = add_for_side limit total fill.0.side fill.1 (whole (pos fill.0.price))

abbrev pub premium_of : ℕ → List (Order × Fraction) → Result Fraction Misfit
premium_of limit fills = fold_steps (add_premium limit) (whole (pos 0)) fills

-- whether a number is the surplus, and that is not below 0
abbrev pub is_claimed : Fraction → Fraction → Bool
is_claimed S left = is_same left S && int_le (pos 0) S.numerator

-- whether the premium less the liability is the surplus, and that is not below 0
abbrev pub surplus_holds : ℕ → List (Order × Fraction) → Fraction → Fraction → Result Bool Misfit
surplus_holds limit fills L S =
    after (premium_of limit fills) (λ premium. after (sub_of limit premium L) (λ left. Ok (is_claimed S left)))

-- whether the claim is what the fills leave
abbrev pub claim_holds : ℕ → List Order → List Frac128 → Claim → Result Bool Misfit
claim_holds limit orders fills claim =
    surplus_holds limit (order_fills orders fills) (fraction_of claim.liability) (fraction_of claim.surplus)

-- whether the line or the tree shows that the liability is enough
abbrev pub cover_holds : ℕ → ℕ → List Order → List Fraction → Fraction → Cover → Result Bool Misfit
cover_holds limit n orders fills L Line = line_holds limit (zip orders fills) orders L
cover_holds limit n orders fills L (Tree tree) =
    closes_of limit n (fraction_legs orders fills) L (map node_of tree.nodes) (map placed_of tree.multipliers)

-- the same of a batch
abbrev pub batch_covered : ℕ → Batch → List Frac128 → Frac128 → Cover → Result Bool Misfit
batch_covered limit batch fills L cover =
    cover_holds limit batch.underlyings batch.orders (map fraction_of fills) (fraction_of L) cover

-- so many signs, one for each leg of the orders, and no more than a walk takes
abbrev pub AreSigns : List Order → ℕ → Type 0
AreSigns orders signs = (signs ≡ leg_count orders) × (leg_count orders ≤ MAX_SIGNS)

-- a tree takes a sign for each leg
abbrev pub HasSigns : Cover → List Order → ℕ → Type 0
HasSigns Line orders signs = Unit {0}
HasSigns (Tree tree) orders signs = AreSigns orders signs

-- whether no weight is below 0, and the sum of weight times t is 1
abbrev pub measure_holds : ℕ → List Point → Result Bool Misfit
measure_holds limit points = has_unit_mass limit points

-- whether the bound of the measure is the surplus
abbrev pub bound_holds : ℕ → List Order → List Point → Fraction → Result Bool Misfit
bound_holds limit orders points S = after (bound_of limit orders points) (λ bound. Ok (is_same bound S))
