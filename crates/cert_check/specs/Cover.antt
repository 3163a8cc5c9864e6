-- Whether the liability is enough, as the mark shows, each step with a limit.
use Rattle.std.specs.Prelude.{ℕ, List, map, zip, Bool, false, if◌then◌else◌, pos, Result, Ok}
use Rattle.exact_num.specs.declared.misfit.Wide.{Wide as Misfit}
use Rattle.exact_num.specs.Fraction.{Fraction, whole}
use Rattle.exact_num.specs.Fits.{add_of, sub_of, after}
use Rattle.exact_num.specs.Steps.{fold_steps, all_of}
use Rattle.exact_num.specs.Tests.{is_same}
use Rattle.frac.specs.declared.frac128.Frac128.{Frac128}
use Rattle.frac.specs.Value.{fraction_of}
use Rattle.form.specs.declared.orders.Side.{Side}
use Rattle.form.specs.declared.orders.Side.TheVariants.{Buy, Sell}
use Rattle.form.specs.declared.orders.Order.{Order}
use Rattle.form.specs.declared.orders.Batch.{Batch}
use Rattle.form.specs.Payoff.{BundleLeg, bundle_of}
use Rattle.form.specs.Vector.{is_same_bundle}
use Rattle.cert_check.specs.declared.outcome.Mark.{Mark}
use Rattle.cert_check.specs.declared.outcome.Mark.TheVariants.{Optimal, Wide, Budget}
use Rattle.cert_check.specs.Tests.{cover_holds, order_fills}

-- the total and a fill, which a sell subtracts
abbrev pub add_fill : ℕ → Fraction → Side → Fraction → Result Fraction Misfit
add_fill limit total Buy f = add_of limit total f
add_fill limit total Sell f = sub_of limit total f

-- the fills of the bundle alone
abbrev pub add_same : ℕ → List BundleLeg → Fraction → Order × Fraction → Result Fraction Misfit
add_same limit bundle total fill =
    if is_same_bundle (bundle_of fill.0) bundle then add_fill limit total fill.0.side fill.1 else Ok total

-- what is bought of the bundle less what is sold of it
abbrev pub balance_of : ℕ → List (Order × Fraction) → List BundleLeg → Result Fraction Misfit
balance_of limit fills bundle = fold_steps (add_same limit bundle) (whole (pos 0)) fills

-- whether as much is bought as sold of the bundle
abbrev pub balances_at : ℕ → List (Order × Fraction) → List BundleLeg → Result Bool Misfit
balances_at limit fills bundle = after (balance_of limit fills bundle) (λ sum. Ok (is_same sum (whole (pos 0))))

-- whether it is so of the bundle of each order
abbrev pub balances_all : ℕ → List (Order × Fraction) → List Order → Result Bool Misfit
balances_all limit fills orders = all_of (λ (order : Order). balances_at limit fills (bundle_of order)) orders

-- without a mark the liability is 0 and each bundle is balanced
abbrev pub fallback_holds : ℕ → List (Order × Fraction) → List Order → Fraction → Result Bool Misfit
fallback_holds limit fills orders L = if is_same L (whole (pos 0)) then balances_all limit fills orders else Ok false

-- the same of a batch
abbrev pub batch_balances : ℕ → List Order → List Frac128 → Frac128 → Result Bool Misfit
batch_balances limit orders fills L = fallback_holds limit (order_fills orders fills) orders (fraction_of L)

-- whether the liability is enough, as the mark shows
abbrev pub mark_covers : ℕ → ℕ → List Order → List Fraction → Fraction → Mark → Result Bool Misfit
mark_covers limit n orders fills L (Optimal cover measure) = cover_holds limit n orders fills L cover
mark_covers limit n orders fills L (Wide w) = fallback_holds limit (zip orders fills) orders L
mark_covers limit n orders fills L Budget = fallback_holds limit (zip orders fills) orders L

-- the same of a batch
abbrev pub batch_marked : ℕ → Batch → List Frac128 → Frac128 → Mark → Result Bool Misfit
batch_marked limit batch fills L mark =
    mark_covers limit batch.underlyings batch.orders (map fraction_of fills) (fraction_of L) mark
