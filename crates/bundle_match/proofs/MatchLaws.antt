-- The laws of the match.
use Rattle.std.proofs.Common.{ℕ, ◌*◌, ◌≤◌, List, [], ◌∷◌, pos, ◌*ℤ◌, ◌≤ℤ◌, All, subst, arith}
use Rattle.std.specs.List.{zip}
use Rattle.std.proofs.lemmas.List.Elements.{All-cons, All-head, All-tail}
use Rattle.std.proofs.lemmas.Int.{ints}
use Rattle.arithmetic.proofs.Products.{products}
use Rattle.form.specs.declared.orders.Order.{Order}
use Rattle.clearing_model.specs.Clearing.{Filled, AreFills, premium}
use Rattle.form.specs.Payoff.{bundle_of}
use Rattle.market_laws.proofs.Balance.{balanced_owes_nothing}
use Rattle.bundle_match.specs.Laws.{match_of, IsFilledAt, MatchIsWithin, MatchOwesNothing, MatchEarns, MatchCovers, MatchHasPrices, MatchIsTheBest}
use Rattle.bundle_match.specs.Match.{match_by_bundle}
pub use Rattle.bundle_match.proofs.Balances.{match_is_balanced}
use Rattle.bundle_match.proofs.Fills.{price_of, order_is_filled, length-fills_from, All-matched}
use Rattle.bundle_match.proofs.Gains.{total, above_price, sum_is_most, sum_is_gain, earned}

pub match_is_within : MatchIsWithin
match_is_within orders = (
  omega arith,
  length-fills_from orders 0 orders,
  All-matched (λ (fill : Filled). fill.1 ≤ fill.0.quantity * 1) orders (λ k o at. omega (arith, (order_is_filled orders k o at).0)),
)

pub match_owes_nothing : MatchOwesNothing
match_owes_nothing orders z = balanced_owes_nothing (match_of orders) (match_is_balanced orders) z

pub match_has_prices : MatchHasPrices
match_has_prices orders = (price_of orders, All-matched (λ (fill : Filled). IsFilledAt (price_of orders (bundle_of fill.0)) fill) orders (λ k o at. (order_is_filled orders k o at).1))

pub match_earns : MatchEarns
match_earns orders =
    let parted = match_has_prices orders in
    let fills = match_by_bundle orders in
    subst (λ w. pos 0 ≤ℤ w) (earned parted.0 orders fills (match_is_balanced orders)) (sum_is_gain parted.0 orders fills (match_is_within orders).1 parted.1)

pub match_covers : MatchCovers
match_covers n orders t s some size =
    let owed = match_owes_nothing orders (t ∷ s) in
    let m = match_of orders in
    omega (arith, ints, products, owed)

pub match_is_the_best : MatchIsTheBest
match_is_the_best orders g F fills balanced =
    let parted = match_has_prices orders in
    let m = match_by_bundle orders in
    let most = sum_is_most parted.0 orders m g F (match_is_within orders).1 parted.1 fills.1 fills.2 in
    subst (λ w. premium (zip orders g) ≤ℤ (w *ℤ pos F)) (earned parted.0 orders m (match_is_balanced orders))
    (subst (λ w. w ≤ℤ (total (above_price parted.0) orders m *ℤ pos F)) (earned parted.0 orders g balanced) most)

-- fills of orders whose quantities are at most a limit are at most that limit
pub fills_small : (limit : ℕ) (orders : List Order) (fills : List ℕ) → AreFills orders fills 1 → All (λ (order : Order). order.quantity ≤ limit) orders → All (λ fill. fill ≤ limit) fills
fills_small limit [] [] h small = λ k d lt. absurd (omega arith)
fills_small limit [] (g ∷ fills) h small = absurd (omega (arith, h.1))
fills_small limit (o ∷ orders) [] h small = absurd (omega (arith, h.1))
fills_small limit (o ∷ orders) (g ∷ fills) h small =
    let P : Filled → Type 0 = λ fill. fill.1 ≤ fill.0.quantity * 1 in
    let Q : Order → Type 0 = λ order. order.quantity ≤ limit in
    let first = All-head P (o, g) (zip orders fills) h.2 in
    let bound = All-head Q o orders small in
    All-cons (λ fill. fill ≤ limit) g fills (omega (arith, first, bound)) (fills_small limit orders fills (omega arith, omega (arith, h.1), All-tail P (o, g) (zip orders fills) h.2) (All-tail Q o orders small))
