-- What is answered at the first probes of a quote.
use Rattle.std.proofs.Common.{◌≡◌, ℕ, ◌^◌, ◌≤◌, Bool, true, false, List, [], ◌∷◌, lit≤, arith, Option, Some, None, if◌then◌else◌, ap, sym, subst, ◌∙◌}
use Rattle.form.specs.declared.orders.Side.{Side}
use Rattle.form.specs.declared.orders.Side.TheVariants.{Buy, Sell}
use Rattle.form.specs.declared.orders.Order.{Order}
use Rattle.form.specs.declared.orders.Batch.{Batch}
use Rattle.form.specs.declared.limits.TheConstants.{MAX_PRICE}
use Rattle.cert_check.specs.declared.outcome.Outcome.{Outcome}
use Rattle.clearing.specs.Outcome.{outcome_of}
use Rattle.option_quotes.specs.declared.ends.Probed.{Probed}
use Rattle.option_quotes.specs.declared.quotes.Quoted.TheVariants.{Unmarked}
use Rattle.option_quotes.specs.Probes.{Probe, is_optimal, is_raised, probe_outcome, gap, best_price, worst_price, most_halvings, probe_at, probes, probes_between, probes_from_best, probes_from_worst, first_unmarked}
use Rattle.option_quotes.specs.Quotes.{IsQuote}
use Rattle.option_quotes.specs.Ends.{IsProbed, IsBetter, AreEnds}
use Rattle.option_quotes.proofs.Middles.{first_marked, first_not_marked}

-- ---- the first ends
pub best_fits : (side : Side) → best_price side ≤ MAX_PRICE
best_fits Buy = omega arith
best_fits Sell = omega arith

pub worst_fits : (side : Side) → worst_price side ≤ MAX_PRICE
worst_fits Buy = omega arith
worst_fits Sell = omega arith

best_is_better : (side : Side) → IsBetter side (worst_price side) (best_price side)
best_is_better Buy = omega arith
best_is_better Sell = omega arith

pub gap_of_all : (side : Side) → gap (best_price side) (worst_price side) ≤ 2 ^ most_halvings
unfolding most_halvings
gap_of_all Buy = lit≤ tt
gap_of_all Sell = lit≤ tt

pub first_ends : (batch : Batch) (o : Order) (limit : ℕ) (base : Outcome) (best : Probed) (price : ℕ) (outcome : Outcome)
    → IsProbed batch o limit best → best.price ≡ best_price o.side → is_raised base best.outcome ≡ true
    → price ≡ worst_price o.side → outcome ≡ probe_outcome batch o limit price → is_optimal outcome ≡ true → is_raised base outcome ≡ false
    → AreEnds batch o limit base (record { raising = best; other = record { price = price; outcome = outcome } })
first_ends batch o limit base best price outcome best_is at_best raised at_worst is optimal not_raised =
    record {
      raising = best_is;
      other = record { within = subst (λ p. p ≤ MAX_PRICE) (sym at_worst) (worst_fits o.side); is = is; optimal = optimal };
      raised = raised;
      not_raised = not_raised;
      better = subst (λ p. IsBetter o.side p best.price) (sym at_worst) (subst (λ p. IsBetter o.side (worst_price o.side) p) (sym at_best) (best_is_better o.side));
    }

-- ---- the first probe of a list
pub unmarked_is_quote : (batch : Batch) (o : Order) (limit : ℕ) (probe : Option ℕ) (outcome : Outcome) → IsQuote batch o limit (Unmarked probe outcome)
unmarked_is_quote batch o limit probe outcome = record { raises = tt; shown = tt; never = tt }

goes_past : (f : ℕ → Outcome) (p q : ℕ) (outcome : Outcome) (rest : List Probe) → p ≡ q → outcome ≡ f p → is_optimal outcome ≡ true → first_unmarked (probe_at f q ∷ rest) ≡ first_unmarked rest
goes_past f p q outcome rest e is optimal =
    first_marked (probe_at f q) rest (ap (λ r. is_optimal (f r)) (sym e) ∙ ap is_optimal (sym is) ∙ optimal)

test_at : (f : ℕ → Outcome) (base : Outcome) (p q : ℕ) (outcome : Outcome) (t : Bool) → p ≡ q → outcome ≡ f p → is_raised base outcome ≡ t → is_raised base (f q) ≡ t
test_at f base p q outcome t e is h = ap (λ r. is_raised base (f r)) (sym e) ∙ ap (is_raised base) (sym is) ∙ h

-- ---- at the worst price
all_between : (ℕ → Outcome) → Outcome → Side → List Probe
all_between f base side = probes_between f base most_halvings (best_price side) (worst_price side)

pub worst_does_not : (f : ℕ → Outcome) (base : Outcome) (side : Side) (b p : ℕ) (outcome : Outcome) (answer : Option Probe) → b ≡ best_price side → p ≡ worst_price side → outcome ≡ f p → is_optimal outcome ≡ true → is_raised base outcome ≡ false
    → ((h : ℕ) → gap b p ≤ 2 ^ h → answer ≡ first_unmarked (probes_between f base h b p))
    → answer ≡ first_unmarked (probes_from_worst f base side)
unfolding all_between
worst_does_not f base side b p outcome answer at_best e is optimal not_raised rest =
    let w = worst_price side in
    let ends : (h : ℕ) → gap (best_price side) w ≤ 2 ^ h → answer ≡ first_unmarked (probes_between f base h (best_price side) w) =
    subst (λ y. (h : ℕ) → gap (best_price side) y ≤ 2 ^ h → answer ≡ first_unmarked (probes_between f base h (best_price side) y)) e
    (subst (λ x. (h : ℕ) → gap x p ≤ 2 ^ h → answer ≡ first_unmarked (probes_between f base h x p)) at_best rest) in
    ends most_halvings (gap_of_all side)
    ∙ sym (
    goes_past f p w outcome (if is_raised base (f w) then [] else all_between f base side) e is optimal
    ∙ ap (λ (t : Bool). first_unmarked (if t then [] else all_between f base side)) (test_at f base p w outcome false e is not_raised)
    )

-- ---- at the base
pub base_stops : (batch : Batch) (o : Order) (limit : ℕ) (base : Outcome) → base ≡ outcome_of batch limit → is_optimal base ≡ false → Some (None, base) ≡ first_unmarked (probes batch o limit)
base_stops batch o limit base is not_optimal =
    let first = outcome_of batch limit in
    ap (λ (it : Outcome). Some (None, it)) is
    ∙ sym (first_not_marked (None, first) (probes_from_best (probe_outcome batch o limit) first o.side) (ap is_optimal (sym is) ∙ not_optimal))

pub base_goes_on : (batch : Batch) (o : Order) (limit : ℕ) (base : Outcome) (answer : Option Probe) → base ≡ outcome_of batch limit → is_optimal base ≡ true
    → answer ≡ first_unmarked (probes_from_best (probe_outcome batch o limit) base o.side)
    → answer ≡ first_unmarked (probes batch o limit)
base_goes_on batch o limit base answer is optimal rest =
    let first = outcome_of batch limit in
    rest
    ∙ ap (λ (it : Outcome). first_unmarked (probes_from_best (probe_outcome batch o limit) it o.side)) is
    ∙ sym (first_marked (None, first) (probes_from_best (probe_outcome batch o limit) first o.side) (ap is_optimal (sym is) ∙ optimal))
