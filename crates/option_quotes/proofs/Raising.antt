-- At which prices a further order raises the surplus.
use Rattle.std.proofs.Common.{◌≡◌, ℕ, ◌+◌, ◌<◌, ◌≤◌, true, false, List, [], ◌∷◌, ◌++◌, length-append, map, arith, All, sum, pos, unsigned_abs, ◌*◌, ◌*ℤ◌, ◌<ℤ◌, ◌≤ℤ◌, ℤ, Some, None, refl, ap, sym, subst, inl, inr}
use Rattle.std.specs.List.Sorted.{IsStrictlyIncreasing}
use Rattle.std.specs.Ordering.{int_cmp, is_lt}
use Rattle.std.proofs.lemmas.Int.{ints, by_lt_z}
use Rattle.std.proofs.lemmas.Bool.{cases_lt}
use Rattle.std.proofs.lemmas.List.{map-append}
use Rattle.std.proofs.lemmas.List.Elements.{All-cons, All-head, All-map, All-nil, All-push, All-tail, All-weaker}
use Rattle.arithmetic.proofs.Lists.{rise_push}
use Rattle.exact_num.specs.Fraction.{Fraction, IsDefined, AtMost}
use Rattle.frac.specs.Value.{fraction_of}
use Rattle.form.specs.declared.orders.Side.{Side}
use Rattle.form.specs.declared.orders.Side.TheVariants.{Buy, Sell}
use Rattle.form.specs.declared.orders.Order.{Order}
use Rattle.form.specs.declared.orders.Batch.{Batch}
use Rattle.form.specs.declared.forms.Form.{Form}
use Rattle.form.specs.declared.legs.Leg.{Leg}
use Rattle.form.specs.declared.limits.TheConstants.{MAX_OPTIONS, MAX_PRICE}
use Rattle.form.specs.BundleOf.{bundle_one}
use Rattle.form.specs.Limits.{IsListed, IsWithinLimits, IsOrderWithin}
use Rattle.form.specs.Payoff.{IsOnCount, count_sizes, option_of}
use Rattle.form.proofs.MadeBundles.{legs_in-bundle_one}
use Rattle.cert_check.specs.declared.outcome.Mark.{Mark}
use Rattle.cert_check.specs.declared.outcome.Mark.TheVariants.{Optimal, Wide, Budget}
use Rattle.cert_check.specs.declared.outcome.Outcome.{Outcome}
use Rattle.cert_check.specs.declared.outcome.Verdict.TheVariants.{Yes}
use Rattle.cert_check.specs.Conditions.{IfOptimal, is_optimal_mark}
use Rattle.cert_check.specs.Events.{verdict_of}
use Rattle.cert_check.specs.Laws.{IsProved}
use Rattle.frac.specs.Range.{limit as largest}
use Rattle.clearing.specs.Outcome.{outcome_of}
use Rattle.clearing.proofs.Outcomes.{optimal_is_greatest}
use Rattle.clearing.proofs.Yes.{outcomes_are_judged_yes}
use Rattle.arithmetic.proofs.Comparisons.{int_cmp_less}
use Rattle.arithmetic.proofs.Integers.{*ℤ_mono, *ℤ_mono_lt}
use Rattle.arithmetic.proofs.Products.{products}
use Rattle.option_quotes.specs.declared.quotes.Quoted.TheVariants.{At, Never}
use Rattle.option_quotes.specs.declared.ends.Ends.{Ends}
use Rattle.option_quotes.specs.declared.ends.Probed.{Probed}
use Rattle.market_laws.specs.Limits.{at_price, IsNoWorse}
use Rattle.option_quotes.specs.Quotes.{IsBelow}
use Rattle.option_quotes.specs.Implied.{asked}
use Rattle.option_quotes.specs.Probes.{further, is_optimal, is_raised, with_order, best_price, worst_price, gap}
use Rattle.option_quotes.specs.Quotes.{Raises, IsShown, IsShownAt, IsNextWorse, IsQuote}
use Rattle.option_quotes.specs.Thresholds.{MayBeQuoted}
use Rattle.option_quotes.specs.Ends.{IsProbed, IsBetter, AreEnds}
use Rattle.market_laws.proofs.Limits.{better_limits_cover}

-- ---- the batch with another last order is within the limits
last_kept : (P : Order → Type 0) (o q : Order) → (P o → P q) → (front : List Order) → All P (front ++ o ∷ []) → All P (front ++ q ∷ [])
last_kept P o q h [] all = All-cons P q [] (h (All-head P o [] all)) (All-nil P)
last_kept P o q h (p ∷ front) all =
    All-cons P p (front ++ q ∷ []) (All-head P p (front ++ o ∷ []) all) (last_kept P o q h front (All-tail P p (front ++ o ∷ []) all))

ids_kept : (o q : Order) → q.id ≡ o.id → (front : List Order) → map (λ (order : Order). order.id) (front ++ o ∷ []) ≡ map (λ (order : Order). order.id) (front ++ q ∷ [])
ids_kept o q e [] = ap (λ (id : ℕ). id ∷ []) (sym e)
ids_kept o q e (p ∷ front) = ap (λ (ids : List ℕ). p.id ∷ ids) (ids_kept o q e front)

last_within : (batch : Batch) (o q : Order) → q.id ≡ o.id → q.bundle ≡ o.bundle → (IsOrderWithin o → IsOrderWithin q) → IsWithinLimits (with_order batch o) → IsWithinLimits (with_order batch q)
last_within batch o q id bundle fits within =
    let front = batch.orders in
    let count = batch.underlyings + 1 in
    record {
      has_forms = record {
        some = within.has_forms.some;
        few = within.has_forms.few;
        forms = last_kept (λ (order : Order). IsOnCount count order.bundle) o q (subst (IsOnCount count) (sym bundle)) front within.has_forms.forms;
      };
      orders_fit = omega (arith, length-append front (q ∷ []), length-append front (o ∷ []), within.orders_fit);
      ids_rise = subst IsStrictlyIncreasing (ids_kept o q id front) within.ids_rise;
      orders_within = last_kept IsOrderWithin o q fits front within.orders_within;
    }

pub within_at : (batch : Batch) (o : Order) (price : ℕ) → price ≤ MAX_PRICE → IsWithinLimits (with_order batch o) → IsWithinLimits (with_order batch (at_price o price))
within_at batch o price fits =
    last_within batch o (at_price o price) refl refl (λ h. record { options = h.options; price = fits; some = h.some; quantity = h.quantity; counted = h.counted })

-- ---- the batch with the further order is within the limits
one_size : (form : Form) → count_sizes (bundle_one form) ≡ 1
one_size form = ap (λ legs. sum (map (λ (leg : Leg). unsigned_abs leg.count) legs)) (legs_in-bundle_one form)

further_within : (form : Form) (side : Side) → IsListed (option_of form) → IsOrderWithin (further form side)
further_within form side listed =
    let P : Leg → Type 0 = λ leg. IsListed (option_of leg.form) in
    record {
      options = subst (All P) (sym (legs_in-bundle_one form)) (All-cons P (record { count = pos 1; form = form }) [] listed (All-nil P));
      price = omega arith;
      some = omega arith;
      quantity = omega arith;
      counted = subst (λ n. 1 * n ≤ MAX_OPTIONS) (sym (one_size form)) (omega arith);
    }

pub asked_within : (batch : Batch) (form : Form) (side : Side) → MayBeQuoted batch form → IsWithinLimits (with_order batch (further form side))
asked_within batch form side may =
    let within = may.within in
    let o = further form side in
    let id_of : Order → ℕ = λ order. order.id in
    let Q : Leg → Type 0 = λ leg. leg.form.count ≡ batch.underlyings + 1 in
    let below = All-map (λ x. x < 1000001) id_of batch.orders (All-weaker (λ (order : Order). order.id ≤ 1000000) (λ (order : Order). order.id < 1000001) (λ order le. omega (arith, le)) batch.orders may.ids) in
    record {
      has_forms = record {
        some = within.has_forms.some;
        few = within.has_forms.few;
        forms = All-push (λ (order : Order). IsOnCount (batch.underlyings + 1) order.bundle) batch.orders o within.has_forms.forms
            (subst (All Q) (sym (legs_in-bundle_one form)) (All-cons Q (record { count = pos 1; form = form }) [] may.on (All-nil Q)));
      };
      orders_fit = omega (arith, length-append batch.orders (o ∷ []), may.room);
      ids_rise = subst IsStrictlyIncreasing (sym (map-append id_of batch.orders (o ∷ []))) (rise_push (map id_of batch.orders) 1000001 within.ids_rise below);
      orders_within = All-push IsOrderWithin batch.orders o within.orders_within (further_within form side may.listed);
    }

-- and so is an order that is this one
pub order_within : (batch : Batch) (form : Form) (side : Side) (order : Order) → order ≡ further form side → MayBeQuoted batch form
    → IsWithinLimits (with_order batch order)
order_within batch form side order is may = subst (λ (order : Order). IsWithinLimits (with_order batch order)) (sym is) (asked_within batch form side may)

-- and with so many bundles
pub quantity_within : (batch : Batch) (form : Form) (side : Side) (quantity : ℕ) (order : Order) → order ≡ asked form side quantity → 1 ≤ quantity → quantity ≤ 1000000
    → IsWithinLimits (with_order batch (further form side)) → IsWithinLimits (with_order batch order)
quantity_within batch form side quantity order is some few within =
    subst (λ (order : Order). IsWithinLimits (with_order batch order)) (sym is)
    (last_within batch (further form side) (asked form side quantity) refl refl
    (λ h. record {
      options = h.options;
      price = h.price;
      some = some;
      quantity = few;
      counted = subst (λ n. quantity * n ≤ MAX_OPTIONS) (sym (one_size form)) (omega (arith, few));
    })
    within)

-- ---- the order of surpluses
pub less_says : (a b : ℤ) → is_lt (int_cmp a b) ≡ true → a <ℤ b
less_says a b h = grind (arith, ints, h)

-- s < S <= T
below_most : (s S T : Fraction) → IsDefined T → IsBelow s S → AtMost S T → IsBelow s T
below_most s S T defined below most =
    by_lt_z (s.numerator *ℤ pos T.denominator) (T.numerator *ℤ pos s.denominator)
    (λ lt. lt)
    (λ (le : (T.numerator *ℤ pos s.denominator) ≤ℤ (s.numerator *ℤ pos T.denominator)).
    let a = *ℤ_mono S.denominator (T.numerator *ℤ pos s.denominator) (s.numerator *ℤ pos T.denominator) le in
    let b = *ℤ_mono s.denominator (S.numerator *ℤ pos T.denominator) (T.numerator *ℤ pos S.denominator) most in
    let c = *ℤ_mono_lt (s.numerator *ℤ pos S.denominator) (S.numerator *ℤ pos s.denominator) T.denominator below defined in
    absurd (omega (arith, ints, products, a, b, c)))

-- ---- outcomes that are marked optimal
if_optimal : (mark : Mark) (P : Type 0) → IfOptimal mark (λ cover measure. P) → is_optimal_mark mark ≡ true → P
if_optimal (Optimal cover measure) P h e = h
if_optimal (Wide wide) P h e = cc
if_optimal Budget P h e = cc

pub proved : (batch : Batch) (limit : ℕ) (outcome : Outcome) → IsWithinLimits batch → outcome ≡ outcome_of batch limit → is_optimal outcome ≡ true → IsProved batch outcome
proved batch limit outcome within is optimal =
    let known = subst (λ (o : Outcome). IfOptimal o.mark (λ cover measure. IsProved batch o)) (sym is) (optimal_is_greatest batch limit within) in
    if_optimal outcome.mark (IsProved batch outcome) known optimal

pub shown : (batch : Batch) (limit : ℕ) (outcome : Outcome) → IsWithinLimits batch → outcome ≡ outcome_of batch limit → is_optimal outcome ≡ true → IsShown batch limit outcome
shown batch limit outcome within is optimal =
    record { is = is; yes = subst (λ (o : Outcome). verdict_of largest batch o ≡ Yes) (sym is) (outcomes_are_judged_yes batch limit within); optimal = optimal }

-- ---- at a price that was probed, the test says whether the order raises
pub probe_within : (batch : Batch) (o : Order) (limit : ℕ) (p : Probed) → IsWithinLimits (with_order batch o) → IsProbed batch o limit p → IsProved (with_order batch (at_price o p.price)) p.outcome
probe_within batch o limit p within is = proved (with_order batch (at_price o p.price)) limit p.outcome (within_at batch o p.price is.within within) is.is is.optimal

pub shown_at : (batch : Batch) (o : Order) (limit : ℕ) (p : Probed) → IsWithinLimits (with_order batch o) → IsProbed batch o limit p → IsShownAt batch o limit p.price p.outcome
shown_at batch o limit p within is = shown (with_order batch (at_price o p.price)) limit p.outcome (within_at batch o p.price is.within within) is.is is.optimal

pub raises_where_raised : (batch : Batch) (o : Order) (limit : ℕ) (base : Outcome) (p : Probed) → IsWithinLimits (with_order batch o) → IsProbed batch o limit p → is_raised base p.outcome ≡ true → Raises batch o base p.price
raises_where_raised batch o limit base p within is raised =
    let S = fraction_of p.outcome.claim.surplus in
    let s = fraction_of base.claim.surplus in
    let g = (probe_within batch o limit p within is).greatest in
    (g.1.0, g.1.1, S, g.0, less_says (s.numerator *ℤ pos S.denominator) (S.numerator *ℤ pos s.denominator) raised, (g.1.2, g.1.3))

pub raised_where_raises : (batch : Batch) (o : Order) (limit : ℕ) (base : Outcome) (p : Probed) → IsWithinLimits (with_order batch o) → IsProbed batch o limit p → Raises batch o base p.price → is_raised base p.outcome ≡ true
raised_where_raises batch o limit base p within is (g, F, S, defined, below, still) =
    let T = fraction_of p.outcome.claim.surplus in
    let s = fraction_of base.claim.surplus in
    let greatest = (probe_within batch o limit p within is).greatest in
    ap is_lt (int_cmp_less (s.numerator *ℤ pos T.denominator) (T.numerator *ℤ pos s.denominator) (below_most s S T greatest.0 below (greatest.2 g F S defined still.0 still.1)))

never_raises : (batch : Batch) (o : Order) (limit : ℕ) (base : Outcome) (p : Probed) → IsWithinLimits (with_order batch o) → IsProbed batch o limit p → is_raised base p.outcome ≡ false → ¬ (Raises batch o base p.price)
never_raises batch o limit base p within is not_raised raises = let raised = raised_where_raises batch o limit base p within is raises in cc

-- what raises at a price raises at a better one
raises_better : (batch : Batch) (o : Order) (base : Outcome) (p q : ℕ) → IsNoWorse o.side p q → Raises batch o base p → Raises batch o base q
raises_better batch o base p q better (g, F, S, defined, below, were) =
    (g, F, S, defined, below, better_limits_cover batch.underlyings batch.orders [] (at_price o p) q better g F S were)

-- ---- the answers
pub from_best : (side : Side) (p : ℕ) → p ≤ MAX_PRICE → IsNoWorse side p (best_price side)
from_best Buy p fits = fits
from_best Sell p fits = omega arith

pub to_worst : (side : Side) (p : ℕ) → p ≤ MAX_PRICE → IsNoWorse side (worst_price side) p
to_worst Buy p fits = omega arith
to_worst Sell p fits = fits

pub quote_never : (batch : Batch) (o : Order) (limit : ℕ) (base : Outcome) (p : Probed) → IsWithinLimits (with_order batch o) → IsShown batch limit base → p.price ≡ best_price o.side → IsProbed batch o limit p → is_raised base p.outcome ≡ false
    → IsQuote batch o limit (Never p.outcome base)
quote_never batch o limit base p within first at_best is not_raised =
    record {
      raises = tt;
      shown = tt;
      never = record {
        none = λ q fits raises.
            never_raises batch o limit base p within is not_raised
            (raises_better batch o base q p.price (subst (IsNoWorse o.side q) (sym at_best) (from_best o.side q fits)) raises);
        extreme_shown = subst (λ price. IsShownAt batch o limit price p.outcome) at_best (shown_at batch o limit p within is);
        base_shown = first;
      };
    }

pub quote_worst : (batch : Batch) (o : Order) (limit : ℕ) (base : Outcome) (p : Probed) → IsWithinLimits (with_order batch o) → IsShown batch limit base → p.price ≡ worst_price o.side → IsProbed batch o limit p → is_raised base p.outcome ≡ true
    → IsQuote batch o limit (At p.price p.outcome None base)
quote_worst batch o limit base p within first at_worst is raised =
    let here : (q : ℕ) → q ≤ MAX_PRICE → IsNoWorse o.side p.price q = λ q fits. subst (λ price. IsNoWorse o.side price q) (sym at_worst) (to_worst o.side q fits) in
    record {
      raises = λ q fits.
          (λ raises. here q fits, λ better. raises_better batch o base p.price q better (raises_where_raised batch o limit base p within is raised));
      shown = record { price_within = is.within; raising_shown = shown_at batch o limit p within is; beside_shown = at_worst; base_shown = first };
      never = tt;
    }

-- where the ends are next to each other, each price is no worse than the one or no better than the
-- other
next_worse : (side : Side) (raising other : ℕ) → IsBetter side other raising → gap raising other ≤ 1 → IsNextWorse side raising other
next_worse Buy raising other better near = omega (arith, better, near)
next_worse Sell raising other better near = omega (arith, better, near)

worse_otherwise : (side : Side) (raising other p : ℕ) → IsNextWorse side raising other → ¬ (IsNoWorse side p other) → IsNoWorse side raising p
worse_otherwise Buy raising other p next not_worse = elim (cases_lt other p) [ inl lt ↦ omega (arith, next, lt) | inr le ↦ absurd (not_worse le) ]
worse_otherwise Sell raising other p next not_worse = elim (cases_lt p other) [ inl lt ↦ omega (arith, next, lt) | inr le ↦ absurd (not_worse le) ]

pub quote_between : (batch : Batch) (o : Order) (limit : ℕ) (base : Outcome) (ends : Ends) → IsWithinLimits (with_order batch o) → IsShown batch limit base → AreEnds batch o limit base ends → gap ends.raising.price ends.other.price ≤ 1
    → IsQuote batch o limit (At ends.raising.price ends.raising.outcome (Some ends.other.outcome) base)
quote_between batch o limit base ends within first are near =
    let r = ends.raising in
    let x = ends.other in
    let next = next_worse o.side r.price x.price are.better near in
    record {
      raises = λ q fits. (
        λ raises.
            worse_otherwise o.side r.price x.price q next
            (λ better. never_raises batch o limit base x within are.other are.not_raised (raises_better batch o base q x.price better raises)),
        λ better. raises_better batch o base r.price q better (raises_where_raised batch o limit base r within are.raising are.raised),
      );
      shown = record {
        price_within = are.raising.within;
        raising_shown = shown_at batch o limit r within are.raising;
        beside_shown = (x.price, next, are.other.within, shown_at batch o limit x within are.other);
        base_shown = first;
      };
      never = tt;
    }
