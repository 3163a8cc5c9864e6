-- The quote that the probes give tells from which price on a further order raises the greatest
-- surplus.
use Rattle.std.proofs.Common.{◌≡◌, ℕ, suc, zero, ◌^◌, ◌≤◌, Bool, true, List, [], ◌∷◌, map, arith, Option, Some, None, if◌then◌else◌, refl, ap, sym, subst, ◌∙◌, inl, inr}
use Rattle.std.proofs.lemmas.Bool.{cases_Bool, cases_lt}
use Rattle.form.specs.declared.forms.Form.{Form}
use Rattle.form.specs.declared.orders.Side.{Side}
use Rattle.form.specs.declared.orders.Order.{Order}
use Rattle.form.specs.declared.orders.Batch.{Batch}
use Rattle.form.specs.declared.limits.TheConstants.{MAX_PRICE}
use Rattle.form.specs.Limits.{IsWithinLimits}
use Rattle.frac.specs.Value.{fraction_of}
use Rattle.cert_check.specs.declared.outcome.Outcome.{Outcome}
use Rattle.clearing.specs.Outcome.{outcome_of}
use Rattle.option_quotes.specs.declared.quotes.Quoted.{Quoted}
use Rattle.option_quotes.specs.declared.quotes.Quoted.TheVariants.{At, Never, Unmarked}
use Rattle.option_quotes.specs.declared.ends.Ends.{Ends}
use Rattle.option_quotes.specs.declared.ends.Probed.{Probed}
use Rattle.option_quotes.specs.ByProbes.{quoted_of}
use Rattle.option_quotes.specs.Ends.{IsProbed, AreEnds}
use Rattle.option_quotes.specs.Laws.{QuotesAreThresholds}
use Rattle.option_quotes.specs.Probes.{Probe, best_price, worst_price, further, gap, is_optimal, is_raised, middle, middles, most_halvings, probe_at, probe_outcome, probes, probes_between, probes_from_best, probes_from_worst, first_unmarked, with_order}
use Rattle.option_quotes.specs.Quotes.{IsQuote, IsShown, unmarked_of}
use Rattle.option_quotes.specs.Thresholds.{MayBeQuoted, Tells}
use Rattle.option_quotes.proofs.Answered.{best_fits, first_ends, gap_of_all, unmarked_is_quote, worst_fits}
use Rattle.option_quotes.proofs.Defined.{none_unmarked, quote_is}
use Rattle.option_quotes.proofs.Middles.{halved, middles_up, middles_down, Narrows, narrows_first, narrows_up, narrows_down}
use Rattle.option_quotes.proofs.Raising.{asked_within, proved, quote_between, quote_never, quote_worst, shown}

-- ---- the quote where all probes are marked
probed : (batch : Batch) (o : Order) (limit p : ℕ) → p ≤ MAX_PRICE → is_optimal (probe_outcome batch o limit p) ≡ true
    → IsProbed batch o limit (record { price = p; outcome = probe_outcome batch o limit p })
probed batch o limit p fits optimal = record { within = fits; is = refl; optimal = optimal }

-- ends that are next to each other
abbrev AreNear : Batch → Order → ℕ → Outcome → Type 0
AreNear batch o limit base = (ends : Ends) × AreEnds batch o limit base ends × (gap ends.raising.price ends.other.price ≤ 1)

near_ends : (batch : Batch) (o : Order) (limit : ℕ) (base : Outcome) (h : ℕ) (ends : Ends) → AreEnds batch o limit base ends → gap ends.raising.price ends.other.price ≤ 2 ^ h
    → first_unmarked (probes_between (probe_outcome batch o limit) base h ends.raising.price ends.other.price) ≡ None → AreNear batch o limit base
near_ends batch o limit base zero ends are small marked = (ends, are, omega (arith, small))
near_ends batch o limit base (suc h) ends are small marked =
    let f : ℕ → Outcome = probe_outcome batch o limit in
    let raises : ℕ → Bool = λ p. is_raised base (f p) in
    let a = ends.raising.price in
    let b = ends.other.price in
    let m = middle a b in
    let now : Narrows batch o limit base a b ends = narrows_first batch o limit base ends are in
    let rest : (ms : List ℕ) → middles (suc h) raises a b ≡ m ∷ ms → (is_optimal (f m) ≡ true) × (first_unmarked (map (probe_at f) ms) ≡ None) =
    λ ms is. none_unmarked (probe_at f m) (map (probe_at f) ms) (sym (ap (λ (prices : List ℕ). first_unmarked (map (probe_at f) prices)) is) ∙ marked) in
    elim (cases_lt 1 (gap a b)) [
      | inr near ↦ (ends, are, near)
      | inl far ↦ elim (cases_Bool (is_raised base (f m))) [
        | inl raised ↦
            let one = rest (middles h raises m b) (middles_up h raises a b far raised) in
            near_ends batch o limit base h (record { raising = record { price = m; outcome = f m }; other = ends.other })
            (narrows_up batch o limit base a b ends (f m) now far refl one.0 raised).are (halved h a b small).0 one.1
        | inr not ↦
            let one = rest (middles h raises a m) (middles_down h raises a b far not) in
            near_ends batch o limit base h (record { raising = ends.raising; other = record { price = m; outcome = f m } })
            (narrows_down batch o limit base a b ends (f m) now far refl one.0 not).are (halved h a b small).1 one.1
      ]
    ]

abbrev MarkedQuote : Batch → Order → ℕ → Type 0
MarkedQuote batch o limit = (quoted : Quoted) × IsQuote batch o limit quoted × (unmarked_of quoted ≡ None)

quote_from_worst : (batch : Batch) (o : Order) (limit : ℕ) → IsWithinLimits (with_order batch o) → IsShown batch limit (outcome_of batch limit)
    → is_optimal (probe_outcome batch o limit (best_price o.side)) ≡ true → is_raised (outcome_of batch limit) (probe_outcome batch o limit (best_price o.side)) ≡ true
    → first_unmarked (probes_from_worst (probe_outcome batch o limit) (outcome_of batch limit) o.side) ≡ None → MarkedQuote batch o limit
quote_from_worst batch o limit within first optimal raised marked =
    let f : ℕ → Outcome = probe_outcome batch o limit in
    let base = outcome_of batch limit in
    let b = best_price o.side in
    let w = worst_price o.side in
    let between : List Probe = probes_between f base most_halvings b w in
    let worst = none_unmarked (probe_at f w) (if is_raised base (f w) then [] else between) marked in
    let worst_is = probed batch o limit w (worst_fits o.side) worst.0 in
    elim (cases_Bool (is_raised base (f w))) [
      | inl raised ↦ (At w (f w) None base, quote_worst batch o limit base (record { price = w; outcome = f w }) within first refl worst_is raised, refl)
      | inr not ↦
          let rest : first_unmarked between ≡ None = sym (ap (λ (t : Bool). first_unmarked (if t then [] else between)) not) ∙ worst.1 in
          let best : Probed = record { price = b; outcome = f b } in
          let ends = first_ends batch o limit base best w (f w) (probed batch o limit b (best_fits o.side) optimal) refl raised refl refl worst.0 not in
          let near = near_ends batch o limit base most_halvings (record { raising = best; other = record { price = w; outcome = f w } }) ends (gap_of_all o.side) rest in
          let r = near.0.raising in
          let x = near.0.other in
          (At r.price r.outcome (Some x.outcome) base, quote_between batch o limit base near.0 within first near.1 near.2, refl)
    ]

quote_where_marked : (batch : Batch) (o : Order) (limit : ℕ) → IsWithinLimits batch → IsWithinLimits (with_order batch o) → first_unmarked (probes batch o limit) ≡ None → MarkedQuote batch o limit
quote_where_marked batch o limit within with_within marked =
    let f : ℕ → Outcome = probe_outcome batch o limit in
    let base = outcome_of batch limit in
    let b = best_price o.side in
    let after : List Probe = probes_from_worst f base o.side in
    let first = none_unmarked (None, base) (probes_from_best f base o.side) marked in
    let best = none_unmarked (probe_at f b) (if is_raised base (f b) then after else []) first.1 in
    let base_shown = shown batch limit base within refl first.0 in
    elim (cases_Bool (is_raised base (f b))) [
      | inl raised ↦
          quote_from_worst batch o limit with_within base_shown best.0 raised
          (sym (ap (λ (t : Bool). first_unmarked (if t then after else [])) raised) ∙ best.1)
      | inr not ↦
          (Never (f b) base, quote_never batch o limit base (record { price = b; outcome = f b }) with_within base_shown refl (probed batch o limit b (best_fits o.side) best.0) not, refl)
    ]

-- ---- what is told
tells : (batch : Batch) (o : Order) (limit : ℕ) (quoted : Quoted) → IsWithinLimits batch → IsQuote batch o limit quoted → unmarked_of quoted ≡ first_unmarked (probes batch o limit)
    → Tells batch o limit quoted
tells batch o limit (At price raising beside base) within is unmarked =
    let first = is.shown.base_shown in
    ((is.shown.price_within, fraction_of base.claim.surplus, (proved batch limit base within first.is first.optimal).greatest, is.raises), sym unmarked)
tells batch o limit (Never extreme base) within is unmarked =
    let first = is.never.base_shown in
    ((fraction_of base.claim.surplus, (proved batch limit base within first.is first.optimal).greatest, is.never.none), sym unmarked)
tells batch o limit (Unmarked probe outcome) within is unmarked = sym unmarked

by_first : (batch : Batch) (o : Order) (limit : ℕ) (stopped : Option Probe) → IsWithinLimits batch → IsWithinLimits (with_order batch o) → first_unmarked (probes batch o limit) ≡ stopped
    → (quoted : Quoted) × IsQuote batch o limit quoted × (unmarked_of quoted ≡ stopped)
by_first batch o limit None within with_within is = quote_where_marked batch o limit within with_within is
by_first batch o limit (Some probe) within with_within is = (Unmarked probe.0 probe.1, unmarked_is_quote batch o limit probe.0 probe.1, refl)

-- a quote is all that it says, of the order that is this one
pub defined_is_quote : (batch : Batch) (form : Form) (side : Side) (order : Order) (limit : ℕ) (quoted : Quoted) → MayBeQuoted batch form → order ≡ further form side → quoted ≡ quoted_of batch order limit
    → IsQuote batch (further form side) limit quoted × (unmarked_of quoted ≡ first_unmarked (probes batch (further form side) limit))
defined_is_quote batch form side order limit quoted may same is =
    let o = further form side in
    let within = asked_within batch form side may in
    let quote = by_first batch o limit (first_unmarked (probes batch o limit)) may.within within refl in
    let here : quote.0 ≡ quoted = quote_is batch o limit quote.0 within quote.1 quote.2 ∙ sym (is ∙ ap (λ (it : Order). quoted_of batch it limit) same) in
    subst (λ (q : Quoted). IsQuote batch o limit q × (unmarked_of q ≡ first_unmarked (probes batch o limit))) here (quote.1, quote.2)

pub quotes_are_thresholds : QuotesAreThresholds
quotes_are_thresholds batch form side limit may =
    let o = further form side in
    let quote = defined_is_quote batch form side o limit (quoted_of batch o limit) may refl refl in
    tells batch o limit (quoted_of batch o limit) may.within quote.0 quote.1
