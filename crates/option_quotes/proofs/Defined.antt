-- A quote is what its probes give: the last of them that raised is at the price from which on all
-- prices raise.
use Rattle.std.proofs.Common.{◌≡◌, ℕ, suc, zero, ◌^◌, ◌≤◌, ◌==◌, Bool, true, false, List, [], ◌∷◌, map, arith, Option, Some, None, Result, Ok, Err, IfOk, if◌then◌else◌, refl, ap, sym, subst, ◌∙◌, true≢false, inl, inr}
use Rattle.std.specs.Option.{option_map_or, option_or}
use Rattle.std.specs.Prelude.{◌↔◌}
use Rattle.std.proofs.lemmas.Bool.{cases_Bool, cases_lt, eq-eqb}
use Rattle.std.proofs.lemmas.Bool.Decides.{nat_tests}
use Rattle.form.specs.declared.orders.Side.{Side}
use Rattle.form.specs.declared.orders.Side.TheVariants.{Buy, Sell}
use Rattle.form.specs.declared.orders.Order.{Order}
use Rattle.form.specs.declared.orders.Batch.{Batch}
use Rattle.form.specs.declared.limits.TheConstants.{MAX_PRICE}
use Rattle.form.specs.Limits.{IsWithinLimits}
use Rattle.cert_check.specs.declared.outcome.Outcome.{Outcome}
use Rattle.clearing.specs.Outcome.{outcome_of}
use Rattle.market_laws.specs.Limits.{IsNoWorse}
use Rattle.option_quotes.specs.declared.quotes.Quoted.{Quoted}
use Rattle.option_quotes.specs.declared.quotes.Quoted.TheVariants.{At, Never, Unmarked}
use Rattle.option_quotes.specs.ByProbes.{last_raising, next_worse, beside_of, marked_quote, quoted_of}
use Rattle.option_quotes.specs.Ends.{IsBetter}
use Rattle.option_quotes.specs.Probes.{Probe, best_price, worst_price, is_optimal, is_raised, probe_outcome, gap, middle, middles, most_halvings, probe_at, probes, probes_between, probes_from_best, probes_from_worst, first_unmarked, with_order}
use Rattle.option_quotes.specs.Quotes.{IsBeside, IsNextWorse, IsQuote, IsShown, Raises, RaisesFrom, unmarked_of}
use Rattle.option_quotes.proofs.Answered.{base_goes_on, best_fits, gap_of_all, worst_fits}
use Rattle.option_quotes.proofs.Middles.{halved, middle_within, middles_end, middles_up, middles_down}
use Rattle.option_quotes.proofs.Raising.{from_best, raises_where_raised, raised_where_raises}

-- ---- probes that are all marked
pub none_unmarked : (probe : Probe) (rest : List Probe) → first_unmarked (probe ∷ rest) ≡ None → (is_optimal probe.1 ≡ true) × (first_unmarked rest ≡ None)
none_unmarked probe rest e =
    let P : Bool → Type 0 = λ t. is_optimal probe.1 ≡ t → (if t then first_unmarked rest else Some probe) ≡ None → (is_optimal probe.1 ≡ true) × (first_unmarked rest ≡ None) in
    (elim (is_optimal probe.1) as P [ true ↦ λ is none. (is, none) | false ↦ λ is none. absurd (cc) ]) refl e

-- ---- the price of the last that raised
or_none : (x : Option ℕ) (a : ℕ) → option_or (option_or x None) (Some a) ≡ option_or x (Some a)
or_none None a = refl
or_none (Some p) a = refl

-- for a match the price p is worse than q
worse : (side : Side) (p q : ℕ) → ¬ (IsNoWorse side q p) → IsBetter side p q
worse Buy p q h = elim (cases_lt p q) [ inl lt ↦ lt | inr le ↦ absurd (h le) ]
worse Sell p q h = elim (cases_lt q p) [ inl lt ↦ lt | inr le ↦ absurd (h le) ]

same_price : (side : Side) (p a b : ℕ) → IsNoWorse side p a → IsBetter side b p → gap a b ≤ 1 → a ≡ p
same_price Buy p a b no_worse better near = omega (arith, no_worse, better, near)
same_price Sell p a b no_worse better near = omega (arith, no_worse, better, near)

not_raised : (t : Bool) (P : Type 0) → t ≡ false → (P → t ≡ true) → ¬ P
not_raised t P e h p = absurd (true≢false (sym (h p) ∙ e))

worst_is : (side : Side) (p : ℕ) → p ≤ MAX_PRICE → IsNoWorse side p (worst_price side) → worst_price side ≡ p
worst_is Buy p fits no_worse = omega (arith, no_worse)
worst_is Sell p fits no_worse = omega (arith, no_worse, fits)

module _ (f : ℕ → Outcome) (base : Outcome) (side : Side) (price : ℕ)
    (threshold : (p : ℕ) → p ≤ MAX_PRICE → is_optimal (f p) ≡ true → (is_raised base (f p) ≡ true) ↔ IsNoWorse side price p) where
  -- between a price that raises and one that does not
  last_between : (h a b : ℕ) → a ≤ MAX_PRICE → b ≤ MAX_PRICE → IsNoWorse side price a → IsBetter side b price → gap a b ≤ 2 ^ h
      → first_unmarked (probes_between f base h a b) ≡ None → option_or (last_raising base (probes_between f base h a b)) (Some a) ≡ Some price
  last_between zero a b a_fits b_fits no_worse better small marked =
      let none = middles_end zero (λ p. is_raised base (f p)) a b (omega (arith, small)) in
      ap (λ (ms : List ℕ). option_or (last_raising base (map (probe_at f) ms)) (Some a)) none
      ∙ ap Some (same_price side price a b no_worse better (omega (arith, small)))
  last_between (suc h) a b a_fits b_fits no_worse better small marked = elim (cases_lt 1 (gap a b)) [
    | inr near ↦
        ap (λ (ms : List ℕ). option_or (last_raising base (map (probe_at f) ms)) (Some a)) (middles_end (suc h) (λ p. is_raised base (f p)) a b near)
        ∙ ap Some (same_price side price a b no_worse better near)
    | inl far ↦ elim (cases_Bool (is_raised base (f (middle a b)))) [
      | inl raised ↦
          let m = middle a b in
          let rest : List ℕ = middles h (λ p. is_raised base (f p)) m b in
          let is : middles (suc h) (λ p. is_raised base (f p)) a b ≡ m ∷ rest = middles_up h (λ p. is_raised base (f p)) a b far raised in
          let one = none_unmarked (probe_at f m) (map (probe_at f) rest) (sym (ap (λ (ms : List ℕ). first_unmarked (map (probe_at f) ms)) is) ∙ marked) in
          let fits = middle_within a b a_fits b_fits in
          ap (λ (ms : List ℕ). option_or (last_raising base (map (probe_at f) ms)) (Some a)) is
          ∙ ap (λ (t : Bool). option_or (option_or (last_raising base (map (probe_at f) rest)) (if t then Some m else None)) (Some a)) raised
          ∙ ap (λ (o : Option ℕ). option_or o (Some a))
          (last_between h m b fits b_fits ((threshold m fits one.0).0 raised) better (halved h a b small).0 one.1)
      | inr not ↦
          let m = middle a b in
          let rest : List ℕ = middles h (λ p. is_raised base (f p)) a m in
          let is : middles (suc h) (λ p. is_raised base (f p)) a b ≡ m ∷ rest = middles_down h (λ p. is_raised base (f p)) a b far not in
          let one = none_unmarked (probe_at f m) (map (probe_at f) rest) (sym (ap (λ (ms : List ℕ). first_unmarked (map (probe_at f) ms)) is) ∙ marked) in
          let fits = middle_within a b a_fits b_fits in
          let below = worse side m price (not_raised (is_raised base (f m)) (IsNoWorse side price m) not (threshold m fits one.0).1) in
          ap (λ (ms : List ℕ). option_or (last_raising base (map (probe_at f) ms)) (Some a)) is
          ∙ ap (λ (t : Bool). option_or (option_or (last_raising base (map (probe_at f) rest)) (if t then Some m else None)) (Some a)) not
          ∙ or_none (last_raising base (map (probe_at f) rest)) a
          ∙ last_between h a m a_fits fits no_worse below (halved h a b small).1 one.1
    ]
  ]

  last_from_worst : price ≤ MAX_PRICE → first_unmarked (probes_from_worst f base side) ≡ None
      → option_or (last_raising base (probes_from_worst f base side)) (Some (best_price side)) ≡ Some price
  last_from_worst fits marked =
      let b = best_price side in
      let w = worst_price side in
      let between : List Probe = probes_between f base most_halvings b w in
      let worst = none_unmarked (probe_at f w) (if is_raised base (f w) then [] else between) marked in
      elim (cases_Bool (is_raised base (f w))) [
        | inl raised ↦
            ap (λ (t : Bool). option_or (option_or (last_raising base (if t then [] else between)) (if t then Some w else None)) (Some b)) raised
            ∙ ap Some (worst_is side price fits ((threshold w (worst_fits side) worst.0).0 raised))
        | inr not ↦
            let rest : first_unmarked between ≡ None = sym (ap (λ (t : Bool). first_unmarked (if t then [] else between)) not) ∙ worst.1 in
            let below = worse side w price (not_raised (is_raised base (f w)) (IsNoWorse side price w) not (threshold w (worst_fits side) worst.0).1) in
            ap (λ (t : Bool). option_or (option_or (last_raising base (if t then [] else between)) (if t then Some w else None)) (Some b)) not
            ∙ or_none (last_raising base between) b
            ∙ last_between most_halvings b w (best_fits side) (worst_fits side) (from_best side price fits) below (gap_of_all side) rest
      ]

  last_from_best : price ≤ MAX_PRICE → first_unmarked (probes_from_best f base side) ≡ None → last_raising base (probes_from_best f base side) ≡ Some price
  last_from_best fits marked =
      let b = best_price side in
      let after : List Probe = probes_from_worst f base side in
      let best = none_unmarked (probe_at f b) (if is_raised base (f b) then after else []) marked in
      let raised : is_raised base (f b) ≡ true = (threshold b (best_fits side) best.0).1 (from_best side price fits) in
      let rest : first_unmarked after ≡ None = sym (ap (λ (t : Bool). first_unmarked (if t then after else [])) raised) ∙ best.1 in
      ap (λ (t : Bool). option_or (last_raising base (if t then after else [])) (if t then Some b else None)) raised
      ∙ last_from_worst fits rest

none_raises : (f : ℕ → Outcome) (base : Outcome) (side : Side) → is_raised base (f (best_price side)) ≡ false → last_raising base (probes_from_best f base side) ≡ None
none_raises f base side e =
    ap (λ (t : Bool). option_or (last_raising base (if t then probes_from_worst f base side else [])) (if t then Some (best_price side) else None)) e

-- the base has no price
after_base : (x : Option ℕ) (t : Bool) → option_or x (if t then None else None) ≡ x
after_base None true = refl
after_base None false = refl
after_base (Some p) t = refl

-- ---- the outcome at the next worse price

not_worst : (side : Side) (price p : ℕ) → IsNextWorse side price p → p ≤ MAX_PRICE → ((price == worst_price side) ≡ false) × (p ≡ next_worse side price)
not_worst Buy price p next fits = (grind (arith, nat_tests), omega (arith, next))
not_worst Sell price p next fits = (grind (arith, nat_tests), omega (arith, next))

beside_is : (batch : Batch) (o : Order) (limit price : ℕ) (beside : Option Outcome) → IsBeside batch o limit price beside → beside ≡ beside_of batch o limit price
beside_is batch o limit price None worst =
    sym (ap (λ (t : Bool). if t then None else Some (probe_outcome batch o limit (next_worse o.side price))) (eq-eqb price (worst_price o.side) worst))
beside_is batch o limit price (Some outcome) (p, next, fits, shown) =
    let found = not_worst o.side price p next fits in
    ap Some (shown.is ∙ ap (probe_outcome batch o limit) found.1)
    ∙ sym (ap (λ (t : Bool). if t then None else Some (probe_outcome batch o limit (next_worse o.side price))) found.0)

-- ---- the quote
-- from the price of the last that raised, where all are marked
by_last : (batch : Batch) (o : Order) (limit : ℕ) (last : Option ℕ) → None ≡ first_unmarked (probes batch o limit) → last_raising (outcome_of batch limit) (probes batch o limit) ≡ last
    → marked_quote batch o limit last ≡ quoted_of batch o limit
unfolding quoted_of
by_last batch o limit last marked is =
    ap (marked_quote batch o limit) (sym is)
    ∙ ap (λ (u : Option Probe). option_map_or (λ (probe : Probe). Unmarked probe.0 probe.1) u (marked_quote batch o limit (last_raising (outcome_of batch limit) (probes batch o limit)))) marked

rest_marked : (batch : Batch) (o : Order) (limit : ℕ) → None ≡ first_unmarked (probes batch o limit) → first_unmarked (probes_from_best (probe_outcome batch o limit) (outcome_of batch limit) o.side) ≡ None
rest_marked batch o limit marked =
    let base = outcome_of batch limit in
    (none_unmarked (None, base) (probes_from_best (probe_outcome batch o limit) base o.side) (sym marked)).1

pub stopped_is : (batch : Batch) (o : Order) (limit : ℕ) (probe : Option ℕ) (outcome : Outcome) → Some (probe, outcome) ≡ first_unmarked (probes batch o limit) → Unmarked probe outcome ≡ quoted_of batch o limit
unfolding quoted_of
stopped_is batch o limit probe outcome unmarked =
    ap (λ (u : Option Probe). option_map_or (λ (probe : Probe). Unmarked probe.0 probe.1) u (marked_quote batch o limit (last_raising (outcome_of batch limit) (probes batch o limit)))) unmarked

pub quote_is : (batch : Batch) (o : Order) (limit : ℕ) (quoted : Quoted) → IsWithinLimits (with_order batch o) → IsQuote batch o limit quoted → unmarked_of quoted ≡ first_unmarked (probes batch o limit) → quoted ≡ quoted_of batch o limit
quote_is batch o limit (Unmarked probe outcome) within is unmarked = stopped_is batch o limit probe outcome unmarked
quote_is batch o limit (Never extreme base) within is unmarked =
    let first = outcome_of batch limit in
    let f : ℕ → Outcome = probe_outcome batch o limit in
    let b = best_price o.side in
    let best = none_unmarked (probe_at f b) (if is_raised first (f b) then probes_from_worst f first o.side else []) (rest_marked batch o limit unmarked) in
    let none : is_raised first (f b) ≡ false = elim (cases_Bool (is_raised first (f b))) [
      | inl raised ↦
          absurd (is.never.none b (best_fits o.side)
          (subst (λ (it : Outcome). Raises batch o it b) (sym is.never.base_shown.is)
          (raises_where_raised batch o limit first (record { price = b; outcome = f b }) within (record { within = best_fits o.side; is = refl; optimal = best.0 }) raised)))
      | inr not ↦ not
    ] in
    (λ i. Never (is.never.extreme_shown.is i) (is.never.base_shown.is i))
    ∙ by_last batch o limit None unmarked (after_base (last_raising first (probes_from_best f first o.side)) (is_raised first first) ∙ none_raises f first o.side none)
quote_is batch o limit (At price raising beside base) within is unmarked =
    let first = outcome_of batch limit in
    let f : ℕ → Outcome = probe_outcome batch o limit in
    let raises : RaisesFrom batch o first price = subst (λ (it : Outcome). RaisesFrom batch o it price) is.shown.base_shown.is is.raises in
    let threshold : (p : ℕ) → p ≤ MAX_PRICE → is_optimal (f p) ≡ true → (is_raised first (f p) ≡ true) ↔ IsNoWorse o.side price p =
    λ p fits optimal. (
      λ raised. (raises p fits).0 (raises_where_raised batch o limit first (record { price = p; outcome = f p }) within (record { within = fits; is = refl; optimal = optimal }) raised),
      λ no_worse. raised_where_raises batch o limit first (record { price = p; outcome = f p }) within (record { within = fits; is = refl; optimal = optimal }) ((raises p fits).1 no_worse),
    ) in
    let last = last_from_best f first o.side price threshold is.shown.price_within (rest_marked batch o limit unmarked) in
    (λ i. At price (is.shown.raising_shown.is i) (beside_is batch o limit price beside is.shown.beside_shown i) (is.shown.base_shown.is i))
    ∙ by_last batch o limit (Some price) unmarked (after_base (last_raising first (probes_from_best f first o.side)) (is_raised first first) ∙ last)

-- what is answered behind a base that is marked
pub answer_is : {E : Type 0} (batch : Batch) (o : Order) (limit : ℕ) (base : Outcome) (answer : Result Quoted E) → IsWithinLimits (with_order batch o) → IsShown batch limit base → IfOk answer (IsQuote batch o limit)
    → IfOk answer (λ quoted. unmarked_of quoted ≡ first_unmarked (probes_from_best (probe_outcome batch o limit) base o.side)) → IfOk answer (λ quoted. quoted ≡ quoted_of batch o limit)
answer_is batch o limit base (Ok quoted) within shown is unmarked =
    quote_is batch o limit quoted within is (base_goes_on batch o limit base (unmarked_of quoted) shown.is shown.optimal unmarked)
answer_is batch o limit base (Err error) within shown is unmarked = tt
