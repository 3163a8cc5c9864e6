-- The states of a line: what holds at each of them holds at each price where a payoff bends, and
-- the other way round.
use Rattle.std.proofs.Common.{◌≡◌, ℕ, zero, suc, ◌*◌, ◌/◌, ◌≤◌, true, false, List, [], ◌∷◌, ◌++◌, map, zip, length, nat_abs, arith, ℤ, pos, negsuc, ◌*ℤ◌, ◌<ℤ◌, All, Option, Some, None, refl, ap, sym, subst, ◌∙◌}
use Rattle.std.specs.Prelude.{IfSome, ◌↔◌, if◌then◌else◌}
use Rattle.std.specs.List.{filter_map, cons_option, Contains}
use Rattle.std.proofs.lemmas.Bool.Decides.{nat_tests}
use Rattle.std.proofs.lemmas.Int.{ints}
use Rattle.std.proofs.lemmas.List.Elements.{All-nil, All-cons, All-head, All-tail, All-push, All-pop, All-weaker, All-append, All-contains, All-contains_itself, filter_map-append}
use Rattle.std.proofs.lemmas.List.{length-map}
use native.Mathlib.Nat.{mul-div_cancel'}
use Rattle.arithmetic.specs.Gcd.{gcd}
use Rattle.arithmetic.proofs.GcdLaws.{gcd_pos_left, gcd_dvd_left, gcd_dvd_right, gcd_comm, coprime_of_div, pos_of_quotient}
use Rattle.exact_num.specs.CommonDenominator.{common_denominator, amount_over, signed_amounts_over}
use Rattle.form.specs.declared.orders.Order.{Order}
use Rattle.clearing_model.specs.Certificate.{LineCloses}
use Rattle.form.specs.Vector.{IsState, strike_entry}
use Rattle.form.specs.Payoff.{BundleLeg, bundle_of}
use Rattle.clearing_model.specs.Clearing.{SignedFill}
use Rattle.clearing_model.specs.Line.{weight_entry, HoldsAtPrice, HoldsAtBreak, HoldsAtBreaks}
use Rattle.market_laws.proofs.Line.{holds_at_multiples}
use Rattle.line_cover.specs.Line.{bends, lowest_state, breakpoint_of, breakpoint_of_leg, breakpoints_of, legs_of_orders}
use Rattle.line_cover.specs.Laws.{order_of, LinesCloseAtStates, LineStatesAreBreakpoints, LineCoversHoldAtStates, LineStatesAreStates, LineStatesRise}
use Rattle.line_cover.specs.Breakpoints.{line_states, in_rising_price, first_state, last_state, IsPriced, HoldsAtState}
use Rattle.line_cover.proofs.Inserted.{rising_all, rising_had, rising_rise}

-- entries of opposite signs are a bend, and neither is 0
bends_of : (a b : ℤ) → (a *ℤ b) <ℤ pos 0 → bends a b ≡ true
bends_of (pos a) (pos b) h = absurd (omega (arith, ints))
bends_of (negsuc a) (negsuc b) h = absurd (omega (arith, ints))
bends_of (pos zero) (negsuc b) h = absurd (omega (arith, ints))
bends_of (negsuc a) (pos zero) h = absurd (omega (arith, ints))
bends_of (pos (suc a)) (negsuc b) h = grind (arith, nat_tests)
bends_of (negsuc a) (pos (suc b)) h = grind (arith, nat_tests)

of_bends : (a b : ℤ) → bends a b ≡ true → (a *ℤ b) <ℤ pos 0
of_bends (pos a) (pos b) h = absurd (grind (arith, nat_tests))
of_bends (negsuc a) (negsuc b) h = absurd (grind (arith, nat_tests))
of_bends (pos zero) (negsuc b) h = absurd (grind (arith, nat_tests))
of_bends (negsuc a) (pos zero) h = absurd (grind (arith, nat_tests))
of_bends (pos (suc a)) (negsuc b) h = omega (arith, ints)
of_bends (negsuc a) (pos (suc b)) h = omega (arith, ints)

size_above : (a b : ℤ) → (a *ℤ b) <ℤ pos 0 → (1 ≤ nat_abs a) × (1 ≤ nat_abs b)
size_above (pos zero) b h = absurd (omega (arith, ints))
size_above (negsuc a) (pos zero) h = absurd (omega (arith, ints))
size_above (pos (suc a)) (pos b) h = absurd (omega (arith, ints))
size_above (pos (suc a)) (negsuc b) h = (omega arith, omega arith)
size_above (negsuc a) (pos (suc b)) h = (omega arith, omega arith)
size_above (negsuc a) (negsuc b) h = absurd (omega (arith, ints))

-- both entries of a state without their common divisor
lowest_priced : (t s : ℕ) → 1 ≤ t → 1 ≤ s → IsPriced (lowest_state t s)
lowest_priced t s ht hs =
    let g = gcd_pos_left t s ht in
    record {
      entries = refl;
      lowest = record {
        positive = pos_of_quotient t (gcd t s) ht g (gcd_dvd_left t s);
        coprime = gcd_comm (s / gcd t s) (t / gcd t s) ∙ coprime_of_div t s g;
      };
      above_zero = pos_of_quotient s (gcd t s) hs g (gcd_dvd_right t s);
    }

-- it holds there exactly where it holds at the state
lowest_holds : (fills : List SignedFill) (L : ℤ) (t s : ℕ) → 1 ≤ t → HoldsAtState fills L (lowest_state t s) ↔ HoldsAtPrice fills L t s
lowest_holds fills L t s one =
    let g = gcd t s in
    let scaled = holds_at_multiples fills L g (t / g) (s / g) (gcd_pos_left t s one) in
    let P : ℕ → ℕ → Type 0 = HoldsAtPrice fills L in
    let e : g * (t / g) ≡ t = mul-div_cancel' g (gcd_dvd_left t s) in
    let f : g * (s / g) ≡ s = mul-div_cancel' g (gcd_dvd_right t s) in (
      λ h. subst (λ w. P w s) e (subst (λ w. P (g * (t / g)) w) f (scaled.1 h)),
      λ h. scaled.0 (subst (λ w. P w (g * (s / g))) (sym e) (subst (λ w. P t w) (sym f) h)),
    )

-- the breakpoint of an option, if there is one
breakpoint_is : (v : List ℤ) (P : List ℕ → Type 0) → IfSome (breakpoint_of v) P ↔ ((strike_entry v *ℤ weight_entry v) <ℤ pos 0 → P (lowest_state (nat_abs (weight_entry v)) (nat_abs (strike_entry v))))
breakpoint_is v P =
    (elim (bends (strike_entry v) (weight_entry v)) as (λ b. bends (strike_entry v) (weight_entry v) ≡ b → IfSome (if b then Some (lowest_state (nat_abs (weight_entry v)) (nat_abs (strike_entry v))) else None) P ↔ ((strike_entry v *ℤ weight_entry v) <ℤ pos 0 → P (lowest_state (nat_abs (weight_entry v)) (nat_abs (strike_entry v))))) [
      | true ↦ λ e. ((λ h signs. h), (λ h. h (of_bends (strike_entry v) (weight_entry v) e)))
      | false ↦ λ e. ((λ h signs. absurd (no_bend (strike_entry v) (weight_entry v) e signs)), (λ h. tt))
    ]) refl
  where
    no_bend : (a b : ℤ) → bends a b ≡ false → (a *ℤ b) <ℤ pos 0 → ⊥
    no_bend a b e signs = let t = bends_of a b signs in cc

breakpoint_priced : (leg : BundleLeg) → IfSome (breakpoint_of_leg leg) IsPriced
breakpoint_priced leg =
    let v = leg.option in
    (breakpoint_is v IsPriced).1 (λ signs. let above = size_above (strike_entry v) (weight_entry v) signs in lowest_priced (nat_abs (weight_entry v)) (nat_abs (strike_entry v)) above.1 above.0)

-- what holds at a leg's breakpoint holds where the leg's payoff bends
break_is : (fills : List SignedFill) (L : ℤ) (leg : BundleLeg) → IfSome (breakpoint_of_leg leg) (HoldsAtState fills L) ↔ HoldsAtBreak fills L leg.option
break_is fills L leg =
    let v = leg.option in
    let is = breakpoint_is v (HoldsAtState fills L) in
    let lowest = lowest_holds fills L (nat_abs (weight_entry v)) (nat_abs (strike_entry v)) in
    let some = size_above (strike_entry v) (weight_entry v) in (
      λ h signs. (lowest (some signs).1).0 (is.0 h signs),
      λ h. is.1 (λ signs. (lowest (some signs).1).1 (h signs)),
    )

-- ---- all of them
with_break : (P : List ℕ → Type 0) (b : Option (List ℕ)) (zs : List (List ℕ)) → All P (cons_option b zs) ↔ (IfSome b P × All P zs)
with_break P None zs = ((λ h. (tt, h)), (λ h. h.1))
with_break P (Some z) zs = ((λ h. (All-head P z zs h, All-tail P z zs h)), (λ h. All-cons P z zs h.0 h.1))

legs_priced : (legs : List BundleLeg) → All IsPriced (filter_map breakpoint_of_leg legs)
legs_priced [] = All-nil IsPriced
legs_priced (leg ∷ legs) = (with_break IsPriced (breakpoint_of_leg leg) (filter_map breakpoint_of_leg legs)).1 (breakpoint_priced leg, legs_priced legs)

breakpoints_priced : (orders : List Order) → All IsPriced (breakpoints_of orders)
breakpoints_priced orders = legs_priced (legs_of_orders orders)

legs_break : (fills : List SignedFill) (L : ℤ) (legs : List BundleLeg) → All (HoldsAtState fills L) (filter_map breakpoint_of_leg legs) ↔ All (λ (leg : BundleLeg). HoldsAtBreak fills L leg.option) legs
legs_break fills L [] = ((λ h. All-nil (λ (leg : BundleLeg). HoldsAtBreak fills L leg.option)), (λ h. All-nil (HoldsAtState fills L)))
legs_break fills L (leg ∷ legs) =
    let P = HoldsAtState fills L in
    let Q : BundleLeg → Type 0 = λ leg. HoldsAtBreak fills L leg.option in
    let here = break_is fills L leg in
    let others = legs_break fills L legs in
    let with = with_break P (breakpoint_of_leg leg) (filter_map breakpoint_of_leg legs) in (
      λ h. let parts = with.0 h in All-cons Q leg legs (here.0 parts.0) (others.0 parts.1),
      λ h. with.1 (here.1 (All-head Q leg legs h), others.1 (All-tail Q leg legs h)),
    )

-- the breakpoints of the first order, and then those of the others
pub breakpoints_first : (o : Order) (orders : List Order) → breakpoints_of (o ∷ orders) ≡ filter_map breakpoint_of_leg (bundle_of o) ++ breakpoints_of orders
breakpoints_first o orders = filter_map-append breakpoint_of_leg (bundle_of o) (legs_of_orders orders)

both_parts : {A : Type 0} (P : A → Type 0) (xs ys : List A) → All P (xs ++ ys) → All P xs × All P ys
both_parts P [] ys h = (All-nil P, h)
both_parts P (x ∷ xs) ys h =
    let rest = both_parts P xs ys (All-tail P x (xs ++ ys) h) in
    (All-cons P x xs (All-head P x (xs ++ ys) h) rest.0, rest.1)

pub breaks_are : (fills : List SignedFill) (L : ℤ) (rest : List SignedFill) → All (HoldsAtState fills L) (breakpoints_of (map order_of rest)) ↔ All (HoldsAtBreaks fills L) rest
breaks_are fills L [] = ((λ h. All-nil (HoldsAtBreaks fills L)), (λ h. All-nil (HoldsAtState fills L)))
breaks_are fills L (fill ∷ rest) =
    let P = HoldsAtState fills L in
    let Q = HoldsAtBreaks fills L in
    let here = legs_break fills L (bundle_of fill.0) in
    let others = breaks_are fills L rest in
    let mine = filter_map breakpoint_of_leg (bundle_of fill.0) in
    let theirs = breakpoints_of (map order_of rest) in
    let is = breakpoints_first fill.0 (map order_of rest) in (
      λ h. let parts = both_parts P mine theirs (subst (All P) is h) in All-cons Q fill rest (here.0 parts.0) (others.0 parts.1),
      λ h. subst (All P) (sym is) (All-append P mine theirs (here.1 (All-head Q fill rest h)) (others.1 (All-tail Q fill rest h))),
    )

-- what holds at each of the line's states
states_hold : (P : List ℕ → Type 0) (orders : List Order) → All P (line_states orders) ↔ (P first_state × All P (breakpoints_of orders) × P last_state)
states_hold P orders =
    let zs = breakpoints_of orders in
    let ys = in_rising_price zs in (
      λ h.
          let parts = All-pop P (ys ++ (last_state ∷ [])) ys (Some last_state) refl (All-tail P first_state (ys ++ (last_state ∷ [])) h) in
          (All-head P first_state (ys ++ (last_state ∷ [])) h, rising_had P zs (breakpoints_priced orders) parts.0, parts.1),
      λ h. All-cons P first_state (ys ++ (last_state ∷ [])) h.0 (All-push P ys last_state (rising_all P zs h.1) h.2),
    )

pub line_states_are_breakpoints : LineStatesAreBreakpoints
line_states_are_breakpoints orders z =
    let zs = breakpoints_of orders in
    let all = first_state ∷ (zs ++ (last_state ∷ [])) in
    let P : List ℕ → Type 0 = Contains (line_states orders) in
    let Q : List ℕ → Type 0 = Contains all in
    let held = (states_hold P orders).0 (All-contains_itself (line_states orders)) in
    let each = All-contains_itself all in
    let parts = All-pop Q (zs ++ (last_state ∷ [])) zs (Some last_state) refl (All-tail Q first_state (zs ++ (last_state ∷ [])) each) in (
      All-contains Q (line_states orders) z ((states_hold Q orders).1 (All-head Q first_state (zs ++ (last_state ∷ [])) each, parts.0, parts.1)),
      All-contains P all z (All-cons P first_state (zs ++ (last_state ∷ [])) held.0 (All-push P zs last_state held.1 held.2)),
    )

pub line_covers_hold_at_states : LineCoversHoldAtStates
line_covers_hold_at_states fills L =
    let states = states_hold (HoldsAtState fills L) (map order_of fills) in
    let breaks = breaks_are fills L fills in (
      λ h. let parts = states.0 h in (parts.0, parts.2, breaks.0 parts.1),
      λ h. states.1 (h.0, breaks.1 h.2, h.1),
    )

pub line_states_are_states : LineStatesAreStates
line_states_are_states orders =
    let ys = in_rising_price (breakpoints_of orders) in
    let priced = rising_all IsPriced (breakpoints_of orders) (breakpoints_priced orders) in
    All-cons (IsState 1) first_state (ys ++ (last_state ∷ [])) (refl, omega arith)
    (All-push (IsState 1) ys last_state (All-weaker IsPriced (IsState 1) priced_state ys priced) (refl, omega arith))
  where
    priced_state : (z : List ℕ) → IsPriced z → IsState 1 z
    priced_state [] is = absurd (omega (arith, is.entries))
    priced_state (t ∷ []) is = absurd (omega (arith, is.entries))
    priced_state (t ∷ s ∷ []) is = (refl, omega (arith, is.lowest.positive))
    priced_state (t ∷ s ∷ u ∷ z) is = absurd (omega (arith, is.entries))

pub line_states_rise : LineStatesRise
line_states_rise orders = rising_rise (breakpoints_of orders) (breakpoints_priced orders)

pub orders_of_fills : (orders : List Order) (xs : List ℤ) → length xs ≡ length orders → map order_of (zip orders xs) ≡ orders
orders_of_fills [] xs len = refl
orders_of_fills (o ∷ os) [] len = absurd (omega (arith, len))
orders_of_fills (o ∷ os) (x ∷ xs) len = ap (λ rest. o ∷ rest) (orders_of_fills os xs (omega (arith, len)))

pub lines_close_at_states : LinesCloseAtStates
lines_close_at_states orders fills L len =
    let D = common_denominator (L ∷ fills) in
    let xs = signed_amounts_over D fills in
    subst (λ os. All (HoldsAtState (zip orders xs) (amount_over D L)) (line_states os) ↔ LineCloses orders fills L)
    (orders_of_fills orders xs (length-map fills (amount_over D) ∙ len))
    (line_covers_hold_at_states (zip orders xs) (amount_over D L))
