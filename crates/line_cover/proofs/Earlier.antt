-- A test that holds at the breakpoints of earlier orders holds where an option bends as one of them
-- does.
use Rattle.std.proofs.Common.{◌≡◌, ℕ, ◌+◌, ◌<◌, ◌≤◌, Bool, true, false, List, [], ◌∷◌, ◌++◌, length, get_or, take, arith, ℤ, Result, Option, Ok, Some, None, refl, ap, sym, ◌∙◌}
use Rattle.std.specs.Prelude.{◌||◌, ◌&&◌, if◌then◌else◌, nat_abs, nat_eq}
use Rattle.std.specs.List.{filter_map, cons_option, list_any}
use Rattle.std.proofs.lemmas.Bool.Decides.{nat_tests}
use Rattle.std.proofs.lemmas.List.{take_more}
use Rattle.std.proofs.lemmas.List.Concat.{flat_map-append}
use Rattle.std.proofs.lemmas.List.Elements.{filter_map-append}
use Rattle.exact_num.specs.declared.misfit.Wide.{Wide}
use Rattle.exact_num.specs.Fraction.{Fraction}
use Rattle.exact_num.specs.Steps.{all_of, and_then}
use Rattle.exact_num.proofs.Loops.{both}
use Rattle.form.specs.declared.orders.Order.{Order}
use Rattle.form.specs.Bundles.{option_first}
use Rattle.form.specs.Payoff.{BundleLeg, bundle_legs, bundle_of, first_option}
use Rattle.form.specs.Vector.{strike_entry}
use Rattle.form.proofs.BundleLegs.{bundle_of-legs}
use Rattle.form.proofs.SameBundle.{length-bundle_legs}
use Rattle.clearing_model.specs.Line.{weight_entry}
use Rattle.line_cover.specs.Line.{bends, bends_alike, breakpoint_of, breakpoint_of_leg, breakpoints_of, holds_at, holds_at_break, legs_of_orders, lowest_state}
use Rattle.line_cover.proofs.BreakSteps.{all_of-append}
use Rattle.line_cover.proofs.LineStates.{breakpoints_first}

breakpoints-append : (xs ys : List Order) → breakpoints_of (xs ++ ys) ≡ breakpoints_of xs ++ breakpoints_of ys
breakpoints-append xs ys =
    ap (filter_map breakpoint_of_leg) (flat_map-append bundle_of xs ys)
    ∙ filter_map-append breakpoint_of_leg (legs_of_orders xs) (legs_of_orders ys)

-- where it holds at those of the orders before i and of the order there, it holds at those of the
-- orders up to it
pub one_more : (test : List ℕ → Result Bool Wide) (orders : List Order) (i : ℕ) (o : Order) (r : Result Bool Wide) (b : Bool) → i < length orders → o ≡ get_or orders i o
    → all_of test (breakpoints_of (take i orders)) ≡ Ok true → r ≡ all_of test (filter_map breakpoint_of_leg (bundle_legs o.bundle)) → r ≡ Ok b → b ≡ true
    → all_of test (breakpoints_of (take (i + 1) orders)) ≡ Ok true
one_more test orders i o r b lt is before here ok held =
    let mine = filter_map breakpoint_of_leg (bundle_legs o.bundle) in
    ap (λ os. all_of test (breakpoints_of os)) (take_more orders i o lt ∙ ap (λ x. take i orders ++ x ∷ []) (sym is))
    ∙ ap (all_of test) (breakpoints-append (take i orders) (o ∷ []))
    ∙ all_of-append test (breakpoints_of (take i orders)) (breakpoints_of (o ∷ []))
    ∙ ap (λ x. and_then x (all_of test (breakpoints_of (o ∷ [])))) before
    ∙ ap (all_of test) (breakpoints_first o [] ∙ ap (λ legs. filter_map breakpoint_of_leg legs ++ []) (bundle_of-legs o))
    ∙ all_of-append test mine []
    ∙ ap (λ x. and_then x (Ok true)) (sym here ∙ ok ∙ ap (λ t. Ok t) held)

-- where it holds at each breakpoint of legs, it holds at that of the first
at_first : (limit : ℕ) (fills : List (Order × Fraction)) (L : Fraction) (legs : List BundleLeg) → 1 ≤ length legs
    → all_of (holds_at limit fills L) (filter_map breakpoint_of_leg legs) ≡ Ok true → holds_at_break limit fills L (breakpoint_of (option_first legs)) ≡ Ok true
at_first limit fills L [] some held = absurd (omega arith)
at_first limit fills L (leg ∷ legs) some held = by (breakpoint_of_leg leg) held
  where
    by : (b : Option (List ℕ)) → all_of (holds_at limit fills L) (cons_option b (filter_map breakpoint_of_leg legs)) ≡ Ok true → holds_at_break limit fills L b ≡ Ok true
    by None h = refl
    by (Some z) h = (both (holds_at limit fills L z) (all_of (holds_at limit fills L) (filter_map breakpoint_of_leg legs)) h).0

-- and where an option bends alike, if it bends
alike_holds : (limit : ℕ) (fills : List (Order × Fraction)) (L : Fraction) (v other : List ℤ) → bends_alike v other ≡ true
    → holds_at_break limit fills L (breakpoint_of v) ≡ Ok true → holds_at_break limit fills L (breakpoint_of other) ≡ Ok true
alike_holds limit fills L v other alike held =
    by (bends (strike_entry v) (weight_entry v)) (bends (strike_entry other) (weight_entry other)) (nat_abs (strike_entry v)) (nat_abs (strike_entry other)) (nat_abs (weight_entry v)) (nat_abs (weight_entry other)) alike held
  where
    by : (b b' : Bool) (s s' t t' : ℕ) → (b && nat_eq s s' && nat_eq t t') ≡ true → holds_at_break limit fills L (if b then Some (lowest_state t s) else None) ≡ Ok true
        → holds_at_break limit fills L (if b' then Some (lowest_state t' s') else None) ≡ Ok true
    by b false s s' t t' alike h = refl
    by false true s s' t t' alike h = cc
    by true true s s' t t' alike h =
        let strikes : s ≡ s' = grind (arith, nat_tests) in
        let weights : t ≡ t' = grind (arith, nat_tests) in
        rw (← strikes, ← weights) h

pub seen_holds : (limit : ℕ) (fills : List (Order × Fraction)) (L : Fraction) (earlier : List Order) (other : List ℤ) → all_of (holds_at limit fills L) (breakpoints_of earlier) ≡ Ok true
    → list_any (λ (o : Order). bends_alike (first_option o.bundle) other) earlier ≡ true → holds_at_break limit fills L (breakpoint_of other) ≡ Ok true
seen_holds limit fills L [] other held seen = cc
seen_holds limit fills L (o ∷ os) other held seen =
    let test = holds_at limit fills L in
    let mine = filter_map breakpoint_of_leg (bundle_of o) in
    let parts = both (all_of test mine) (all_of test (breakpoints_of os)) (sym (all_of-append test mine (breakpoints_of os)) ∙ sym (ap (all_of test) (breakpoints_first o os)) ∙ held) in
    let here = ap (λ legs. all_of test (filter_map breakpoint_of_leg legs)) (sym (bundle_of-legs o)) ∙ parts.0 in
    by (bends_alike (first_option o.bundle) other) _ seen
    (λ alike. alike_holds limit fills L (first_option o.bundle) other alike (at_first limit fills L (bundle_legs o.bundle) (omega (arith, length-bundle_legs o.bundle, o.bundle.size_in_range.0)) here))
    (seen_holds limit fills L os other parts.1)
  where
    by : {P : Type 0} (a b : Bool) → (a || b) ≡ true → (a ≡ true → P) → (b ≡ true → P) → P
    by true b h first rest = first refl
    by false b h first rest = rest h
