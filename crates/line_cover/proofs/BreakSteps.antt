-- The breakpoints of the orders that a loop has come to.
use Rattle.std.proofs.Common.{◌≡◌, ℕ, ◌+◌, ◌<◌, Bool, true, false, List, [], ◌∷◌, ◌++◌, length, get_or, drop, Result, Ok, Err, refl, ap, sym, ◌∙◌}
use Rattle.std.specs.Prelude.{IsErrAnd}
use Rattle.std.specs.List.{filter_map, fold}
use Rattle.std.proofs.lemmas.Result.{err_from_is_err_and}
use Rattle.std.proofs.lemmas.List.Sums.{fold-append}
use Rattle.arithmetic.proofs.Lists.{item_first}
use Rattle.exact_num.specs.declared.misfit.Wide.{Wide}
use Rattle.exact_num.specs.Steps.{all_of, and_then}
use Rattle.form.specs.declared.orders.Order.{Order}
use Rattle.form.specs.Payoff.{bundle_legs}
use Rattle.form.proofs.BundleLegs.{bundle_of-legs}
use Rattle.line_cover.specs.Line.{breakpoint_of_leg, breakpoints_of}
use Rattle.line_cover.specs.Breakpoints.{insert}
use Rattle.line_cover.proofs.LineStates.{breakpoints_first}

-- those of the order at i come first, and then those of the orders after it
pub breakpoints_at : (orders : List Order) (i : ℕ) (o : Order) → i < length orders → o ≡ get_or orders i o
    → breakpoints_of (drop i orders) ≡ filter_map breakpoint_of_leg (bundle_legs o.bundle) ++ breakpoints_of (drop (i + 1) orders)
breakpoints_at orders i o lt is =
    ap breakpoints_of (item_first orders i o lt is)
    ∙ breakpoints_first o (drop (i + 1) orders)
    ∙ ap (λ legs. filter_map breakpoint_of_leg legs ++ breakpoints_of (drop (i + 1) orders)) (bundle_of-legs o)

pub all_of-append : {A : Type 0} (test : A → Result Bool Wide) (xs ys : List A) → all_of test (xs ++ ys) ≡ and_then (all_of test xs) (all_of test ys)
all_of-append test [] ys = refl
all_of-append test (x ∷ xs) ys = ap (and_then (test x)) (all_of-append test xs ys) ∙ nested (test x) (all_of test xs) (all_of test ys)
  where
    nested : (a b c : Result Bool Wide) → and_then a (and_then b c) ≡ and_then (and_then a b) c
    nested (Ok true) b c = refl
    nested (Ok false) b c = refl
    nested (Err w) b c = refl

-- ---- a turn of a loop over tests, of which the first is r
abbrev pub LeftAt : Result Bool Wide → Result Bool Wide → Result Bool Wide → Type 0
LeftAt all first rest = all ≡ and_then first rest

pub turn_holds : (all first rest r : Result Bool Wide) (b : Bool) → LeftAt all first rest → r ≡ first → r ≡ Ok b → b ≡ true → all ≡ rest
turn_holds all first rest r b left is ok held = left ∙ ap (λ x. and_then x rest) (sym is ∙ ok ∙ ap (λ t. Ok t) held)

pub turn_fails : (all first rest r : Result Bool Wide) (b : Bool) → LeftAt all first rest → r ≡ first → r ≡ Ok b → b ≡ false → Ok false ≡ all
turn_fails all first rest r b left is ok held = sym (left ∙ ap (λ x. and_then x rest) (sym is ∙ ok ∙ ap (λ t. Ok t) held))

pub turn_stops : (all first rest r answer : Result Bool Wide) (w : Wide) → LeftAt all first rest → r ≡ first → r ≡ Err w → IsErrAnd answer (λ v. v ≡ w) → answer ≡ all
turn_stops all first rest r answer w left is err says =
    let p = err_from_is_err_and answer says in
    rw (p.1, p.2) (sym (left ∙ ap (λ x. and_then x rest) (sym is ∙ err)))

-- the tests at the breakpoints of the order at i, and then those at the others
pub tests_at : (test : List ℕ → Result Bool Wide) (orders : List Order) (i : ℕ) (o : Order) → i < length orders → o ≡ get_or orders i o
    → LeftAt (all_of test (breakpoints_of (drop i orders))) (all_of test (filter_map breakpoint_of_leg (bundle_legs o.bundle))) (all_of test (breakpoints_of (drop (i + 1) orders)))
tests_at test orders i o lt is =
    ap (all_of test) (breakpoints_at orders i o lt is)
    ∙ all_of-append test (filter_map breakpoint_of_leg (bundle_legs o.bundle)) (breakpoints_of (drop (i + 1) orders))

-- the breakpoints of the order at i, put among states, and then those of the others
pub put_at : (orders : List Order) (i : ℕ) (o : Order) (zs ys : List (List ℕ)) → i < length orders → o ≡ get_or orders i o
    → ys ≡ fold insert zs (filter_map breakpoint_of_leg (bundle_legs o.bundle))
    → fold insert ys (breakpoints_of (drop (i + 1) orders)) ≡ fold insert zs (breakpoints_of (drop i orders))
put_at orders i o zs ys lt is put =
    let here = filter_map breakpoint_of_leg (bundle_legs o.bundle) in
    let others = breakpoints_of (drop (i + 1) orders) in
    ap (λ states. fold insert states others) put
    ∙ sym (fold-append insert zs here others)
    ∙ ap (fold insert zs) (sym (breakpoints_at orders i o lt is))
