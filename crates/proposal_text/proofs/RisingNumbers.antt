-- Orders whose numbers rise.
use Rattle.std.proofs.Common.{◌≡◌, ℕ, zero, suc, ◌+◌, ◌<◌, ◌∷◌, [], Bool, true, false, List, length, map, get_or, arith, refl, sym, subst}
use Rattle.std.specs.List.{IsAllAdjacentAnswer}
use Rattle.std.specs.Prelude.{nat_lt, slice_index}
use Rattle.std.proofs.lemmas.Bool.{and_from, and_parts, lt-ltb, ltb-true}
use Rattle.std.proofs.lemmas.List.{get_or-map, length-map}
use Rattle.form.specs.declared.orders.Order.{Order}
use Rattle.proposal_text.specs.ReplyValues.{do_rise}
use Rattle.proposal_text.specs.Within.{AreRising}

abbrev ids : List Order → List ℕ
ids orders = map (λ (order : Order). order.id) orders

-- one more in front
in_front : (x y : Order) (orders : List Order) → x.id < y.id → AreRising (y ∷ orders)
    → (k : ℕ) → k + 1 < length (ids (x ∷ y ∷ orders)) → slice_index (ids (x ∷ y ∷ orders)) k < slice_index (ids (x ∷ y ∷ orders)) (k + 1)
in_front x y orders below rise zero lt = below
in_front x y orders below rise (suc k) lt =
    subst (λ n. slice_index (ids (y ∷ orders)) k < slice_index (ids (x ∷ y ∷ orders)) n) {x = suc (k + 1)} {y = suc k + 1} (omega arith) (rise k (omega (arith, lt)))

-- the test decides it
pub rise_are : (orders : List Order) → do_rise orders ≡ true → AreRising orders
rise_are [] h = λ k lt. absurd (omega (arith, lt))
rise_are (x ∷ []) h = λ k lt. absurd (omega (arith, lt))
rise_are (x ∷ y ∷ orders) h =
    let parts = and_parts (nat_lt x.id y.id) (do_rise (y ∷ orders)) h in
    in_front x y orders (ltb-true x.id y.id parts.0) (rise_are (y ∷ orders) parts.1)

pub are_rise : (orders : List Order) → AreRising orders → do_rise orders ≡ true
are_rise [] h = refl
are_rise (x ∷ []) h = refl
are_rise (x ∷ y ∷ orders) h =
    and_from _ _ (lt-ltb x.id y.id (h 0 (omega arith)))
    (are_rise (y ∷ orders) (λ k lt.
    subst (λ n. slice_index (ids (y ∷ orders)) k < slice_index (ids (x ∷ y ∷ orders)) n) {x = suc k + 1} {y = suc (k + 1)} (omega arith) (h (suc k) (omega (arith, lt)))))

at : (orders : List Order) (k : ℕ) (d : Order) → k < length orders → get_or (ids orders) k 0 ≡ (get_or orders k d).id
at orders k d lt = get_or-map (λ (order : Order). order.id) orders k d 0 lt

-- some order of a list that has one
some : (orders : List Order) → 0 < length orders → Order
some [] lt = absurd (omega arith)
some (o ∷ orders) lt = o

-- what is answered where each order and the next are tested
pub tested : (orders : List Order) (r : Bool) → IsAllAdjacentAnswer (λ (x y : Order) b. b ≡ nat_lt x.id y.id) orders r → r ≡ do_rise orders
tested orders true h =
    sym (are_rise orders (λ k lt.
    let few : k + 1 < length orders = omega (arith, lt, length-map orders (λ (order : Order). order.id)) in
    let d = some orders (omega arith) in
    let below = ltb-true (get_or orders k d).id (get_or orders (k + 1) d).id (sym (h k d few)) in
    omega (arith, below, at orders k d (omega arith), at orders (k + 1) d few)))
tested orders false h = by (do_rise orders) refl
  where
    by : (b : Bool) → do_rise orders ≡ b → false ≡ b
    by false e = refl
    by true e =
        let k = h.0 in
        let few : k + 1 < length orders = h.1 in
        let d = some orders (omega arith) in
        let up = rise_are orders e k (omega (arith, few, length-map orders (λ (order : Order). order.id))) in
        let passes = lt-ltb (get_or orders k d).id (get_or orders (k + 1) d).id (omega (arith, up, at orders k d (omega arith), at orders (k + 1) d few)) in
        absurd (cc (h.2 d, passes))
