-- The sums of a leaf, over one denominator.
use Rattle.std.proofs.Common.{◌≡◌, ℕ, zero, suc, ◌+◌, ◌*◌, ◌/◌, ◌<◌, ◌≤◌, ◌==◌, Bool, true, false, List, [], ◌∷◌, map, get_or, arith, ℤ, pos, neg_ℤ, ◌+ℤ◌, ◌*ℤ◌, ◌≤ℤ◌, All, Result, Ok, inl, inr, refl, ap, sym, subst, eqb-true}
use Rattle.std.specs.Prelude.{if◌then◌else◌}
use Rattle.std.proofs.lemmas.Bool.{cases_lt}
use Rattle.std.proofs.lemmas.Bool.Decides.{nat_tests}
use Rattle.std.proofs.lemmas.Int.{ints}
use Rattle.std.proofs.lemmas.List.Elements.{All-head, All-tail}
use Rattle.arithmetic.proofs.Integers.{*ℤ_mono}
use Rattle.arithmetic.proofs.Parts.{part_above}
use Rattle.arithmetic.proofs.Products.{products}
use Rattle.exact_num.specs.declared.misfit.Wide.{Wide}
use Rattle.exact_num.specs.Fraction.{Fraction, whole}
use Rattle.exact_num.specs.CommonDenominator.{amount_over}
use Rattle.exact_num.proofs.After.{after_value}
use Rattle.form.specs.Payoff.{positive_part}
use Rattle.exact_num.specs.Steps.{fold_steps, plus_product}
use Rattle.exact_num.specs.Tests.{is_above_zero}
use Rattle.clearing_model.specs.Legs.{Exposure, Long, Short, FilledLeg}
use Rattle.clearing_model.specs.Tree.{Sign, Unsigned, Plus, Minus, term, entry_of, liability_at}
use Rattle.clearing_model.specs.Written.{PlacedMultiplier, multiplier_at, multipliers_from}
use Rattle.exact_num.proofs.LowestRatios.{IsLowestRatio, zero_stands, product_stands, plus_stands, less_stands, difference_stands, not_above}
use Rattle.sign_tree.specs.Walk.{FractionLeg, leg_fill, first_at, left_after, signed_legs, plus_filled, add_term, add_leg, less_liability, entry_sum, entries_close}

-- what a fraction that is not below 0 is over D
abbrev pub amount_of : ℕ → Fraction → ℕ
amount_of D f = positive_part (amount_over D f)

abbrev pub HasAmount : ℕ → Fraction → Type 0
HasAmount D f = IsLowestRatio f (pos (amount_of D f)) D

pub has_amount : (D : ℕ) (f : Fraction) → IsLowestRatio f (amount_over D f) D → pos 0 ≤ℤ f.numerator → HasAmount D f
has_amount D f st least =
    let low : pos 0 ≤ℤ amount_over D f = omega (arith, ints, *ℤ_mono (D / f.denominator) (pos 0) f.numerator least) in
    subst (λ w. IsLowestRatio f w D) (sym (part_above (amount_over D f) low)) st

-- the fill of a leg is that of its order times the size of its count
abbrev pub leg_amount : ℕ → FractionLeg → ℕ
leg_amount D leg = amount_of D leg.fill * leg.size

abbrev pub leg_over : ℕ → FractionLeg → FilledLeg
leg_over D leg = record { exposure = leg.exposure; amount = leg_amount D leg; option = leg.option }

-- the legs, their fills over D
abbrev pub legs_over : ℕ → List FractionLeg → List FilledLeg
legs_over D legs = map (leg_over D) legs

abbrev pub LegHasAmount : ℕ → FractionLeg → Type 0
LegHasAmount D leg = HasAmount D leg.fill

pub fill_stands : (limit D : ℕ) (leg : FractionLeg) (f : Fraction) → LegHasAmount D leg → leg_fill limit leg ≡ Ok f → IsLowestRatio f (pos (leg_amount D leg)) D
fill_stands limit D leg f st h = product_stands limit leg.fill f (pos leg.size) (pos (amount_of D leg.fill)) D st h

abbrev pub MultiplierHasAmount : ℕ → PlacedMultiplier → Type 0
MultiplierHasAmount D m = HasAmount D m.by

-- the places rise from this one on
abbrev pub RiseFrom : ℕ → List PlacedMultiplier → Type 0
RiseFrom place [] = Unit {0}
RiseFrom place (m ∷ ms) = (place ≤ m.place) × RiseFrom (m.place + 1) ms

none_before : (D place : ℕ) (ms : List PlacedMultiplier) (k : ℕ) → RiseFrom place ms → k < place → multiplier_at D ms k ≡ 0
none_before D place [] k rise lt = refl
none_before D place (m ∷ ms) k rise lt =
    let ne : (m.place == k) ≡ false = differs m.place k (omega (arith, rise.0)) in
    rw ne (none_before D (m.place + 1) ms k rise.1 (omega (arith, rise.0)))
  where
    differs : (a b : ℕ) → b < a → (a == b) ≡ false
    differs a b lt = grind (arith, nat_tests)

first_stands : (D place : ℕ) (ms : List PlacedMultiplier) → All (MultiplierHasAmount D) ms → RiseFrom place ms → IsLowestRatio (first_at place ms) (pos (multiplier_at D ms place)) D
first_stands D place [] are rise = zero_stands D
first_stands D place (m ∷ ms) are rise = by_test (m.place == place) refl
  where
    by_test : (t : Bool) → (m.place == place) ≡ t → IsLowestRatio (first_at place (m ∷ ms)) (pos (multiplier_at D (m ∷ ms) place)) D
    by_test true e = rw e (All-head (MultiplierHasAmount D) m ms are)
    by_test false e = rw (e, none_before D (m.place + 1) ms place rise.1 (omega (arith, rise.0))) (zero_stands D)

-- a multiplier counts for no later place
later : (D : ℕ) (m : PlacedMultiplier) (ms : List PlacedMultiplier) (k : ℕ) (legs : List FilledLeg) → m.place < k → multipliers_from D (m ∷ ms) k legs ≡ multipliers_from D ms k legs
later D m ms k [] lt = refl
later D m ms k (leg ∷ legs) lt =
    let ne : (m.place == k) ≡ false = differs m.place k lt in
    rw ne (ap (λ (xs : List ℕ). multiplier_at D ms k ∷ xs) (later D m ms (k + 1) legs (omega arith)))
  where
    differs : (a b : ℕ) → a < b → (a == b) ≡ false
    differs a b lt = grind (arith, nat_tests)

left_same : (D place : ℕ) (ms : List PlacedMultiplier) (legs : List FilledLeg) → multipliers_from D (left_after place ms) (place + 1) legs ≡ multipliers_from D ms (place + 1) legs
left_same D place [] legs = refl
left_same D place (m ∷ ms) legs = by_test (m.place == place) refl
  where
    by_test : (t : Bool) → (m.place == place) ≡ t → multipliers_from D (left_after place (m ∷ ms)) (place + 1) legs ≡ multipliers_from D (m ∷ ms) (place + 1) legs
    by_test true e =
        let at = eqb-true m.place place e in
        rw e (sym (later D m ms (place + 1) legs (omega arith)))
    by_test false e = rw e refl

left_rise : (place : ℕ) (ms : List PlacedMultiplier) → RiseFrom place ms → RiseFrom (place + 1) (left_after place ms)
left_rise place [] rise = tt
left_rise place (m ∷ ms) rise = by_test (m.place == place) refl
  where
    past : (a b : ℕ) → b ≤ a → (a == b) ≡ false → b + 1 ≤ a
    past a b le e = grind (arith, nat_tests)

    by_test : (t : Bool) → (m.place == place) ≡ t → RiseFrom (place + 1) (left_after place (m ∷ ms))
    by_test true e = rw e (subst (λ k. RiseFrom (k + 1) ms) (eqb-true m.place place e) rise.1)
    by_test false e = rw e (past m.place place rise.0 e, rise.1)

left_all : (P : PlacedMultiplier → Type 0) (place : ℕ) (ms : List PlacedMultiplier) → All P ms → All P (left_after place ms)
left_all P place [] all = all
left_all P place (m ∷ ms) all = by_test (m.place == place) refl
  where
    by_test : (t : Bool) → (m.place == place) ≡ t → All P (left_after place (m ∷ ms))
    by_test true e = rw e (All-tail P m ms all)
    by_test false e = rw e all

-- what the fill of a leg stands for, where it fits
abbrev FillStands : ℕ → Result Fraction Wide → ℕ → Type 0
FillStands D fill a = (f : Fraction) → fill ≡ Ok f → IsLowestRatio f (pos a) D

filled_stands : (limit D : ℕ) (total s : Fraction) (fill : Result Fraction Wide) (t x : ℤ) (a : ℕ) → IsLowestRatio total t D → FillStands D fill a → plus_filled limit total fill x ≡ Ok s → IsLowestRatio s (t +ℤ (pos a *ℤ x)) D
filled_stands limit D total s fill t x a st sf h =
    let f = after_value fill (λ f. plus_product limit total f (whole x)) s h in
    plus_stands limit total f.value s x t (pos a) D st (sf f.value f.first) f.rest

term_stands : (limit D : ℕ) (total by s : Fraction) (exposure : Exposure) (sign : Sign) (fill : Result Fraction Wide) (t x : ℤ) (a m : ℕ) → IsLowestRatio total t D → FillStands D fill a → IsLowestRatio by (pos m) D
    → add_term limit total exposure sign fill by x ≡ Ok s → IsLowestRatio s (t +ℤ term exposure sign a m x) D
term_stands limit D total by s Long Unsigned fill t x a m st sf sb h =
    let e : t +ℤ (pos a *ℤ pos (positive_part x)) ≡ t +ℤ (pos (positive_part x) *ℤ pos a) = omega (arith, ints, products) in
    subst (λ w. IsLowestRatio s w D) e (filled_stands limit D total s fill t (pos (positive_part x)) a st sf h)
term_stands limit D total by s Long Plus fill t x a m st sf sb h =
    let first = after_value (plus_filled limit total fill x) (λ sum. plus_product limit sum by (whole x)) s h in
    let one = filled_stands limit D total first.value fill t x a st sf first.first in
    let two = plus_stands limit first.value by s x (t +ℤ (pos a *ℤ x)) (pos m) D one sb first.rest in
    let e : (t +ℤ (pos a *ℤ x)) +ℤ (pos m *ℤ x) ≡ t +ℤ (x *ℤ pos (a + m)) = omega (arith, ints, products) in
    subst (λ w. IsLowestRatio s w D) e two
term_stands limit D total by s Long Minus fill t x a m st sf sb h =
    let e : t +ℤ neg_ℤ (pos m *ℤ x) ≡ t +ℤ neg_ℤ (x *ℤ pos m) = omega (arith, ints, products) in
    subst (λ w. IsLowestRatio s w D) e (less_stands limit total by s x t (pos m) D st sb h)
term_stands limit D total by s Short sign fill t x a m st sf sb h =
    let e : t +ℤ neg_ℤ (pos m *ℤ x) ≡ t +ℤ neg_ℤ (x *ℤ pos m) = omega (arith, ints, products) in
    subst (λ w. IsLowestRatio s w D) e (less_stands limit total by s x t (pos m) D st sb h)

-- an entry of a leaf, its multipliers from this place on
abbrev pub entry_over : ℕ → ℕ → ℕ → List FractionLeg → List Sign → List PlacedMultiplier → ℤ
entry_over D i place legs signs ms = entry_of i (legs_over D legs) signs (multipliers_from D ms place (legs_over D legs))

nothing_stands : (total s : Fraction) (t : ℤ) (D : ℕ) → IsLowestRatio total t D → total ≡ s → IsLowestRatio s (t +ℤ pos 0) D
nothing_stands total s t D st e =
    let n : t ≡ t +ℤ pos 0 = omega (arith, ints) in
    subst (λ f. IsLowestRatio f (t +ℤ pos 0) D) e (subst (λ w. IsLowestRatio total w D) n st)

terms_stand : (limit D i : ℕ) (total s : Fraction) (t : ℤ) (place : ℕ) (legs : List FractionLeg) (signs : List Sign) (ms : List PlacedMultiplier)
    → All (LegHasAmount D) legs → All (MultiplierHasAmount D) ms → RiseFrom place ms → IsLowestRatio total t D
    → fold_steps (add_leg limit i) total (signed_legs place legs signs ms) ≡ Ok s → IsLowestRatio s (t +ℤ entry_over D i place legs signs ms) D
terms_stand limit D i total s t place [] signs ms legs_are ms_are rise st h = nothing_stands total s t D st (cc)
terms_stand limit D i total s t place (leg ∷ legs) [] ms legs_are ms_are rise st h = nothing_stands total s t D st (cc)
terms_stand limit D i total s t place (leg ∷ legs) (sign ∷ signs) ms legs_are ms_are rise st h =
    let x = get_or leg.option i (pos 0) in
    let by = first_at place ms in
    let m = multiplier_at D ms place in
    let here = term leg.exposure sign (leg_amount D leg) m x in
    let left = left_after place ms in
    let first = after_value (add_leg limit i total (record { leg = leg; sign = sign; by = by })) (λ next. fold_steps (add_leg limit i) next (signed_legs (place + 1) legs signs left)) s h in
    let leg_has = All-head (LegHasAmount D) leg legs legs_are in
    let one = term_stands limit D total by first.value leg.exposure sign (leg_fill limit leg) t x (leg_amount D leg) m st (λ f fits. fill_stands limit D leg f leg_has fits) (first_stands D place ms ms_are rise) first.first in
    let rest = terms_stand limit D i first.value s (t +ℤ here) (place + 1) legs signs left (All-tail (LegHasAmount D) leg legs legs_are) (left_all (MultiplierHasAmount D) place ms ms_are) (left_rise place ms rise) one first.rest in
    let same = subst (λ (xs : List ℕ). IsLowestRatio s ((t +ℤ here) +ℤ entry_of i (legs_over D legs) signs xs) D) (left_same D place ms (legs_over D legs)) rest in
    let e : (t +ℤ here) +ℤ entry_over D i (place + 1) legs signs ms ≡ t +ℤ (here +ℤ entry_over D i (place + 1) legs signs ms) = omega (arith, ints) in
    subst (λ w. IsLowestRatio s w D) e same

-- the sum of an entry stands for what it is above the liability
pub entry_stands : (limit D i : ℕ) (legs : List FractionLeg) (L : Fraction) (signs : List Sign) (ms : List PlacedMultiplier) (s : Fraction)
    → All (LegHasAmount D) legs → All (MultiplierHasAmount D) ms → RiseFrom 1 ms → IsLowestRatio L (amount_over D L) D
    → entry_sum limit legs L signs ms i ≡ Ok s → IsLowestRatio s (entry_over D i 1 legs signs ms +ℤ neg_ℤ (liability_at (amount_over D L) i)) D
entry_stands limit D i legs L signs ms s legs_are ms_are rise sl h =
    let first = after_value (fold_steps (add_leg limit i) (whole (pos 0)) (signed_legs 1 legs signs ms)) (less_liability limit L i) s h in
    let sum = terms_stand limit D i (whole (pos 0)) first.value (pos 0) 1 legs signs ms legs_are ms_are rise (zero_stands D) first.first in
    at i (entry_over D i 1 legs signs ms) first.value sum first.rest
  where
    at : (k : ℕ) (x : ℤ) (total : Fraction) → IsLowestRatio total (pos 0 +ℤ x) D → less_liability limit L k total ≡ Ok s → IsLowestRatio s (x +ℤ neg_ℤ (liability_at (amount_over D L) k)) D
    at zero x total st e =
        let st2 = difference_stands limit total L s (pos 0 +ℤ x) (amount_over D L) D st sl e in
        let n : (pos 0 +ℤ x) +ℤ neg_ℤ (amount_over D L) ≡ x +ℤ neg_ℤ (amount_over D L) = omega (arith, ints) in
        subst (λ w. IsLowestRatio s w D) n st2
    at (suc k) x total st e =
        let same : total ≡ s = cc in
        let n : pos 0 +ℤ x ≡ x +ℤ neg_ℤ (pos 0) = omega (arith, ints) in
        subst (λ w. IsLowestRatio s w D) n (subst (λ f. IsLowestRatio f (pos 0 +ℤ x) D) same st)

-- a test that goes on, and what holds where it does
pub then_holds : (test : Bool) (rest : Result Bool Wide) → (if test then rest else Ok false) ≡ Ok true → (test ≡ true) × (rest ≡ Ok true)
then_holds true rest h = (refl, h)
then_holds false rest h = cc

else_holds : (test : Bool) (rest : Result Bool Wide) → (if test then Ok false else rest) ≡ Ok true → (test ≡ false) × (rest ≡ Ok true)
else_holds true rest h = cc
else_holds false rest h = (refl, h)

pub entries_within : (limit D : ℕ) (legs : List FractionLeg) (L : Fraction) (signs : List Sign) (ms : List PlacedMultiplier) (i left : ℕ)
    → All (LegHasAmount D) legs → All (MultiplierHasAmount D) ms → RiseFrom 1 ms → IsLowestRatio L (amount_over D L) D
    → entries_close limit legs L signs ms i left ≡ Ok true
    → (j : ℕ) → i ≤ j → j < i + left → entry_over D j 1 legs signs ms ≤ℤ liability_at (amount_over D L) j
entries_within limit D legs L signs ms i zero legs_are ms_are rise sl h j from below = absurd (omega arith)
entries_within limit D legs L signs ms i (suc left) legs_are ms_are rise sl h j from below =
    let first = after_value (entry_sum limit legs L signs ms i) (λ sum. if is_above_zero sum then Ok false else entries_close limit legs L signs ms (i + 1) left) true h in
    let tests = else_holds (is_above_zero first.value) (entries_close limit legs L signs ms (i + 1) left) first.rest in
    elim (cases_lt i j) [
      | inl lt ↦ entries_within limit D legs L signs ms (i + 1) left legs_are ms_are rise sl tests.1 j (omega arith) (omega arith)
      | inr le ↦
          let same : i ≡ j = omega arith in
          let stands = entry_stands limit D i legs L signs ms first.value legs_are ms_are rise sl first.first in
          subst (λ k. entry_over D k 1 legs signs ms ≤ℤ liability_at (amount_over D L) k) same (omega (arith, ints, not_above first.value _ D stands tests.0))
    ]
