-- A leaf that is well formed and allowed has multipliers that the walk takes.
use Rattle.std.proofs.Common.{◌≡◌, ℕ, zero, suc, ◌+◌, ◌-◌, ◌<◌, ◌≤◌, ◌==◌, true, false, List, [], ◌∷◌, get_or, arith, pos, ◌*ℤ◌, All, Ok, refl, subst}
use Rattle.std.specs.Prelude.{cond}
use Rattle.std.specs.List.{AllPairs, list_all}
use Rattle.std.specs.Cmp.Derive.{both_true}
use Rattle.std.proofs.lemmas.Bool.{lt-ltb, le-leb}
use Rattle.std.proofs.lemmas.Bool.Decides.{nat_tests}
use Rattle.std.proofs.lemmas.Int.{ints}
use Rattle.std.proofs.lemmas.List.Elements.{All-cons, All-head, All-nil, All-tail}
use Rattle.arithmetic.proofs.Tests.{int_le-true}
use Rattle.exact_num.specs.Fraction.{Fraction}
use Rattle.exact_num.specs.Steps.{all_of}
use Rattle.exact_num.specs.Tests.{is_at_most}
use Rattle.exact_num.proofs.After.{after_value}
use Rattle.exact_num.proofs.Fractions.{at_most_from}
use Rattle.exact_num.proofs.Tested.{not_all_hold}
use Rattle.clearing_model.specs.Legs.{Exposure, Long, Short}
use Rattle.clearing_model.specs.Tree.{Sign, Unsigned, Plus, Minus, IsAllowed, AreAllowed, IsUnsignedLong}
use Rattle.clearing_model.specs.Written.{PlacedMultiplier, multiplier_at, multipliers_from, MayCarry, MayCarryAt, IsPlaced}
use Rattle.sign_tree.specs.Walk.{FractionLeg, leg_fill, is_unsigned, carries, passes_at, may_split, may_carry, places_rise, has_no_minus, are_placed, is_within, is_within_at, keeps_within}
use Rattle.sign_tree.proofs.LeafSums.{amount_of, HasAmount, leg_amount, legs_over, LegHasAmount, fill_stands, MultiplierHasAmount, RiseFrom}
use Rattle.sign_tree.proofs.LeafForms.{ComesBefore}

-- the places rise from the first on
pub rise_from : (place : ℕ) (ms : List PlacedMultiplier) → All (λ (m : PlacedMultiplier). place ≤ m.place) ms → AllPairs ComesBefore ms → RiseFrom place ms
rise_from place [] least pairs = tt
rise_from place (m ∷ ms) least pairs = (
  All-head (λ (k : PlacedMultiplier). place ≤ k.place) m ms least,
  rise_from (m.place + 1) ms (λ k d lt. past k d lt) (λ i j d lt within. pairs (suc i) (suc j) d (omega arith) (omega arith)),
)
  where
    past : All (λ (k : PlacedMultiplier). m.place + 1 ≤ k.place) ms
    past k d lt = omega (arith, pairs 0 (suc k) d (omega arith) (omega arith))

-- the multiplier stands at its place as the first one there
abbrev StandsFirst : ℕ → ℕ → List PlacedMultiplier → PlacedMultiplier → Type 0
StandsFirst D place ms m = (place ≤ m.place) × (multiplier_at D ms m.place ≡ amount_of D m.by)

stand_first : (D place : ℕ) (ms : List PlacedMultiplier) → RiseFrom place ms → All (StandsFirst D place ms) ms
stand_first D place [] rise = All-nil (StandsFirst D place [])
stand_first D place (m ∷ ms) rise =
    All-cons (StandsFirst D place (m ∷ ms)) m ms (rise.0, here m.place) (λ k d lt. later (get_or ms k d) (stand_first D (m.place + 1) ms rise.1 k d lt))
  where
    here : (k : ℕ) → cond (k == k) (amount_of D m.by) (multiplier_at D ms k) ≡ amount_of D m.by
    here k = let e : (k == k) ≡ true = grind (arith, nat_tests) in rw e refl

    differs : (a b : ℕ) → a < b → (a == b) ≡ false
    differs a b lt = grind (arith, nat_tests)

    later : (k : PlacedMultiplier) → StandsFirst D (m.place + 1) ms k → StandsFirst D place (m ∷ ms) k
    later k first = (omega (arith, first.0, rise.0), rw (differs m.place k.place (omega (arith, first.0))) first.1)

-- the leg there allows the amount
abbrev AllowsAt : ℕ → List FractionLeg → ℕ → ℕ → Type 0
AllowsAt D [] i a = Unit {0}
AllowsAt D (leg ∷ legs) zero a = IsAllowed leg.exposure (leg_amount D leg) a
AllowsAt D (leg ∷ legs) (suc i) a = AllowsAt D legs i a

allows_at : (D : ℕ) (legs : List FractionLeg) (ms : List PlacedMultiplier) (place i : ℕ) → AreAllowed (legs_over D legs) (multipliers_from D ms place (legs_over D legs)) → AllowsAt D legs i (multiplier_at D ms (place + i))
allows_at D [] ms place i are = tt
allows_at D (leg ∷ legs) ms place zero are = let e : place + 0 ≡ place = omega arith in rw e are.0
allows_at D (leg ∷ legs) ms place (suc i) are =
    let e : place + suc i ≡ (place + 1) + i = omega arith in
    rw e (allows_at D legs ms (place + 1) i are.1)

-- a test that finds the multiplier above the leg's fill contradicts that
not_above_fill : (limit D : ℕ) (leg : FractionLeg) (by : Fraction) (exposure : Exposure) → 1 ≤ D → LegHasAmount D leg → HasAmount D by → IsAllowed exposure (leg_amount D leg) (amount_of D by) → is_within limit exposure leg by ≡ Ok false → ⊥
not_above_fill limit D leg by Long one sf sb allowed h = cc
not_above_fill limit D leg by Short one sf sb allowed h =
    let f = after_value (leg_fill limit leg) (λ fill. Ok (is_at_most by fill)) false h in
    let st = fill_stands limit D leg f.value sf f.first in
    let most = at_most_from by f.value (pos (amount_of D by)) (pos (leg_amount D leg)) D one sb.ratio st.ratio (omega (arith, ints, allowed)) in
    let test : is_at_most by f.value ≡ true = int_le-true (by.numerator *ℤ pos f.value.denominator) (f.value.numerator *ℤ pos by.denominator) most in
    let fails : is_at_most by f.value ≡ false = cc in
    cc

not_above_at : (limit D : ℕ) (legs : List FractionLeg) (i : ℕ) (by : Fraction) → 1 ≤ D → All (LegHasAmount D) legs → HasAmount D by → AllowsAt D legs i (amount_of D by) → is_within_at limit legs i by ≡ Ok false → ⊥
not_above_at limit D [] i by one legs_are sb allowed h = cc
not_above_at limit D (leg ∷ legs) zero by one legs_are sb allowed h = not_above_fill limit D leg by leg.exposure one (All-head (LegHasAmount D) leg legs legs_are) sb allowed h
not_above_at limit D (leg ∷ legs) (suc i) by one legs_are sb allowed h = not_above_at limit D legs i by one (All-tail (LegHasAmount D) leg legs legs_are) sb allowed h

-- a multiplier that its leg allows
abbrev KeepsAmount : ℕ → List FractionLeg → PlacedMultiplier → Type 0
KeepsAmount D legs m = HasAmount D m.by × AllowsAt D legs (m.place - 1) (amount_of D m.by)

keep_amounts : (D : ℕ) (legs : List FractionLeg) (ms : List PlacedMultiplier) → All (MultiplierHasAmount D) ms → RiseFrom 1 ms
    → AreAllowed (legs_over D legs) (multipliers_from D ms 1 (legs_over D legs)) → All (KeepsAmount D legs) ms
keep_amounts D legs ms ms_are rise are k d lt =
    let m = get_or ms k d in
    let first = stand_first D 1 ms rise k d lt in
    let e : 1 + (m.place - 1) ≡ m.place = omega (arith, first.0) in
    let allowed : AllowsAt D legs (m.place - 1) (amount_of D m.by) =
    subst (AllowsAt D legs (m.place - 1)) first.1 (subst (λ p. AllowsAt D legs (m.place - 1) (multiplier_at D ms p)) e (allows_at D legs ms 1 (m.place - 1) are)) in
    (ms_are k d lt, allowed)

-- none of the multipliers of a leaf that is allowed is found above its leg's fill
pub allowed_keep_within : (limit D : ℕ) (legs : List FractionLeg) (ms : List PlacedMultiplier) → 1 ≤ D → All (LegHasAmount D) legs → All (MultiplierHasAmount D) ms → RiseFrom 1 ms
    → AreAllowed (legs_over D legs) (multipliers_from D ms 1 (legs_over D legs)) → all_of (keeps_within limit legs) ms ≡ Ok false → ⊥
allowed_keep_within limit D legs ms one legs_are ms_are rise are h =
    not_all_hold (keeps_within limit legs) (KeepsAmount D legs) (λ m fails keeps. not_above_at limit D legs (m.place - 1) m.by one legs_are keeps.0 keeps.1 fails) ms h
    (keep_amounts D legs ms ms_are rise are)

-- the leg there may carry a multiplier
carries_here : (exposure : Exposure) (sign : Sign) → MayCarry exposure sign → carries exposure sign ≡ true
carries_here Long Unsigned may = absurd may
carries_here Long Plus may = refl
carries_here Long Minus may = refl
carries_here Short sign may = refl

carried_at : (E : ℕ) (legs : List FractionLeg) (signs : List Sign) (i : ℕ) → MayCarryAt (legs_over E legs) signs i → passes_at carries legs signs i ≡ true
carried_at E [] signs i may = absurd may
carried_at E (leg ∷ legs) [] i may = absurd may
carried_at E (leg ∷ legs) (sign ∷ signs) zero may = carries_here leg.exposure sign may
carried_at E (leg ∷ legs) (sign ∷ signs) (suc i) may = carried_at E legs signs i may

each_may_carry : (E : ℕ) (legs : List FractionLeg) (signs : List Sign) (ms : List PlacedMultiplier) → All (IsPlaced (legs_over E legs) signs) ms → list_all (may_carry legs signs) ms ≡ true
each_may_carry E legs signs [] each = refl
each_may_carry E legs signs (m ∷ ms) each =
    let here = All-head (IsPlaced (legs_over E legs) signs) m ms each in
    both_true (both_true (le-leb 1 m.place here.0) (carried_at E legs signs (m.place - 1) here.1)) (each_may_carry E legs signs ms (All-tail (IsPlaced (legs_over E legs) signs) m ms each))

each_has_no_minus : (E : ℕ) (legs : List FractionLeg) (signs : List Sign) (ms : List PlacedMultiplier) → All (IsPlaced (legs_over E legs) signs) ms → list_all has_no_minus ms ≡ true
each_has_no_minus E legs signs [] each = refl
each_has_no_minus E legs signs (m ∷ ms) each =
    let here = All-head (IsPlaced (legs_over E legs) signs) m ms each in
    both_true (int_le-true (pos 0) m.by.numerator here.2) (each_has_no_minus E legs signs ms (All-tail (IsPlaced (legs_over E legs) signs) m ms each))

past_is_rising : (last : ℕ) (ms : List PlacedMultiplier) → RiseFrom (last + 1) ms → places_rise last ms ≡ true
past_is_rising last [] rise = refl
past_is_rising last (m ∷ ms) rise = both_true (lt-ltb last m.place (omega (arith, rise.0))) (past_is_rising m.place ms rise.1)

-- the multipliers of a leaf that is well formed are placed
pub formed_are_placed : (E : ℕ) (legs : List FractionLeg) (signs : List Sign) (ms : List PlacedMultiplier) → RiseFrom 1 ms → All (IsPlaced (legs_over E legs) signs) ms → are_placed legs signs ms ≡ true
formed_are_placed E legs signs ms rise placed =
    both_true (past_is_rising 0 ms rise) (both_true (each_may_carry E legs signs ms placed) (each_has_no_minus E legs signs ms placed))

-- a split of a long leg without a sign is one that the walk takes
unsigned_is : (exposure : Exposure) (sign : Sign) → exposure ≡ Long → sign ≡ Unsigned → is_unsigned exposure sign ≡ true
unsigned_is Long Unsigned long none = refl
unsigned_is Long Plus long none = cc
unsigned_is Long Minus long none = cc
unsigned_is Short sign long none = cc

splits : (D : ℕ) (legs : List FractionLeg) (signs : List Sign) (i : ℕ) → IsUnsignedLong (legs_over D legs) signs i → passes_at is_unsigned legs signs i ≡ true
splits D [] signs i h = absurd h
splits D (leg ∷ legs) [] i h = absurd h
splits D (leg ∷ legs) (sign ∷ signs) zero h = unsigned_is leg.exposure sign h.0 h.1
splits D (leg ∷ legs) (sign ∷ signs) (suc i) h = splits D legs signs i h

pub formed_may_split : (D : ℕ) (legs : List FractionLeg) (signs : List Sign) (place : ℕ) → 1 ≤ place → IsUnsignedLong (legs_over D legs) signs (place - 1) → may_split legs signs place ≡ true
formed_may_split D legs signs place first h = both_true (le-leb 1 place first) (splits D legs signs (place - 1) h)
