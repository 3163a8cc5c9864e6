-- The form of a leaf that the walk closes, and what its short legs' multipliers are at most.
use Rattle.std.proofs.Common.{◌≡◌, ℕ, zero, suc, ◌+◌, ◌-◌, ◌<◌, ◌≤◌, ◌==◌, Bool, true, false, ◌&&◌, List, [], ◌∷◌, arith, pos, ◌*ℤ◌, ◌≤ℤ◌, All, Ok, refl, sym, subst, eqb-true}
use Rattle.std.specs.Prelude.{cond, int_le, nat_le, nat_lt}
use Rattle.std.specs.List.{AllPairs, list_all}
use Rattle.std.specs.Int.Signed.{le_z_yes}
use Rattle.std.proofs.lemmas.Bool.{ltb-true, leb-true, and_parts}
use Rattle.std.proofs.lemmas.Float.{T_from_true}
use Rattle.std.proofs.lemmas.Int.{ints}
use Rattle.std.proofs.lemmas.List.Elements.{All-cons, All-head, All-nil, All-tail}
use Rattle.std.proofs.lemmas.List.Kept.{AllPairs-cons}
use Rattle.exact_num.specs.Fraction.{Fraction}
use Rattle.exact_num.specs.Steps.{all_of}
use Rattle.exact_num.specs.Tests.{is_at_most}
use Rattle.exact_num.proofs.After.{after_value}
use Rattle.exact_num.proofs.Fractions.{at_most_to}
use Rattle.exact_num.proofs.Tested.{all_hold}
use Rattle.clearing_model.specs.Legs.{Exposure, Long, Short}
use Rattle.clearing_model.specs.Tree.{Sign, Unsigned, Plus, Minus, IsAllowed, AreAllowed, IsUnsignedLong}
use Rattle.clearing_model.specs.Written.{PlacedMultiplier, multiplier_at, multipliers_from, MayCarry, MayCarryAt, IsPlaced}
use Rattle.sign_tree.specs.Walk.{FractionLeg, leg_fill, is_unsigned, carries, passes_at, may_carry, places_rise, has_no_minus, are_placed, is_within, is_within_at, keeps_within}
use Rattle.sign_tree.proofs.LeafSums.{amount_of, HasAmount, leg_amount, legs_over, LegHasAmount, fill_stands, MultiplierHasAmount, RiseFrom}

-- a multiplier that the walk takes, apart from its size
pub record IsTaken (legs : List FractionLeg) (signs : List Sign) (m : PlacedMultiplier) : Type 0 where
  pub first : 1 ≤ m.place
  pub carries : passes_at carries legs signs (m.place - 1) ≡ true
  pub least : pos 0 ≤ℤ m.by.numerator

pub record AreTaken (legs : List FractionLeg) (signs : List Sign) (ms : List PlacedMultiplier) : Type 0 where
  pub each : All (IsTaken legs signs) ms
  pub rise : RiseFrom 1 ms

rise_past : (last : ℕ) (ms : List PlacedMultiplier) → places_rise last ms ≡ true → RiseFrom (last + 1) ms
rise_past last [] h = tt
rise_past last (m ∷ ms) h =
    let parts = and_parts (nat_lt last m.place) (places_rise m.place ms) h in
    let past : last < m.place = ltb-true last m.place parts.0 in
    (omega arith, rise_past m.place ms parts.1)

each_taken : (legs : List FractionLeg) (signs : List Sign) (ms : List PlacedMultiplier) → list_all (may_carry legs signs) ms ≡ true → list_all has_no_minus ms ≡ true → All (IsTaken legs signs) ms
each_taken legs signs [] carry least = All-nil (IsTaken legs signs)
each_taken legs signs (m ∷ ms) carry least =
    let carries_first = and_parts (may_carry legs signs m) (list_all (may_carry legs signs) ms) carry in
    let here = and_parts (nat_le 1 m.place) (passes_at carries legs signs (m.place - 1)) carries_first.0 in
    let least_first = and_parts (has_no_minus m) (list_all has_no_minus ms) least in
    let not_below : pos 0 ≤ℤ m.by.numerator = le_z_yes {a = pos 0} {b = m.by.numerator} (T_from_true (int_le (pos 0) m.by.numerator) least_first.0) in
    let one : 1 ≤ m.place = leb-true 1 m.place here.0 in
    All-cons (IsTaken legs signs) m ms (record { first = one; carries = here.1; least = not_below }) (each_taken legs signs ms carries_first.1 least_first.1)

pub taken : (legs : List FractionLeg) (signs : List Sign) (ms : List PlacedMultiplier) → are_placed legs signs ms ≡ true → AreTaken legs signs ms
taken legs signs ms h =
    let parts = and_parts (places_rise 0 ms) (list_all (may_carry legs signs) ms && list_all has_no_minus ms) h in
    let rest = and_parts (list_all (may_carry legs signs) ms) (list_all has_no_minus ms) parts.1 in
    record { each = each_taken legs signs ms rest.0 rest.1; rise = rise_past 0 ms parts.0 }

may_carry_so : (exposure : Exposure) (sign : Sign) → carries exposure sign ≡ true → MayCarry exposure sign
may_carry_so Long Unsigned h = cc
may_carry_so Long Plus h = tt
may_carry_so Long Minus h = tt
may_carry_so Short sign h = tt

may_carry_at : (D : ℕ) (legs : List FractionLeg) (signs : List Sign) (i : ℕ) → passes_at carries legs signs i ≡ true → MayCarryAt (legs_over D legs) signs i
may_carry_at D [] signs i h = cc
may_carry_at D (leg ∷ legs) [] i h = cc
may_carry_at D (leg ∷ legs) (sign ∷ signs) zero h = may_carry_so leg.exposure sign h
may_carry_at D (leg ∷ legs) (sign ∷ signs) (suc i) h = may_carry_at D legs signs i h

pub are_placed_over : (D : ℕ) (legs : List FractionLeg) (signs : List Sign) (ms : List PlacedMultiplier) → All (IsTaken legs signs) ms → All (IsPlaced (legs_over D legs) signs) ms
are_placed_over D legs signs [] each = All-nil (IsPlaced (legs_over D legs) signs)
are_placed_over D legs signs (m ∷ ms) each =
    let here = All-head (IsTaken legs signs) m ms each in
    All-cons (IsPlaced (legs_over D legs) signs) m ms (here.first, may_carry_at D legs signs (m.place - 1) here.carries, here.least)
    (are_placed_over D legs signs ms (All-tail (IsTaken legs signs) m ms each))

abbrev pub ComesBefore : PlacedMultiplier → PlacedMultiplier → Type 0
ComesBefore a b = a.place < b.place

all_past : (m : PlacedMultiplier) (place : ℕ) (ms : List PlacedMultiplier) → m.place < place → RiseFrom place ms → All (ComesBefore m) ms
all_past m place [] lt rise = All-nil (ComesBefore m)
all_past m place (k ∷ ms) lt rise = All-cons (ComesBefore m) k ms (omega (arith, rise.0)) (all_past m (k.place + 1) ms (omega (arith, rise.0)) rise.1)

pub pairs_rise : (place : ℕ) (ms : List PlacedMultiplier) → RiseFrom place ms → AllPairs ComesBefore ms
pairs_rise place [] rise = λ i j d lt within. absurd (omega arith)
pairs_rise place (m ∷ ms) rise = AllPairs-cons ComesBefore m ms (all_past m (m.place + 1) ms (omega arith) rise.1) (pairs_rise (m.place + 1) ms rise.1)

-- the multiplier stands before the place, or within the fill of its leg, the first of which has the
-- place
abbrev pub KeepsWithin : ℕ → List FractionLeg → ℕ → PlacedMultiplier → Type 0
KeepsWithin limit legs place m = place ≤ m.place → is_within_at limit legs (m.place - place) m.by ≡ Ok true

keep_next : (limit : ℕ) (leg : FractionLeg) (legs : List FractionLeg) (place : ℕ) (ms : List PlacedMultiplier) → All (KeepsWithin limit (leg ∷ legs) place) ms → All (KeepsWithin limit legs (place + 1)) ms
keep_next limit leg legs place [] keep = All-nil (KeepsWithin limit legs (place + 1))
keep_next limit leg legs place (m ∷ ms) keep =
    All-cons (KeepsWithin limit legs (place + 1)) m ms
    (λ le.
    let e : m.place - place ≡ suc (m.place - (place + 1)) = omega arith in
    subst (λ i. is_within_at limit (leg ∷ legs) i m.by ≡ Ok true) e (All-head (KeepsWithin limit (leg ∷ legs) place) m ms keep (omega arith)))
    (keep_next limit leg legs place ms (All-tail (KeepsWithin limit (leg ∷ legs) place) m ms keep))

amount_within : (limit D : ℕ) (leg : FractionLeg) (by : Fraction) → 1 ≤ D → LegHasAmount D leg → HasAmount D by → is_within limit Short leg by ≡ Ok true → amount_of D by ≤ leg_amount D leg
amount_within limit D leg by one sf sb h =
    let f = after_value (leg_fill limit leg) (λ fill. Ok (is_at_most by fill)) true h in
    let st = fill_stands limit D leg f.value sf f.first in
    let test : is_at_most by f.value ≡ true = cc in
    let most : (by.numerator *ℤ pos f.value.denominator) ≤ℤ (f.value.numerator *ℤ pos by.denominator) =
    le_z_yes {a = by.numerator *ℤ pos f.value.denominator} {b = f.value.numerator *ℤ pos by.denominator} (T_from_true (is_at_most by f.value) test) in
    omega (arith, ints, at_most_to by f.value (pos (amount_of D by)) (pos (leg_amount D leg)) D sb.lowest.positive st.lowest.positive sb.ratio st.ratio most)

either_within : (t : Bool) (x y a : ℕ) → (t ≡ true → x ≤ a) → y ≤ a → cond t x y ≤ a
either_within true x y a first rest = first refl
either_within false x y a first rest = rest

allowed_here : (limit D : ℕ) (leg : FractionLeg) (legs : List FractionLeg) (place : ℕ) (ms : List PlacedMultiplier) (exposure : Exposure) → exposure ≡ leg.exposure → 1 ≤ D → LegHasAmount D leg → All (MultiplierHasAmount D) ms
    → All (KeepsWithin limit (leg ∷ legs) place) ms → IsAllowed exposure (leg_amount D leg) (multiplier_at D ms place)
allowed_here limit D leg legs place ms Long is one sf are keep = tt
allowed_here limit D leg legs place [] Short is one sf are keep = omega arith
allowed_here limit D leg legs place (m ∷ ms) Short is one sf are keep =
    either_within (m.place == place) (amount_of D m.by) (multiplier_at D ms place) (leg_amount D leg)
    (λ e.
    let at = eqb-true m.place place e in
    let none : m.place - place ≡ 0 = omega arith in
    let here : is_within limit leg.exposure leg m.by ≡ Ok true = subst (λ i. is_within_at limit (leg ∷ legs) i m.by ≡ Ok true) none (All-head (KeepsWithin limit (leg ∷ legs) place) m ms keep (omega arith)) in
    let short : is_within limit Short leg m.by ≡ Ok true = subst (λ x. is_within limit x leg m.by ≡ Ok true) (sym is) here in
    amount_within limit D leg m.by one sf (All-head (MultiplierHasAmount D) m ms are) short)
    (allowed_here limit D leg legs place ms Short is one sf (All-tail (MultiplierHasAmount D) m ms are) (All-tail (KeepsWithin limit (leg ∷ legs) place) m ms keep))

allowed_from : (limit D : ℕ) (legs : List FractionLeg) (place : ℕ) (ms : List PlacedMultiplier) → 1 ≤ D → All (LegHasAmount D) legs → All (MultiplierHasAmount D) ms
    → All (KeepsWithin limit legs place) ms → AreAllowed (legs_over D legs) (multipliers_from D ms place (legs_over D legs))
allowed_from limit D [] place ms one legs_are ms_are keep = refl
allowed_from limit D (leg ∷ legs) place ms one legs_are ms_are keep = (
  allowed_here limit D leg legs place ms leg.exposure refl one (All-head (LegHasAmount D) leg legs legs_are) ms_are keep,
  allowed_from limit D legs (place + 1) ms one (All-tail (LegHasAmount D) leg legs legs_are) ms_are (keep_next limit leg legs place ms keep),
)

pub are_allowed : (limit D : ℕ) (legs : List FractionLeg) (ms : List PlacedMultiplier) → 1 ≤ D → All (LegHasAmount D) legs → All (MultiplierHasAmount D) ms
    → all_of (keeps_within limit legs) ms ≡ Ok true → AreAllowed (legs_over D legs) (multipliers_from D ms 1 (legs_over D legs))
are_allowed limit D legs ms one legs_are ms_are h =
    allowed_from limit D legs 1 ms one legs_are ms_are (all_hold (keeps_within limit legs) (KeepsWithin limit legs 1) (λ m keeps le. keeps) ms h)

-- a split that the walk takes is of a long leg without a sign
is_long : (exposure : Exposure) (sign : Sign) → is_unsigned exposure sign ≡ true → (exposure ≡ Long) × (sign ≡ Unsigned)
is_long Long Unsigned h = (refl, refl)
is_long Long Plus h = cc
is_long Long Minus h = cc
is_long Short sign h = cc

pub unsigned_long : (D : ℕ) (legs : List FractionLeg) (signs : List Sign) (i : ℕ) → passes_at is_unsigned legs signs i ≡ true → IsUnsignedLong (legs_over D legs) signs i
unsigned_long D [] signs i h = cc
unsigned_long D (leg ∷ legs) [] i h = cc
unsigned_long D (leg ∷ legs) (sign ∷ signs) zero h = is_long leg.exposure sign h
unsigned_long D (leg ∷ legs) (sign ∷ signs) (suc i) h = unsigned_long D legs signs i h
