-- The walk over a written tree, each step with a limit. A tree is closed where the walk ends with
-- the lists, and open where it fails before a step does not fit.
use Rattle.std.specs.Prelude.{ℕ, zero, suc, ◌+◌, ◌-◌, ◌==◌, nat_le, nat_lt, Bool, true, false, ◌&&◌, not, if◌then◌else◌, List, [], ◌∷◌, length, take, drop, get_or, replicate, slice_set, ℤ, pos, Result, Ok}
use Rattle.std.specs.List.{list_all}
use Rattle.exact_num.specs.declared.misfit.Wide.{Wide}
use Rattle.exact_num.specs.Fraction.{Fraction, whole}
use Rattle.exact_num.specs.Fits.{sub_of, after}
use Rattle.exact_num.specs.Tests.{is_at_most, is_above_zero, is_not_below_zero}
use Rattle.exact_num.specs.Steps.{fold_steps, and_then, all_of, plus_product, less_product}
use Rattle.form.specs.Payoff.{positive_part}
use Rattle.clearing_model.specs.Legs.{Exposure, Long, Short}
use Rattle.clearing_model.specs.Tree.{Sign, Unsigned, Plus, Minus}
use Rattle.clearing_model.specs.Written.{WrittenNode, SplitNode, LeafNode, PlacedMultiplier}
pub use Rattle.sign_tree.specs.Legs.{FractionLeg, fraction_legs, leg_fill}

-- ---- the form of a node
-- whether the leg is long and has no sign, and whether it may carry a multiplier
abbrev pub is_unsigned : Exposure → Sign → Bool
is_unsigned Long Unsigned = true
is_unsigned Long Plus = false
is_unsigned Long Minus = false
is_unsigned Short sign = false

abbrev pub carries : Exposure → Sign → Bool
carries exposure sign = not (is_unsigned exposure sign)

-- whether there is a leg at the index that passes the test
abbrev pub passes_at : (Exposure → Sign → Bool) → List FractionLeg → List Sign → ℕ → Bool
passes_at test [] signs i = false
passes_at test (leg ∷ legs) [] i = false
passes_at test (leg ∷ legs) (sign ∷ signs) zero = test leg.exposure sign
passes_at test (leg ∷ legs) (sign ∷ signs) (suc i) = passes_at test legs signs i

-- the same of a place, which counts the legs from 1
abbrev pub passes : (Exposure → Sign → Bool) → List FractionLeg → List Sign → ℕ → Bool
passes test legs signs place = nat_le 1 place && passes_at test legs signs (place - 1)

abbrev pub may_split : List FractionLeg → List Sign → ℕ → Bool
may_split legs signs place = passes is_unsigned legs signs place

abbrev pub may_carry : List FractionLeg → List Sign → PlacedMultiplier → Bool
may_carry legs signs m = passes carries legs signs m.place

-- whether the places rise strictly, the first past the place `last`
abbrev pub places_rise : ℕ → List PlacedMultiplier → Bool
places_rise last [] = true
places_rise last (m ∷ ms) = nat_lt last m.place && places_rise m.place ms

abbrev pub has_no_minus : PlacedMultiplier → Bool
has_no_minus m = is_not_below_zero m.by

abbrev pub are_placed : List FractionLeg → List Sign → List PlacedMultiplier → Bool
are_placed legs signs ms = places_rise 0 ms && (list_all (may_carry legs signs) ms && list_all has_no_minus ms)

-- whether the multiplier of a short leg is at most the leg's fill
abbrev pub is_within : ℕ → Exposure → FractionLeg → Fraction → Result Bool Wide
is_within limit Long leg by = Ok true
is_within limit Short leg by = after (leg_fill limit leg) (λ fill. Ok (is_at_most by fill))

abbrev pub is_within_at : ℕ → List FractionLeg → ℕ → Fraction → Result Bool Wide
is_within_at limit [] i by = Ok true
is_within_at limit (leg ∷ legs) zero by = is_within limit leg.exposure leg by
is_within_at limit (leg ∷ legs) (suc i) by = is_within_at limit legs i by

abbrev pub keeps_within : ℕ → List FractionLeg → PlacedMultiplier → Result Bool Wide
keeps_within limit legs m = is_within_at limit legs (m.place - 1) m.by

-- ---- the sums of a leaf
-- the multiplier of the place, where it comes first, and else 0; and those that are left after it
abbrev pub first_at : ℕ → List PlacedMultiplier → Fraction
first_at place [] = whole (pos 0)
first_at place (m ∷ ms) = if m.place == place then m.by else whole (pos 0)

abbrev pub left_after : ℕ → List PlacedMultiplier → List PlacedMultiplier
left_after place [] = []
left_after place (m ∷ ms) = if m.place == place then ms else m ∷ ms

-- a leg with its sign and its multiplier
pub record SignedLeg : Type 0 where
  pub leg : FractionLeg
  pub sign : Sign
  pub by : Fraction

-- the legs in order of place, the first of which has this place
abbrev pub signed_legs : ℕ → List FractionLeg → List Sign → List PlacedMultiplier → List SignedLeg
signed_legs place [] signs ms = []
signed_legs place (leg ∷ legs) [] ms = []
signed_legs place (leg ∷ legs) (sign ∷ signs) ms =
    record { leg = leg; sign = sign; by = first_at place ms } ∷ signed_legs (place + 1) legs signs (left_after place ms)

-- the total and the product of the fill and x
abbrev pub plus_filled : ℕ → Fraction → Result Fraction Wide → ℤ → Result Fraction Wide
plus_filled limit total fill x = after fill (λ f. plus_product limit total f (whole x))

-- what a leg adds to the sum of an entry, x being its own entry
abbrev pub add_term : ℕ → Fraction → Exposure → Sign → Result Fraction Wide → Fraction → ℤ → Result Fraction Wide
add_term limit total Long Unsigned fill by x = plus_filled limit total fill (pos (positive_part x))
add_term limit total Long Plus fill by x = after (plus_filled limit total fill x) (λ sum. plus_product limit sum by (whole x))
add_term limit total Long Minus fill by x = less_product limit total by (whole x)
add_term limit total Short sign fill by x = less_product limit total by (whole x)

abbrev pub add_leg : ℕ → ℕ → Fraction → SignedLeg → Result Fraction Wide
add_leg limit i total signed =
    let leg = signed.leg in
    add_term limit total leg.exposure signed.sign (leg_fill limit leg) signed.by (get_or leg.option i (pos 0))

-- the liability is taken from entry 0
abbrev pub less_liability : ℕ → Fraction → ℕ → Fraction → Result Fraction Wide
less_liability limit L zero total = sub_of limit total L
less_liability limit L (suc i) total = Ok total

abbrev pub entry_sum : ℕ → List FractionLeg → Fraction → List Sign → List PlacedMultiplier → ℕ → Result Fraction Wide
entry_sum limit legs L signs ms i = after (fold_steps (add_leg limit i) (whole (pos 0)) (signed_legs 1 legs signs ms)) (less_liability limit L i)

-- whether none of so many entries from i on is above 0
abbrev pub entries_close : ℕ → List FractionLeg → Fraction → List Sign → List PlacedMultiplier → ℕ → ℕ → Result Bool Wide
entries_close limit legs L signs ms i zero = Ok true
entries_close limit legs L signs ms i (suc left) =
    after (entry_sum limit legs L signs ms i)
    (λ sum. if is_above_zero sum then Ok false else entries_close limit legs L signs ms (i + 1) left)

-- a leaf with these multipliers: they are placed, those of short legs are within the fills, and
-- none of the n + 1 entries is above 0
abbrev pub leaf_closes : ℕ → ℕ → List FractionLeg → Fraction → List Sign → List PlacedMultiplier → Result Bool Wide
leaf_closes limit n legs L signs ms =
    if are_placed legs signs ms
    then and_then (all_of (keeps_within limit legs) ms) (entries_close limit legs L signs ms 0 (n + 1))
    else Ok false

-- ---- the walk
-- the subtrees that are still to come have these signs, the next one first
abbrev pub walk : ℕ → ℕ → List FractionLeg → Fraction → List WrittenNode → List (List Sign) → List PlacedMultiplier → Result Bool Wide
walk limit n legs L [] [] [] = Ok true
walk limit n legs L [] [] (m ∷ ms) = Ok false
walk limit n legs L [] (signs ∷ pending) ms = Ok false
walk limit n legs L (node ∷ nodes) [] ms = Ok false
walk limit n legs L (SplitNode place ∷ nodes) (signs ∷ pending) ms =
    if may_split legs signs place
    then walk limit n legs L nodes (slice_set signs (place - 1) Plus ∷ slice_set signs (place - 1) Minus ∷ pending) ms
    else Ok false
walk limit n legs L (LeafNode count ∷ nodes) (signs ∷ pending) ms =
    if nat_le count (length ms)
    then and_then (leaf_closes limit n legs L signs (take count ms)) (walk limit n legs L nodes pending (drop count ms))
    else Ok false

-- the walk begins with no leg signed
abbrev pub closes_of : ℕ → ℕ → List FractionLeg → Fraction → List WrittenNode → List PlacedMultiplier → Result Bool Wide
closes_of limit n legs L nodes ms = walk limit n legs L nodes (replicate (length legs) Unsigned ∷ []) ms
