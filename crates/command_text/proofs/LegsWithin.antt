-- The legs that are read are those of a bundle within the limits.
use Rattle.std.proofs.Common.{◌≡◌, ℕ, suc, ◌+◌, ◌-◌, ◌≤◌, ◌≢◌, List, [], ◌∷◌, Bool, true, false, ◌&&◌, ◌==◌, if◌then◌else◌, length, take, drop, All, unsigned_abs, pos, neg_ℤ, Option, Some, None, refl, sym, ap, ◌∙◌, subst, arith, zero, ◌*◌, ◌/◌, ◌%◌, map}
use Rattle.std.proofs.lemmas.Bool.{and_parts, leb-true}
use Rattle.std.proofs.lemmas.Bool.Decides.{nat_tests}
use Rattle.std.proofs.lemmas.List.{length-take-le, length-drop}
use Rattle.std.proofs.lemmas.List.Elements.{All-nil, All-cons, All-take}
use Rattle.std.specs.Prelude.{nat_le}
use Rattle.form.specs.declared.limits.TheConstants.{MAX_COUNT, MAX_LEGS, MAX_OPTIONS, MAX_STRIKE}
use Rattle.command_text.specs.declared.asked.Fault.{Fault}
use Rattle.command_text.specs.declared.ranges.TheConstants.{LEG, COUNT, LEG_STRIKE}
use Rattle.command_text.specs.Asked.{text_of, either_fault, fault_in, value_in}
use Rattle.command_text.specs.Bundles.{legs_fault, legs_weightless, legs_size, fields_each, leg_fields, has_leg, leg_fault, leg_of, leg_at, fault_at, weightless_at, size_at, kind_fault, kind_or_call, first_of_four, four_legs_of, legs_of}
use Rattle.command_text.specs.Trades.{kind_in, weights_in, weightless}
use Rattle.command_text.specs.Within.{IsBundleOf}
use Rattle.form.specs.Between.{Between}
use Rattle.command_text.proofs.Bounds.{around_zero, size_within, none_both, asked_first, field_nonzero}
use Rattle.std.proofs.lemmas.List.Elements.{All-head, All-weaker}
use Rattle.std.proofs.lemmas.List.Sums.{sum-map, sum_by-take-le}
use Rattle.std.proofs.lemmas.Nat.{mul-le}
use Rattle.std.specs.List.{sum, sum_by}
use Rattle.form.specs.declared.legs.Leg.{Leg}
use Rattle.form.specs.BundleOf.{bundle_made, no_leg}
use Rattle.form.specs.Legs.{AreAlike, AreLegs, IsCounted}
use Rattle.form.specs.Limits.{IsListed}
use Rattle.form.specs.Payoff.{count_sizes, legs_in, option_of}
use Rattle.form.proofs.MadeBundles.{legs_in-bundle_made}
use Rattle.command_text.proofs.Listing.{IsSmall, entries_of, form_listed}
use Rattle.command_text.proofs.WeightsWithin.{no_weight, some_front, some_weight, weights_small}

-- a leg that a bundle may have, with so many weights
pub record IsLeg (weights : ℕ) (leg : Leg) : Type 0 where
  pub counts : leg.count ≢ pos 0
  pub count_within : unsigned_abs leg.count ≤ MAX_COUNT
  pub entries : leg.form.count ≡ weights + 1
  pub listed : IsListed (option_of leg.form)

slice_length : (size shift : ℕ) (fields : List (List ℕ)) → shift + size ≤ length fields → length (leg_fields size shift fields) ≡ size
slice_length size shift fields le = length-take-le size (drop shift fields) (omega (arith, le, length-drop shift fields))

leg_good : (size shift : ℕ) (fields : List (List ℕ)) → 4 ≤ size → size ≤ 11 → shift + size ≤ length fields → fault_at size shift fields ≡ None → weightless_at size shift fields ≡ None → IsLeg (size - 3) (leg_at size shift fields)
leg_good size shift fields few many le fault weight =
    let has : has_leg size shift fields ≡ true = grind (arith, nat_tests) in
    let leg = leg_fields size shift fields in
    let long : length leg ≡ size = slice_length size shift fields le in
    let wrong : leg_fault shift leg ≡ None = sym (ap (λ b. if b then leg_fault shift leg else None) has) ∙ fault in
    let weighted : weightless (shift + 4) (weights_in leg 4) ≡ None = sym (ap (λ b. if b then weightless (shift + 4) (weights_in leg 4) else None) has) ∙ weight in
    let numbers = (none_both (kind_fault (kind_in (text_of leg 2))) (fault_in shift (take (length leg - 1) LEG) leg) wrong).1 in
    let k : length leg - 1 ≡ suc (size - 2) = omega (arith, long) in
    let count = (asked_first shift COUNT leg (take (size - 2) (drop 1 LEG)) (sym (ap (λ m. fault_in shift (take m LEG) leg) k) ∙ numbers)).0 in
    let P : Leg → Type 0 = λ l. IsLeg (size - 3) l in
    let kind = kind_or_call (kind_in (text_of leg 2)) in
    let strike = value_in leg LEG_STRIKE in
    let weights = take (size - 3) (weights_in leg 4) in
    let sized : length weights ≡ size - 3 = length-take-le (size - 3) (weights_in leg 4) (omega arith) in
    let good : IsLeg (size - 3) (leg_of size leg) = record {
      counts = field_nonzero leg COUNT (shift + 1) refl count;
      count_within = size_within MAX_COUNT (neg_ℤ (pos MAX_COUNT)) (value_in leg COUNT) refl (around_zero leg COUNT (record { le = tt }) (record { le = tt }));
      entries = entries_of kind strike weights (omega (arith, sized)) (omega (arith, sized)) ∙ omega (arith, sized);
      listed = form_listed kind strike weights (omega (arith, sized))
          (size_within MAX_STRIKE (neg_ℤ (pos MAX_STRIKE)) strike refl (around_zero leg LEG_STRIKE (record { le = tt }) (record { le = tt })))
          (All-take IsSmall (size - 3) (weights_in leg 4) (weights_small leg 4))
          (some_front (weights_in leg 4) (size - 3) (omega arith) (λ n past. no_weight leg 4 n (omega (arith, past, few, long))) (some_weight (shift + 4) (weights_in leg 4) weighted));
    } in
    subst P (sym (ap (λ b. if b then leg_of size leg else no_leg) has)) good

four_none : (a b c d : Option Fault) → first_of_four a b c d ≡ None → (a ≡ None) × (b ≡ None) × (c ≡ None) × (d ≡ None)
four_none a b c d e =
    let first = none_both a (either_fault b (either_fault c d)) e in
    let second = none_both b (either_fault c d) first.1 in
    let third = none_both c d second.1 in
    (first.0, second.0, third.0, third.1)

some_if : (test : Bool) (q size : ℕ) → (if test then Some q else None) ≡ Some size → (test ≡ true) × (q ≡ size)
some_if true q size e = (refl, cc)
some_if false q size e = absurd (cc)

pub each_is : (rest legs size : ℕ) → fields_each rest legs ≡ Some size → ((rest % legs == 0) ≡ true) × (rest / legs ≡ size) × (4 ≤ size) × (size ≤ 11)
each_is rest legs size e =
    let q = rest / legs in
    let s = some_if ((rest % legs == 0) && (nat_le 4 q && nat_le q 11)) q size e in
    let one = and_parts (rest % legs == 0) (nat_le 4 q && nat_le q 11) s.0 in
    let two = and_parts (nat_le 4 q) (nat_le q 11) one.1 in
    (one.0, s.1, omega (arith, leb-true 4 q two.0, s.1), omega (arith, leb-true q 11 two.1, s.1))

zero_from : (n : ℕ) → (n == 0) ≡ true → n ≡ 0
zero_from n e = grind (arith, nat_tests)

legs_good : (legs size : ℕ) (fields : List (List ℕ)) → Between 1 4 legs → 7 ≤ length fields → fields_each (length fields - 7) legs ≡ Some size → legs_fault size fields ≡ None → legs_weightless size fields ≡ None
    → All (IsLeg (size - 3)) (take legs (four_legs_of size fields))
legs_good zero size fields b seven each fault weight = absurd (omega (arith, b.0))
legs_good (suc zero) size fields b seven each fault weight =
    let e = each_is (length fields - 7) 1 size each in
    let total : length fields ≡ 7 + size = omega (arith, e.1, seven) in
    let f = four_none (fault_at size 7 fields) (fault_at size (7 + size) fields) (fault_at size (7 + 2 * size) fields) (fault_at size (7 + 3 * size) fields) fault in
    let w = four_none (weightless_at size 7 fields) (weightless_at size (7 + size) fields) (weightless_at size (7 + 2 * size) fields) (weightless_at size (7 + 3 * size) fields) weight in
    let P = IsLeg (size - 3) in
    All-cons P (leg_at size 7 fields) [] (leg_good size 7 fields e.2 e.3 (omega (arith, total)) f.0 w.0) (All-nil P)
legs_good (suc (suc zero)) size fields b seven each fault weight =
    let e = each_is (length fields - 7) 2 size each in
    let even : (length fields - 7) % 2 ≡ 0 = zero_from _ e.0 in
    let total : length fields ≡ 7 + 2 * size = omega (arith, e.1, even, seven) in
    let f = four_none (fault_at size 7 fields) (fault_at size (7 + size) fields) (fault_at size (7 + 2 * size) fields) (fault_at size (7 + 3 * size) fields) fault in
    let w = four_none (weightless_at size 7 fields) (weightless_at size (7 + size) fields) (weightless_at size (7 + 2 * size) fields) (weightless_at size (7 + 3 * size) fields) weight in
    let P = IsLeg (size - 3) in
    All-cons P (leg_at size 7 fields) (leg_at size (7 + size) fields ∷ []) (leg_good size 7 fields e.2 e.3 (omega (arith, total)) f.0 w.0)
    (All-cons P (leg_at size (7 + size) fields) [] (leg_good size (7 + size) fields e.2 e.3 (omega (arith, total)) f.1 w.1) (All-nil P))
legs_good (suc (suc (suc zero))) size fields b seven each fault weight =
    let e = each_is (length fields - 7) 3 size each in
    let even : (length fields - 7) % 3 ≡ 0 = zero_from _ e.0 in
    let total : length fields ≡ 7 + 3 * size = omega (arith, e.1, even, seven) in
    let f = four_none (fault_at size 7 fields) (fault_at size (7 + size) fields) (fault_at size (7 + 2 * size) fields) (fault_at size (7 + 3 * size) fields) fault in
    let w = four_none (weightless_at size 7 fields) (weightless_at size (7 + size) fields) (weightless_at size (7 + 2 * size) fields) (weightless_at size (7 + 3 * size) fields) weight in
    let P = IsLeg (size - 3) in
    All-cons P (leg_at size 7 fields) (leg_at size (7 + size) fields ∷ leg_at size (7 + 2 * size) fields ∷ []) (leg_good size 7 fields e.2 e.3 (omega (arith, total)) f.0 w.0)
    (All-cons P (leg_at size (7 + size) fields) (leg_at size (7 + 2 * size) fields ∷ []) (leg_good size (7 + size) fields e.2 e.3 (omega (arith, total)) f.1 w.1)
    (All-cons P (leg_at size (7 + 2 * size) fields) [] (leg_good size (7 + 2 * size) fields e.2 e.3 (omega (arith, total)) f.2 w.2) (All-nil P)))
legs_good (suc (suc (suc (suc zero)))) size fields b seven each fault weight =
    let e = each_is (length fields - 7) 4 size each in
    let even : (length fields - 7) % 4 ≡ 0 = zero_from _ e.0 in
    let total : length fields ≡ 7 + 4 * size = omega (arith, e.1, even, seven) in
    let f = four_none (fault_at size 7 fields) (fault_at size (7 + size) fields) (fault_at size (7 + 2 * size) fields) (fault_at size (7 + 3 * size) fields) fault in
    let w = four_none (weightless_at size 7 fields) (weightless_at size (7 + size) fields) (weightless_at size (7 + 2 * size) fields) (weightless_at size (7 + 3 * size) fields) weight in
    let P = IsLeg (size - 3) in
    All-cons P (leg_at size 7 fields) (leg_at size (7 + size) fields ∷ leg_at size (7 + 2 * size) fields ∷ leg_at size (7 + 3 * size) fields ∷ []) (leg_good size 7 fields e.2 e.3 (omega (arith, total)) f.0 w.0)
    (All-cons P (leg_at size (7 + size) fields) (leg_at size (7 + 2 * size) fields ∷ leg_at size (7 + 3 * size) fields ∷ []) (leg_good size (7 + size) fields e.2 e.3 (omega (arith, total)) f.1 w.1)
    (All-cons P (leg_at size (7 + 2 * size) fields) (leg_at size (7 + 3 * size) fields ∷ []) (leg_good size (7 + 2 * size) fields e.2 e.3 (omega (arith, total)) f.2 w.2)
    (All-cons P (leg_at size (7 + 3 * size) fields) [] (leg_good size (7 + 3 * size) fields e.2 e.3 (omega (arith, total)) f.3 w.3) (All-nil P))))
legs_good (suc (suc (suc (suc (suc legs))))) size fields b seven each fault weight = absurd (omega (arith, b.1))

-- the sizes of the counts of legs
same_size : (size shift : ℕ) (fields : List (List ℕ)) → unsigned_abs (leg_at size shift fields).count ≡ size_at size shift fields
same_size size shift fields =
    let leg = leg_fields size shift fields in
    elim (has_leg size shift fields) as (λ b. unsigned_abs (if b then leg_of size leg else no_leg).count ≡ (if b then unsigned_abs (value_in leg COUNT) else 0)) [ true ↦ refl | false ↦ refl ]

abbrev count_size : Leg → ℕ
count_size leg = unsigned_abs leg.count

same_options : (size : ℕ) (fields : List (List ℕ)) → sum_by count_size (four_legs_of size fields) ≡ legs_size size fields
same_options size fields =
    omega (arith, same_size size 7 fields, same_size size (7 + size) fields, same_size size (7 + 2 * size) fields, same_size size (7 + 3 * size) fields)

-- ---- the bundle
alike : (weights : ℕ) (legs : List Leg) → All (IsLeg weights) legs → AreAlike legs
alike weights [] good = All-nil (λ (leg : Leg). leg.form.count ≡ 0)
alike weights (leg ∷ legs) good =
    let first = All-head (IsLeg weights) leg legs good in
    All-weaker (IsLeg weights) (λ (other : Leg). other.form.count ≡ leg.form.count) (λ other is. is.entries ∙ sym first.entries) (leg ∷ legs) good

module _ (legs size : ℕ) (fields : List (List ℕ)) (between : Between 1 MAX_LEGS legs) (seven : 7 ≤ length fields) (each : fields_each (length fields - 7) legs ≡ Some size) (fault : legs_fault size fields ≡ None) (weight : legs_weightless size fields ≡ None) where
  good : All (IsLeg (size - 3)) (legs_of legs size fields)
  good = legs_good legs size fields between seven each fault weight

  pub legs_are : AreLegs (legs_of legs size fields)
  legs_are =
      let long = length-take-le legs (four_legs_of size fields) between.1 in
      record {
        some = omega (arith, long, between.0);
        few = omega (arith, long, between.1);
        counted = All-weaker (IsLeg (size - 3)) IsCounted (λ leg is. (is.counts, is.count_within)) (legs_of legs size fields) good;
      }

  pub legs_alike : AreAlike (legs_of legs size fields)
  legs_alike = alike (size - 3) (legs_of legs size fields) good

  pub bundle_is_within : (quantity : ℕ) → quantity * legs_size size fields ≤ MAX_OPTIONS → IsBundleOf quantity (bundle_made (legs_of legs size fields))
  bundle_is_within quantity few =
      let read = legs_of legs size fields in
      let is : legs_in (bundle_made read) ≡ read = legs_in-bundle_made read legs_are in
      let options : count_sizes (bundle_made read) ≡ sum_by count_size read = ap (λ l. sum (map count_size l)) is ∙ sum-map count_size read in
      let most = sum_by-take-le count_size (four_legs_of size fields) legs in
      let fewer = mul-le quantity (count_sizes (bundle_made read)) quantity (legs_size size fields) (omega arith) (omega (arith, options, most, same_options size fields)) in
      record {
        options = subst (All (λ (leg : Leg). IsListed (option_of leg.form))) (sym is) (All-weaker (IsLeg (size - 3)) (λ (leg : Leg). IsListed (option_of leg.form)) (λ leg good. good.listed) read good);
        limited = omega (arith, fewer, few);
      }
