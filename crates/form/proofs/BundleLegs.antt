-- What the legs of a bundle are.
use Rattle.std.proofs.Common.{◌≡◌, ℕ, zero, suc, ◌+◌, ◌≤◌, true, List, [], ◌∷◌, nat_eq, length, map, take, get_or, pos, refl, ◌∙◌, arith}
use Rattle.std.proofs.lemmas.Bool.Decides.{nat_tests}
use Rattle.std.proofs.lemmas.List.Elements.{All-map}
use Rattle.std.proofs.lemmas.List.Sums.{AllPass-from_list_all, list_all-from_AllPass}
use Rattle.form.specs.declared.legs.Leg.{Leg}
use Rattle.form.specs.declared.bundles.Bundle.{Bundle}
use Rattle.form.specs.declared.orders.Order.{Order}
use Rattle.form.specs.Vector.{BundleLeg, IsBundle}
use Rattle.form.specs.Bundles.{leg_of, legs_in, bundle_legs, IsOnCount, is_on_count, option_first, first_option}
use Rattle.form.specs.Payoff.{option_of, bundle_of}
use Rattle.form.proofs.Vectors.{length-option_of}
use Rattle.form.proofs.SameBundle.{length-bundle_legs}

-- the bundle of an order is that of its legs
pub bundle_of-legs : (o : Order) → bundle_of o ≡ bundle_legs o.bundle
unfolding bundle_of
bundle_of-legs o = refl

-- the test of the forms of a bundle decides whether each has so many entries
pub on_count-true : (n : ℕ) (b : Bundle) → IsOnCount n b → is_on_count n b ≡ true
on_count-true n b on = list_all-from_AllPass (λ (leg : Leg). nat_eq leg.form.count n) (legs_in b) (λ k d lt. let same = on k d lt in grind (arith, nat_tests, same))

pub on_count-from : (n : ℕ) (b : Bundle) → is_on_count n b ≡ true → IsOnCount n b
on_count-from n b e k d lt =
    let same = AllPass-from_list_all (λ (leg : Leg). nat_eq leg.form.count n) (legs_in b) e k d lt in
    grind (arith, nat_tests, same)

-- its legs are a bundle on as many underlyings
pub is_bundle : (n : ℕ) (b : Bundle) → IsOnCount (n + 1) b → IsBundle n (bundle_legs b)
is_bundle n b on = (
  omega (arith, length-bundle_legs b, b.size_in_range.0),
  omega (arith, length-bundle_legs b, b.size_in_range.1),
  All-map (λ (leg : BundleLeg). (leg.count ≡ pos 0 → ⊥) × (length leg.option ≡ n + 1)) leg_of (legs_in b) (λ k d lt. ((b.counted k d lt).0, length-option_of (get_or (legs_in b) k d).form ∙ on k d lt)),
)

pub is_bundle_of : (n : ℕ) (o : Order) → IsOnCount (n + 1) o.bundle → IsBundle n (bundle_of o)
unfolding bundle_of
is_bundle_of n o on = is_bundle n o.bundle on

-- the first option is that of the leg that stands first
pub first_option-is : (b : Bundle) (d : Leg) → first_option b ≡ option_of (get_or b.legs 0 d).form
first_option-is b d = first b.size b.legs (omega (arith, b.size_in_range.0)) (omega (arith, b.four_legs))
  where
    first : (n : ℕ) (legs : List Leg) → 1 ≤ n → 1 ≤ length legs → option_first (map leg_of (take n legs)) ≡ option_of (get_or legs 0 d).form
    first zero legs some size = absurd (omega arith)
    first (suc n) [] some size = absurd (omega arith)
    first (suc n) (leg ∷ legs) some size = refl
