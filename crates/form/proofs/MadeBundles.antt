-- The bundle that is made of legs.
use Rattle.std.proofs.Common.{◌≡◌, Bool, true, false, not, List, length, map, get_or, pos, unsigned_abs, refl, sym, ap, ◌∙◌}
use Rattle.std.specs.Ordering.{int_eq}
use Rattle.std.proofs.lemmas.Bool.{and_from, le-leb}
use Rattle.std.proofs.lemmas.Bool.Decides.{Decides-int_eq}
use Rattle.std.proofs.lemmas.List.Sums.{list_all-from_AllPass}
use Rattle.form.specs.declared.forms.Form.{Form}
use Rattle.form.specs.declared.legs.Leg.{Leg}
use Rattle.form.specs.declared.bundles.Bundle.{Bundle}
use Rattle.form.specs.declared.limits.TheConstants.{MAX_COUNT, MAX_LEGS}
use Rattle.form.specs.Bundles.{leg_of, legs_in, IsCounted, AreLegs}
use Rattle.form.specs.BundleOf.{bundle_one, bundle_made, made_or_one, four_front, is_counted, are_legs, one_leg}
use Rattle.form.proofs.SameBundle.{bundle_is_legs}

pub legs_in-bundle_one : (form : Form) → legs_in (bundle_one form) ≡ one_leg form
unfolding bundle_one
legs_in-bundle_one form = four_front (one_leg form)

-- a bundle with just this leg is the one that a form makes
pub bundle_is_one : (b : Bundle) (form : Form) → legs_in b ≡ one_leg form → b ≡ bundle_one form
bundle_is_one b form e = bundle_is_legs b (bundle_one form) (ap (map leg_of) (e ∙ sym (legs_in-bundle_one form)))

is_counted-true : (leg : Leg) → IsCounted leg → is_counted leg ≡ true
is_counted-true leg h = and_from _ _ (not_zero (int_eq leg.count (pos 0)) refl) (le-leb (unsigned_abs leg.count) MAX_COUNT h.1)
  where
    not_zero : (b : Bool) → int_eq leg.count (pos 0) ≡ b → not b ≡ true
    not_zero true e = absurd (h.0 ((Decides-int_eq leg.count (pos 0)).0 e))
    not_zero false e = refl

pub are_legs-true : (legs : List Leg) → AreLegs legs → are_legs legs ≡ true
are_legs-true legs h =
    let sizes = and_from _ _ (le-leb 1 (length legs) h.some) (le-leb (length legs) MAX_LEGS h.few) in
    let counted = list_all-from_AllPass is_counted legs (λ k d lt. is_counted-true (get_or legs k d) (h.counted k d lt)) in
    and_from _ _ sizes counted

made_is : (legs : List Leg) (b : Bool) (e : are_legs legs ≡ b) → b ≡ true → legs_in (made_or_one legs b e) ≡ legs
made_is legs true e t = four_front legs
made_is legs false e t = cc

-- legs of a bundle are those of the bundle that is made of them
pub legs_in-bundle_made : (legs : List Leg) → AreLegs legs → legs_in (bundle_made legs) ≡ legs
unfolding bundle_made
legs_in-bundle_made legs h = made_is legs (are_legs legs) refl (are_legs-true legs h)

pub bundle_is_made : (b : Bundle) (legs : List Leg) → AreLegs legs → legs_in b ≡ legs → b ≡ bundle_made legs
bundle_is_made b legs h e = bundle_is_legs b (bundle_made legs) (ap (map leg_of) (e ∙ sym (legs_in-bundle_made legs h)))
