-- Bundles that are equal, as `==` tests it.
use Rattle.std.proofs.Common.{◌≡◌, Bool, true, ◌&&◌, nat_eq, map, take, refl, sym, ap, subst, ◌∙◌, arith}
use Rattle.std.proofs.lemmas.Bool.Decides.{Decides-int_eq, nat_tests}
use Rattle.std.specs.Ordering.{int_eq}
use lib.Pointwise.{pointwise, pointwise_decides}
use Rattle.std.proofs.lemmas.Bool.{and_from, and_parts}
use Rattle.arithmetic.proofs.Tests.{both_so}
use Rattle.form.specs.declared.forms.Form.{Form}
use Rattle.form.specs.declared.legs.Leg.{Leg}
use Rattle.form.specs.declared.bundles.Bundle.{Bundle}
use Rattle.form.specs.Vector.{is_same_bundle}
use Rattle.form.specs.Bundles.{bundle_legs, leg_of}
use Rattle.form.specs.Payoff.{option_of}
use Rattle.form.proofs.SameForm.{form_is_option}
use Rattle.form.proofs.SameOption.{same_option_is, option_is_same, same_bundle_is, bundle_is_same, forms_equal}
use Rattle.form.proofs.SameBundle.{bundle_is_legs}

abbrev pub forms_test : Form → Form → Bool
forms_test a b = nat_eq a.count b.count && pointwise int_eq a.entries b.entries

abbrev pub legs_test : Leg → Leg → Bool
legs_test a b = int_eq a.count b.count && forms_test a.form b.form

forms_alike : (a b : Form) → forms_test a b ≡ true → a ≡ b
forms_alike a b h = form_is_option a b (same_option_is (option_of a) (option_of b) (sym (forms_equal a b) ∙ h))

form_itself : (a : Form) → forms_test a a ≡ true
form_itself a = forms_equal a a ∙ option_is_same (option_of a)

legs_alike : (a b : Leg) → legs_test a b ≡ true → a ≡ b
legs_alike a b h =
    let parts = and_parts (int_eq a.count b.count) (forms_test a.form b.form) h in
    let count : a.count ≡ b.count = (Decides-int_eq a.count b.count).0 parts.0 in
    let form : a.form ≡ b.form = forms_alike a.form b.form parts.1 in
    λ i. record { count = count i; form = form i }

leg_itself : (a : Leg) → legs_test a a ≡ true
leg_itself a = and_from _ _ ((Decides-int_eq a.count a.count).1 refl) (form_itself a.form)

legs_decide : (a b : Leg) → (legs_test a b ≡ true → a ≡ b) × (a ≡ b → legs_test a b ≡ true)
legs_decide a b = (legs_alike a b, λ e. subst (λ x. legs_test a x ≡ true) e (leg_itself a))

-- two bundles are equal, as `==` tests it, exactly where their legs are the same
pub bundles_equal : (a b : Bundle) → (nat_eq a.size b.size && pointwise legs_test a.legs b.legs) ≡ is_same_bundle (bundle_legs a) (bundle_legs b)
bundles_equal a b = both_so _ _ same alike
  where
    alike : is_same_bundle (bundle_legs a) (bundle_legs b) ≡ true → (nat_eq a.size b.size && pointwise legs_test a.legs b.legs) ≡ true
    alike h =
        let is : a ≡ b = bundle_is_legs a b (same_bundle_is (bundle_legs a) (bundle_legs b) h) in
        let sizes : nat_eq a.size b.size ≡ true = let e = ap (λ (x : Bundle). x.size) is in grind (arith, nat_tests) in
        and_from _ _ sizes ((pointwise_decides legs_decide a.legs b.legs).1 (ap (λ (x : Bundle). x.legs) is))

    same : (nat_eq a.size b.size && pointwise legs_test a.legs b.legs) ≡ true → is_same_bundle (bundle_legs a) (bundle_legs b) ≡ true
    same h =
        let parts = and_parts (nat_eq a.size b.size) (pointwise legs_test a.legs b.legs) h in
        let sizes : a.size ≡ b.size = grind (arith, nat_tests, parts.0) in
        let legs : a.legs ≡ b.legs = (pointwise_decides legs_decide a.legs b.legs).0 parts.1 in
        let is : bundle_legs a ≡ bundle_legs b = (λ i. map leg_of (take (sizes i) (legs i))) in
        subst (λ x. is_same_bundle (bundle_legs a) x ≡ true) is (bundle_is_same (bundle_legs a))
