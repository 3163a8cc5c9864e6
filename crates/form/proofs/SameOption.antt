-- When two options or two bundles are the same, as a test answers it.
use Rattle.std.proofs.Common.{◌≡◌, true, ◌&&◌, List, [], ◌∷◌, nat_eq, take, ℤ, refl, ap, sym, subst, ◌∙◌, arith}
use Rattle.std.proofs.lemmas.Bool.Decides.{Decides-int_eq, nat_tests}
use Rattle.std.specs.Ordering.{int_eq}
use lib.Pointwise.{pointwise, pointwise_decides}
use Rattle.std.proofs.lemmas.Bool.{and_parts}
use Rattle.arithmetic.proofs.Tests.{both_so}
use Rattle.form.specs.Vector.{BundleLeg, is_same_option, is_same_bundle}
use Rattle.form.specs.declared.forms.Form.{Form}
use Rattle.form.specs.Payoff.{option_of}
use Rattle.form.proofs.Vectors.{forms_are_options}

pub same_option_is : (u v : List ℤ) → is_same_option u v ≡ true → u ≡ v
same_option_is [] [] h = refl
same_option_is [] (b ∷ v) h = cc
same_option_is (a ∷ u) [] h = cc
same_option_is (a ∷ u) (b ∷ v) h =
    let parts = and_parts (int_eq a b) (is_same_option u v) h in
    let first : a ≡ b = (Decides-int_eq a b).0 parts.0 in
    let rest : u ≡ v = same_option_is u v parts.1 in
    cc

pub option_is_same : (v : List ℤ) → is_same_option v v ≡ true
option_is_same [] = refl
option_is_same (a ∷ v) = rw ((Decides-int_eq a a).1 refl) (option_is_same v)

pub same_bundle_is : (a b : List BundleLeg) → is_same_bundle a b ≡ true → a ≡ b
same_bundle_is [] [] h = refl
same_bundle_is [] (leg ∷ legs) h = cc
same_bundle_is (leg ∷ legs) [] h = cc
same_bundle_is (a ∷ legs) (b ∷ others) h =
    let parts = and_parts (int_eq a.count b.count && is_same_option a.option b.option) (is_same_bundle legs others) h in
    let here = and_parts (int_eq a.count b.count) (is_same_option a.option b.option) parts.0 in
    let count : a.count ≡ b.count = (Decides-int_eq a.count b.count).0 here.0 in
    let option : a.option ≡ b.option = same_option_is a.option b.option here.1 in
    let rest : legs ≡ others = same_bundle_is legs others parts.1 in
    let P : ℤ → List ℤ → List BundleLeg → Type 0 = λ c v ls. a ∷ legs ≡ record { count = c; option = v } ∷ ls in
    subst (λ c. P c b.option others) count (subst (λ v. P a.count v others) option (subst (λ ls. P a.count a.option ls) rest refl))

pub bundle_is_same : (a : List BundleLeg) → is_same_bundle a a ≡ true
bundle_is_same [] = refl
bundle_is_same (leg ∷ legs) = rw ((Decides-int_eq leg.count leg.count).1 refl, option_is_same leg.option) (bundle_is_same legs)

-- two forms are equal, as `==` tests it, exactly where their options are the same
pub forms_equal : (a b : Form) → (nat_eq a.count b.count && pointwise int_eq a.entries b.entries) ≡ is_same_option (option_of a) (option_of b)
forms_equal a b = both_so _ _
    (λ h.
    let parts = and_parts (nat_eq a.count b.count) (pointwise int_eq a.entries b.entries) h in
    let counts : a.count ≡ b.count = grind (arith, nat_tests, parts.0) in
    let same : option_of a ≡ option_of b = (λ i. take (counts i) ((pointwise_decides Decides-int_eq a.entries b.entries).0 parts.1 i)) in
    ap (is_same_option (option_of a)) (sym same) ∙ option_is_same (option_of a))
    (λ h.
    let same = forms_are_options a b (same_option_is (option_of a) (option_of b) h) in
    let counts : nat_eq a.count b.count ≡ true = let e = same.0 in grind (arith, nat_tests) in
    rw counts ((pointwise_decides Decides-int_eq a.entries b.entries).1 same.1))
