-- What tests of fractions and of lists say.
use Rattle.std.proofs.Common.{◌≡◌, ℕ, ◌≤◌, Bool, true, false, List, [], ◌∷◌, ℤ, All, Ok, Result, ap, inl, inr}
use Rattle.std.specs.Ordering.{is_eq}
use Rattle.std.proofs.lemmas.List.Elements.{All-cons, All-head, All-nil, All-tail}
use Rattle.arithmetic.proofs.Comparisons.{int_cmp_equal}
use Rattle.exact_num.specs.declared.misfit.Wide.{Wide}
use Rattle.exact_num.specs.Fraction.{Fraction, IsLowest, IsDefined, IsSameValue}
use Rattle.exact_num.specs.CommonDenominator.{IsRatio}
use Rattle.exact_num.specs.Steps.{all_of}
use Rattle.exact_num.specs.Tests.{is_same}
use Rattle.exact_num.proofs.Fractions.{same_from}
use Rattle.exact_num.proofs.Loops.{both, not_both}

-- equal values pass the test of equality, and so do two numbers that are x / D
pub same_passes : (a b : Fraction) → IsSameValue a b → is_same a b ≡ true
same_passes a b h = ap is_eq (int_cmp_equal _ _ h)

pub ratio_is_same : (a b : Fraction) (x : ℤ) (D : ℕ) → 1 ≤ D → IsRatio a x D → IsRatio b x D → is_same a b ≡ true
ratio_is_same a b x D one ra rb = same_passes a b (same_from a b x D one ra rb)

-- numbers in lowest terms have a value
pub lowest_are_defined : (fs : List Fraction) → All IsLowest fs → All IsDefined fs
lowest_are_defined fs low = λ k d lt. (low k d lt).positive

-- where the test decides a fact of each item, all tests decide it of all
pub all_hold : {A : Type 0} (test : A → Result Bool Wide) (P : A → Type 0) → ((x : A) → test x ≡ Ok true → P x) → (xs : List A) → all_of test xs ≡ Ok true → All P xs
all_hold test P holds [] h = All-nil P
all_hold test P holds (x ∷ xs) h =
    let parts = both (test x) (all_of test xs) h in
    All-cons P x xs (holds x parts.0) (all_hold test P holds xs parts.1)

pub not_all_hold : {A : Type 0} (test : A → Result Bool Wide) (P : A → Type 0) → ((x : A) → test x ≡ Ok false → P x → ⊥) → (xs : List A) → all_of test xs ≡ Ok false → All P xs → ⊥
not_all_hold test P fails [] h all = cc
not_all_hold test P fails (x ∷ xs) h all =
    elim (not_both (test x) (all_of test xs) h) [
      | inl here ↦ fails x here (All-head P x xs all)
      | inr there ↦ not_all_hold test P fails xs there.1 (All-tail P x xs all)
    ]
