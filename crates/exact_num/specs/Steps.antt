-- Steps one after another, each of which may not fit.
use Rattle.std.specs.Prelude.{ℕ, List, [], ◌∷◌, Bool, true, false, if◌then◌else◌, Option, None, Result, Ok}
use Rattle.exact_num.specs.declared.misfit.Wide.{Wide}
use Rattle.exact_num.specs.Fraction.{Fraction, negated}
use Rattle.exact_num.specs.Fits.{add_of, sub_of, mul_of, product_fits, product_value, sum_within, after}

-- a step for each item of a list, in order
abbrev pub fold_steps : {A T : Type 0} → (T → A → Result T Wide) → T → List A → Result T Wide
fold_steps step total [] = Ok total
fold_steps step total (x ∷ xs) = after (step total x) (λ next. fold_steps step next xs)

-- the second test where the first holds
abbrev pub and_then : Result Bool Wide → Result Bool Wide → Result Bool Wide
and_then first second = after first (λ holds. if holds then second else Ok false)

-- whether the test holds of each item: the first that fails, or that does not fit, decides
abbrev pub all_of : {A : Type 0} → (A → Result Bool Wide) → List A → Result Bool Wide
all_of test [] = Ok true
all_of test (x ∷ xs) = and_then (test x) (all_of test xs)

-- the total and the product of a and b
abbrev pub plus_product : ℕ → Fraction → Fraction → Fraction → Result Fraction Wide
plus_product limit total a b = after (mul_of limit a b) (λ p. add_of limit total p)

-- the total less that product
abbrev pub less_product : ℕ → Fraction → Fraction → Fraction → Result Fraction Wide
less_product limit total a b = after (mul_of limit a b) (λ p. sub_of limit total p)

-- the same, where both steps fit
abbrev pub less_product_within : ℕ → Fraction → Fraction → Fraction → Option Fraction
less_product_within limit total a b = if product_fits limit a b then sum_within limit total (negated (product_value a b)) else None
