use Rattle.std.proofs.Common.{◌≡◌, ℕ, Bool, true, false}
use Rattle.std.specs.Prelude.{Option, Some, None, Result, Ok, Err, if◌then◌else◌, unsigned_abs}
use Rattle.exact_num.specs.declared.misfit.Wide.{Wide}
use Rattle.exact_num.specs.declared.misfit.Operator.TheVariants.{Add, Mul}
use Rattle.exact_num.specs.Fraction.{Fraction, negated}
use Rattle.exact_num.specs.Fits.{add_of, sub_of, mul_of, product_fits, product_value, sum_fits, sum_value, sum_within, misfit, after}
use Rattle.exact_num.specs.Steps.{less_product, less_product_within}
use Rattle.exact_num.proofs.Answered.{some_answers}
use Rattle.exact_num.proofs.number.Exact.less_product.Goals as goal

some_after : (b : Bool) (p v : Fraction) (m : Wide) (second : Option Fraction) (next : Fraction → Result Fraction Wide) → (Some v ≡ second → Ok v ≡ next p)
    → Some v ≡ (if b then second else None) → Ok v ≡ after (if b then Ok p else Err m) next
some_after true p v m second next answers h = answers h
some_after false p v m second next answers h = cc

answers : (limit : ℕ) (x a b v : Fraction) → Some v ≡ less_product_within limit x a b → Ok v ≡ less_product limit x a b
unfolding mul_of add_of
answers limit x a b v =
    let opposite = negated (product_value a b) in
    some_after (product_fits limit a b) (product_value a b) v (misfit Mul a b) (sum_within limit x opposite) (λ p. sub_of limit x p)
    (some_answers (sum_fits limit x opposite) v (sum_value x opposite) (misfit Add x opposite))

pub returns-in-Some : goal.returns-in-Some
returns-in-Some g c = answers (unsigned_abs g.Self.Exact.LIMIT) _ _ _ _ c.in-Some.ensures
