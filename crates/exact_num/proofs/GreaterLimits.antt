-- Whole steps with a greater limit: where the first gives a value, the second gives the same.
use Rattle.std.proofs.Common.{◌≡◌, ℕ, ◌≤◌, ℤ}
use Rattle.std.specs.Prelude.{Result, Ok}
use Rattle.exact_num.specs.declared.misfit.Wide.{Wide}
use Rattle.exact_num.specs.Fraction.{Fraction}
use Rattle.exact_num.specs.Fits.{add_of, mul_of, whole_of, after}
use Rattle.exact_num.proofs.After.{after_more}
use Rattle.exact_num.proofs.GreaterLimit.{add_more, mul_more, whole_more}

abbrev pub Agree : {A : Type 0} → Result A Wide → Result A Wide → Type 0
Agree {A} r r' = (s : A) → r ≡ Ok s → r' ≡ Ok s

pub same : {A : Type 0} (r : Result A Wide) → Agree r r
same r s h = h

pub both : {A B : Type 0} (r r' : Result A Wide) (f f' : A → Result B Wide) → Agree r r' → ((a : A) → Agree (f a) (f' a)) → Agree (after r f) (after r' f')
both r r' f f' h k s e = after_more r r' f f' s h k e

pub whole_agrees : (l l' : ℕ) → l ≤ l' → (v : ℤ) → Agree (whole_of l v) (whole_of l' v)
whole_agrees l l' le v s h = whole_more l l' v s le h

pub add_agrees : (l l' : ℕ) → l ≤ l' → (x y : Fraction) → Agree (add_of l x y) (add_of l' x y)
add_agrees l l' le x y s h = add_more l l' x y s le h

pub mul_agrees : (l l' : ℕ) → l ≤ l' → (x y : Fraction) → Agree (mul_of l x y) (mul_of l' x y)
mul_agrees l l' le x y s h = mul_more l l' x y s le h
