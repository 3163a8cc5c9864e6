-- One step after another, each of which may not fit.
use Rattle.std.proofs.Common.{◌≡◌, Result, Ok, Err, refl}
use Rattle.exact_num.specs.declared.misfit.Wide.{Wide}
use Rattle.exact_num.specs.Fits.{after, meaning}

-- what follows a step, where a call answers its value or its misfit
pub after_ok : {T A B : Type 0} (f : T → A) (next : A → Result B Wide) (r : Result T Wide) (step : Result A Wide) (t : T) → meaning f r ≡ step → r ≡ Ok t → after step next ≡ next (f t)
after_ok f next r step t m is = rw (← m, is) refl

pub after_err : {T A B : Type 0} (f : T → A) (next : A → Result B Wide) (r : Result T Wide) (step : Result A Wide) (w : Wide) → meaning f r ≡ step → r ≡ Err w → after step next ≡ Err w
after_err f next r step w m is = rw (← m, is) refl

-- a whole that fits has a first step that fits, and what follows its value fits
pub record Follows {A B : Type 0} (r : Result A Wide) (next : A → Result B Wide) (b : B) : Type 0 where
  pub value : A
  pub first : r ≡ Ok value
  pub rest : next value ≡ Ok b

pub after_value : {A B : Type 0} (r : Result A Wide) (next : A → Result B Wide) (b : B) → after r next ≡ Ok b → Follows r next b
after_value (Ok a) next b h = record { value = a; first = refl; rest = h }
after_value (Err w) next b h = cc

-- both steps at another limit, say, that gives the same values where the first gives some
pub after_more : {A B : Type 0} (r r' : Result A Wide) (f f' : A → Result B Wide) (s : B) → ((a : A) → r ≡ Ok a → r' ≡ Ok a) → ((a : A) (b : B) → f a ≡ Ok b → f' a ≡ Ok b) → after r f ≡ Ok s → after r' f' ≡ Ok s
after_more r r' f f' s h k e =
    let w = after_value r f s e in
    let p = h w.value w.first in
    rw p (k w.value s w.rest)
