-- A loop that takes a step for each item: over values of the code, of which f says what they stand
-- for.
use Rattle.std.proofs.Common.{◌≡◌, List, [], ◌∷◌, Bool, true, false, Result, Ok, Err, refl, ap, sym, ◌∙◌, inl, inr, ◌⊎◌}
use Rattle.std.specs.Prelude.{IsErrAnd}
use Rattle.std.proofs.lemmas.Result.{err_from_is_err_and}
use Rattle.exact_num.specs.declared.misfit.Wide.{Wide}
use Rattle.exact_num.specs.Fits.{meaning}
use Rattle.exact_num.specs.Steps.{fold_steps, and_then}
use Rattle.exact_num.proofs.After.{after_ok, after_err}

-- a step that fits: what was left goes on from its value with the items after it
pub goes_on : {A S T : Type 0} (f : T → S) (step : S → A → Result S Wide) (total sum : T) (r : Result T Wide) (all : Result S Wide) (left : List A) (x : A) (rest : List A)
    → left ≡ x ∷ rest → all ≡ fold_steps step (f total) left → meaning f r ≡ step (f total) x → r ≡ Ok sum
    → all ≡ fold_steps step (f sum) rest
goes_on f step total sum r all left x rest first is m ok =
    is ∙ ap (fold_steps step (f total)) first ∙ after_ok f (λ next. fold_steps step next rest) r _ sum m ok

-- a step that does not fit: the whole is its misfit, and so is the answer
pub stop_at : {A S T : Type 0} (f : T → S) (step : S → A → Result S Wide) (total : T) (r : Result T Wide) (all : Result S Wide) (left : List A) (x : A) (rest : List A) (w : Wide)
    → left ≡ x ∷ rest → all ≡ fold_steps step (f total) left → meaning f r ≡ step (f total) x → r ≡ Err w → all ≡ Err w
stop_at f step total r all left x rest w first is m err = is ∙ ap (fold_steps step (f total)) first ∙ after_err f (λ next. fold_steps step next rest) r _ w m err

pub stops : {A S T : Type 0} (f : T → S) (step : S → A → Result S Wide) (total : T) (r answer : Result T Wide) (all : Result S Wide) (left : List A) (x : A) (rest : List A) (w : Wide)
    → left ≡ x ∷ rest → all ≡ fold_steps step (f total) left → meaning f r ≡ step (f total) x → r ≡ Err w → IsErrAnd answer (λ v. v ≡ w)
    → meaning f answer ≡ all
stops f step total r answer all left x rest w first is m err says =
    let p = err_from_is_err_and answer says in
    rw (p.1, p.2) (sym (stop_at f step total r all left x rest w first is m err))

-- no item left: the total is the whole
pub ends : {A S T : Type 0} (f : T → S) (step : S → A → Result S Wide) (total : T) (all : Result S Wide) (left : List A)
    → left ≡ [] → all ≡ fold_steps step (f total) left → meaning f (Ok total) ≡ all
ends f step total all left none is = sym (is ∙ ap (fold_steps step (f total)) none)

-- ---- tests one after another
-- where the first holds, the second answers
pub first_holds : (first second r answer : Result Bool Wide) (b : Bool) → r ≡ first → r ≡ Ok b → b ≡ true → answer ≡ second → answer ≡ and_then first second
first_holds first second r answer b is ok held rest = rest ∙ sym (ap (λ x. and_then x second) (sym is ∙ ok ∙ ap (λ t. Ok t) held))

pub both : (first second : Result Bool Wide) → and_then first second ≡ Ok true → (first ≡ Ok true) × (second ≡ Ok true)
both (Ok true) second h = (refl, h)
both (Ok false) second h = cc
both (Err w) second h = cc

pub not_both : (first second : Result Bool Wide) → and_then first second ≡ Ok false → (first ≡ Ok false) ⊎ ((first ≡ Ok true) × (second ≡ Ok false))
not_both (Ok true) second h = inr (refl, h)
not_both (Ok false) second h = inl refl
not_both (Err w) second h = cc
