-- One turn of a loop that builds a list step by step.
use Rattle.std.proofs.Common.{◌≡◌, ℕ, ◌+◌, ◌<◌, ◌≤◌, List, [], ◌∷◌, ◌++◌, length, get_or, map, drop, Result, Ok, Err, refl, sym, ap, ◌∙◌, append_assoc}
use Rattle.std.proofs.lemmas.List.{drop_all, map-append, append-nil}
use Rattle.arithmetic.proofs.Lists.{item_first}
use Rattle.exact_num.specs.declared.misfit.Wide.{Wide as Misfit}
use Rattle.exact_num.specs.Fraction.{Fraction}
use Rattle.exact_num.specs.Fits.{after, meaning}
use Rattle.master_program.specs.Master.{map_steps}
use Rattle.pricing_oracle.specs.Built.{list_then}

-- what follows a first value is added behind it
behind : (xs : List Fraction) (x : Fraction) (rest : Result (List Fraction) Misfit) → list_then xs (after rest (λ ys. Ok (x ∷ ys))) ≡ list_then (xs ++ (x ∷ [])) rest
behind xs x (Ok ys) = ap (λ (l : List Fraction). Ok l) (sym (append_assoc xs (x ∷ []) ys))
behind xs x (Err w) = refl

-- a first item whose value is added
pub adds : {A X : Type 0} (value : A → Fraction) (f : X → Result Fraction Misfit) (out new : List A) (o : X) (os : List X) (r : Result A Misfit) (x : A)
    → meaning value r ≡ f o → r ≡ Ok x → new ≡ out ++ (x ∷ [])
    → list_then (map value out) (map_steps f (o ∷ os)) ≡ list_then (map value new) (map_steps f os)
unfolding map_steps
adds value f out new o os r x m ok pushed =
    let rest = map_steps f os in
    ap (λ y. list_then (map value out) (after y (λ y. after rest (λ ys. Ok (y ∷ ys))))) (sym m ∙ ap (meaning value) ok)
    ∙ behind (map value out) (value x) rest
    ∙ ap (λ l. list_then l rest) (sym (ap (map value) pushed ∙ map-append value out (x ∷ [])))

-- and one that does not fit
pub stops_first : {A X : Type 0} (value : A → Fraction) (f : X → Result Fraction Misfit) (out : List Fraction) (o : X) (os : List X) (r : Result A Misfit) (w : Misfit)
    → meaning value r ≡ f o → r ≡ Err w → list_then out (map_steps f (o ∷ os)) ≡ Err w
unfolding map_steps
stops_first value f out o os r w m err =
    ap (λ y. list_then out (after y (λ y. after (map_steps f os) (λ ys. Ok (y ∷ ys))))) (sym m ∙ ap (meaning value) err)

-- a turn at the item at i that adds a value
pub goes_on : {A X : Type 0} (value : A → Fraction) (f : X → Result Fraction Misfit) (out new : List A) (os : List X) (i : ℕ) (o : X) (r : Result A Misfit) (x : A)
    → i < length os → o ≡ get_or os i o → meaning value r ≡ f o → r ≡ Ok x → new ≡ out ++ (x ∷ [])
    → list_then (map value out) (map_steps f (drop i os)) ≡ list_then (map value new) (map_steps f (drop (i + 1) os))
goes_on value f out new os i o r x low is m ok pushed =
    ap (λ (l : List _). list_then (map value out) (map_steps f l)) (item_first os i o low is) ∙ adds value f out new o (drop (i + 1) os) r x m ok pushed

-- a turn whose step does not fit
pub stops : {A X : Type 0} (value : A → Fraction) (f : X → Result Fraction Misfit) (out : List A) (os : List X) (i : ℕ) (o : X) (r : Result A Misfit) (w : Misfit)
    → i < length os → o ≡ get_or os i o → meaning value r ≡ f o → r ≡ Err w
    → list_then (map value out) (map_steps f (drop i os)) ≡ Err w
stops value f out os i o r w low is m err =
    ap (λ (l : List _). list_then (map value out) (map_steps f l)) (item_first os i o low is) ∙ stops_first value f (map value out) o (drop (i + 1) os) r w m err

-- after the last turn
pub ends : {X : Type 0} (f : X → Result Fraction Misfit) (xs : List Fraction) (os : List X) (i : ℕ) → length os ≤ i → list_then xs (map_steps f (drop i os)) ≡ Ok xs
unfolding map_steps
ends f xs os i high = ap (λ l. list_then xs (map_steps f l)) (drop_all i os high) ∙ ap (λ (l : List Fraction). Ok l) (append-nil xs)

pub none_left : {X : Type 0} (f : X → Result Fraction Misfit) (xs : List Fraction) → list_then xs (map_steps f []) ≡ Ok xs
unfolding map_steps
none_left f xs = ap (λ (l : List Fraction). Ok l) (append-nil xs)

-- a row whose first entries are steps that fit
pub row_written : (steps : Result (List Fraction) Misfit) (mid tail new : List Fraction) → list_then [] steps ≡ Ok mid → new ≡ mid ++ tail → list_then [] (after steps (λ xs. Ok (xs ++ tail))) ≡ Ok new
row_written (Ok xs) mid tail new h is =
    let same : xs ≡ mid = cc in
    rw (same, is) refl
row_written (Err w) mid tail new h is = cc
