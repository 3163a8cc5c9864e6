-- The steps of a row: what they give, and which that does not fit is told.
use Rattle.std.proofs.Common.{◌≡◌, ℕ, suc, ◌+◌, ◌<◌, ◌≤◌, List, [], ◌∷◌, length, arith, refl, sym, ◌∙◌, ap, subst, Bool, true, false}
use Rattle.std.specs.Prelude.{Result, Ok, Err, if◌then◌else◌, nat_lt}
use Rattle.std.proofs.lemmas.Bool.Decides.{nat_tests}
use Rattle.exact_num.specs.declared.misfit.Wide.{Wide}
use Rattle.exact_num.specs.Fraction.{Fraction}
use Rattle.simplex_run.specs.Places.{at}
use Rattle.simplex_run.specs.Table.{label_at}
use Rattle.simplex_run.specs.Pivot.{Stop, stop_of, beside, steps_of, told}
use Rattle.simplex_run.proofs.Listed.{by_first}

-- ---- what the steps give
pub record AreSteps (f : ℕ → Result Fraction Wide) (k : ℕ) (vs : List ℕ) (xs : List Fraction) : Type 0 where
  pub count : length xs ≡ length vs
  pub each_is : (i : ℕ) → i < length vs → f (k + i) ≡ Ok (at xs i)

-- or which of them is told
pub record IsStop (f : ℕ → Result Fraction Wide) (k : ℕ) (vs : List ℕ) (s : Stop) : Type 0 where
  pub place : ℕ
  pub inside : place < length vs
  pub labelled : s.label ≡ label_at vs place
  pub stops : f (k + place) ≡ Err s.wide
  pub least : (i : ℕ) (w : Wide) → i < length vs → f (k + i) ≡ Err w → s.label ≤ label_at vs i

abbrev pub Outcome : (ℕ → Result Fraction Wide) → ℕ → List ℕ → Result (List Fraction) Stop → Type 0
Outcome f k vs (Ok xs) = AreSteps f k vs xs
Outcome f k vs (Err s) = IsStop f k vs s

both : {A : Type 0} (r : Result A Wide) (a : A) (w : Wide) → r ≡ Ok a → r ≡ Err w → ⊥
both r a w h k = cc

pub steps_are : (f : ℕ → Result Fraction Wide) (k : ℕ) (vs : List ℕ) → Outcome f k vs (steps_of f k vs)
unfolding steps_of
steps_are f k [] = record { count = refl; each_is = λ i p. absurd (omega (arith, p)) }
steps_are f k (v ∷ vs) = step (f k) refl (steps_of f (k + 1) vs) (steps_are f (k + 1) vs)
  where
    here : k + 0 ≡ k
    here = omega arith

    next : (i : ℕ) → k + suc i ≡ k + 1 + i
    next i = omega arith

    first_least : (x : ℕ) (s : Stop) (w : Wide) → x ≤ v → ((i : ℕ) (w : Wide) → i < length vs → f (k + 1 + i) ≡ Err w → x ≤ label_at vs i) → (i : ℕ) → (w : Wide) → i < length (v ∷ vs) → f (k + i) ≡ Err w → x ≤ label_at (v ∷ vs) i
    first_least x s w low h = by_first (λ i. (w : Wide) → i < length (v ∷ vs) → f (k + i) ≡ Err w → x ≤ label_at (v ∷ vs) i) (λ w p q. low) (λ i w p q. h i w (omega (arith, p)) (ap f (sym (next i)) ∙ q))

    choose : (w : Wide) → f k ≡ Err w → (s : Stop) → IsStop f (k + 1) vs s → (b : Bool) → nat_lt s.label v ≡ b → IsStop f k (v ∷ vs) (if b then s else stop_of v w)
    choose w t s o true u =
        let less : s.label < v = grind (arith, nat_tests) in
        record {
          place = suc o.place;
          inside = (let p = o.inside in omega (arith, p));
          labelled = o.labelled;
          stops = ap f (next o.place) ∙ o.stops;
          least = first_least s.label s w (omega (arith, less)) o.least;
        }
    choose w t s o false u =
        let more : v ≤ s.label = grind (arith, nat_tests) in
        record {
          place = 0;
          inside = omega arith;
          labelled = refl;
          stops = ap f here ∙ t;
          least = first_least v s w (omega arith) (λ i x p q. let l = o.least i x p q in omega (arith, l, more));
        }

    step : (r : Result Fraction Wide) → f k ≡ r → (rs : Result (List Fraction) Stop) → Outcome f (k + 1) vs rs → Outcome f k (v ∷ vs) (beside v r rs)
    step (Ok x) t (Ok xs) o =
        record {
          count = ap suc o.count;
          each_is = by_first (λ i. i < length (v ∷ vs) → f (k + i) ≡ Ok (at (x ∷ xs) i)) (λ p. ap f here ∙ t) (λ i p. ap f (next i) ∙ o.each_is i (omega (arith, p)));
        }
    step (Ok x) t (Err s) o =
        record {
          place = suc o.place;
          inside = (let p = o.inside in omega (arith, p));
          labelled = o.labelled;
          stops = ap f (next o.place) ∙ o.stops;
          least = by_first (λ i. (w : Wide) → i < length (v ∷ vs) → f (k + i) ≡ Err w → s.label ≤ label_at (v ∷ vs) i) (λ w p q. absurd (both (f k) x w t (ap f (sym here) ∙ q))) (λ i w p q. o.least i w (omega (arith, p)) (ap f (sym (next i)) ∙ q));
        }
    step (Err w) t (Ok xs) o =
        record {
          place = 0;
          inside = omega arith;
          labelled = refl;
          stops = ap f here ∙ t;
          least = first_least v (stop_of v w) w (omega arith) (λ i x p q. absurd (both (f (k + 1 + i)) (at xs i) x (o.each_is i p) q));
        }
    step (Err w) t (Err s) o = choose w t s o (nat_lt s.label v) refl

-- steps that all fit
steps_fit : (f : ℕ → Result Fraction Wide) (k : ℕ) (vs : List ℕ) (xs : List Fraction) → length xs ≡ length vs → ((i : ℕ) → i < length vs → f (k + i) ≡ Ok (at xs i)) → steps_of f k vs ≡ Ok xs
unfolding steps_of
steps_fit f k [] [] w h = refl
steps_fit f k [] (x ∷ xs) w h = absurd (omega (arith, w))
steps_fit f k (v ∷ vs) [] w h = absurd (omega (arith, w))
steps_fit f k (v ∷ vs) (x ∷ xs) w h =
    let zero_on : k ≡ k + 0 = omega arith in
    let next : (i : ℕ) → k + 1 + i ≡ k + suc i = λ i. omega arith in
    let here : f k ≡ Ok x = ap f zero_on ∙ h 0 (omega arith) in
    let later = steps_fit f (k + 1) vs xs (omega (arith, w)) (λ i p. ap f (next i) ∙ h (suc i) (omega (arith, p))) in
    rw (here, later) refl

pub steps_told : (f : ℕ → Result Fraction Wide) (vs : List ℕ) (xs : List Fraction) → length xs ≡ length vs → ((i : ℕ) → i < length vs → f i ≡ Ok (at xs i)) → told (steps_of f 0 vs) ≡ Ok xs
steps_told f vs xs w h =
    let on : (i : ℕ) → 0 + i ≡ i = λ i. omega arith in
    ap told (steps_fit f 0 vs xs w (λ i p. ap f (on i) ∙ h i p))

-- the steps of a row that fit
pub told_steps : (f : ℕ → Result Fraction Wide) (vs : List ℕ) (xs : List Fraction) → told (steps_of f 0 vs) ≡ Ok xs → (length xs ≡ length vs) × ((k : ℕ) → k < length vs → f k ≡ Ok (at xs k))
told_steps f vs xs h = step (steps_of f 0 vs) (steps_are f 0 vs) h
  where
    step : (rs : Result (List Fraction) Stop) → Outcome f 0 vs rs → told rs ≡ Ok xs → (length xs ≡ length vs) × ((k : ℕ) → k < length vs → f k ≡ Ok (at xs k))
    step (Ok ys) o q =
        let e : ys ≡ xs = cc in
        let on : (k : ℕ) → 0 + k ≡ k = λ k. omega arith in
        subst (λ (zs : List Fraction). (length zs ≡ length vs) × ((k : ℕ) → k < length vs → f k ≡ Ok (at zs k))) e (o.count, λ k p. ap f (sym (on k)) ∙ o.each_is k p)
    step (Err s) o q = cc

-- with other steps that fit where these do
pub steps_more : (f g : ℕ → Result Fraction Wide) → ((k : ℕ) (x : Fraction) → f k ≡ Ok x → g k ≡ Ok x) → (vs : List ℕ) (xs : List Fraction) → told (steps_of f 0 vs) ≡ Ok xs → told (steps_of g 0 vs) ≡ Ok xs
steps_more f g h vs xs k = let o = told_steps f vs xs k in steps_told g vs xs o.0 (λ i p. h i (at xs i) (o.1 i p))
