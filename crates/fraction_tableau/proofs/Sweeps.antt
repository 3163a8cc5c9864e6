-- The steps of a row, taken at the places that are not 0.
use Rattle.std.proofs.Common.{◌≡◌, ℕ, zero, suc, ◌+◌, ◌<◌, ◌≤◌, List, [], ◌∷◌, ◌++◌, length, drop, set, true, false, Bool, refl, sym, ◌∙◌, ap, subst, arith, append_assoc, add-one}
use Rattle.std.proofs.lemmas.List.{drop_all, length-append}
use Rattle.std.proofs.lemmas.Bool.Decides.{nat_tests}
use Rattle.std.specs.Prelude.{Result, Ok, Err, slice_index_or, if◌then◌else◌, nat_lt}
use Rattle.exact_num.specs.declared.misfit.Wide.{Wide}
use Rattle.exact_num.specs.Fraction.{Fraction}
use Rattle.simplex_run.specs.Places.{at, fraction_zero}
use Rattle.simplex_run.specs.Table.{label_at}
use Rattle.simplex_run.specs.Pivot.{Stop, stop_of, beside, steps_of}
use Rattle.fraction_tableau.specs.Labels.{smaller_stop, least_stop}
use Rattle.fraction_tableau.specs.Nonzero.{is_zero, nonzero_from, nonzero_places}

-- ---- one place of a list
at_here : {A : Type 0} (front : List A) (i : ℕ) (x : A) (xs : List A) (d : A) → length front ≡ i → slice_index_or (front ++ x ∷ xs) i d ≡ x
at_here [] zero x xs d e = refl
at_here [] (suc i) x xs d e = absurd (omega (arith, e))
at_here (a ∷ front) zero x xs d e = absurd (omega (arith, e))
at_here (a ∷ front) (suc i) x xs d e = at_here front i x xs d (omega (arith, e))

set_here : {A : Type 0} (front : List A) (i : ℕ) (x y : A) (xs : List A) → length front ≡ i → set (front ++ x ∷ xs) i y ≡ (front ++ y ∷ []) ++ xs
set_here [] zero x y xs e = refl
set_here [] (suc i) x y xs e = absurd (omega (arith, e))
set_here (a ∷ front) zero x y xs e = absurd (omega (arith, e))
set_here (a ∷ front) (suc i) x y xs e = ap (λ zs. a ∷ zs) (set_here front i x y xs (omega (arith, e)))

one_longer : {A : Type 0} (front : List A) (i : ℕ) (x : A) → length front ≡ i → length (front ++ x ∷ []) ≡ i + 1
one_longer front i x e = omega (arith, length-append front (x ∷ []), e)

behind_at : (front : List Fraction) (i : ℕ) (x : Fraction) (xs : List Fraction) (k : ℕ) → length front ≡ i → at (front ++ x ∷ xs) (i + 1 + k) ≡ at xs k
behind_at [] i x xs k e = let one : i + 1 + k ≡ suc k = omega (arith, e) in rw one refl
behind_at (a ∷ front) zero x xs k e = absurd (omega (arith, e))
behind_at (a ∷ front) (suc i) x xs k e = let more : suc i + 1 + k ≡ suc (i + 1 + k) = omega arith in rw more (behind_at front i x xs k (omega (arith, e)))

-- ---- the steps at some places, one after another
abbrev on_step : Result Fraction Wide → (Fraction → Result (List Fraction) Stop) → (Wide → Stop) → Result (List Fraction) Stop
on_step (Ok y) next stop = next y
on_step (Err w) next stop = Err (stop w)

-- g gives what is made of the entry at a place
unfoldable pub steps_at : (ℕ → Fraction → Result Fraction Wide) → List ℕ → List ℕ → List Fraction → Result (List Fraction) Stop
steps_at g labels [] row = Ok row
steps_at g labels (k ∷ ks) row =
    on_step (g k (at row k)) (λ y. steps_at g labels ks (set row k y)) (λ w. least_stop (λ j. g j (at row j)) labels (stop_of (label_at labels k) w) ks)

abbrev behind_row : List Fraction → Result (List Fraction) Stop → Result (List Fraction) Stop
behind_row done (Ok xs) = Ok (done ++ xs)
behind_row done (Err s) = Err s

row_more : (done : List Fraction) (v : ℕ) (x : Fraction) (r : Result (List Fraction) Stop) → behind_row (done ++ x ∷ []) r ≡ behind_row done (beside v (Ok x) r)
row_more done v x (Ok xs) = ap Ok (append_assoc done (x ∷ []) xs)
row_more done v x (Err s) = refl

-- a stop, and one of later steps
abbrev joined : Stop → Result (List Fraction) Stop → Stop
joined s (Ok xs) = s
joined s (Err t) = if nat_lt t.label s.label then t else s

joined_first : (v : ℕ) (w : Wide) (r : Result (List Fraction) Stop) → beside v (Err w) r ≡ Err (joined (stop_of v w) r)
joined_first v w (Ok xs) = refl
joined_first v w (Err t) = refl

joined_passed : (s : Stop) (v : ℕ) (x : Fraction) (r : Result (List Fraction) Stop) → joined s r ≡ joined s (beside v (Ok x) r)
joined_passed s v x (Ok xs) = refl
joined_passed s v x (Err t) = refl

less_trans : (a b c : ℕ) → nat_lt a b ≡ true → nat_lt b c ≡ true → nat_lt a c ≡ true
less_trans a b c h k = grind (arith, nat_tests)

not_less : (a b c : ℕ) → nat_lt a b ≡ false → nat_lt b c ≡ false → nat_lt a c ≡ false
not_less a b c h k = grind (arith, nat_tests)

joined_more : (s : Stop) (v : ℕ) (q : Result Fraction Wide) (r : Result (List Fraction) Stop) → joined (smaller_stop v q s) r ≡ joined s (beside v q r)
joined_more s v (Ok x) r = joined_passed s v x r
joined_more s v (Err w) (Ok xs) = refl
joined_more s v (Err w) (Err t) = step (nat_lt v s.label) (nat_lt t.label v) refl refl
  where
    step : (a b : Bool) → nat_lt v s.label ≡ a → nat_lt t.label v ≡ b → joined (if a then stop_of v w else s) (Err t) ≡ joined s (Err (if b then t else stop_of v w))
    step true true p q = let test = less_trans t.label v s.label q p in rw (q, test) refl
    step true false p q = rw (q, p) refl
    step false true p q = refl
    step false false p q = let test = not_less t.label v s.label q p in rw (p, test) refl

-- the entries are not 0 only where those of ps are not: elsewhere a step leaves them
module _ (g : ℕ → Fraction → Result Fraction Wide) where
  stops_at : (F G : ℕ → Result Fraction Wide) (i : ℕ) (xs ps : List Fraction) (before vs : List ℕ) (s : Stop) → length before ≡ i → length xs ≡ length vs → length xs ≡ length ps
      → ((k : ℕ) → k < length xs → is_zero (at ps k) ≡ true → F (i + k) ≡ Ok (at xs k)) → ((k : ℕ) → k < length xs → G (i + k) ≡ F (i + k))
      → least_stop G (before ++ vs) s (nonzero_from i ps) ≡ joined s (steps_of F i vs)
  unfolding least_stop nonzero_from steps_of
  stops_at F G i [] [] before [] s b w e zeros same = refl
  stops_at F G i [] [] before (v ∷ vs) s b w e zeros same = absurd (omega (arith, w))
  stops_at F G i [] (p ∷ ps) before vs s b w e zeros same = absurd (omega (arith, e))
  stops_at F G i (x ∷ xs) ps before [] s b w e zeros same = absurd (omega (arith, w))
  stops_at F G i (x ∷ xs) [] before (v ∷ vs) s b w e zeros same = absurd (omega (arith, e))
  stops_at F G i (x ∷ xs) (p ∷ ps) before (v ∷ vs) s b w e zeros same =
      let none : i + 0 ≡ i = omega arith in
      step (is_zero p) refl (λ t. ap F (sym none) ∙ zeros 0 (omega arith) t) (ap G (sym none) ∙ same 0 (omega arith) ∙ ap F none)
      (λ s. ap (λ ls. least_stop G ls s (nonzero_from (i + 1) ps)) (sym (append_assoc before (v ∷ []) vs))
      ∙ stops_at F G (i + 1) xs ps (before ++ v ∷ []) vs s (one_longer before i v b) (omega (arith, w)) (omega (arith, e)) (λ k q t. ap F (next k) ∙ zeros (suc k) (omega (arith, q)) t) (λ k q. ap G (next k) ∙ same (suc k) (omega (arith, q)) ∙ ap F (sym (next k))))
    where
      next : (k : ℕ) → i + 1 + k ≡ i + suc k
      next k = omega arith

      step : (t : Bool) → is_zero p ≡ t → (is_zero p ≡ true → F i ≡ Ok x) → G i ≡ F i
          → ((s : Stop) → least_stop G (before ++ v ∷ vs) s (nonzero_from (i + 1) ps) ≡ joined s (steps_of F (i + 1) vs))
          → least_stop G (before ++ v ∷ vs) s (if t then nonzero_from (i + 1) ps else i ∷ nonzero_from (i + 1) ps) ≡ joined s (beside v (F i) (steps_of F (i + 1) vs))
      step true h fits first later = let here = fits h in later s ∙ joined_passed s v x (steps_of F (i + 1) vs) ∙ ap (λ q. joined s (beside v q (steps_of F (i + 1) vs))) (sym here)
      step false h fits first later =
          later (smaller_stop (label_at (before ++ v ∷ vs) i) (G i) s)
          ∙ ap (λ l. joined (smaller_stop l (G i) s) (steps_of F (i + 1) vs)) (at_here before i v vs 0 b)
          ∙ joined_more s v (G i) (steps_of F (i + 1) vs) ∙ ap (λ q. joined s (beside v q (steps_of F (i + 1) vs))) first

  steps_from : (F : ℕ → Result Fraction Wide) (i : ℕ) (front xs ps : List Fraction) (before vs : List ℕ) → length front ≡ i → length before ≡ i → length xs ≡ length vs → length xs ≡ length ps
      → ((k : ℕ) → k < length xs → F (i + k) ≡ g (i + k) (at xs k)) → ((k : ℕ) → k < length xs → is_zero (at ps k) ≡ true → F (i + k) ≡ Ok (at xs k))
      → steps_at g (before ++ vs) (nonzero_from i ps) (front ++ xs) ≡ behind_row front (steps_of F i vs)
  unfolding steps_at nonzero_from steps_of
  steps_from F i front [] [] before [] f b w e same zeros = refl
  steps_from F i front [] [] before (v ∷ vs) f b w e same zeros = absurd (omega (arith, w))
  steps_from F i front [] (p ∷ ps) before vs f b w e same zeros = absurd (omega (arith, e))
  steps_from F i front (x ∷ xs) ps before [] f b w e same zeros = absurd (omega (arith, w))
  steps_from F i front (x ∷ xs) [] before (v ∷ vs) f b w e same zeros = absurd (omega (arith, e))
  steps_from F i front (x ∷ xs) (p ∷ ps) before (v ∷ vs) f b w e same zeros =
      step (λ y. steps_from F (i + 1) (front ++ y ∷ []) xs ps (before ++ v ∷ []) vs (one_longer front i y f) (one_longer before i v b) (omega (arith, w)) (omega (arith, e)) later_same later_zeros)
      (is_zero p) refl (ap F (sym none) ∙ same 0 (omega arith) ∙ ap (λ k. g k x) none) (λ t. ap F (sym none) ∙ zeros 0 (omega arith) t)
    where
      Later : Fraction → List ℕ → Type 0
      Later y ls = steps_at g ls (nonzero_from (i + 1) ps) ((front ++ y ∷ []) ++ xs) ≡ behind_row (front ++ y ∷ []) (steps_of F (i + 1) vs)

      none : i + 0 ≡ i
      none = omega arith

      next : (k : ℕ) → i + 1 + k ≡ i + suc k
      next k = omega arith

      later_same : (k : ℕ) → k < length xs → F (i + 1 + k) ≡ g (i + 1 + k) (at xs k)
      later_same k q = ap F (next k) ∙ same (suc k) (omega (arith, q)) ∙ ap (λ j. g j (at xs k)) (sym (next k))

      later_zeros : (k : ℕ) → k < length xs → is_zero (at ps k) ≡ true → F (i + 1 + k) ≡ Ok (at xs k)
      later_zeros k q t = ap F (next k) ∙ zeros (suc k) (omega (arith, q)) t

      taken : ((y : Fraction) → Later y (before ++ v ∷ vs)) → (q : Result Fraction Wide) → F i ≡ q → on_step q (λ y. steps_at g (before ++ v ∷ vs) (nonzero_from (i + 1) ps) (set (front ++ x ∷ xs) i y)) (λ u. least_stop (λ j. g j (at (front ++ x ∷ xs) j)) (before ++ v ∷ vs) (stop_of (label_at (before ++ v ∷ vs) i) u) (nonzero_from (i + 1) ps))
          ≡ behind_row front (beside v q (steps_of F (i + 1) vs))
      taken later (Ok y) h = ap (steps_at g (before ++ v ∷ vs) (nonzero_from (i + 1) ps)) (set_here front i x y xs f) ∙ later y ∙ row_more front v y (steps_of F (i + 1) vs)
      taken later (Err u) h =
          ap (λ l. Err (least_stop G (before ++ v ∷ vs) (stop_of l u) (nonzero_from (i + 1) ps))) (at_here before i v vs 0 b)
          ∙ ap (λ ls. Err (least_stop G ls (stop_of v u) (nonzero_from (i + 1) ps))) (sym (append_assoc before (v ∷ []) vs))
          ∙ ap Err (stops_at F G (i + 1) xs ps (before ++ v ∷ []) vs (stop_of v u) (one_longer before i v b) (omega (arith, w)) (omega (arith, e)) later_zeros (λ k q. ap (g (i + 1 + k)) (entry k) ∙ sym (later_same k q)))
          ∙ sym (ap (behind_row front) (joined_first v u (steps_of F (i + 1) vs)))
        where
          G : ℕ → Result Fraction Wide
          G j = g j (at (front ++ x ∷ xs) j)

          entry : (k : ℕ) → at (front ++ x ∷ xs) (i + 1 + k) ≡ at xs k
          entry k = behind_at front i x xs k f

      step : ((y : Fraction) → Later y ((before ++ v ∷ []) ++ vs)) → (t : Bool) → is_zero p ≡ t → F i ≡ g i x → (is_zero p ≡ true → F i ≡ Ok x)
          → steps_at g (before ++ v ∷ vs) (if t then nonzero_from (i + 1) ps else i ∷ nonzero_from (i + 1) ps) (front ++ x ∷ xs) ≡ behind_row front (beside v (F i) (steps_of F (i + 1) vs))
      step rest true h first fits =
          let here = fits h in
          ap (steps_at g (before ++ v ∷ vs) (nonzero_from (i + 1) ps)) (sym (append_assoc front (x ∷ []) xs)) ∙ subst (Later x) (append_assoc before (v ∷ []) vs) (rest x) ∙ row_more front v x (steps_of F (i + 1) vs) ∙ ap (λ q. behind_row front (beside v q (steps_of F (i + 1) vs))) (sym here)
      step rest false h first fits =
          ap (λ y. on_step (g i y) (λ y. steps_at g (before ++ v ∷ vs) (nonzero_from (i + 1) ps) (set (front ++ x ∷ xs) i y)) (λ u. least_stop (λ j. g j (at (front ++ x ∷ xs) j)) (before ++ v ∷ vs) (stop_of (label_at (before ++ v ∷ vs) i) u) (nonzero_from (i + 1) ps))) (at_here front i x xs fraction_zero f)
          ∙ ap (λ q. on_step q (λ y. steps_at g (before ++ v ∷ vs) (nonzero_from (i + 1) ps) (set (front ++ x ∷ xs) i y)) (λ u. least_stop (λ j. g j (at (front ++ x ∷ xs) j)) (before ++ v ∷ vs) (stop_of (label_at (before ++ v ∷ vs) i) u) (nonzero_from (i + 1) ps))) (sym first)
          ∙ taken (λ y. subst (Later y) (append_assoc before (v ∷ []) vs) (rest y)) (F i) refl

-- the steps at the places that are not 0 are all the steps of the row
pub all_steps : (g : ℕ → Fraction → Result Fraction Wide) (xs ps : List Fraction) (labels : List ℕ) → length xs ≡ length labels → length xs ≡ length ps → ((k : ℕ) → k < length xs → is_zero (at ps k) ≡ true → g k (at xs k) ≡ Ok (at xs k))
    → steps_at g labels (nonzero_places ps) xs ≡ steps_of (λ k. g k (at xs k)) 0 labels
all_steps g xs ps labels w e zeros =
    let on : (k : ℕ) → 0 + k ≡ k = λ k. omega arith in
    steps_from g (λ k. g k (at xs k)) 0 [] xs ps [] labels refl refl w e (λ k q. ap (λ j. g (0 + k) (at xs j)) (on k)) (λ k q t. ap (λ j. g j (at xs j)) (on k) ∙ zeros k q t) ∙ alone (steps_of (λ k. g k (at xs k)) 0 labels)
  where
    alone : (r : Result (List Fraction) Stop) → behind_row [] r ≡ r
    alone (Ok ys) = refl
    alone (Err s) = refl

-- ---- the loop over the places: the steps from place t on are all of them
abbrev pub Places : (ℕ → Fraction → Result Fraction Wide) → List ℕ → List Fraction → List ℕ → ℕ → List Fraction → Type 0
Places g labels old places t row = steps_at g labels (drop t places) row ≡ steps_at g labels places old

front_place : (places : List ℕ) (t : ℕ) → t < length places → drop t places ≡ slice_index_or places t 0 ∷ drop (t + 1) places
front_place [] t low = absurd (omega (arith, low))
front_place (k ∷ places) zero low = refl
front_place (k ∷ places) (suc t) low = rw add-one (rw add-one at (front_place places t (omega (arith, low))))

pub places_more : (g : ℕ → Fraction → Result Fraction Wide) (labels : List ℕ) (old row new : List Fraction) (places : List ℕ) (t : ℕ) (y : Fraction) → t < length places → g (slice_index_or places t 0) (at row (slice_index_or places t 0)) ≡ Ok y → new ≡ set row (slice_index_or places t 0) y → Places g labels old places t row → Places g labels old places (t + 1) new
unfolding steps_at
places_more g labels old row new places t y low fits is_new h =
    let k = slice_index_or places t 0 in
    rw is_new (sym (ap (λ q. on_step q (λ y. steps_at g labels (drop (t + 1) places) (set row k y)) (λ w. least_stop (λ j. g j (at row j)) labels (stop_of (label_at labels k) w) (drop (t + 1) places))) fits) ∙ (rw (front_place places t low) at h))

-- v is the label at the place of a step that does not fit
pub places_stop : (g : ℕ → Fraction → Result Fraction Wide) (labels : List ℕ) (old row : List Fraction) (places : List ℕ) (t v : ℕ) (w : Wide) → t < length places → g (slice_index_or places t 0) (at row (slice_index_or places t 0)) ≡ Err w → v ≡ label_at labels (slice_index_or places t 0) → Places g labels old places t row
    → Err (least_stop (λ j. g j (at row j)) labels (stop_of v w) (drop (t + 1) places)) ≡ steps_at g labels places old
unfolding steps_at
places_stop g labels old row places t v w low stops is_v h =
    let k = slice_index_or places t 0 in
    rw is_v (sym (ap (λ q. on_step q (λ y. steps_at g labels (drop (t + 1) places) (set row k y)) (λ w. least_stop (λ j. g j (at row j)) labels (stop_of (label_at labels k) w) (drop (t + 1) places))) stops) ∙ (rw (front_place places t low) at h))

pub places_end : (g : ℕ → Fraction → Result Fraction Wide) (labels : List ℕ) (old row : List Fraction) (places : List ℕ) (t : ℕ) → length places ≤ t → Places g labels old places t row → Ok row ≡ steps_at g labels places old
unfolding steps_at
places_end g labels old row places t high h = let none : drop t places ≡ [] = drop_all t places high in rw none at h

-- the search for the stop
pub stop_more : (f : ℕ → Result Fraction Wide) (labels : List ℕ) (s found : Stop) (places : List ℕ) (t : ℕ) → t < length places
    → least_stop f labels s (drop t places) ≡ least_stop f labels found places → least_stop f labels (smaller_stop (label_at labels (slice_index_or places t 0)) (f (slice_index_or places t 0)) s) (drop (t + 1) places) ≡ least_stop f labels found places
unfolding least_stop
stop_more f labels s found places t low h = rw (front_place places t low) at h

pub stop_end : (f : ℕ → Result Fraction Wide) (labels : List ℕ) (s found : Stop) (places : List ℕ) (t : ℕ) → length places ≤ t → least_stop f labels s (drop t places) ≡ least_stop f labels found places → s ≡ least_stop f labels found places
unfolding least_stop
stop_end f labels s found places t high h = let none : drop t places ≡ [] = drop_all t places high in rw none at h
