-- The places where numbers are not 0, and a multiple of the pivot row taken there.
use Rattle.std.proofs.Common.{◌≡◌, ℕ, zero, suc, ◌+◌, ◌<◌, ◌≤◌, List, [], ◌∷◌, ◌++◌, length, map, drop, take, set, add-one, arith, refl, sym, ◌∙◌, ap, subst, ℤ, pos, negsuc, ◌*ℤ◌, ◌-ℤ◌, unsigned_abs, Bool, true, false, not, FitsSigned, of_z, w64}
use mir.Val.{bool_byte}
use Rattle.std.specs.Prelude.{slice_index_or, nat_eq, if◌then◌else◌}
use Rattle.std.proofs.Math.Seq.{drop-cons}
use Rattle.std.proofs.lemmas.Int.{ints}
use Rattle.std.proofs.lemmas.Bool.{eqb-true, eq-eqb, ne_eqb}
use Rattle.std.proofs.lemmas.List.{drop_all, take-set, take_more_set}
use Rattle.arithmetic.proofs.Integers.{zero_of_size}
use Rattle.exact_num.specs.Fraction.{Fraction, whole}
use Rattle.fraction_tableau.specs.Nonzero.{is_zero, nonzero_from}
use Rattle.run_equivalence.specs.IntegerRows.{number_at}
use Rattle.run_equivalence.specs.WholePivoting.{cross_difference}
use Rattle.integer_tableau.proofs.Eliminating.{zero_from_test}
use Rattle.fraction_tableau.proofs.Nonzero.{passes_zero, takes_nonzero}
use Rattle.integer_tableau.specs.Rows.{nonzero_in, with_place}

-- ---- a place is written behind those that are listed, and counted where its number is not 0
pub place_written : (places : List ℕ) (count j more : ℕ) (z : ℤ) → count < length places → FitsSigned w64 z → more ≡ bool_byte (not (nat_eq (of_z w64 z) 0)) → take (count + more) (set places count j) ≡ with_place j z (take count places)
place_written places count j more z low fits h = step (nat_eq (of_z w64 z) 0) refl h
  where
    step : (b : Bool) → nat_eq (of_z w64 z) 0 ≡ b → more ≡ bool_byte (not b) → take (count + more) (set places count j) ≡ with_place j z (take count places)
    step true e m =
        let none : more ≡ 0 = m in
        let test : nat_eq (unsigned_abs z) 0 ≡ true = eq-eqb (unsigned_abs z) 0 (ap unsigned_abs (zero_from_test z fits (ap not e))) in
        let same : count + more ≡ count = omega (arith, none) in
        rw test (ap (λ (n : ℕ). take n (set places count j)) same ∙ take-set places count j)
    step false e m =
        let one : more ≡ 1 = m in
        let test : nat_eq (unsigned_abs z) 0 ≡ false = ne_eqb (unsigned_abs z) 0 (λ s. let t : nat_eq (of_z w64 z) 0 ≡ true = ap (λ (y : ℤ). nat_eq (of_z w64 y) 0) (zero_of_size z s) in cc) in
        let same : count + more ≡ count + 1 = omega (arith, one) in
        rw test (ap (λ (n : ℕ). take n (set places count j)) same ∙ take_more_set places count j low)

-- ---- the list goes on by a number
pub place_more : (zs : List ℤ) (j : ℕ) (z : ℤ) (done all : List ℕ) → j < length zs → z ≡ slice_index_or zs j z → done ++ nonzero_from j (drop j (map whole zs)) ≡ all
    → with_place j z done ++ nonzero_from (j + 1) (drop (j + 1) (map whole zs)) ≡ all
place_more zs j z done all low at_z h = step (nat_eq (unsigned_abs z) 0) refl
  where
    step : (t : Bool) → nat_eq (unsigned_abs z) 0 ≡ t → (if t then done else done ++ j ∷ []) ++ nonzero_from (j + 1) (drop (j + 1) (map whole zs)) ≡ all
    step true e = passes_zero whole zs j z done all low at_z e h
    step false e = takes_nonzero whole zs j z done all low at_z e h

-- ---- f times the pivot numbers, taken at these places
pub less_at : ℤ → List ℤ → List ℕ → List ℤ → List ℤ
less_at f qs [] zs = zs
less_at f qs (j ∷ js) zs = less_at f qs js (set zs j (number_at zs j -ℤ (f *ℤ number_at qs j)))

shifted : (f q z : ℤ) (qs : List ℤ) (js : List ℕ) (zs : List ℤ) → less_at f (q ∷ qs) (map suc js) (z ∷ zs) ≡ z ∷ less_at f qs js zs
unfolding less_at
shifted f q z qs [] zs = refl
shifted f q z qs (j ∷ js) zs = shifted f q z qs js (set zs j (number_at zs j -ℤ (f *ℤ number_at qs j)))

later_places : (i : ℕ) (xs : List Fraction) → nonzero_from (suc i) xs ≡ map suc (nonzero_from i xs)
unfolding nonzero_from
later_places i [] = refl
later_places i (x ∷ xs) =
    let next : suc i + 1 ≡ suc (i + 1) = omega arith in
    step (is_zero x) (ap (λ k. nonzero_from k xs) next ∙ later_places (i + 1) xs)
  where
    step : (t : Bool) → nonzero_from (suc i + 1) xs ≡ map suc (nonzero_from (i + 1) xs)
        → (if t then nonzero_from (suc i + 1) xs else suc i ∷ nonzero_from (suc i + 1) xs) ≡ map suc (if t then nonzero_from (i + 1) xs else i ∷ nonzero_from (i + 1) xs)
    step true h = h
    step false h = ap (λ (js : List ℕ). suc i ∷ js) h

less_zero : (z f q : ℤ) → unsigned_abs q ≡ 0 → z ≡ (z *ℤ pos 1) -ℤ (f *ℤ q)
less_zero z f (pos zero) h = omega (arith, ints)
less_zero z f (pos (suc n)) h = absurd (omega (arith, h))
less_zero z f (negsuc n) h = absurd (omega (arith, h))

times_one : (z : ℤ) → z ≡ z *ℤ pos 1
times_one z = omega (arith, ints)

pub less_is : (f : ℤ) (zs qs : List ℤ) → length zs ≡ length qs → less_at f qs (nonzero_in qs) zs ≡ cross_difference 1 f zs qs
unfolding nonzero_from cross_difference less_at
less_is f [] [] s = refl
less_is f [] (q ∷ qs) s = absurd (omega (arith, s))
less_is f (z ∷ zs) [] s = absurd (omega (arith, s))
less_is f (z ∷ zs) (q ∷ qs) s =
    let later = less_is f zs qs (omega (arith, s)) in
    step (nat_eq (unsigned_abs q) 0) refl
    (λ y. ap (λ (js : List ℕ). less_at f (q ∷ qs) js (y ∷ zs)) (later_places 0 (map whole qs)) ∙ shifted f q y qs (nonzero_in qs) zs ∙ ap (λ (ws : List ℤ). y ∷ ws) later)
  where
    step : (t : Bool) → nat_eq (unsigned_abs q) 0 ≡ t → ((y : ℤ) → less_at f (q ∷ qs) (nonzero_from 1 (map whole qs)) (y ∷ zs) ≡ y ∷ cross_difference 1 f zs qs)
        → less_at f (q ∷ qs) (if t then nonzero_from 1 (map whole qs) else 0 ∷ nonzero_from 1 (map whole qs)) (z ∷ zs) ≡ ((z *ℤ pos 1) -ℤ (f *ℤ q)) ∷ cross_difference 1 f zs qs
    step true h later = later z ∙ ap (λ (y : ℤ). y ∷ cross_difference 1 f zs qs) (less_zero z f q (eqb-true _ _ h))
    step false h later = later (z -ℤ (f *ℤ q)) ∙ ap (λ (y : ℤ). (y -ℤ (f *ℤ q)) ∷ cross_difference 1 f zs qs) (times_one z)

-- ---- the places rise
above_from : (i : ℕ) (xs : List Fraction) (k : ℕ) → k < length (nonzero_from i xs) → i ≤ slice_index_or (nonzero_from i xs) k 0
unfolding nonzero_from
above_from i [] k low = absurd (omega (arith, low))
above_from i (x ∷ xs) k low = step (is_zero x) k low (above_from (i + 1) xs)
  where
    step : (t : Bool) (k : ℕ) → k < length (if t then nonzero_from (i + 1) xs else i ∷ nonzero_from (i + 1) xs)
        → ((k : ℕ) → k < length (nonzero_from (i + 1) xs) → i + 1 ≤ slice_index_or (nonzero_from (i + 1) xs) k 0)
        → i ≤ slice_index_or (if t then nonzero_from (i + 1) xs else i ∷ nonzero_from (i + 1) xs) k 0
    step true k low later = omega (arith, later k low)
    step false zero low later = omega arith
    step false (suc k) low later = omega (arith, later k (omega (arith, low)))

rising_from : (i : ℕ) (xs : List Fraction) (t k : ℕ) → t < k → k < length (nonzero_from i xs) → slice_index_or (nonzero_from i xs) t 0 < slice_index_or (nonzero_from i xs) k 0
unfolding nonzero_from
rising_from i [] t k p low = absurd (omega (arith, low))
rising_from i (x ∷ xs) t k p low = step (is_zero x) t k p low (rising_from (i + 1) xs) (above_from (i + 1) xs)
  where
    step : (b : Bool) (t k : ℕ) → t < k → k < length (if b then nonzero_from (i + 1) xs else i ∷ nonzero_from (i + 1) xs)
        → ((t k : ℕ) → t < k → k < length (nonzero_from (i + 1) xs) → slice_index_or (nonzero_from (i + 1) xs) t 0 < slice_index_or (nonzero_from (i + 1) xs) k 0)
        → ((k : ℕ) → k < length (nonzero_from (i + 1) xs) → i + 1 ≤ slice_index_or (nonzero_from (i + 1) xs) k 0)
        → slice_index_or (if b then nonzero_from (i + 1) xs else i ∷ nonzero_from (i + 1) xs) t 0 < slice_index_or (if b then nonzero_from (i + 1) xs else i ∷ nonzero_from (i + 1) xs) k 0
    step true t k p low later above = later t k p low
    step false t zero p low later above = absurd (omega (arith, p))
    step false zero (suc k) p low later above = omega (arith, above k (omega (arith, low)))
    step false (suc t) (suc k) p low later above = later t k (omega (arith, p)) (omega (arith, low))

pub rising : (qs : List ℤ) (t k : ℕ) → t < k → k < length (nonzero_in qs) → slice_index_or (nonzero_in qs) t 0 < slice_index_or (nonzero_in qs) k 0
rising qs t k p low = rising_from 0 (map whole qs) t k p low

-- ---- the numbers between two places are 0
behind : ℕ → List ℕ → ℕ → ℕ
behind i js zero = i
behind i js (suc t) = slice_index_or js t 0 + 1

zero_from : (i : ℕ) (zs : List ℤ) (t j : ℕ) → t ≤ length (nonzero_from i (map whole zs)) → behind i (nonzero_from i (map whole zs)) t ≤ i + j → i + j < slice_index_or (nonzero_from i (map whole zs)) t (i + length zs) → number_at zs j ≡ pos 0
unfolding nonzero_from behind
zero_from i [] t j few low high = refl
zero_from i (z ∷ zs) t j few low high = step (nat_eq (unsigned_abs z) 0) refl t j few low high (zero_from (i + 1) zs)
  where
    moved : (t j : ℕ) → i + suc j < slice_index_or (nonzero_from (i + 1) (map whole zs)) t (i + suc (length zs)) → i + 1 + j < slice_index_or (nonzero_from (i + 1) (map whole zs)) t (i + 1 + length zs)
    moved t j high =
        let end : i + suc (length zs) ≡ i + 1 + length zs = omega arith in
        let next : i + suc j ≡ i + 1 + j = omega arith in
        subst (λ (k : ℕ). k < slice_index_or (nonzero_from (i + 1) (map whole zs)) t (i + 1 + length zs)) next (subst (λ (e : ℕ). i + suc j < slice_index_or (nonzero_from (i + 1) (map whole zs)) t e) end high)

    step : (b : Bool) → nat_eq (unsigned_abs z) 0 ≡ b → (t j : ℕ) → t ≤ length (if b then nonzero_from (i + 1) (map whole zs) else i ∷ nonzero_from (i + 1) (map whole zs))
        → behind i (if b then nonzero_from (i + 1) (map whole zs) else i ∷ nonzero_from (i + 1) (map whole zs)) t ≤ i + j
        → i + j < slice_index_or (if b then nonzero_from (i + 1) (map whole zs) else i ∷ nonzero_from (i + 1) (map whole zs)) t (i + suc (length zs))
        → ((t j : ℕ) → t ≤ length (nonzero_from (i + 1) (map whole zs)) → behind (i + 1) (nonzero_from (i + 1) (map whole zs)) t ≤ i + 1 + j
        → i + 1 + j < slice_index_or (nonzero_from (i + 1) (map whole zs)) t (i + 1 + length zs) → number_at zs j ≡ pos 0)
        → number_at (z ∷ zs) j ≡ pos 0
    step true e t zero few low high later = zero_of_size z (eqb-true _ _ e)
    step true e zero (suc j) few low high later = later zero j (omega arith) (omega arith) (moved zero j high)
    step true e (suc t) (suc j) few low high later = later (suc t) j few (omega (arith, low)) (moved (suc t) j high)
    step false e zero j few low high later = absurd (omega (arith, high))
    step false e (suc zero) zero few low high later = absurd (omega (arith, low))
    step false e (suc (suc t)) zero few low high later = (let above = above_from (i + 1) (map whole zs) t (omega (arith, few)) in absurd (omega (arith, low, above)))
    step false e (suc zero) (suc j) few low high later = later zero j (omega arith) (omega arith) (moved zero j high)
    step false e (suc (suc t)) (suc j) few low high later = later (suc t) j (omega (arith, few)) (omega (arith, low)) (moved (suc t) j high)

-- the same counted from 0
zero_at : (zs : List ℤ) (t j : ℕ) → t ≤ length (nonzero_in zs) → behind 0 (nonzero_in zs) t ≤ j → j < slice_index_or (nonzero_in zs) t (length zs) → number_at zs j ≡ pos 0
zero_at zs t j few low high =
    let end : length zs ≡ 0 + length zs = omega arith in
    let place : j ≡ 0 + j = omega arith in
    zero_from 0 zs t j few (omega (arith, low)) (subst (λ (k : ℕ). k < slice_index_or (nonzero_in zs) t (0 + length zs)) place (subst (λ (e : ℕ). j < slice_index_or (nonzero_in zs) t e) end high))

pub zero_first : (zs : List ℤ) (j : ℕ) → j < slice_index_or (nonzero_in zs) 0 (length zs) → number_at zs j ≡ pos 0
unfolding behind
zero_first zs j high = zero_at zs 0 j (omega arith) (omega arith) high

pub zero_between : (zs : List ℤ) (t j : ℕ) → t < length (nonzero_in zs) → slice_index_or (nonzero_in zs) t 0 < j → j < slice_index_or (nonzero_in zs) (t + 1) (length zs) → number_at zs j ≡ pos 0
unfolding behind
zero_between zs t j few low high =
    let next : t + 1 ≡ suc t = add-one t in
    zero_at zs (suc t) j (omega (arith, few)) (omega (arith, low)) (rw next at high)

-- a number that is not 0 is exchanged for another
pub nonzero_set : (i : ℕ) (zs : List ℤ) (r : ℕ) (z : ℤ) → nat_eq (unsigned_abs z) 0 ≡ false → nat_eq (unsigned_abs (number_at zs r)) 0 ≡ false → nonzero_from i (map whole (set zs r z)) ≡ nonzero_from i (map whole zs)
unfolding nonzero_from
nonzero_set i [] r z new old = refl
nonzero_set i (x ∷ zs) zero z new old = rw (new, old) refl
nonzero_set i (x ∷ zs) (suc r) z new old = ap (λ (js : List ℕ). if nat_eq (unsigned_abs x) 0 then js else i ∷ js) (nonzero_set (i + 1) zs r z new old)

-- ---- the loop over the places: what is left gives what all give
pub less_more : (f : ℤ) (qs numbers new result : List ℤ) (places : List ℕ) (t : ℕ) → t < length places
    → new ≡ set numbers (slice_index_or places t 0) (number_at numbers (slice_index_or places t 0) -ℤ (f *ℤ number_at qs (slice_index_or places t 0)))
    → less_at f qs (drop t places) numbers ≡ result → less_at f qs (drop (t + 1) places) new ≡ result
unfolding less_at
less_more f qs numbers new result places t low is_new h =
    let j = slice_index_or places t 0 in
    let stepped = set numbers j (number_at numbers j -ℤ (f *ℤ number_at qs j)) in
    ap (less_at f qs (drop (t + 1) places)) is_new ∙ ap (λ (n : ℕ). less_at f qs (drop n places) stepped) (add-one t) ∙ ap (λ (js : List ℕ). less_at f qs js numbers) (sym (drop-cons places t 0 low)) ∙ h

pub less_end : (f : ℤ) (qs numbers result : List ℤ) (places : List ℕ) (t : ℕ) → length places ≤ t → less_at f qs (drop t places) numbers ≡ result → numbers ≡ result
unfolding less_at
less_end f qs numbers result places t high h = let none : drop t places ≡ [] = drop_all t places high in rw none at h
