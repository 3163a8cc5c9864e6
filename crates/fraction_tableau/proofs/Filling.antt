-- Vectors that are written item by item.
use Rattle.std.proofs.Common.{◌≡◌, ℕ, zero, suc, ◌+◌, ◌-◌, ◌<◌, ◌≤◌, List, [], ◌∷◌, ◌++◌, length, map, take, drop, set, sym, ◌∙◌, ap, arith, append_assoc}
use Rattle.std.proofs.lemmas.List.{drop_all, take_all, length-map, append-nil}
use Rattle.std.specs.Prelude.{slice_index_or}
use Rattle.exact_num.specs.Fraction.{Fraction, negated}
use Rattle.simplex_run.specs.Places.{numbers, values_at}
use Rattle.fraction_tableau.proofs.EntrySteps.{front_of, done_more, left_less}

-- ---- the numbers from i on, of which `left` are left
pub numbers_more : (done all : List ℕ) (i count : ℕ) → i < count → done ++ numbers i (count - i) ≡ all → (done ++ i ∷ []) ++ numbers (i + 1) (count - (i + 1)) ≡ all
unfolding values_at
numbers_more done all i count low h =
    let more : count - i ≡ suc (count - (i + 1)) = omega arith in
    append_assoc done (i ∷ []) (numbers (i + 1) (count - (i + 1))) ∙ (rw more at h)

pub numbers_end : (done all : List ℕ) (i count : ℕ) → count ≤ i → done ++ numbers i (count - i) ≡ all → done ≡ all
unfolding values_at
numbers_end done all i count high h =
    let none : count - i ≡ 0 = omega arith in
    sym (append-nil done) ∙ (rw none at h)

-- one number more at the end
pub numbers_last : (i count : ℕ) → numbers i (count + 1) ≡ numbers i count ++ (i + count) ∷ []
unfolding values_at
numbers_last i zero = ap (λ k. k ∷ []) (omega arith)
numbers_last i (suc count) =
    let more : suc count + 1 ≡ suc (count + 1) = omega arith in
    let same : i + 1 + count ≡ i + suc count = omega arith in
    rw more (ap (λ (ks : List ℕ). i ∷ ks) (numbers_last (i + 1) count ∙ ap (λ k. numbers (i + 1) count ++ k ∷ []) same))

-- ---- signs turned one after another
abbrev pub Turned : {A : Type 0} → (A → Fraction) → List A → ℕ → List A → Type 0
Turned value old i xs = take i (map value xs) ++ map negated (drop i (map value xs)) ≡ map negated (map value old)

pub turned_more : {A : Type 0} (value : A → Fraction) (old xs : List A) (i : ℕ) (x y : A) → i < length xs → x ≡ slice_index_or xs i x → value y ≡ negated (value x) → Turned value old i xs → Turned value old (i + 1) (set xs i y)
turned_more value old xs i x y low at_x is_y h =
    let front = front_of value xs i x low at_x in
    let done = done_more value xs i y low in
    let left = left_less value xs i y in
    rw (done, left) (
    append_assoc (take i (map value xs)) (value y ∷ []) (map negated (drop (suc i) (map value xs)))
    ∙ ap (λ (z : Fraction). take i (map value xs) ++ z ∷ map negated (drop (suc i) (map value xs))) is_y
    ∙ (rw front at h)
    )

pub turned_end : {A : Type 0} (value : A → Fraction) (old xs : List A) (i : ℕ) → length xs ≤ i → Turned value old i xs → map value xs ≡ map negated (map value old)
turned_end value old xs i high h =
    let none : drop i (map value xs) ≡ [] = drop_all i (map value xs) (rw length-map high) in
    let all : take i (map value xs) ≡ map value xs = take_all i (map value xs) (rw length-map high) in
    sym (append-nil (map value xs)) ∙ (rw (none, all) at h)

-- what a write through a slice of a vector leaves
pub slice_written : {A : Type 0} (new old : List A) (n : ℕ) → n ≡ length old → length new ≡ length old → take n (new ++ drop (length new) old) ≡ new
slice_written new old n e same =
    let none : drop (length new) old ≡ [] = drop_all (length new) old (omega arith) in
    rw (none, append-nil) (take_all n new (omega arith))
