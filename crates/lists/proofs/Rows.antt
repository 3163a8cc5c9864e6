-- Rows cut out of a list of numbers.
use Rattle.std.proofs.Common.{◌≡◌, ℕ, zero, suc, ◌+◌, ◌*◌, ◌<◌, ◌≤◌, List, [], ◌∷◌, ◌++◌, length, take, drop, slice_index_or, slice_set, arith, refl, sym, ◌∙◌, ap, length-drop, length-take-le, take_at, drop_at, take_all, take-take, drop-drop, mul-le-mul_right, suc-mul, ◌⊎◌, inl, inr}
use Rattle.std.proofs.lemmas.Bool.{cases_lt}
use Rattle.std.proofs.lemmas.List.{drop-take, take-append-le, drop-append-le}
use Rattle.lists.specs.Parts.{part, refit, with_part}
use Rattle.lists.specs.Rows.{Rows, cut_rows}
use Rattle.lists.proofs.Lists.{length-refit}

pub length-cut : {A : Type 0} (w n : ℕ) (xs : List A) → length (cut_rows w n xs) ≡ n
length-cut w zero xs = refl
length-cut w (suc n) xs = ap suc (length-cut w n (drop w xs))

-- a row that a contract counts is one of those in the block
pub row_count : {A : Type 0} (w n m : ℕ) (xs : List A) (r : Rows A) → ◌≡◌ {A = Rows A} (record { rows = cut_rows w n xs; width = w; spare = m }) r → length r.rows ≡ n
row_count {A} w n m xs r e = ap (λ (r : Rows A). length r.rows) (sym e) ∙ length-cut w n xs

-- a row that is there ends within the block
pub row_ends : (i n w len : ℕ) → i < n → n * w ≤ len → i * w + w ≤ len
row_ends i n w len h e =
    let whole : (i + 1) * w ≤ n * w = mul-le-mul_right w (omega (arith, h)) in
    let same : (i + 1) * w ≡ i * w + w = omega arith in
    omega (arith, whole, same, e)

-- two different rows lie apart
pub apart_rows : (r w n : ℕ) → (r ≡ w → ⊥) → (r * n + n ≤ w * n) ⊎ (w * n + n ≤ r * n)
apart_rows r w n ne = elim (cases_lt r w) [
  | inl h ↦ inl (row_ends r w n (w * n) h (omega arith))
  | inr h ↦ inr (row_ends w r n (r * n) (omega (arith, h, ne)) (omega arith))
]

-- rows cut out of a row and what follows it
cut_on : {A : Type 0} (w n : ℕ) (row rest : List A) → length row ≡ w → cut_rows w (suc n) (row ++ rest) ≡ row ∷ cut_rows w n rest
cut_on w n row rest e = let first = take_at row rest w e in let others = drop_at row rest w e in rw (first, others) refl

-- one row more
cut-append : {A : Type 0} (w n : ℕ) (xs row : List A) → length xs ≡ n * w → length row ≡ w → cut_rows w (suc n) (xs ++ row) ≡ cut_rows w n xs ++ row ∷ []
cut-append w zero [] row e k = ap (λ z. z ∷ []) (take_all w row (omega (arith, k)))
cut-append w zero (x ∷ xs) row e k = absurd (omega (arith, e))
cut-append w (suc n) xs row e k =
    let step : suc n * w ≡ n * w + w = suc-mul n w in
    let long : w ≤ length xs = omega (arith, e, step) in
    let first = take-append-le w xs row long in
    let others = drop-append-le w xs row long in
    ap (λ z. z ∷ cut_rows w (suc n) (drop w (xs ++ row))) first
    ∙ ap (λ z. take w xs ∷ z) (ap (cut_rows w (suc n)) others ∙ cut-append w n (drop w xs) row (length-drop w xs ∙ omega (arith, e, step)) k)

-- the first rows alone
cut-take : {A : Type 0} (w k n : ℕ) (xs : List A) → k ≤ n → cut_rows w k (take (k * w) xs) ≡ take k (cut_rows w n xs)
cut-take w zero n xs h = refl
cut-take w (suc k) zero xs h = absurd (omega (arith, h))
cut-take w (suc k) (suc n) xs h =
    let step : suc k * w ≡ w + k * w = suc-mul k w ∙ omega arith in
    ap (λ m. cut_rows w (suc k) (take m xs)) step
    ∙ ap (λ z. z ∷ cut_rows w k (drop w (take (w + k * w) xs))) (take-take w (w + k * w) xs (omega arith))
    ∙ ap (λ z. take w xs ∷ z) (ap (cut_rows w k) (drop-take w (k * w) xs) ∙ cut-take w k n (drop w xs) (omega (arith, h)))

-- what lies behind the rows is no matter
cut-front : {A : Type 0} (w n : ℕ) (xs : List A) → cut_rows w n (take (n * w) xs) ≡ cut_rows w n xs
cut-front w n xs = cut-take w n n xs (omega arith) ∙ take_all n (cut_rows w n xs) (omega (arith, length-cut w n xs))

pub cut-same : {A : Type 0} (w n : ℕ) (xs ys : List A) → take (n * w) ys ≡ take (n * w) xs → cut_rows w n ys ≡ cut_rows w n xs
cut-same w n xs ys e = sym (cut-front w n ys) ∙ ap (cut_rows w n) e ∙ cut-front w n xs

pub cut-fewer : {A : Type 0} (w k n : ℕ) (xs : List A) → k ≤ n → cut_rows w k xs ≡ take k (cut_rows w n xs)
cut-fewer w k n xs h = sym (cut-front w k xs) ∙ cut-take w k n xs h

pub cut-more : {A : Type 0} (w n : ℕ) (xs ys row : List A) → n * w ≤ length xs → length row ≡ w → take (n * w + w) ys ≡ take (n * w) xs ++ row
    → cut_rows w (suc n) ys ≡ cut_rows w n xs ++ row ∷ []
cut-more w n xs ys row h k e =
    sym (cut-front w (suc n) ys) ∙ ap (λ m. cut_rows w (suc n) (take m ys)) (suc-mul n w) ∙ ap (cut_rows w (suc n)) e
    ∙ cut-append w n (take (n * w) xs) row (length-take-le (n * w) xs h) k ∙ ap (λ z. z ++ row ∷ []) (cut-front w n xs)

-- row i
pub cut-at : {A : Type 0} (w i n : ℕ) (xs : List A) → i < n → part (i * w) w xs ≡ slice_index_or (cut_rows w n xs) i []
cut-at w i zero xs h = absurd (omega (arith, h))
cut-at w zero (suc n) xs h = let none : 0 * w ≡ 0 = omega arith in ap (λ m. part m w xs) none
cut-at w (suc i) (suc n) xs h =
    let step : suc i * w ≡ w + i * w = suc-mul i w ∙ omega arith in
    ap (λ m. part m w xs) step ∙ ap (take w) (sym (drop-drop (i * w) w xs)) ∙ cut-at w i n (drop w xs) (omega (arith, h))

with_part_on : {A : Type 0} (m k n : ℕ) (xs ys : List A) → m ≤ length xs → with_part (m + k) n xs ys ≡ take m xs ++ with_part k n (drop m xs) ys
with_part_on zero k n xs ys h = let z : 0 + k ≡ k = omega arith in ap (λ j. with_part j n xs ys) z
with_part_on (suc m) k n [] ys h = absurd (omega (arith, h))
with_part_on (suc m) k n (x ∷ xs) ys h =
    let z : suc m + k ≡ suc (m + k) = omega arith in
    let z' : suc (m + k) + n ≡ suc (m + k + n) = omega arith in
    ap (λ j. with_part j n (x ∷ xs) ys) z
    ∙ ap (λ j. take (suc (m + k)) (x ∷ xs) ++ (refit n (part (m + k) n xs) ys ++ drop j (x ∷ xs))) z'
    ∙ ap (λ w. x ∷ w) (with_part_on m k n xs ys (omega (arith, h)))

-- one row written
pub cut-with : {A : Type 0} (w i n : ℕ) (xs ys : List A) → i < n → n * w ≤ length xs
    → cut_rows w n (with_part (i * w) w xs ys) ≡ slice_set (cut_rows w n xs) i (refit w (slice_index_or (cut_rows w n xs) i []) ys)
cut-with w i zero xs ys h e = absurd (omega (arith, h))
cut-with w zero (suc n) xs ys h e =
    let z : 0 * w ≡ 0 = omega arith in
    let z' : 0 + w ≡ w = omega arith in
    let step : suc n * w ≡ n * w + w = suc-mul n w in
    let long : length (take w xs) ≡ w = length-take-le w xs (omega (arith, e, step)) in
    ap (λ m. cut_rows w (suc n) (with_part m w xs ys)) z
    ∙ ap (λ m. cut_rows w (suc n) (refit w (take w xs) ys ++ drop m xs)) z'
    ∙ cut_on w n (refit w (take w xs) ys) (drop w xs) (length-refit w (take w xs) ys long)
cut-with w (suc i) (suc n) xs ys h e =
    let step : suc i * w ≡ w + i * w = suc-mul i w ∙ omega arith in
    let whole : suc n * w ≡ n * w + w = suc-mul n w in
    let long : w ≤ length xs = omega (arith, e, whole) in
    ap (λ m. cut_rows w (suc n) (with_part m w xs ys)) step
    ∙ ap (cut_rows w (suc n)) (with_part_on w (i * w) w xs ys long)
    ∙ cut_on w n (take w xs) (with_part (i * w) w (drop w xs) ys) (length-take-le w xs long)
    ∙ ap (λ z. take w xs ∷ z) (cut-with w i n (drop w xs) ys (omega (arith, h)) (omega (arith, e, whole, length-drop w xs)))
