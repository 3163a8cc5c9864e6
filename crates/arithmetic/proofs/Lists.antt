-- The item that a loop over a list has come to, and lists in pairs.
use Rattle.std.proofs.Common.{◌≡◌, ℕ, zero, suc, ◌+◌, ◌<◌, ◌≤◌, List, [], ◌∷◌, ◌++◌, length, length-append, get_or, map, zip, drop, All, add-one, arith, refl, ap, sym, ◌∙◌, ⊎_elim}
use Rattle.std.specs.List.Sorted.{IsStrictlyIncreasing}
use Rattle.std.proofs.Math.Seq.{drop-cons, get_or-append_seam}
use Rattle.std.proofs.lemmas.Bool.{cases_lt}
use Rattle.std.proofs.lemmas.List.{drop_all, length-map, get_or_append_left}
use Rattle.std.proofs.lemmas.List.Elements.{All-cons, All-head, All-nil, All-tail}

-- the item at i comes first, and then those after it
pub item_first : {A : Type 0} (xs : List A) (i : ℕ) (x : A) → i < length xs → x ≡ get_or xs i x → drop i xs ≡ x ∷ drop (i + 1) xs
item_first xs i x lt is = rw add-one (drop-cons xs i x lt ∙ ap (λ y. y ∷ drop (suc i) xs) (sym is))

-- of numbers
pub number_next : (xs : List ℕ) (i : ℕ) → i < length xs → drop i xs ≡ get_or xs i 0 ∷ drop (i + 1) xs
number_next xs i lt = rw add-one (drop-cons xs i 0 lt)

-- what f makes of it stands at i among what f makes of all
pub item_of : {A B : Type 0} (f : A → B) (xs : List A) (i : ℕ) (x : A) → i < length xs → x ≡ get_or xs i x → f x ≡ get_or (map f xs) i (f x)
item_of f [] i x lt is = absurd (omega arith)
item_of f (a ∷ xs) zero x lt is = ap f is
item_of f (a ∷ xs) (suc i) x lt is = item_of f xs i x (omega arith) is

pub drop_map : {A B : Type 0} (f : A → B) (xs : List A) (i : ℕ) (x : A) → i < length xs → x ≡ get_or xs i x → drop i (map f xs) ≡ f x ∷ drop (i + 1) (map f xs)
drop_map f xs i x lt is = item_first (map f xs) i (f x) (omega (arith, length-map xs f)) (item_of f xs i x lt is)

-- after the last item none is left
pub drop_map_end : {A B : Type 0} (f : A → B) (xs : List A) (i : ℕ) → length xs ≤ i → drop i (map f xs) ≡ []
drop_map_end f xs i le = drop_all i (map f xs) (omega (arith, length-map xs f))

-- the same of two lists, item by item
pub pair_at : {A B : Type 0} (xs : List A) (ys : List B) (i : ℕ) (d : A) (e : B) → length ys ≡ length xs → i < length xs
    → drop i (zip xs ys) ≡ (get_or xs i d, get_or ys i e) ∷ drop (i + 1) (zip xs ys)
pair_at xs ys i d e len lt = rw add-one (go xs ys i len lt)
  where
    go : (xs : List _) (ys : List _) (i : ℕ) → length ys ≡ length xs → i < length xs → drop i (zip xs ys) ≡ (get_or xs i d, get_or ys i e) ∷ drop (suc i) (zip xs ys)
    go [] ys i len lt = absurd (omega arith)
    go (a ∷ xs) [] i len lt = absurd (omega arith)
    go (a ∷ xs) (b ∷ ys) zero len lt = refl
    go (a ∷ xs) (b ∷ ys) (suc i) len lt = go xs ys i (omega arith) (omega arith)

pub pair_first : {A B : Type 0} (xs : List A) (ys : List B) (i : ℕ) (x : A) (y : B) → length ys ≡ length xs → i < length xs → x ≡ get_or xs i x → y ≡ get_or ys i y
    → drop i (zip xs ys) ≡ (x, y) ∷ drop (i + 1) (zip xs ys)
pair_first xs ys i x y len lt is_x is_y = pair_at xs ys i x y len lt ∙ sym (λ k. (is_x k, is_y k) ∷ drop (i + 1) (zip xs ys))

pub pairs_end : {A B : Type 0} (xs : List A) (ys : List B) (i : ℕ) → length xs ≤ i → drop i (zip xs ys) ≡ []
pairs_end [] ys i le = drop_all i [] (omega arith)
pairs_end (a ∷ xs) [] i le = drop_all i [] (omega arith)
pairs_end (a ∷ xs) (b ∷ ys) zero le = absurd (omega arith)
pairs_end (a ∷ xs) (b ∷ ys) (suc i) le = pairs_end xs ys i (omega arith)

-- and where f is taken of each item of the second
pub pair_of : {A B C : Type 0} (f : B → C) (xs : List A) (ys : List B) (i : ℕ) (x : A) (y : B) → length ys ≡ length xs → i < length xs → x ≡ get_or xs i x → y ≡ get_or ys i y
    → drop i (zip xs (map f ys)) ≡ (x, f y) ∷ drop (i + 1) (zip xs (map f ys))
pair_of f xs ys i x y len lt is_x is_y = pair_first xs (map f ys) i x (f y) (length-map ys f ∙ len) lt is_x (item_of f ys i y (omega arith) is_y)

pub zip-map_right : {A B C : Type 0} (f : B → C) (xs : List A) (ys : List B) → zip xs (map f ys) ≡ map (λ (p : A × B). (p.0, f p.1)) (zip xs ys)
zip-map_right f [] ys = refl
zip-map_right f (x ∷ xs) [] = refl
zip-map_right f (x ∷ xs) (y ∷ ys) = ap (λ ps. (x, f y) ∷ ps) (zip-map_right f xs ys)

-- what holds of each item of the second list holds of each pair
pub All-zip_right : {A B : Type 0} (P : B → Type 0) (xs : List A) (ys : List B) → All P ys → All (λ (p : A × B). P p.1) (zip xs ys)
All-zip_right {A} {B} P [] ys h = All-nil (λ (p : A × B). P p.1)
All-zip_right {A} {B} P (x ∷ xs) [] h = All-nil (λ (p : A × B). P p.1)
All-zip_right {A} {B} P (x ∷ xs) (y ∷ ys) h = All-cons (λ (p : A × B). P p.1) (x, y) (zip xs ys) (All-head P y ys h) (All-zip_right P xs ys (All-tail P y ys h))

-- and of the first
pub All-zip_left : {A B : Type 0} (P : A → Type 0) (xs : List A) (ys : List B) → All P xs → All (λ (p : A × B). P p.0) (zip xs ys)
All-zip_left {A} {B} P [] ys h = All-nil (λ (p : A × B). P p.0)
All-zip_left {A} {B} P (x ∷ xs) [] h = All-nil (λ (p : A × B). P p.0)
All-zip_left {A} {B} P (x ∷ xs) (y ∷ ys) h = All-cons (λ (p : A × B). P p.0) (x, y) (zip xs ys) (All-head P x xs h) (All-zip_left P xs ys (All-tail P x xs h))

pub All-of_zip_left : {A B : Type 0} (P : A → Type 0) (xs : List A) (ys : List B) → length ys ≡ length xs → All (λ (p : A × B). P p.0) (zip xs ys) → All P xs
All-of_zip_left {A} {B} P [] ys len h = All-nil P
All-of_zip_left {A} {B} P (x ∷ xs) [] len h = absurd (omega arith)
All-of_zip_left {A} {B} P (x ∷ xs) (y ∷ ys) len h =
    All-cons P x xs (All-head (λ (p : A × B). P p.0) (x, y) (zip xs ys) h) (All-of_zip_left P xs ys (omega arith) (All-tail (λ (p : A × B). P p.0) (x, y) (zip xs ys) h))

-- a rising list rises still with a greater number behind it
pub rise_push : (xs : List ℕ) (y : ℕ) → IsStrictlyIncreasing xs → All (λ x. x < y) xs → IsStrictlyIncreasing (xs ++ y ∷ [])
rise_push xs y rise below = λ k h.
    let long = length-append xs (y ∷ []) in
    ⊎_elim
    (λ (inside : k + 1 < length xs).
    rw (get_or_append_left xs (y ∷ []) 0 k (omega arith), get_or_append_left xs (y ∷ []) 0 (k + 1) inside) (rise k inside))
    (λ (past : length xs ≤ k + 1).
    let last : k + 1 ≡ length xs = omega arith in
    rw (last, get_or_append_left xs (y ∷ []) 0 k (omega arith), get_or-append_seam xs y [] 0) (below k 0 (omega arith)))
    (cases_lt (k + 1) (length xs))
