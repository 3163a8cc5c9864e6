-- Parts of a list.
use Rattle.std.proofs.Common.{◌≡◌, ℕ, ◌+◌, ◌-◌, ◌≤◌, List, ◌++◌, length, take, drop, arith, sym, ◌∙◌, ap, append_assoc, take-append-drop, take-take, take_at, drop-drop, length-drop, length-take-le, length-append}
use Rattle.std.proofs.lemmas.List.{drop-take, drop-append-le}
use Rattle.lists.specs.Parts.{part, refit, with_part}

-- what is left from place j on
rest_is : {A : Type 0} (j n : ℕ) (xs : List A) → drop j xs ≡ part j n xs ++ drop (j + n) xs
rest_is j n xs = sym (take-append-drop n (drop j xs)) ∙ ap (λ w. part j n xs ++ w) (drop-drop n j xs)

pub cut_in_three : {A : Type 0} (i n : ℕ) (xs : List A) → xs ≡ take i xs ++ (part i n xs ++ drop (i + n) xs)
cut_in_three i n xs = sym (take-append-drop i xs) ∙ ap (λ w. take i xs ++ w) (rest_is i n xs)

part_less : {A : Type 0} (i n j : ℕ) (xs : List A) → i + n ≤ j → part i n (take j xs) ≡ part i n xs
part_less i n j xs h =
    let on : j ≡ i + (j - i) = omega (arith, h) in
    ap (λ k. part i n (take k xs)) on ∙ ap (take n) (drop-take i (j - i) xs) ∙ take-take n (j - i) (drop i xs) (omega (arith, h))

-- the front of a list, cut round a part of it
pub front_is : {A : Type 0} (i n j : ℕ) (xs : List A) → i + n ≤ j → take j xs ≡ take i xs ++ (part i n xs ++ drop (i + n) (take j xs))
front_is i n j xs h =
    cut_in_three i n (take j xs)
    ∙ ap (λ w. w ++ (part i n (take j xs) ++ drop (i + n) (take j xs))) (take-take i j xs (omega (arith, h)))
    ∙ ap (λ w. take i xs ++ (w ++ drop (i + n) (take j xs))) (part_less i n j xs h)

drop_is : {A : Type 0} (m j : ℕ) (xs : List A) → m ≤ j → j ≤ length xs → drop m xs ≡ drop m (take j xs) ++ drop j xs
drop_is m j xs h k = ap (drop m) (sym (take-append-drop j xs)) ∙ drop-append-le m (take j xs) (drop j xs) (omega (arith, h, length-take-le j xs k))

pub length-part : {A : Type 0} (i n : ℕ) (xs : List A) → i + n ≤ length xs → length (part i n xs) ≡ n
length-part i n xs h = length-take-le n (drop i xs) (omega (arith, h, length-drop i xs))

-- as many as there were
pub refit_is : {A : Type 0} (n : ℕ) (old ys : List A) → length ys ≡ n → refit n old ys ≡ ys
refit_is n old ys e = take_at ys (drop (length ys) old) n e

pub length-refit : {A : Type 0} (n : ℕ) (old ys : List A) → length old ≡ n → length (refit n old ys) ≡ n
length-refit n old ys e = length-take-le n (ys ++ drop (length ys) old) (omega (arith, length-append ys (drop (length ys) old), length-drop (length ys) old, e))

pub length-with_part : {A : Type 0} (i n : ℕ) (xs ys : List A) → i + n ≤ length xs → length (with_part i n xs ys) ≡ length xs
length-with_part i n xs ys h =
    let new = refit n (part i n xs) ys in
    let e : length new ≡ n = length-refit n (part i n xs) ys (length-part i n xs h) in
    length-append (take i xs) (new ++ drop (i + n) xs) ∙ ap (λ w. length (take i xs) + w) (length-append new (drop (i + n) xs))
    ∙ (let a = length-take-le i xs (omega (arith, h)) in let d = length-drop (i + n) xs in omega (arith, a, d, e, h))

-- the part to be read comes first
pub reads_first : {A : Type 0} (r w n : ℕ) (xs : List A) → r + n ≤ w → w + n ≤ length xs → (ys : List A) → length ys ≡ n
    → with_part w n xs ys ≡ (take r xs ++ (part r n xs ++ drop (r + n) (take w xs))) ++ (ys ++ drop (w + n) xs)
reads_first r w n xs h k ys e =
    ap (λ z. take w xs ++ (z ++ drop (w + n) xs)) (refit_is n (part w n xs) ys e)
    ∙ ap (λ z. z ++ (ys ++ drop (w + n) xs)) (front_is r n w xs h)

pub whole_reads_first : {A : Type 0} (r w n : ℕ) (xs : List A) → r + n ≤ w → xs ≡ (take r xs ++ (part r n xs ++ drop (r + n) (take w xs))) ++ (part w n xs ++ drop (w + n) xs)
whole_reads_first r w n xs h =
    cut_in_three w n xs ∙ ap (λ z. z ++ (part w n xs ++ drop (w + n) xs)) (front_is r n w xs h)

-- the part to be written comes first
pub writes_first : {A : Type 0} (r w n : ℕ) (xs : List A) → w + n ≤ r → r + n ≤ length xs → (ys : List A) → length ys ≡ n
    → with_part w n xs ys ≡ (take w xs ++ (ys ++ drop (w + n) (take r xs))) ++ (part r n xs ++ drop (r + n) xs)
writes_first r w n xs h k ys e =
    ap (λ z. take w xs ++ (z ++ drop (w + n) xs)) (refit_is n (part w n xs) ys e)
    ∙ ap (λ z. take w xs ++ (ys ++ z)) (drop_is (w + n) r xs h (omega (arith, k)) ∙ ap (λ z. drop (w + n) (take r xs) ++ z) (rest_is r n xs))
    ∙ ap (λ z. take w xs ++ z) (sym (append_assoc ys (drop (w + n) (take r xs)) (part r n xs ++ drop (r + n) xs)))
    ∙ sym (append_assoc (take w xs) (ys ++ drop (w + n) (take r xs)) (part r n xs ++ drop (r + n) xs))

pub whole_writes_first : {A : Type 0} (r w n : ℕ) (xs : List A) → w + n ≤ r → xs ≡ (take w xs ++ (part w n xs ++ drop (w + n) (take r xs))) ++ (part r n xs ++ drop (r + n) xs)
whole_writes_first r w n xs h =
    cut_in_three r n xs ∙ ap (λ z. z ++ (part r n xs ++ drop (r + n) xs)) (front_is w n r xs h)
