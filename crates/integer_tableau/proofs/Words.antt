-- Numbers as words mean them, and the steps of a mix.
use Rattle.std.proofs.Common.{◌≡◌, ℕ, zero, suc, ◌*◌, ◌+◌, ◌<◌, ◌≤◌, List, [], ◌∷◌, length, map, take, drop, arith, refl, sym, ◌∙◌, ap, subst, ℤ, pos, ◌-ℤ◌, ◌*ℤ◌, unsigned_abs}
use Rattle.std.specs.Prelude.{slice_index_or}
use Rattle.std.proofs.Math.Nat.{mul-le-mul}
use Rattle.std.proofs.lemmas.List.{map-id}
use Rattle.std.proofs.lemmas.Int.{ints, unsigned_abs-mul}
use Rattle.run_equivalence.specs.IntegerRows.{AreSizes, number_at}
use Rattle.run_equivalence.specs.WholePivoting.{cross_difference}
use Rattle.integer_tableau.specs.Rows.{nonzero_in}
use Rattle.integer_tableau.specs.Within.{AreMixedSizes, HasRoom}
use Rattle.integer_tableau.proofs.Numbers.{no_size}

pub at_word : {A : Type 0} (value : A → ℤ) (xs : List A) (j : ℕ) (x : A) → j < length xs → x ≡ slice_index_or xs j x → number_at (map value xs) j ≡ value x
at_word value [] j x low at_x = absurd (omega arith)
at_word value (a ∷ xs) zero x low at_x = ap value (sym at_x)
at_word value (a ∷ xs) (suc j) x low at_x = at_word value xs j x (omega arith) at_x

-- the size of a multiple
scaled_at : (p : ℤ) (zs : List ℤ) (j : ℕ) → unsigned_abs (number_at (map (λ z. z *ℤ p) zs) j) ≡ unsigned_abs (number_at zs j) * unsigned_abs p
scaled_at p [] zero = omega arith
scaled_at p [] (suc j) = omega arith
scaled_at p (z ∷ zs) zero = unsigned_abs-mul z p
scaled_at p (z ∷ zs) (suc j) = scaled_at p zs j

-- where the multiples are there, what is taken from them has room too
pub scaled_room : (held f : ℕ) (p : ℤ) (zs qs : List ℤ) → HasRoom held (unsigned_abs p) f zs qs → HasRoom held 1 f (map (λ z. z *ℤ p) zs) qs
scaled_room held f p zs qs room j = let here = room j in let size = scaled_at p zs j in omega (arith, here, size)

-- what has room for a product to be taken from it has room for the difference
pub difference_within : (held : ℕ) (z f q p : ℤ) → p ≡ f *ℤ q → unsigned_abs z + unsigned_abs f * unsigned_abs q ≤ held → unsigned_abs (z -ℤ p) ≤ held
difference_within held z f q p is room = let size = ap unsigned_abs is ∙ unsigned_abs-mul f q in omega (arith, ints, size, room)

-- ---- numbers of these sizes
pub mixed_of_sizes : (b m n p f : ℕ) (zs : List ℤ) → AreSizes m zs → m * p + f * n ≤ b → AreMixedSizes b p f n zs
mixed_of_sizes b m n p f zs hz room j = let less : unsigned_abs (number_at zs j) * p ≤ m * p = mul-le-mul (hz j) (omega arith) in omega (arith, less, room)

-- leave room
pub mixed_room : (held size p f n : ℕ) (zs qs : List ℤ) → AreMixedSizes size p f n zs → AreSizes n qs → size ≤ held → HasRoom held p f zs qs
mixed_room held size p f n zs qs hz hq low j =
    let all = hz j in
    let less : f * unsigned_abs (number_at qs j) ≤ f * n = mul-le-mul (omega arith) (hq j) in
    omega (arith, all, less, low)

-- and what has room is of that size afterwards
number_within : (p b : ℕ) (f z q : ℤ) → unsigned_abs z * p + unsigned_abs f * unsigned_abs q ≤ b → unsigned_abs ((z *ℤ pos p) -ℤ (f *ℤ q)) ≤ b
number_within p b f z q room = difference (z *ℤ pos p) (f *ℤ q) (unsigned_abs z * p) (unsigned_abs f * unsigned_abs q) (unsigned_abs-mul z (pos p)) (unsigned_abs-mul f q) room
  where
    difference : (l r : ℤ) (m n : ℕ) → unsigned_abs l ≡ m → unsigned_abs r ≡ n → m + n ≤ b → unsigned_abs (l -ℤ r) ≤ b
    difference l r m n h k room = omega (arith, ints, h, k, room)

pub room_within : (b p : ℕ) (f : ℤ) (zs qs : List ℤ) → HasRoom b p (unsigned_abs f) zs qs → AreSizes b (cross_difference p f zs qs)
unfolding cross_difference
room_within b p f [] qs room j = no_size b j
room_within b p f (z ∷ zs) [] room j = no_size b j
room_within b p f (z ∷ zs) (q ∷ qs) room zero = number_within p b f z q (room 0)
room_within b p f (z ∷ zs) (q ∷ qs) room (suc j) = room_within b p f zs qs (λ i. room (suc i)) j

-- numbers that words are themselves
pub mixed_words : (p : ℕ) (f : ℤ) (zs qs ns : List ℤ) → map (λ (z : ℤ). z) ns ≡ cross_difference p f (map (λ (z : ℤ). z) zs) qs → ns ≡ cross_difference p f zs qs
mixed_words p f zs qs ns h = sym (map-id ns) ∙ h ∙ ap (λ (ws : List ℤ). cross_difference p f ws qs) (map-id zs)

-- and those of the pivot row too
pub mixed_all : (p : ℕ) (f : ℤ) (zs qs ns : List ℤ) → map (λ (z : ℤ). z) ns ≡ cross_difference p f (map (λ (z : ℤ). z) zs) (map (λ (z : ℤ). z) qs) → ns ≡ cross_difference p f zs qs
mixed_all p f zs qs ns h = mixed_words p f zs (map (λ (z : ℤ). z) qs) ns h ∙ ap (λ (ws : List ℤ). cross_difference p f zs ws) (map-id qs)

pub room_in_words : (held p f : ℕ) (zs qs : List ℤ) → HasRoom held p f zs qs → HasRoom held p f (map (λ (z : ℤ). z) zs) qs
room_in_words held p f zs qs room = subst (λ (ws : List ℤ). HasRoom held p f ws qs) (sym (map-id zs)) room

pub room_of_words : (held p f : ℕ) (zs qs : List ℤ) → HasRoom held p f zs qs → HasRoom held p f (map (λ (z : ℤ). z) zs) (map (λ (z : ℤ). z) qs)
room_of_words held p f zs qs room = subst (λ (ws : List ℤ). HasRoom held p f (map (λ (z : ℤ). z) zs) ws) (sym (map-id qs)) (room_in_words held p f zs qs room)

pub places_of_words : (places : List ℕ) (qs : List ℤ) → places ≡ nonzero_in qs → places ≡ nonzero_in (map (λ (z : ℤ). z) qs)
places_of_words places qs h = h ∙ ap nonzero_in (sym (map-id qs))

-- the numbers at the front of a row of words
pub front_words : {A : Type 0} (value : A → ℤ) (w : ℕ) (xs : List A) → map value (take w (drop 1 xs)) ≡ take w (drop 1 (map value xs))
front_words {A = A} value w [] = taken w
  where
    taken : (w : ℕ) → map value (take w []) ≡ take w []
    taken zero = refl
    taken (suc w) = refl
front_words {A = A} value w (x ∷ xs) = taken w xs
  where
    taken : (w : ℕ) (xs : List A) → map value (take w xs) ≡ take w (map value xs)
    taken zero xs = refl
    taken (suc w) [] = refl
    taken (suc w) (x ∷ xs) = ap (λ (zs : List ℤ). value x ∷ zs) (taken w xs)
