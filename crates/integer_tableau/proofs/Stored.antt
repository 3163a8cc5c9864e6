-- Rows of both widths, one of them written.
use Rattle.std.proofs.Common.{◌≡◌, ℕ, zero, suc, ◌+◌, ◌<◌, ◌≤◌, List, [], ◌∷◌, ◌++◌, length, map, set, get_or, refl, sym, ◌∙◌, ap, arith, Bool, true, false, ℤ, pos, negsuc, unsigned_abs, nat_eq}
use Rattle.std.specs.Prelude.{int_lt, if◌then◌else◌}
use Rattle.std.proofs.lemmas.Int.{ints}
use Rattle.std.specs.Int.{int_signum}
use Rattle.std.proofs.lemmas.Bool.{lt-ltb, ne_eqb}
use Rattle.std.proofs.lemmas.List.{set-get_or}
use Rattle.exact_num.specs.Fraction.{whole}
use Rattle.fraction_tableau.specs.Nonzero.{nonzero_from}
use Rattle.run_equivalence.specs.IntegerRows.{number_at}
use Rattle.integer_tableau.specs.Rows.{nonzero_in, row_at}
use Rattle.integer_tableau.specs.Stored.{rows_of}

-- ---- the row that stands at a place
pub rows_count : (bs : List Bool) (short there : List (List ℤ)) → length (rows_of bs short there) ≡ length short
unfolding rows_of
rows_count bs [] there = refl
rows_count [] (s ∷ short) there = ap suc (rows_count [] short there)
rows_count (b ∷ bs) (s ∷ short) [] = ap suc (rows_count bs short [])
rows_count (b ∷ bs) (s ∷ short) (x ∷ there) = ap suc (rows_count bs short there)

pub row_short : (bs : List Bool) (short there : List (List ℤ)) (i : ℕ) → get_or bs i false ≡ false → row_at (rows_of bs short there) i ≡ row_at short i
unfolding rows_of
row_short bs [] there i h = refl
row_short [] (s ∷ short) there zero h = refl
row_short [] (s ∷ short) there (suc i) h = row_short [] short there i refl
row_short (b ∷ bs) (s ∷ short) [] zero h = refl
row_short (b ∷ bs) (s ∷ short) [] (suc i) h = row_short bs short [] i h
row_short (b ∷ bs) (s ∷ short) (x ∷ there) zero h = rw h refl
row_short (b ∷ bs) (s ∷ short) (x ∷ there) (suc i) h = row_short bs short there i h

pub row_wide : (bs : List Bool) (short there : List (List ℤ)) (i : ℕ) → i < length short → i < length there → get_or bs i false ≡ true → row_at (rows_of bs short there) i ≡ row_at there i
unfolding rows_of
row_wide bs [] there i p q h = absurd (omega (arith, p))
row_wide [] (s ∷ short) there i p q h = absurd (none i h)
  where
    none : (i : ℕ) → get_or [] i false ≡ true → ⊥
    none zero e = cc
    none (suc i) e = cc
row_wide (b ∷ bs) (s ∷ short) [] i p q h = absurd (omega (arith, q))
row_wide (b ∷ bs) (s ∷ short) (x ∷ there) zero p q h = rw h refl
row_wide (b ∷ bs) (s ∷ short) (x ∷ there) (suc i) p q h = row_wide bs short there i (omega (arith, p)) (omega (arith, q)) h

-- ---- or where it does not stand
pub signs_written : (bs : List Bool) (short there : List (List ℤ)) (i : ℕ) (ys : List ℤ) → get_or bs i false ≡ true → i < length there → rows_of bs (set short i ys) there ≡ rows_of bs short there
unfolding rows_of
signs_written bs [] there i ys h p = refl
signs_written [] (s ∷ short) there zero ys h p = absurd cc
signs_written [] (s ∷ short) there (suc i) ys h p = absurd cc
signs_written (b ∷ bs) (s ∷ short) [] i ys h p = absurd (omega (arith, p))
signs_written (b ∷ bs) (s ∷ short) (x ∷ there) zero ys h p = rw h refl
signs_written (b ∷ bs) (s ∷ short) (x ∷ there) (suc i) ys h p = ap (λ rows. (if b then x else s) ∷ rows) (signs_written bs short there i ys h (omega (arith, p)))

-- ---- row i is written, where it stands or in the other place, and may change its width
all_short : (short there : List (List ℤ)) → rows_of [] short there ≡ short
unfolding rows_of
all_short [] there = refl
all_short (s ∷ short) there = ap (λ rows. s ∷ rows) (all_short short there)

none_wide : (bs : List Bool) (short : List (List ℤ)) → rows_of bs short [] ≡ short
unfolding rows_of
none_wide bs [] = refl
none_wide [] (s ∷ short) = ap (λ rows. s ∷ rows) (none_wide [] short)
none_wide (b ∷ bs) (s ∷ short) = ap (λ rows. s ∷ rows) (none_wide bs short)

-- what was written is written again
pub set_again : {A : Type 0} (xs : List A) (i : ℕ) (y d : A) → set xs i y ≡ set xs i (get_or (set xs i y) i d)
set_again [] i y d = refl
set_again (x ∷ xs) zero y d = refl
set_again (x ∷ xs) (suc i) y d = ap (λ ys. x ∷ ys) (set_again xs i y d)

-- at most place i is written
pub data IsSet (A : Type 0) (i : ℕ) (old new : List A) : Type 0 where
  stays : new ≡ old → IsSet A i old new
  put : (y : A) → new ≡ set old i y → IsSet A i old new

pub set_is : {A : Type 0} (i : ℕ) (old new : List A) (d : A) → IsSet A i old new → new ≡ set old i (get_or new i d)
set_is {A} i old new d (stays e) = e ∙ sym (set-get_or old i d) ∙ ap (λ (xs : List A). set old i (get_or xs i d)) (sym e)
set_is {A} i old new d (put y e) = e ∙ set_again old i y d ∙ ap (λ (xs : List A). set old i (get_or xs i d)) (sym e)

-- where there is no flag or no room every row is short
rows_plain : (new old short : List (List ℤ)) (i : ℕ) (ys : List ℤ) → new ≡ set short i ys → old ≡ short → new ≡ set old i (row_at new i)
rows_plain new old short i ys e f = e ∙ set_again short i ys [] ∙ (λ k. set (sym f k) i (row_at (sym e k) i))

rows_set : (bs : List Bool) (short there : List (List ℤ)) (i : ℕ) (b : Bool) (ys zs : List ℤ)
    → rows_of (set bs i b) (set short i ys) (set there i zs) ≡ set (rows_of bs short there) i (row_at (rows_of (set bs i b) (set short i ys) (set there i zs)) i)
unfolding rows_of
rows_set bs [] there i b ys zs = refl
rows_set [] (s ∷ short) there i b ys zs = rows_plain _ _ (s ∷ short) i ys (all_short (set (s ∷ short) i ys) (set there i zs)) (all_short (s ∷ short) there)
rows_set (a ∷ bs) (s ∷ short) [] i b ys zs = rows_plain _ _ (s ∷ short) i ys (none_wide (set (a ∷ bs) i b) (set (s ∷ short) i ys)) (none_wide (a ∷ bs) (s ∷ short))
rows_set (a ∷ bs) (s ∷ short) (x ∷ there) zero b ys zs = refl
rows_set (a ∷ bs) (s ∷ short) (x ∷ there) (suc i) b ys zs = ap (λ rows. (if a then x else s) ∷ rows) (rows_set bs short there i b ys zs)

pub rows_changed : (bs flags : List Bool) (short new there wide : List (List ℤ)) (i : ℕ) (b : Bool) (ys zs : List ℤ) → flags ≡ set bs i b → new ≡ set short i ys → wide ≡ set there i zs
    → rows_of flags new wide ≡ set (rows_of bs short there) i (row_at (rows_of flags new wide) i)
rows_changed bs flags short new there wide i b ys zs e f g =
    let same : rows_of flags new wide ≡ rows_of (set bs i b) (set short i ys) (set there i zs) = λ k. rows_of (e k) (f k) (g k) in
    same ∙ rows_set bs short there i b ys zs ∙ ap (λ (rows : List (List ℤ)). set (rows_of bs short there) i (row_at rows i)) (sym same)

-- ---- one row more, which is short
pub rows_more : (bs : List Bool) (short there : List (List ℤ)) (ys : List ℤ) → get_or bs (length short) false ≡ false → rows_of bs (short ++ ys ∷ []) there ≡ rows_of bs short there ++ ys ∷ []
unfolding rows_of
rows_more [] [] there ys h = refl
rows_more (b ∷ bs) [] [] ys h = refl
rows_more (b ∷ bs) [] (x ∷ there) ys h = rw h refl
rows_more [] (s ∷ short) there ys h = ap (λ rows. s ∷ rows) (rows_more [] short there ys refl)
rows_more (b ∷ bs) (s ∷ short) [] ys h = ap (λ rows. s ∷ rows) (rows_more bs short [] ys h)
rows_more (b ∷ bs) (s ∷ short) (x ∷ there) ys h = ap (λ rows. (if b then x else s) ∷ rows) (rows_more bs short there ys h)

pub flag_unread : (bs : List Bool) (short there : List (List ℤ)) (b : Bool) → rows_of (set bs (length short) b) short there ≡ rows_of bs short there
unfolding rows_of
flag_unread bs [] there b = refl
flag_unread [] (s ∷ short) there b = refl
flag_unread (a ∷ bs) (s ∷ short) [] b = ap (λ rows. s ∷ rows) (flag_unread bs short [] b)
flag_unread (a ∷ bs) (s ∷ short) (x ∷ there) b = ap (λ rows. (if a then x else s) ∷ rows) (flag_unread bs short there b)

-- ---- room for one row more
pub room_unread : (bs : List Bool) (short there : List (List ℤ)) (ys : List ℤ) → length short ≤ length there → rows_of bs short (there ++ ys ∷ []) ≡ rows_of bs short there
unfolding rows_of
room_unread bs [] there ys p = refl
room_unread [] (s ∷ short) there ys p = all_short (s ∷ short) (there ++ ys ∷ []) ∙ sym (all_short (s ∷ short) there)
room_unread (b ∷ bs) (s ∷ short) [] ys p = absurd (omega (arith, p))
room_unread (b ∷ bs) (s ∷ short) (x ∷ there) ys p = ap (λ rows. (if b then x else s) ∷ rows) (room_unread bs short there ys (omega (arith, p)))

-- ---- signs tell what is 0 and what is above 0
not_zero : (n : ℕ) → nat_eq (suc n) 0 ≡ false
not_zero n = ne_eqb (suc n) 0 (λ e. omega (arith, e))

pub zero_by_sign : (x y : ℤ) → int_signum x ≡ int_signum y → nat_eq (unsigned_abs x) 0 ≡ nat_eq (unsigned_abs y) 0
zero_by_sign (pos zero) (pos zero) h = refl
zero_by_sign (pos zero) (pos (suc n)) h = absurd (omega (arith, ints, h))
zero_by_sign (pos zero) (negsuc n) h = absurd cc
zero_by_sign (pos (suc m)) (pos zero) h = absurd (omega (arith, ints, h))
zero_by_sign (pos (suc m)) (pos (suc n)) h = not_zero m ∙ sym (not_zero n)
zero_by_sign (pos (suc m)) (negsuc n) h = absurd (omega (arith, ints, h))
zero_by_sign (negsuc m) (pos zero) h = absurd cc
zero_by_sign (negsuc m) (pos (suc n)) h = absurd (omega (arith, ints, h))
zero_by_sign (negsuc m) (negsuc n) h = not_zero m ∙ sym (not_zero n)

pub above_by_sign : (x y : ℤ) → int_signum x ≡ int_signum y → int_lt (pos 0) x ≡ int_lt (pos 0) y
above_by_sign (pos zero) (pos zero) h = refl
above_by_sign (pos zero) (pos (suc n)) h = absurd (omega (arith, ints, h))
above_by_sign (pos zero) (negsuc n) h = refl
above_by_sign (pos (suc m)) (pos zero) h = absurd (omega (arith, ints, h))
above_by_sign (pos (suc m)) (pos (suc n)) h = lt-ltb 0 (suc m) (omega arith) ∙ sym (lt-ltb 0 (suc n) (omega arith))
above_by_sign (pos (suc m)) (negsuc n) h = absurd cc
above_by_sign (negsuc m) (pos zero) h = refl
above_by_sign (negsuc m) (pos (suc n)) h = absurd cc
above_by_sign (negsuc m) (negsuc n) h = refl

pub sign_of_sign : (x : ℤ) → int_signum (int_signum x) ≡ int_signum x
sign_of_sign (pos n) = ap pos (omega arith)
sign_of_sign (negsuc n) = refl

nonzero_alike : (i : ℕ) (xs ys : List ℤ) → length xs ≡ length ys → ((j : ℕ) → nat_eq (unsigned_abs (number_at xs j)) 0 ≡ nat_eq (unsigned_abs (number_at ys j)) 0) → nonzero_from i (map whole xs) ≡ nonzero_from i (map whole ys)
unfolding nonzero_from
nonzero_alike i [] [] e h = refl
nonzero_alike i [] (y ∷ ys) e h = absurd (omega (arith, e))
nonzero_alike i (x ∷ xs) [] e h = absurd (omega (arith, e))
nonzero_alike i (x ∷ xs) (y ∷ ys) e h =
    let later = nonzero_alike (i + 1) xs ys (omega (arith, e)) (λ j. h (suc j)) in
    λ k. if h 0 k then later k else i ∷ later k

-- where numbers have the same signs the same places are not 0
pub nonzero_by_signs : (xs ys : List ℤ) → length xs ≡ length ys → ((j : ℕ) → int_signum (number_at xs j) ≡ int_signum (number_at ys j)) → nonzero_in xs ≡ nonzero_in ys
nonzero_by_signs xs ys e h = nonzero_alike 0 xs ys e (λ j. zero_by_sign (number_at xs j) (number_at ys j) (h j))
