-- Entries written into a row.
use Rattle.std.proofs.Common.{◌≡◌, ℕ, suc, ◌+◌, ◌-◌, ◌<◌, ◌≤◌, List, [], ◌∷◌, ◌++◌, length, map, take, set, replicate, refl, sym, ◌∙◌, ap, subst, arith, append_assoc}
use Rattle.std.specs.Prelude.{slice_index_or}
use Rattle.std.proofs.lemmas.List.{length-append, length-set, length-map, map-append, take_more, append-nil, length-take-le, set_at}
use Rattle.std.proofs.lemmas.List.Elements.{All-push}
use Rattle.exact_num.specs.Fraction.{Fraction}
use Rattle.simplex_run.specs.Places.{fraction_zero}
use Rattle.fraction_tableau.specs.declared.sparse_entry.Entry.{Entry}
use Rattle.fraction_tableau.specs.SparseEntries.{written, StandsFor, HasAdded}

written_last : {A : Type 0} (value : A → Fraction) (es : List (Entry A)) (e : Entry A) (row : List Fraction) → written value (es ++ e ∷ []) row ≡ set (written value es row) e.place (value e.number)
unfolding written
written_last value [] e row = refl
written_last value (x ∷ es) e row = written_last value es e (set row x.place (value x.number))

pub length-written : {A : Type 0} (value : A → Fraction) (es : List (Entry A)) (row : List Fraction) → length (written value es row) ≡ length row
unfolding written
length-written value [] row = refl
length-written value (e ∷ es) row = length-written value es (set row e.place (value e.number)) ∙ length-set row e.place (value e.number)

-- one entry more, the first of those that are left
pub writes_on : {A : Type 0} (value : A → Fraction) (e : Entry A) (left es : List (Entry A)) (row whole : List Fraction) → left ≡ e ∷ es → written value left row ≡ whole → written value es (set row e.place (value e.number)) ≡ whole
unfolding written
writes_on value e left es row whole is h = sym (ap (λ l. written value l row) is) ∙ h

pub all_written : {A : Type 0} (value : A → Fraction) (left : List (Entry A)) (row whole : List Fraction) → left ≡ [] → written value left row ≡ whole → row ≡ whole
unfolding written
all_written value left row whole is h = sym (ap (λ l. written value l row) is) ∙ h

-- ---- the zeros behind the numbers
zeros_left : (width k : ℕ) → k + 1 ≤ width → replicate (width - k) fraction_zero ≡ fraction_zero ∷ replicate (width - (k + 1)) fraction_zero
zeros_left width k h = let more : width - k ≡ suc (width - (k + 1)) = omega (arith, h) in rw more refl

one_more : {A : Type 0} (value : A → Fraction) (xs : List A) (x : A) (width : ℕ) → map value (xs ++ x ∷ []) ++ replicate (width - length (xs ++ x ∷ [])) fraction_zero ≡ map value xs ++ value x ∷ replicate (width - (length xs + 1)) fraction_zero
one_more value xs x width =
    let zeros = λ (k : ℕ). replicate (width - k) fraction_zero in
    ap (λ (l : List Fraction). l ++ zeros (length (xs ++ x ∷ []))) (map-append value xs (x ∷ []))
    ∙ append_assoc (map value xs) (value x ∷ []) (zeros (length (xs ++ x ∷ [])))
    ∙ ap (λ (k : ℕ). map value xs ++ value x ∷ zeros k) (length-append xs (x ∷ []))

none_stand : {A : Type 0} (value : A → Fraction) → StandsFor value [] []
unfolding written
none_stand value = record { places = λ width h k d low. absurd (omega (arith, low)); row = λ width h. let all : width - 0 ≡ width = omega arith in rw all refl }

zero_stands : {A : Type 0} (value : A → Fraction) (xs : List A) (x : A) (es : List (Entry A)) → value x ≡ fraction_zero → StandsFor value xs es → StandsFor value (xs ++ x ∷ []) es
zero_stands value xs x es z s =
    let count = length-append xs (x ∷ []) in
    record {
      places = λ width h. s.places width (omega (arith, h, count));
      row = λ width h.
          s.row width (omega (arith, h, count))
          ∙ ap (λ (l : List Fraction). map value xs ++ l) (zeros_left width (length xs) (omega (arith, h, count)))
          ∙ ap (λ (v : Fraction). map value xs ++ v ∷ replicate (width - (length xs + 1)) fraction_zero) (sym z)
          ∙ sym (one_more value xs x width);
    }

entry_stands : {A : Type 0} (value : A → Fraction) (xs : List A) (x : A) (es : List (Entry A)) (e : Entry A) → e.place ≡ length xs → e.number ≡ x → StandsFor value xs es → StandsFor value (xs ++ x ∷ []) (es ++ e ∷ [])
entry_stands {A} value xs x es e place number s =
    let count = length-append xs (x ∷ []) in
    record {
      places = λ width h. All-push (λ (e : Entry A). e.place < width) es e (s.places width (omega (arith, h, count))) (omega (arith, h, count, place));
      row = λ width h.
          let zeros = replicate (width - (length xs + 1)) fraction_zero in
          written_last value es e (replicate width fraction_zero)
          ∙ ap (λ (l : List Fraction). set l e.place (value e.number)) (s.row width (omega (arith, h, count)) ∙ ap (λ (l : List Fraction). map value xs ++ l) (zeros_left width (length xs) (omega (arith, h, count))))
          ∙ set_at (map value xs) fraction_zero zeros (value e.number) e.place (length-map xs value ∙ sym place)
          ∙ ap (λ (y : A). map value xs ++ value y ∷ zeros) number
          ∙ sym (one_more value xs x width);
    }

-- ---- one number after another
pub added_none : {A : Type 0} (value : A → Fraction) (old : List (Entry A)) → HasAdded value [] old old
added_none value old = record { added = []; items = sym (append-nil old); stand = none_stand value }

pub added_zero : {A : Type 0} (value : A → Fraction) (xs : List A) (x : A) (i : ℕ) (old new : List (Entry A)) → i < length xs → x ≡ slice_index_or xs i x → value x ≡ fraction_zero → HasAdded value (take i xs) old new → HasAdded value (take (i + 1) xs) old new
added_zero {A} value xs x i old new low at_x z h =
    let front : take (i + 1) xs ≡ take i xs ++ x ∷ [] = take_more xs i x low ∙ ap (λ (y : A). take i xs ++ y ∷ []) (sym at_x) in
    record { added = h.added; items = h.items; stand = subst (λ (l : List A). StandsFor value l h.added) (sym front) (zero_stands value (take i xs) x h.added z h.stand) }

-- an entry behind those that are added
pub added_entry : {A : Type 0} (value : A → Fraction) (xs : List A) (x : A) (e : Entry A) (old mid new : List (Entry A)) → new ≡ mid ++ e ∷ [] → e.place ≡ length xs → e.number ≡ x → HasAdded value xs old mid → HasAdded value (xs ++ x ∷ []) old new
added_entry {A} value xs x e old mid new is place number h =
    record {
      added = h.added ++ e ∷ [];
      items = is ∙ ap (λ (l : List (Entry A)). l ++ e ∷ []) h.items ∙ append_assoc old h.added (e ∷ []);
      stand = entry_stands value xs x h.added e place number h.stand;
    }

pub added_number : {A : Type 0} (value : A → Fraction) (xs : List A) (x : A) (i : ℕ) (e : Entry A) (old mid new : List (Entry A)) → i < length xs → x ≡ slice_index_or xs i x → new ≡ mid ++ e ∷ [] → e.place ≡ i → e.number ≡ x → HasAdded value (take i xs) old mid → HasAdded value (take (i + 1) xs) old new
added_number {A} value xs x i e old mid new low at_x is place number h =
    let front : take (i + 1) xs ≡ take i xs ++ x ∷ [] = take_more xs i x low ∙ ap (λ (y : A). take i xs ++ y ∷ []) (sym at_x) in
    let count : length (take i xs) ≡ i = length-take-le i xs (omega (arith, low)) in
    subst (λ (l : List A). HasAdded value l old new) (sym front) (added_entry value (take i xs) x e old mid new is (place ∙ sym count) number h)
