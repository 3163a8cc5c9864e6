-- Rows whose entries lie one behind another.
use Rattle.std.proofs.Common.{◌≡◌, ℕ, zero, suc, ◌+◌, ◌-◌, ◌*◌, ◌<◌, ◌≤◌, List, [], ◌∷◌, ◌++◌, length, map, take, drop, replicate, refl, ◌∙◌, ap, arith}
use Rattle.std.specs.Prelude.{slice_index_or}
use Rattle.std.proofs.lemmas.List.{length-append, length-map, length-replicate, length-drop, map-append, take-append-le, drop-append-le, drop_all, take_all, append-nil}
use Rattle.exact_num.specs.Fraction.{Fraction}
use Rattle.simplex_run.specs.Places.{at, fraction_zero}
use Rattle.fraction_tableau.specs.Programs.{coefficients_in, empty_program, program_of, with_row}
use Rattle.fraction_tableau.proofs.Starts.{AreLong, program_more, take_front, at_end}
use Rattle.fraction_tableau.specs.declared.sparse_entry.Entry.{Entry}
use Rattle.fraction_tableau.specs.SparseEnds.{AreEnds}
use Rattle.fraction_tableau.specs.SparseEntries.{row_with, HasAdded, rows_from}
use Rattle.fraction_tableau.proofs.Written.{length-written}

-- ---- places of parts
later : (start end : ℕ) (ends : List ℕ) (last : ℕ) → AreEnds start (end ∷ ends) last → AreEnds end ends last
later start end ends last h = (λ i low. h.0 (suc i) (omega (arith, low)), h.1)

first : (start end : ℕ) (ends : List ℕ) (last : ℕ) → AreEnds start (end ∷ ends) last → start ≤ end
first start end ends last h = h.0 0 (omega arith)

joined : (start end : ℕ) (ends : List ℕ) (last : ℕ) → start ≤ end → AreEnds end ends last → AreEnds start (end ∷ ends) last
joined start end ends last low h = (go, h.1)
  where
    go : (i : ℕ) → i < length (end ∷ ends) → slice_index_or (start ∷ end ∷ ends) i 0 ≤ slice_index_or (end ∷ ends) i 0
    go zero p = low
    go (suc i) p = h.0 i (omega (arith, p))

ends_rise : (start : ℕ) (ends : List ℕ) (last : ℕ) → AreEnds start ends last → start ≤ last
ends_rise start [] last h = let same = h.1 in omega (arith, same)
ends_rise start (end ∷ ends) last h =
    let low = first start end ends last h in
    let high = ends_rise end ends last (later start end ends last h) in
    omega (arith, low, high)

pub part_inside : (start : ℕ) (ends : List ℕ) (last i : ℕ) → AreEnds start ends last → i < length ends → (slice_index_or (start ∷ ends) i 0 ≤ slice_index_or ends i 0) × (slice_index_or ends i 0 ≤ last)
part_inside start [] last i h low = absurd (omega (arith, low))
part_inside start (end ∷ ends) last zero h low = (first start end ends last h, ends_rise end ends last (later start end ends last h))
part_inside start (end ∷ ends) last (suc i) h low = part_inside end ends last i (later start end ends last h) (omega (arith, low))

pub ends_more : (start : ℕ) (ends : List ℕ) (last next : ℕ) → AreEnds start ends last → last ≤ next → AreEnds start (ends ++ next ∷ []) next
ends_more start [] last next h low = let same = h.1 in joined start next [] next (omega (arith, same, low)) (λ i p. absurd (omega (arith, p)), refl)
ends_more start (end ∷ ends) last next h low = joined start end (ends ++ next ∷ []) next (first start end ends last h) (ends_more end ends last next (later start end ends last h) low)

-- ---- rows
pub row_of_part : {A : Type 0} (value : A → Fraction) (width : ℕ) (es : List (Entry A)) (start : ℕ) (ends : List ℕ) (i : ℕ) → i < length ends
    → slice_index_or (rows_from value width es start ends) i [] ≡ row_with value width (take (slice_index_or ends i 0 - slice_index_or (start ∷ ends) i 0) (drop (slice_index_or (start ∷ ends) i 0) es))
unfolding rows_from
row_of_part value width es start [] i low = absurd (omega (arith, low))
row_of_part value width es start (end ∷ ends) zero low = refl
row_of_part value width es start (end ∷ ends) (suc i) low = row_of_part value width es end ends i (omega (arith, low))

pub length-rows : {A : Type 0} (value : A → Fraction) (width : ℕ) (es : List (Entry A)) (start : ℕ) (ends : List ℕ) → length (rows_from value width es start ends) ≡ length ends
unfolding rows_from
length-rows value width es start [] = refl
length-rows value width es start (end ∷ ends) = ap suc (length-rows value width es end ends)

pub rows_long : {A : Type 0} (value : A → Fraction) (n : ℕ) (es : List (Entry A)) (start : ℕ) (ends : List ℕ) → AreLong n (rows_from value (n + 1) es start ends)
unfolding rows_from
rows_long value n es start [] k d low = absurd (omega (arith, low))
rows_long value n es start (end ∷ ends) zero d low = length-written value (take (end - start) (drop start es)) (replicate (n + 1) fraction_zero) ∙ length-replicate (n + 1) fraction_zero
rows_long value n es start (end ∷ ends) (suc k) d low = rows_long value n es end ends k d (omega (arith, low))

-- ---- one row more
part_kept : {A : Type 0} (es new : List A) (start end : ℕ) → start ≤ end → end ≤ length es → take (end - start) (drop start (es ++ new)) ≡ take (end - start) (drop start es)
part_kept {A} es new start end low high =
    let count = length-drop start es in
    ap (take (end - start)) (drop-append-le start es new (omega (arith, low, high))) ∙ take-append-le (end - start) (drop start es) new (omega (arith, low, high, count))

last_part : {A : Type 0} (es new : List A) (start : ℕ) → start ≡ length es → take (length (es ++ new) - start) (drop start (es ++ new)) ≡ new
last_part {A} es new start is =
    let count = length-append es new in
    let none : drop start es ≡ [] = drop_all start es (omega (arith, is)) in
    ap (take (length (es ++ new) - start)) (drop-append-le start es new (omega (arith, is)) ∙ ap (λ (l : List A). l ++ new) none)
    ∙ take_all (length (es ++ new) - start) new (omega (arith, is, count))

rows_more : {A : Type 0} (value : A → Fraction) (width : ℕ) (es new : List (Entry A)) (start : ℕ) (ends : List ℕ) → AreEnds start ends (length es)
    → rows_from value width (es ++ new) start (ends ++ length (es ++ new) ∷ []) ≡ rows_from value width es start ends ++ row_with value width new ∷ []
unfolding rows_from
rows_more value width es new start [] h = ap (λ l. row_with value width l ∷ []) (last_part es new start h.1)
rows_more value width es new start (end ∷ ends) h =
    let rest = later start end ends (length es) h in
    let low = first start end ends (length es) h in
    let high = ends_rise end ends (length es) rest in
    (λ i. row_with value width (part_kept es new start end low high i) ∷ rows_more value width es new end ends rest i)

pub row_given : {A : Type 0} (value : A → Fraction) (n : ℕ) (es new : List (Entry A)) (ends more : List ℕ) (a : List A) (b : A) (costs : List Fraction) → AreEnds 0 ends (length es) → HasAdded value (a ++ b ∷ []) es new → more ≡ ends ++ length new ∷ [] → length a ≡ n
    → program_of n (rows_from value (n + 1) new 0 more) costs ≡ with_row (program_of n (rows_from value (n + 1) es 0 ends) costs) (map value a) (value b)
row_given {A} value n es new ends more a b costs order h is width =
    let lists = rows_from value (n + 1) es 0 ends in
    let as_many : length (map value a) ≡ n = length-map a value ∙ width in
    let count : length (a ++ b ∷ []) ≡ n + 1 = length-append a (b ∷ []) ∙ ap (λ k. k + 1) width in
    let none : n + 1 - length (a ++ b ∷ []) ≡ 0 = omega (arith, count) in
    let row : row_with value (n + 1) h.added ≡ map value a ++ value b ∷ [] =
    h.stand.row (n + 1) (omega (arith, count))
    ∙ ap (λ (k : ℕ). map value (a ++ b ∷ []) ++ replicate k fraction_zero) none
    ∙ append-nil (map value (a ++ b ∷ [])) ∙ map-append value a (b ∷ []) in
    let behind : more ≡ ends ++ length (es ++ h.added) ∷ [] = is ∙ ap (λ (l : List (Entry A)). ends ++ length l ∷ []) h.items in
    let rows : rows_from value (n + 1) new 0 more ≡ lists ++ (map value a ++ value b ∷ []) ∷ [] =
    (λ i. rows_from value (n + 1) (h.items i) 0 (behind i)) ∙ rows_more value (n + 1) es h.added 0 ends order ∙ ap (λ (l : List Fraction). lists ++ l ∷ []) row in
    ap (λ l. program_of n l costs) rows
    ∙ program_more n lists (map value a ++ value b ∷ []) costs
    ∙ ap (λ l. with_row (program_of n lists costs) l (at (map value a ++ value b ∷ []) n)) (take_front (map value a) n (value b) as_many)
    ∙ ap (λ z. with_row (program_of n lists costs) (map value a) z) (at_end (map value a) n (value b) as_many)

-- no row
pub begun : {A : Type 0} (value : A → Fraction) (es : List (Entry A)) (ends : List ℕ) (new costs : List A) → ends ≡ [] → new ≡ costs
    → program_of (length new) (rows_from value (length new + 1) es 0 ends) (map value new) ≡ empty_program (map value costs)
unfolding rows_from coefficients_in
begun value es ends new costs none is = let count = length-map costs value in rw (none, is, count) refl

-- at most as many entries as places
pub few_more : (old ends costs a mid new more : ℕ) → old ≤ ends * (costs + 1) → a ≡ costs → mid ≤ old + a → new ≡ mid + 1 → more ≡ ends + 1 → new ≤ more * (costs + 1)
few_more old ends costs a mid new more few width added last is =
    let whole : (ends + 1) * (costs + 1) ≡ ends * (costs + 1) + (costs + 1) = omega arith in
    rw is (omega (arith, few, width, added, last, whole))
