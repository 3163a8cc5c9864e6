-- Classes as rows of fractions are classes as lists of whole numbers.
use Rattle.std.proofs.Common.{◌≡◌, ℕ, suc, ◌+◌, ◌<◌, ◌≤◌, Bool, true, false, ◌&&◌, List, [], ◌∷◌, ◌++◌, length, map, replicate, zip, ℤ, pos, ◌*ℤ◌, Result, Ok, Err, refl, ap, sym, ◌∙◌, arith}
use Rattle.std.specs.Prelude.{if◌then◌else◌, nat_lt}
use Rattle.std.specs.Ordering.{int_eq}
use Rattle.std.proofs.lemmas.Bool.{lt-ltb, le-ltb}
use Rattle.std.proofs.lemmas.Bool.Decides.{nat_tests}
use Rattle.std.proofs.lemmas.Int.{ints}
use Rattle.std.proofs.lemmas.List.{length-map, map-append}
use Rattle.exact_num.specs.declared.misfit.Wide.{Wide}
use Rattle.exact_num.specs.Fraction.{Fraction, whole}
use Rattle.exact_num.specs.Tests.{is_same}
use Rattle.exact_num.specs.Fits.{after}
use Rattle.exact_num.specs.Steps.{fold_steps}
use Rattle.form.specs.declared.orders.Order.{Order}
use Rattle.form.specs.Payoff.{bundle_of, leg_of, legs_in}
use Rattle.form.specs.Vector.{is_same_option}
use Rattle.sign_tree.specs.Legs.{FractionLeg}
use Rattle.frac.specs.Value.{fraction_of}
use Rattle.cell_cover.specs.declared.vectors.Row.{Row}
use Rattle.cell_cover.specs.declared.vectors.Class.{Class}
use Rattle.cell_cover.specs.Classes.{class_of, is_among, option_in, with_classes}
use Rattle.cell_cover.specs.Walk.{WalkClass, walk_class, KinksAndSlope, index_of, leg_step, leg_step_at}
use Rattle.cell_cover.specs.Rows.{class_as, row_of}
use Rattle.cell_cover.specs.Kinked.{all_as}
use Rattle.cell_cover.specs.Rowed.{is_same_row, row_index, class_row, entries_in, fresh, with_one, with_fresh, row_step, rows_in, kinks_in}

times_one : (a : ℤ) → a *ℤ pos 1 ≡ a
times_one a = omega (arith, ints)

same_whole : (a b : ℤ) → is_same (whole a) (whole b) ≡ int_eq a b
same_whole a b = rw (times_one a, times_one b) refl

same_rows : (u v : List ℤ) → is_same_row (map whole u) (map whole v) ≡ is_same_option u v
same_rows [] [] = refl
same_rows [] (b ∷ v) = refl
same_rows (a ∷ u) [] = refl
same_rows (a ∷ u) (b ∷ v) = rw (same_whole a b, same_rows u v) refl

index_same : (u : List ℤ) (us : List (List ℤ)) → row_index (map whole u) (map (map whole) us) ≡ index_of u us
index_same u [] = refl
index_same u (c ∷ us) = rw (same_rows u c, index_same u us) refl

both_up : (a b : ℕ) → nat_lt (a + 1) (suc b) ≡ nat_lt a b
both_up a b = grind (arith, nat_tests)

among_same : (u : List ℤ) (us : List (List ℤ)) → nat_lt (index_of u us) (length us) ≡ is_among u us
among_same u [] = refl
among_same u (c ∷ us) = by_test (is_same_option u c) (among_same u us)
  where
    by_test : (t : Bool) → nat_lt (index_of u us) (length us) ≡ is_among u us → nat_lt (if t then 0 else index_of u us + 1) (suc (length us)) ≡ (if t then true else is_among u us)
    by_test true h = lt-ltb 0 (suc (length us)) (omega arith)
    by_test false h = both_up (index_of u us) (length us) ∙ h

entries_fresh : (us : List (List ℤ)) → map entries_in (map fresh us) ≡ map (map whole) us
entries_fresh [] = refl
entries_fresh (u ∷ us) = ap (λ rest. map whole u ∷ rest) (entries_fresh us)

one_more : (us : List (List ℤ)) (v : List ℤ) → with_one (map fresh us) v ≡ map fresh (if is_among (class_of v) us then us else us ++ class_of v ∷ [])
one_more us v =
    rw (entries_fresh us, index_same (class_of v) us, length-map us fresh, among_same (class_of v) us) (by_test (is_among (class_of v) us))
  where
    by_test : (t : Bool) → (if t then map fresh us else map fresh us ++ fresh (class_of v) ∷ []) ≡ map fresh (if t then us else us ++ class_of v ∷ [])
    by_test true = refl
    by_test false = sym (map-append fresh us (class_of v ∷ []))

pub fresh_same : (us vs : List (List ℤ)) → with_fresh (map fresh us) vs ≡ map fresh (with_classes us vs)
fresh_same us [] = refl
fresh_same us (v ∷ vs) = ap (λ cs. with_fresh cs vs) (one_more us v) ∙ fresh_same (if is_among (class_of v) us then us else us ++ class_of v ∷ []) vs

pub fresh_append : (cs : List WalkClass) (vs ws : List (List ℤ)) → with_fresh cs (vs ++ ws) ≡ with_fresh (with_fresh cs vs) ws
fresh_append cs [] ws = refl
fresh_append cs (v ∷ vs) ws = fresh_append (with_one cs v) vs ws

-- ---- legs
pub steps_same : (limit : ℕ) (us : List (List ℤ)) (so_far : KinksAndSlope) (legs : List FractionLeg) → fold_steps (row_step limit (map (map whole) us)) so_far legs ≡ fold_steps (leg_step limit us) so_far legs
steps_same limit us so_far [] = refl
steps_same limit us so_far (leg ∷ legs) =
    ap (λ j. after (leg_step_at limit j so_far leg) (λ next. fold_steps (row_step limit (map (map whole) us)) next legs)) (index_same (class_of leg.option) us)
    ∙ onward (leg_step limit us so_far leg) (λ next. steps_same limit us next legs)
  where
    onward : (r : Result KinksAndSlope Wide) → ((next : KinksAndSlope) → fold_steps (row_step limit (map (map whole) us)) next legs ≡ fold_steps (leg_step limit us) next legs)
        → after r (λ next. fold_steps (row_step limit (map (map whole) us)) next legs) ≡ after r (λ next. fold_steps (leg_step limit us) next legs)
    onward (Ok next) h = h next
    onward (Err w) h = refl

-- ---- classes
pub rows_entries : (count : ℕ) (classes : List Class) → rows_in count classes ≡ map entries_in (all_as count classes)
rows_entries count [] = refl
rows_entries count (c ∷ classes) = ap (λ rest. (class_as count c).entries ∷ rest) (rows_entries count classes)

pub rows_of_all : (count : ℕ) (classes : List Class) (us : List (List ℤ)) → all_as count classes ≡ map fresh us → rows_in count classes ≡ map (map whole) us
rows_of_all count classes us is = rows_entries count classes ∙ ap (map entries_in) is ∙ entries_fresh us

kinks_entries : (count : ℕ) (classes : List Class) → kinks_in classes ≡ map (λ (c : WalkClass). c.kink) (all_as count classes)
kinks_entries count [] = refl
kinks_entries count (c ∷ classes) = ap (λ rest. (class_as count c).kink ∷ rest) (kinks_entries count classes)

no_kinks : (us : List (List ℤ)) → map (λ (c : WalkClass). c.kink) (map fresh us) ≡ replicate (length us) (whole (pos 0))
no_kinks [] = refl
no_kinks (u ∷ us) = ap (λ rest. whole (pos 0) ∷ rest) (no_kinks us)

pub kinks_of_fresh : (count : ℕ) (classes : List Class) (us : List (List ℤ)) → all_as count classes ≡ map fresh us → kinks_in classes ≡ replicate (length us) (whole (pos 0))
kinks_of_fresh count classes us is = kinks_entries count classes ∙ ap (map (λ (c : WalkClass). c.kink)) is ∙ no_kinks us

pub length_of_all : (count : ℕ) (classes : List Class) (us : List (List ℤ)) → all_as count classes ≡ map fresh us → length classes ≡ length us
length_of_all count classes us is = sym (length-map classes (class_as count)) ∙ ap length is ∙ length-map us fresh

-- the classes are these rows with their kinks
pub classes_zip : (count : ℕ) (classes : List Class) (us : List (List ℤ)) → rows_in count classes ≡ map (map whole) us → all_as count classes ≡ map walk_class (zip us (kinks_in classes))
classes_zip count [] [] is = refl
classes_zip count [] (u ∷ us) is = cc
classes_zip count (c ∷ classes) [] is = cc
classes_zip count (c ∷ classes) (u ∷ us) is =
    let first : (class_as count c).entries ≡ map whole u = ap head_of is in
    let rest : rows_in count classes ≡ map (map whole) us = ap tail_of is in
    ap (λ row. record { entries = row; kink = (class_as count c).kink } ∷ all_as count classes) first
    ∙ ap (λ others. walk_class (u, (class_as count c).kink) ∷ others) (classes_zip count classes us rest)
  where
    head_of : List (List Fraction) → List Fraction
    head_of [] = []
    head_of (row ∷ rows) = row

    tail_of : List (List Fraction) → List (List Fraction)
    tail_of [] = []
    tail_of (row ∷ rows) = rows

-- ---- the index of a row
pub index_here : (u r : List Fraction) (left rest : List (List Fraction)) → left ≡ r ∷ rest → is_same_row u r ≡ true → row_index u left ≡ 0
index_here u r left rest first is_true = ap (row_index u) first ∙ ap (λ b. if b then 0 else row_index u rest + 1) is_true

pub index_on : (u r : List Fraction) (left rest : List (List Fraction)) → left ≡ r ∷ rest → is_same_row u r ≡ false → row_index u left ≡ row_index u rest + 1
index_on u r left rest first is_false = ap (row_index u) first ∙ ap (λ b. if b then 0 else row_index u rest + 1) is_false

-- ---- one class more
found_in : (count : ℕ) (classes : List Class) (v : List ℤ) (entries : Row) (place : ℕ) → row_of count entries ≡ class_row v → place ≡ row_index (row_of count entries) (rows_in count classes)
    → row_index (class_row v) (map entries_in (all_as count classes)) ≡ place
found_in count classes v entries place row is = sym (is ∙ ap (λ u. row_index u (rows_in count classes)) row ∙ ap (row_index (class_row v)) (rows_entries count classes))

pub class_kept : (count : ℕ) (classes : List Class) (v : List ℤ) (entries : Row) (place : ℕ) → row_of count entries ≡ class_row v → place ≡ row_index (row_of count entries) (rows_in count classes) → place < length classes
    → all_as count classes ≡ with_one (all_as count classes) v
class_kept count classes v entries place row is lt =
    rw (found_in count classes v entries place row is, length-map classes (class_as count), lt-ltb place (length classes) lt) refl

pub class_added : (count : ℕ) (classes : List Class) (v : List ℤ) (class : Class) (place : ℕ) → row_of count class.entries ≡ class_row v → fraction_of class.kink ≡ whole (pos 0) → place ≡ row_index (row_of count class.entries) (rows_in count classes)
    → length classes ≤ place → all_as count (classes ++ class ∷ []) ≡ with_one (all_as count classes) v
class_added count classes v class place row none is le =
    let same : class_as count class ≡ fresh (class_of v) = ap (λ u. record { entries = u; kink = fraction_of class.kink }) row ∙ ap (λ K. record { entries = class_row v; kink = K }) none in
    map-append (class_as count) classes (class ∷ []) ∙ ap (λ c. all_as count classes ++ c ∷ []) same
    ∙ rw (found_in count classes v class.entries place row is, length-map classes (class_as count), le-ltb place (length classes) le) refl

-- ---- the classes of one option after another
pub fresh_end : (cs : List WalkClass) (vs : List (List ℤ)) → vs ≡ [] → with_fresh cs vs ≡ cs
fresh_end cs vs none = ap (with_fresh cs) none

-- ---- rows that are the same, entry by entry
pub rows_differ : (xs ys left right : List Fraction) (x y : Fraction) → xs ≡ x ∷ left → ys ≡ y ∷ right → is_same x y ≡ false → is_same_row xs ys ≡ false
rows_differ xs ys left right x y first second is_false = ap (λ l. is_same_row l ys) first ∙ ap (λ l. is_same_row (x ∷ left) l) second ∙ ap (λ b. b && is_same_row left right) is_false

pub rows_alike : (xs ys left right : List Fraction) (x y : Fraction) → xs ≡ x ∷ left → ys ≡ y ∷ right → is_same x y ≡ true → is_same_row xs ys ≡ is_same_row left right
rows_alike xs ys left right x y first second is_true = ap (λ l. is_same_row l ys) first ∙ ap (λ l. is_same_row (x ∷ left) l) second ∙ ap (λ b. b && is_same_row left right) is_true

pub rows_end : (xs ys : List Fraction) → xs ≡ [] → ys ≡ [] → is_same_row xs ys ≡ true
rows_end xs ys first second = ap (λ l. is_same_row l ys) first ∙ ap (λ l. is_same_row [] l) second

-- ---- the options of an order
pub options_of_order : (order : Order) → map option_in (bundle_of order) ≡ map option_in (map leg_of (legs_in order.bundle))
unfolding bundle_of
options_of_order order = refl

pub fold_on : {A T : Type 0} (step : T → A → Result T Wide) (total next : T) (left rest : List A) (x : A) → left ≡ x ∷ rest → step total x ≡ Ok next → fold_steps step total left ≡ fold_steps step next rest
fold_on step total next left rest x first ok = ap (fold_steps step total) first ∙ ap (λ r. after r (λ n. fold_steps step n rest)) ok
