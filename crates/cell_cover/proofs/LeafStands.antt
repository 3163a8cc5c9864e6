-- A leaf of the walk is a leaf of the definition.
use Rattle.std.proofs.Common.{◌≡◌, ℕ, zero, suc, ◌+◌, ◌-◌, ◌<◌, ◌≤◌, ◌==◌, Bool, true, false, not, ◌&&◌, ◌||◌, List, [], ◌∷◌, length, map, get_or, arith, ℤ, pos, ◌*ℤ◌, Ok, refl, ap, sym, ◌∙◌, subst, All, inl, inr, eqb-true}
use Rattle.std.specs.Prelude.{if◌then◌else◌, int_le, int_lt, nat_lt, nat_le}
use Rattle.std.specs.List.{list_all}
use Rattle.std.proofs.lemmas.Int.{ints}
use Rattle.std.proofs.lemmas.Bool.{cases_lt, and_parts, both_ways, not-true, eq-eqb, ne_eqb, ltb-true, leb-true, or_parts, or_from}
use Rattle.std.proofs.lemmas.List.Elements.{All-cons, All-head, All-nil, All-tail}
use Rattle.exact_num.specs.Fraction.{Fraction, IsLowest, whole, negated}
use Rattle.exact_num.specs.Fits.{after}
use Rattle.exact_num.specs.Steps.{fold_steps}
use Rattle.exact_num.specs.Tests.{is_above_zero, is_below_zero, is_not_below_zero}
use Rattle.exact_num.specs.Rationals.{Q, ◌+Q◌, ◌*Q◌, neg_Q, 0Q, value}
use Rattle.exact_num.proofs.After.{after_value}
use Rattle.exact_num.proofs.Rationals.{rationals, add_0, zero_add_Q, zero_mul_Q, add_assoc}
use Rattle.sign_tree.specs.Walk.{less_liability as less_liability_step}
use Rattle.cell_cover.specs.Cells.{ClassMultiplier, classes_rise, class_in}
use Rattle.cell_cover.specs.Classes.{Class, sum_over}
use Rattle.cell_cover.specs.Closed.{Known, Plus, Minus, Bounded, Entries, has_sign, is_below, is_no_more, no_class, class_at, known_at, signed, is_in, listed, multiplier_of, over_classes, leaf_entry, none_above, less_liability, mixture}
use Rattle.cell_cover.specs.Closed.{may_be_full as plain_may_be_full, may_stand as plain_may_stand}
use Rattle.cell_cover.specs.Walk.{WalkClass, walk_class_at, Cell, may_be_full, may_stand, entry_at, add_full, add_signed, add_multiplier, entry_sum, entries_close, leaf_closes}
use Rattle.cell_cover.proofs.Stands.{StandsFor, stands_as, stand_at, plus_stands, less_stands, difference_stands, negated_stands, zero_stands, below_same, not_below_same, no_more_same, itself}
use Rattle.cell_cover.proofs.KeptSums.{AllStand, class_stands, KnownStands, AllKnown, known_stands, sign_same, kinks_at, kept_entries, CellStands, AreOf, are_rest}

-- ---- lists of classes that rise
abbrev pub IsOf : ℕ → ℕ → Type 0
IsOf count k = (1 ≤ k) × (k ≤ count)

pub rise_within : (count last : ℕ) (ks : List ℕ) → classes_rise count last ks ≡ true → All (IsOf count) ks
rise_within count last [] h = All-nil (IsOf count)
rise_within count last (k ∷ ks) h =
    let tests = and_parts (nat_lt last k && nat_le k count) (classes_rise count k ks) h in
    let here = and_parts (nat_lt last k) (nat_le k count) tests.0 in
    let low : last < k = ltb-true last k here.0 in
    All-cons (IsOf count) k ks (omega arith, leb-true k count here.1) (rise_within count k ks tests.1)

none_before : (count last j : ℕ) (ks : List ℕ) → classes_rise count last ks ≡ true → j ≤ last → is_in j ks ≡ false
none_before count last j [] h le = refl
none_before count last j (k ∷ ks) h le =
    let tests = and_parts (nat_lt last k && nat_le k count) (classes_rise count k ks) h in
    let here = and_parts (nat_lt last k) (nat_le k count) tests.0 in
    let low : last < k = ltb-true last k here.0 in
    or_from (k == j) (is_in j ks) (ne_eqb k j (λ e. omega (arith, e))) (none_before count k j ks tests.1 (omega arith))

abbrev pub EachOnce : List ℕ → Type 0
EachOnce [] = Unit {0}
EachOnce (k ∷ ks) = (is_in k ks ≡ false) × EachOnce ks

pub rise_once : (count last : ℕ) (ks : List ℕ) → classes_rise count last ks ≡ true → EachOnce ks
rise_once count last [] h = tt
rise_once count last (k ∷ ks) h =
    let tests = and_parts (nat_lt last k && nat_le k count) (classes_rise count k ks) h in
    (none_before count k k ks tests.1 (omega arith), rise_once count k ks tests.1)

-- ---- sums over the classes
over_same : (f g : ℕ → Class → Known Entries → Q) (k : ℕ) (cs : List Class) (known : List (Known Entries)) → ((k : ℕ) (c : Class) (it : Known Entries) → f k c it ≡ g k c it) → over_classes f k cs known ≡ over_classes g k cs known
over_same f g k [] known e = refl
over_same f g k (c ∷ cs) [] e = refl
over_same f g k (c ∷ cs) (it ∷ known) e = ap (λ s. s +Q over_classes f (k + 1) cs known) (e k c it) ∙ ap (λ s. g k c it +Q s) (over_same f g (k + 1) cs known e)

over-add : (f g : ℕ → Class → Known Entries → Q) (k : ℕ) (cs : List Class) (known : List (Known Entries)) → over_classes (λ k c it. f k c it +Q g k c it) k cs known ≡ over_classes f k cs known +Q over_classes g k cs known
over-add f g k [] known = sym (add_0 0Q)
over-add f g k (c ∷ cs) [] = sym (add_0 0Q)
over-add f g k (c ∷ cs) (it ∷ known) = ap (λ s. (f k c it +Q g k c it) +Q s) (over-add f g (k + 1) cs known) ∙ swap (f k c it) (g k c it) (over_classes f (k + 1) cs known) (over_classes g (k + 1) cs known)
  where
    swap : (a b s t : Q) → (a +Q b) +Q (s +Q t) ≡ (a +Q s) +Q (b +Q t)
    swap a b s t = simp rationals

over-zero : (k : ℕ) (cs : List Class) (known : List (Known Entries)) → over_classes (λ k c it. 0Q) k cs known ≡ 0Q
over-zero k [] known = refl
over-zero k (c ∷ cs) [] = refl
over-zero k (c ∷ cs) (it ∷ known) = ap (λ s. 0Q +Q s) (over-zero (k + 1) cs known) ∙ add_0 0Q

-- one class alone
abbrev only_at : ℕ → (Class → Known Entries → Q) → ℕ → Class → Known Entries → Q
only_at j F k c it = if j == k then F c it else 0Q

past_it : (j k : ℕ) (F : Class → Known Entries → Q) (cs : List Class) (known : List (Known Entries)) → j < k → over_classes (only_at j F) k cs known ≡ 0Q
past_it j k F [] known lt = refl
past_it j k F (c ∷ cs) [] lt = refl
past_it j k F (c ∷ cs) (it ∷ known) lt =
    let ne : (j == k) ≡ false = ne_eqb j k (λ e. omega (arith, e)) in
    ap (λ t. (if t then F c it else 0Q) +Q over_classes (only_at j F) (k + 1) cs known) ne ∙ zero_add_Q _ ∙ past_it j (k + 1) F cs known (omega arith)

at_it : (j k : ℕ) (F : Class → Known Entries → Q) (cs : List Class) (known : List (Known Entries)) → length known ≡ length cs → k ≤ j → j < k + length cs
    → over_classes (only_at j F) k cs known ≡ F (get_or cs (j - k) no_class) (get_or known (j - k) Minus)
at_it j k F [] known len low high = absurd (omega arith)
at_it j k F (c ∷ cs) [] len low high = absurd (omega (arith, len))
at_it j k F (c ∷ cs) (it ∷ known) len low high = elim (cases_lt k j) [
  | inl lt ↦
      let ne : (j == k) ≡ false = ne_eqb j k (λ e. omega (arith, e)) in
      let step : suc (j - (k + 1)) ≡ j - k = omega arith in
      ap (λ t. (if t then F c it else 0Q) +Q over_classes (only_at j F) (k + 1) cs known) ne ∙ zero_add_Q _ ∙ at_it j (k + 1) F cs known (omega (arith, len)) (omega arith) (omega arith)
      ∙ ap (λ m. F (get_or (c ∷ cs) m no_class) (get_or (it ∷ known) m Minus)) step
  | inr le ↦
      let same : (j == k) ≡ true = eq-eqb j k (omega arith) in
      let none : 0 ≡ j - k = omega arith in
      ap (λ t. (if t then F c it else 0Q) +Q over_classes (only_at j F) (k + 1) cs known) same ∙ ap (λ s. F c it +Q s) (past_it j (k + 1) F cs known (omega arith)) ∙ add_0 (F c it)
      ∙ ap (λ m. F (get_or (c ∷ cs) m no_class) (get_or (it ∷ known) m Minus)) none
]

at_class : (j : ℕ) (F : Class → Known Entries → Q) (cs : List Class) (known : List (Known Entries)) → length known ≡ length cs → IsOf (length cs) j → over_classes (only_at j F) 1 cs known ≡ F (class_at cs j) (known_at known j)
at_class j F cs known len is = at_it j 1 F cs known len is.0 (omega (arith, is.1))

-- the classes of a list
abbrev in_list : List ℕ → (Class → Known Entries → Q) → ℕ → Class → Known Entries → Q
in_list js F k c it = if is_in k js then F c it else 0Q

split_first : (j : ℕ) (js : List ℕ) (F : Class → Known Entries → Q) → is_in j js ≡ false → (k : ℕ) (c : Class) (it : Known Entries) → in_list (j ∷ js) F k c it ≡ only_at j F k c it +Q in_list js F k c it
split_first j js F once k c it = by_test (j == k) refl
  where
    by_test : (t : Bool) → (j == k) ≡ t → (if (j == k) || is_in k js then F c it else 0Q) ≡ (if j == k then F c it else 0Q) +Q (if is_in k js then F c it else 0Q)
    by_test true e =
        let none : is_in k js ≡ false = subst (λ m. is_in m js ≡ false) (eqb-true j k e) once in
        rw (e, none) (sym (add_0 (F c it)))
    by_test false e = rw e (sym (zero_add_Q _))

over_list : (js : List ℕ) (F : Class → Known Entries → Q) (cs : List Class) (known : List (Known Entries)) → length known ≡ length cs → EachOnce js → All (IsOf (length cs)) js
    → over_classes (in_list js F) 1 cs known ≡ sum_over (λ j. F (class_at cs j) (known_at known j)) js
over_list [] F cs known len once of = over-zero 1 cs known
over_list (j ∷ js) F cs known len once of =
    over_same (in_list (j ∷ js) F) (λ k c it. only_at j F k c it +Q in_list js F k c it) 1 cs known (split_first j js F once.0)
    ∙ over-add (only_at j F) (in_list js F) 1 cs known
    ∙ ap (λ s. s +Q over_classes (in_list js F) 1 cs known) (at_class j F cs known len (All-head (IsOf (length cs)) j js of))
    ∙ ap (λ s. F (class_at cs j) (known_at known j) +Q s) (over_list js F cs known len once.1 (All-tail (IsOf (length cs)) j js of))

-- the listed multipliers
none_listed : (ms : List ClassMultiplier) (k : ℕ) → is_in k (map class_in ms) ≡ false → listed ms k ≡ 0Q
none_listed [] k h = refl
none_listed (m ∷ ms) k h =
    let parts = or_parts (m.class == k) (is_in k (map class_in ms)) h in
    ap (λ t. if t then value m.by else listed ms k) parts.0 ∙ none_listed ms k parts.1

abbrev of_listed : List ClassMultiplier → (Class → Known Entries → Q) → ℕ → Class → Known Entries → Q
of_listed ms G k c it = listed ms k *Q G c it

split_listed : (m : ClassMultiplier) (ms : List ClassMultiplier) (G : Class → Known Entries → Q) → is_in m.class (map class_in ms) ≡ false → (k : ℕ) (c : Class) (it : Known Entries)
    → of_listed (m ∷ ms) G k c it ≡ only_at m.class (λ c it. value m.by *Q G c it) k c it +Q of_listed ms G k c it
split_listed m ms G once k c it = by_test (m.class == k) refl
  where
    by_test : (t : Bool) → (m.class == k) ≡ t → (if m.class == k then value m.by else listed ms k) *Q G c it ≡ (if m.class == k then value m.by *Q G c it else 0Q) +Q listed ms k *Q G c it
    by_test true e =
        let none : listed ms k ≡ 0Q = none_listed ms k (subst (λ n. is_in n (map class_in ms) ≡ false) (eqb-true m.class k e) once) in
        rw (e, none) (sym (add_0 (value m.by *Q G c it)) ∙ ap (λ s. value m.by *Q G c it +Q s) (sym (zero_mul_Q (G c it))))
    by_test false e = rw e (sym (zero_add_Q _))

over_listed : (ms : List ClassMultiplier) (G : Class → Known Entries → Q) (cs : List Class) (known : List (Known Entries)) → length known ≡ length cs → EachOnce (map class_in ms) → All (IsOf (length cs)) (map class_in ms)
    → over_classes (of_listed ms G) 1 cs known ≡ sum_over (λ (m : ClassMultiplier). value m.by *Q G (class_at cs m.class) (known_at known m.class)) ms
over_listed [] G cs known len once of = over_same (λ k c it. 0Q *Q G c it) (λ k c it. 0Q) 1 cs known (λ k c it. zero_mul_Q (G c it)) ∙ over-zero 1 cs known
over_listed (m ∷ ms) G cs known len once of =
    let F : Class → Known Entries → Q = λ c it. value m.by *Q G c it in
    over_same (of_listed (m ∷ ms) G) (λ k c it. only_at m.class F k c it +Q of_listed ms G k c it) 1 cs known (split_listed m ms G once.0)
    ∙ over-add (only_at m.class F) (of_listed ms G) 1 cs known
    ∙ ap (λ s. s +Q over_classes (of_listed ms G) 1 cs known) (at_class m.class F cs known len (All-head (IsOf (length cs)) m.class (map class_in ms) of))
    ∙ ap (λ s. F (class_at cs m.class) (known_at known m.class) +Q s) (over_listed ms G cs known len once.1 (All-tail (IsOf (length cs)) m.class (map class_in ms) of))

-- ---- a leaf's multipliers are those of its two lists
none_of_full : (cs : List Class) (known : List (Known Entries)) (full : List ℕ) (ms : List ClassMultiplier) (k : ℕ) → list_all (plain_may_stand cs known full) ms ≡ true → is_in k full ≡ true → listed ms k ≡ 0Q
none_of_full cs known full [] k h is = refl
none_of_full cs known full (m ∷ ms) k h is =
    let tests = and_parts (plain_may_stand cs known full m) (list_all (plain_may_stand cs known full) ms) h in
    let here = and_parts (not (is_in m.class full)) _ tests.0 in
    by_test (m.class == k) refl (not-true (is_in m.class full) here.0) (none_of_full cs known full ms k tests.1 is)
  where
    by_test : (t : Bool) → (m.class == k) ≡ t → is_in m.class full ≡ false → listed ms k ≡ 0Q → (if m.class == k then value m.by else listed ms k) ≡ 0Q
    by_test true e other rest = absurd (both_ways (is_in k full) (subst (λ n. is_in n full ≡ false) (eqb-true m.class k e) other) is)
    by_test false e other rest = rw e rest

abbrev signed_at : ℕ → Class → Known Entries → Q
signed_at i c it = signed it (c.entries i)

abbrev full_at : ℕ → Class → Known Entries → Q
full_at i c it = neg_Q c.kink *Q signed it (c.entries i)

split_multiplier : (cs : List Class) (known : List (Known Entries)) (full : List ℕ) (ms : List ClassMultiplier) (i : ℕ) → list_all (plain_may_stand cs known full) ms ≡ true → (k : ℕ) (c : Class) (it : Known Entries)
    → multiplier_of full ms k c.kink *Q signed it (c.entries i) ≡ in_list full (full_at i) k c it +Q of_listed ms (signed_at i) k c it
split_multiplier cs known full ms i h k c it = by_test (is_in k full) refl
  where
    by_test : (t : Bool) → is_in k full ≡ t → (if is_in k full then neg_Q c.kink else listed ms k) *Q signed it (c.entries i) ≡ (if is_in k full then neg_Q c.kink *Q signed it (c.entries i) else 0Q) +Q listed ms k *Q signed it (c.entries i)
    by_test true e =
        let none : listed ms k ≡ 0Q = none_of_full cs known full ms k h e in
        rw (e, none) (sym (add_0 _) ∙ ap (λ s. neg_Q c.kink *Q signed it (c.entries i) +Q s) (sym (zero_mul_Q (signed it (c.entries i)))))
    by_test false e = rw e (sym (zero_add_Q _))

-- a class that stands with its whole kink adds K u
full_is : (cs : List Class) (known : List (Known Entries)) (i k : ℕ) → plain_may_be_full cs known k ≡ true → full_at i (class_at cs k) (known_at known k) ≡ (class_at cs k).kink *Q (class_at cs k).entries i
full_is cs known i k h = by_known (known_at known k) refl (not-true (has_sign (known_at known k)) (and_parts (not (has_sign (known_at known k))) (is_below (class_at cs k).kink) h).0)
  where
    two_signs : (K x : Q) → neg_Q K *Q neg_Q x ≡ K *Q x
    two_signs K x = simp rationals

    by_known : (it : Known Entries) → known_at known k ≡ it → has_sign (known_at known k) ≡ false → full_at i (class_at cs k) (known_at known k) ≡ (class_at cs k).kink *Q (class_at cs k).entries i
    by_known Plus e f = absurd (both_ways (has_sign (known_at known k)) f (ap has_sign e))
    by_known Minus e f = absurd (both_ways (has_sign (known_at known k)) f (ap has_sign e))
    by_known (Bounded w) e f = ap (λ it. full_at i (class_at cs k) it) e ∙ two_signs (class_at cs k).kink ((class_at cs k).entries i)

abbrev pub full_part : List Class → ℕ → ℕ → Q
full_part cs i k = (class_at cs k).kink *Q (class_at cs k).entries i

fulls_are : (cs : List Class) (known : List (Known Entries)) (full : List ℕ) (i : ℕ) → list_all (plain_may_be_full cs known) full ≡ true → sum_over (λ k. full_at i (class_at cs k) (known_at known k)) full ≡ sum_over (full_part cs i) full
fulls_are cs known [] i h = refl
fulls_are cs known (k ∷ ks) i h =
    let tests = and_parts (plain_may_be_full cs known k) (list_all (plain_may_be_full cs known) ks) h in
    ap (λ s. s +Q sum_over (λ k. full_at i (class_at cs k) (known_at known k)) ks) (full_is cs known i k tests.0) ∙ ap (λ s. full_part cs i k +Q s) (fulls_are cs known ks i tests.1)

-- so an entry is what was kept and what the two lists add
pub leaf_entry_is : (count : ℕ) (cs : List Class) (slope : Entries) (known : List (Known Entries)) (full : List ℕ) (ms : List ClassMultiplier) (i : ℕ) → length known ≡ length cs → count ≡ length cs
    → classes_rise count 0 full ≡ true → classes_rise count 0 (map class_in ms) ≡ true → list_all (plain_may_be_full cs known) full ≡ true → list_all (plain_may_stand cs known full) ms ≡ true
    → leaf_entry cs slope known full ms i ≡ slope i +Q (over_classes (kinks_at i) 1 cs known +Q (sum_over (full_part cs i) full +Q mixture cs known ms i))
leaf_entry_is count cs slope known full ms i len same rise_full rise_ms f h =
    let K : ℕ → Class → Known Entries → Q = kinks_at i in
    let M : ℕ → Class → Known Entries → Q = λ k c it. multiplier_of full ms k c.kink *Q signed it (c.entries i) in
    let full_of : All (IsOf (length cs)) full = subst (λ n. All (IsOf n) full) same (rise_within count 0 full rise_full) in
    let ms_of : All (IsOf (length cs)) (map class_in ms) = subst (λ n. All (IsOf n) (map class_in ms)) same (rise_within count 0 (map class_in ms) rise_ms) in
    ap (λ s. slope i +Q s)
    (over-add K M 1 cs known
    ∙ ap (λ s. over_classes K 1 cs known +Q s)
    (over_same M (λ k c it. in_list full (full_at i) k c it +Q of_listed ms (signed_at i) k c it) 1 cs known (split_multiplier cs known full ms i h)
    ∙ over-add (in_list full (full_at i)) (of_listed ms (signed_at i)) 1 cs known
    ∙ ap (λ s. s +Q over_classes (of_listed ms (signed_at i)) 1 cs known) (over_list full (full_at i) cs known len (rise_once count 0 full rise_full) full_of ∙ fulls_are cs known full i f)
    ∙ ap (λ s. sum_over (full_part cs i) full +Q s) (over_listed ms (signed_at i) cs known len (rise_once count 0 (map class_in ms) rise_ms) ms_of)))

-- ---- the steps of an entry
entry_stands : (n : ℕ) (ws : List WalkClass) (cs : List Class) (k i : ℕ) → AllStand n ws cs → k - 1 < length cs → i < n → StandsFor (entry_at ws k i) ((class_at cs k).entries i)
entry_stands n ws cs k i all lt at =
    let st = class_stands n ws cs (k - 1) all lt in
    stand_at (walk_class_at ws k).entries (class_at cs k).entries i st.entries.entries (omega (arith, st.entries.count))

fulls_stand : (limit n : ℕ) (ws : List WalkClass) (cs : List Class) (i : ℕ) (total s : Fraction) (t : Q) (full : List ℕ) → AllStand n ws cs → i < n → All (IsOf (length cs)) full → StandsFor total t
    → fold_steps (add_full limit ws i) total full ≡ Ok s → StandsFor s (t +Q sum_over (full_part cs i) full)
fulls_stand limit n ws cs i total s t [] all at of st h = let is : total ≡ s = cc in subst (λ x. StandsFor x (t +Q 0Q)) is (stands_as total t (t +Q 0Q) (sym (add_0 t)) st)
fulls_stand limit n ws cs i total s t (k ∷ ks) all at of st h =
    let one = after_value (add_full limit ws i total k) (λ next. fold_steps (add_full limit ws i) next ks) s h in
    let is = All-head (IsOf (length cs)) k ks of in
    let class = class_stands n ws cs (k - 1) all (omega (arith, is.0, is.1)) in
    let here = plus_stands limit total (walk_class_at ws k).kink (entry_at ws k i) one.value t (class_at cs k).kink ((class_at cs k).entries i) st class.kink (entry_stands n ws cs k i all (omega (arith, is.0, is.1)) at) one.first in
    stands_as s _ _ (add_assoc t (full_part cs i k) (sum_over (full_part cs i) ks)) (fulls_stand limit n ws cs i one.value s (t +Q full_part cs i k) ks all at (All-tail (IsOf (length cs)) k ks of) here one.rest)

signed_stands : (limit n : ℕ) (a : Known (List Fraction)) (b : Known Entries) (total m x s : Fraction) (t p q : Q) → KnownStands n a b → StandsFor total t → StandsFor m p → StandsFor x q → add_signed limit a total m x ≡ Ok s → StandsFor s (t +Q p *Q signed b q)
signed_stands limit n Plus Plus total m x s t p q kn st sm sx h = plus_stands limit total m x s t p q st sm sx h
signed_stands limit n Plus Minus total m x s t p q kn st sm sx h = absurd kn
signed_stands limit n Plus (Bounded w) total m x s t p q kn st sm sx h = absurd kn
signed_stands limit n Minus Plus total m x s t p q kn st sm sx h = absurd kn
signed_stands limit n Minus Minus total m x s t p q kn st sm sx h = stands_as s _ _ (turned t p q) (less_stands limit total m x s t p q st sm sx h)
  where
    turned : (t p q : Q) → t +Q neg_Q (p *Q q) ≡ t +Q p *Q neg_Q q
    turned t p q = simp rationals
signed_stands limit n Minus (Bounded w) total m x s t p q kn st sm sx h = absurd kn
signed_stands limit n (Bounded ws) Plus total m x s t p q kn st sm sx h = absurd kn
signed_stands limit n (Bounded ws) Minus total m x s t p q kn st sm sx h = absurd kn
signed_stands limit n (Bounded ws) (Bounded w) total m x s t p q kn st sm sx h = stands_as s _ _ (turned t p q) (less_stands limit total m x s t p q st sm sx h)
  where
    turned : (t p q : Q) → t +Q neg_Q (p *Q q) ≡ t +Q p *Q neg_Q q
    turned t p q = simp rationals

multipliers_stand : (limit n : ℕ) (ws : List WalkClass) (cs : List Class) (ks : List (Known (List Fraction))) (known : List (Known Entries)) (i : ℕ) (total s : Fraction) (t : Q) (ms : List ClassMultiplier)
    → AllStand n ws cs → AllKnown n ks known → i < n → AreOf (length cs) ms → StandsFor total t → fold_steps (add_multiplier limit ws ks i) total ms ≡ Ok s → StandsFor s (t +Q mixture cs known ms i)
multipliers_stand limit n ws cs ks known i total s t [] all kn at are st h = let is : total ≡ s = cc in subst (λ x. StandsFor x (t +Q 0Q)) is (stands_as total t (t +Q 0Q) (sym (add_0 t)) st)
multipliers_stand limit n ws cs ks known i total s t (m ∷ ms) all kn at are st h =
    let one = after_value (add_multiplier limit ws ks i total m) (λ next. fold_steps (add_multiplier limit ws ks i) next ms) s h in
    let lt = All-head (λ (m : ClassMultiplier). m.class - 1 < length cs) m ms are.within in
    let low = All-head (λ (m : ClassMultiplier). IsLowest m.by) m ms are.lowest in
    let it = known_at known m.class in
    let u = (class_at cs m.class).entries i in
    let here = signed_stands limit n (known_at ks m.class) it total m.by (entry_at ws m.class i) one.value t (value m.by) u (known_stands n ks known (m.class - 1) kn) st (itself m.by low) (entry_stands n ws cs m.class i all lt at) one.first in
    stands_as s _ _ (add_assoc t (value m.by *Q signed it u) (mixture cs known ms i)) (multipliers_stand limit n ws cs ks known i one.value s (t +Q value m.by *Q signed it u) ms all kn at (are_rest (length cs) m ms are) here one.rest)

liability_stands : (limit i : ℕ) (L total s : Fraction) (t : Q) → IsLowest L → StandsFor total t → less_liability_step limit L i total ≡ Ok s → StandsFor s (less_liability (λ j. t) (value L) i)
liability_stands limit zero L total s t low st h = difference_stands limit total L s t (value L) st (itself L low) h
liability_stands limit (suc i) L total s t low st h = let is : total ≡ s = cc in subst (λ x. StandsFor x t) is st

-- ---- the tests
no_more_is : (s : Fraction) (q : Q) → StandsFor s q → is_no_more q 0Q ≡ not (is_above_zero s)
no_more_is s q st = no_more_same s (whole (pos 0)) q 0Q st zero_stands ∙ sign s.numerator s.denominator
  where
    sign : (n : ℤ) (d : ℕ) → int_le (n *ℤ pos 1) (pos 0 *ℤ pos d) ≡ not (int_lt (pos 0) n)
    sign n d = let e : pos 0 *ℤ pos d ≡ pos 0 = omega (arith, ints) in let f : n *ℤ pos 1 ≡ n = omega (arith, ints) in rw (e, f) (grind (arith, ints))

pub full_same : (n : ℕ) (ws : List WalkClass) (cs : List Class) (ks : List (Known (List Fraction))) (known : List (Known Entries)) (k : ℕ) → AllStand n ws cs → AllKnown n ks known → k - 1 < length cs → plain_may_be_full cs known k ≡ may_be_full ws ks k
full_same n ws cs ks known k all kn lt =
    ap (λ b. not b && is_below (class_at cs k).kink) (sign_same n (known_at ks k) (known_at known k) (known_stands n ks known (k - 1) kn))
    ∙ ap (λ b. not (has_sign (known_at ks k)) && b) (below_same (walk_class_at ws k).kink (class_at cs k).kink (class_stands n ws cs (k - 1) all lt).kink)

fulls_same : (n : ℕ) (ws : List WalkClass) (cs : List Class) (ks : List (Known (List Fraction))) (known : List (Known Entries)) (full : List ℕ) → AllStand n ws cs → AllKnown n ks known → All (IsOf (length cs)) full → list_all (plain_may_be_full cs known) full ≡ list_all (may_be_full ws ks) full
fulls_same n ws cs ks known [] all kn of = refl
fulls_same n ws cs ks known (k ∷ full) all kn of =
    let is = All-head (IsOf (length cs)) k full of in
    ap (λ b. b && list_all (plain_may_be_full cs known) full) (full_same n ws cs ks known k all kn (omega (arith, is.0, is.1)))
    ∙ ap (λ b. may_be_full ws ks k && b) (fulls_same n ws cs ks known full all kn (All-tail (IsOf (length cs)) k full of))

stand_same : (n : ℕ) (ws : List WalkClass) (cs : List Class) (ks : List (Known (List Fraction))) (known : List (Known Entries)) (full : List ℕ) (m : ClassMultiplier) → AllStand n ws cs → AllKnown n ks known → m.class - 1 < length cs → IsLowest m.by → plain_may_stand cs known full m ≡ may_stand ws ks full m
stand_same n ws cs ks known full m all kn lt low =
    let K = (class_at cs m.class).kink in
    let class = class_stands n ws cs (m.class - 1) all lt in
    let by = itself m.by low in
    ap (λ b. not (is_in m.class full) && b)
    (ap (λ b. b && (has_sign (known_at known m.class) || (is_below K && is_no_more (value m.by) (neg_Q K)))) (not_below_same m.by (value m.by) by)
    ∙ ap (λ b. is_not_below_zero m.by && (b || (is_below K && is_no_more (value m.by) (neg_Q K)))) (sign_same n (known_at ks m.class) (known_at known m.class) (known_stands n ks known (m.class - 1) kn))
    ∙ ap (λ b. is_not_below_zero m.by && (has_sign (known_at ks m.class) || (b && is_no_more (value m.by) (neg_Q K)))) (below_same (walk_class_at ws m.class).kink K class.kink)
    ∙ ap (λ b. is_not_below_zero m.by && (has_sign (known_at ks m.class) || (is_below_zero (walk_class_at ws m.class).kink && b))) (no_more_same m.by (negated (walk_class_at ws m.class).kink) (value m.by) (neg_Q K) by (negated_stands _ K class.kink)))

stands_same : (n : ℕ) (ws : List WalkClass) (cs : List Class) (ks : List (Known (List Fraction))) (known : List (Known Entries)) (full : List ℕ) (ms : List ClassMultiplier) → AllStand n ws cs → AllKnown n ks known → AreOf (length cs) ms → list_all (plain_may_stand cs known full) ms ≡ list_all (may_stand ws ks full) ms
stands_same n ws cs ks known full [] all kn are = refl
stands_same n ws cs ks known full (m ∷ ms) all kn are =
    ap (λ b. b && list_all (plain_may_stand cs known full) ms) (stand_same n ws cs ks known full m all kn (All-head (λ (m : ClassMultiplier). m.class - 1 < length cs) m ms are.within) (All-head (λ (m : ClassMultiplier). IsLowest m.by) m ms are.lowest))
    ∙ ap (λ b. may_stand ws ks full m && b) (stands_same n ws cs ks known full ms all kn (are_rest (length cs) m ms are))

-- ---- the leaf
pub record LeafStands (n : ℕ) (ws : List WalkClass) (cs : List Class) (L : Fraction) (full : List ℕ) (ms : List ClassMultiplier) : Type 0 where
  pub classes : AllStand (n + 1) ws cs
  pub liability : IsLowest L
  pub full_rise : classes_rise (length cs) 0 full ≡ true
  pub multipliers_rise : classes_rise (length cs) 0 (map class_in ms) ≡ true
  pub multipliers : AreOf (length cs) ms

sum_stands_in : (limit n : ℕ) (ws : List WalkClass) (cs : List Class) (slope : Entries) (L : Fraction) (cell : Cell) (known : List (Known Entries)) (full : List ℕ) (ms : List ClassMultiplier) (i : ℕ) (s : Fraction)
    → LeafStands n ws cs L full ms → CellStands (n + 1) cs slope cell known → list_all (plain_may_be_full cs known) full ≡ true → list_all (plain_may_stand cs known full) ms ≡ true → i < n + 1
    → entry_sum limit ws L cell full ms i ≡ Ok s → StandsFor s (leaf_entry cs (less_liability slope (value L)) known full ms i)
sum_stands_in limit n ws cs slope L cell known full ms i s leaf st f h at e =
    let one = after_value (fold_steps (add_full limit ws i) (get_or cell.sums i (whole (pos 0))) full) (λ total. after (fold_steps (add_multiplier limit ws cell.known i) total ms) (less_liability_step limit L i)) s e in
    let two = after_value (fold_steps (add_multiplier limit ws cell.known i) one.value ms) (less_liability_step limit L i) s one.rest in
    let S = kept_entries cs slope known i in
    let F = sum_over (full_part cs i) full in
    let M = mixture cs known ms i in
    let kept = stand_at cell.sums (kept_entries cs slope known) i st.sums.entries (omega (arith, st.sums.count)) in
    let fulls = fulls_stand limit (n + 1) ws cs i (get_or cell.sums i (whole (pos 0))) one.value S full leaf.classes at (rise_within (length cs) 0 full leaf.full_rise) kept one.first in
    let all = multipliers_stand limit (n + 1) ws cs cell.known known i one.value two.value (S +Q F) ms leaf.classes st.each at leaf.multipliers fulls two.first in
    stands_as s _ _ (whole_is i (over_classes (kinks_at i) 1 cs known) F M ∙ sym (leaf_entry_is (length cs) cs (less_liability slope (value L)) known full ms i st.count refl leaf.full_rise leaf.multipliers_rise f h)) (liability_stands limit i L two.value s ((S +Q F) +Q M) leaf.liability all two.rest)
  where
    last : (s a f m l : Q) → (((s +Q a) +Q f) +Q m) +Q neg_Q l ≡ (s +Q neg_Q l) +Q (a +Q (f +Q m))
    last s a f m l = simp rationals

    inner : (s a f m : Q) → ((s +Q a) +Q f) +Q m ≡ s +Q (a +Q (f +Q m))
    inner s a f m = simp rationals

    whole_is : (i : ℕ) (a f m : Q) → less_liability (λ j. ((slope i +Q a) +Q f) +Q m) (value L) i ≡ less_liability slope (value L) i +Q (a +Q (f +Q m))
    whole_is zero a f m = last (slope 0) a f m (value L)
    whole_is (suc i) a f m = inner (slope (suc i)) a f m

entries_decide : (limit n : ℕ) (ws : List WalkClass) (cs : List Class) (slope : Entries) (L : Fraction) (cell : Cell) (known : List (Known Entries)) (full : List ℕ) (ms : List ClassMultiplier) (i left : ℕ) (b : Bool)
    → LeafStands n ws cs L full ms → CellStands (n + 1) cs slope cell known → list_all (plain_may_be_full cs known) full ≡ true → list_all (plain_may_stand cs known full) ms ≡ true → i + left ≤ n + 1
    → entries_close limit ws L cell full ms i left ≡ Ok b → none_above (leaf_entry cs (less_liability slope (value L)) known full ms) i left ≡ b
entries_decide limit n ws cs slope L cell known full ms i zero b leaf st f h le e = cc
entries_decide limit n ws cs slope L cell known full ms i (suc left) b leaf st f h le e =
    let one = after_value (entry_sum limit ws L cell full ms i) (λ sum. if is_above_zero sum then Ok false else entries_close limit ws L cell full ms (i + 1) left) b e in
    let stands = sum_stands_in limit n ws cs slope L cell known full ms i one.value leaf st f h (omega arith) one.first in
    by_test one.value (is_above_zero one.value) refl (no_more_is one.value _ stands) one.rest (λ rest. entries_decide limit n ws cs slope L cell known full ms (i + 1) left b leaf st f h (omega arith) rest)
  where
    by_test : (s : Fraction) (t : Bool) → is_above_zero s ≡ t → is_no_more (leaf_entry cs (less_liability slope (value L)) known full ms i) 0Q ≡ not (is_above_zero s) → (if is_above_zero s then Ok false else entries_close limit ws L cell full ms (i + 1) left) ≡ Ok b
        → (entries_close limit ws L cell full ms (i + 1) left ≡ Ok b → none_above (leaf_entry cs (less_liability slope (value L)) known full ms) (i + 1) left ≡ b) → (is_no_more (leaf_entry cs (less_liability slope (value L)) known full ms i) 0Q && none_above (leaf_entry cs (less_liability slope (value L)) known full ms) (i + 1) left) ≡ b
    by_test s true e is h go =
        let no : is_no_more (leaf_entry cs (less_liability slope (value L)) known full ms i) 0Q ≡ false = is ∙ ap not e in
        let out : false ≡ b = let o = rw e at h in cc in
        rw no out
    by_test s false e is h go =
        let so : is_no_more (leaf_entry cs (less_liability slope (value L)) known full ms i) 0Q ≡ true = is ∙ ap not e in
        rw so (go (rw e at h))

pub leaf_decides : (limit n : ℕ) (ws : List WalkClass) (cs : List Class) (slope : Entries) (L : Fraction) (cell : Cell) (known : List (Known Entries)) (full : List ℕ) (ms : List ClassMultiplier) (b : Bool)
    → LeafStands n ws cs L full ms → CellStands (n + 1) cs slope cell known → leaf_closes limit n ws L cell full ms ≡ Ok b
    → ((list_all (plain_may_be_full cs known) full && list_all (plain_may_stand cs known full) ms) && none_above (leaf_entry cs (less_liability slope (value L)) known full ms) 0 (n + 1)) ≡ b
leaf_decides limit n ws cs slope L cell known full ms b leaf st e =
    let F = list_all (plain_may_be_full cs known) full in
    let H = list_all (plain_may_stand cs known full) ms in
    let tests : (F && H) ≡ (list_all (may_be_full ws cell.known) full && list_all (may_stand ws cell.known full) ms) =
    ap (λ t. t && H) (fulls_same (n + 1) ws cs cell.known known full leaf.classes st.each (rise_within (length cs) 0 full leaf.full_rise))
    ∙ ap (λ t. list_all (may_be_full ws cell.known) full && t) (stands_same (n + 1) ws cs cell.known known full ms leaf.classes st.each leaf.multipliers) in
    by_test (F && H) refl (rw (← tests) at e)
  where
    by_test : (t : Bool) → (list_all (plain_may_be_full cs known) full && list_all (plain_may_stand cs known full) ms) ≡ t
        → (if list_all (plain_may_be_full cs known) full && list_all (plain_may_stand cs known full) ms then entries_close limit ws L cell full ms 0 (n + 1) else Ok false) ≡ Ok b
        → ((list_all (plain_may_be_full cs known) full && list_all (plain_may_stand cs known full) ms) && none_above (leaf_entry cs (less_liability slope (value L)) known full ms) 0 (n + 1)) ≡ b
    by_test true t h =
        let parts = and_parts (list_all (plain_may_be_full cs known) full) (list_all (plain_may_stand cs known full) ms) t in
        rw t (entries_decide limit n ws cs slope L cell known full ms 0 (n + 1) b leaf st parts.0 parts.1 (omega arith) (rw t at h))
    by_test false t h =
        let out : false ≡ b = let o = rw t at h in cc in
        rw t out
