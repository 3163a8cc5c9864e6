-- A cover by cells that closes holds at every state: Farkas' lemma in its easy direction, by
-- induction over the tree.
use Rattle.std.proofs.Common.{◌≡◌, ℕ, zero, suc, ◌+◌, ◌-◌, ◌<◌, ◌≤◌, ◌==◌, Bool, true, false, not, ◌&&◌, ◌||◌, List, [], ◌∷◌, length, map, get_or, set, inl, inr, arith, refl, ap, sym, ◌∙◌, subst, get_or-set_same, get_or-set_other}
use Rattle.std.specs.Prelude.{if◌then◌else◌}
use Rattle.std.specs.List.{list_all}
use Rattle.std.proofs.lemmas.Bool.{cases_eq, cases_lt, and_parts, or_cases, not-true, both_ways, eqb-true}
use Rattle.std.proofs.lemmas.List.{get_or_past, length-set, length-map, get_or-map}
use Rattle.exact_num.specs.Rationals.{Q, ◌+Q◌, ◌*Q◌, neg_Q, 0Q, value, IsNotBelow0, IsAtMost}
use Rattle.exact_num.proofs.Rationals.{rationals, add_not_below, mul_not_below, zero_not_below, at_most_refl, at_most_trans, neg_0, zero_mul_Q, zero_add_Q, add_0, at_most_antisymm, at_most_of_sum, add_assoc, add_comm, add_neg, mul_comm_Q}
use Rattle.cell_cover.specs.Cells.{ClassMultiplier, CellTree, Split, Bound, Leaf}
use Rattle.cell_cover.specs.Classes.{Class, sum_over}
use Rattle.cell_cover.specs.Closed.{Known, Plus, Minus, Bounded, Entries, has_sign, is_above, is_not_below, is_no_more, is_below, greater, no_class, class_at, known_at, now_known, signed, mixture, bound_of, may_mix, is_in, listed, multiplier_of, may_be_full, may_stand, kink_term, class_term, over_classes, leaf_entry, none_above, closes_in, unsigned}
use Rattle.cell_cover.proofs.Ordered.{at_most_add, at_most_mul, not_below_is_at_least, at_least_is_not_below, not_above_is_at_most, not_below_from, no_more_from, more_from, above_from, not_above_from, below_from, below_not_above, sign_cases, greater_left, greater_right, greater_least}
use Rattle.cell_cover.proofs.AlongStates.{along, along-zero, along-add, along-mul, along-neg, along-le, along_classes}

-- ---- what a class pays at a state, and whether what is known of it is true there
abbrev pub pays : List ℕ → Class → Q
pays z class = greater 0Q (along class.entries z)

abbrev pub Fits : List ℕ → Class → Known Entries → Type 0
Fits z class Plus = IsNotBelow0 (along class.entries z)
Fits z class Minus = IsNotBelow0 (neg_Q (along class.entries z))
Fits z class (Bounded w) = IsAtMost (pays z class) (along w z)

pub record FitAll (z : List ℕ) (classes : List Class) (known : List (Known Entries)) : Type 0 where
  pub count : length known ≡ length classes
  pub each : (j : ℕ) → Fits z (get_or classes j no_class) (get_or known j Minus)

nothing_below : (z : List ℕ) → IsNotBelow0 (neg_Q (along (λ i. 0Q) z))
nothing_below z = subst IsNotBelow0 (sym (ap neg_Q (along-zero z) ∙ neg_0)) zero_not_below

-- ---- a class gets a sign or another bound
fit_now : (z : List ℕ) (classes : List Class) (known : List (Known Entries)) (k : ℕ) (it : Known Entries) → FitAll z classes known → Fits z (class_at classes k) it → FitAll z classes (now_known known k it)
fit_now z classes known k it fits fit =
    let i : ℕ = k - 1 in
    record {
      count = length-set known i it ∙ fits.count;
      each = λ j. elim (cases_eq j i) [
        | inl same ↦ elim (cases_lt i (length known)) [
          | inl within ↦ subst (λ n. Fits z (get_or classes n no_class) (get_or (set known i it) n Minus)) (sym same) (subst (Fits z (get_or classes i no_class)) (sym (get_or-set_same known i it Minus within)) fit)
          | inr past ↦
              let none : get_or (set known i it) j Minus ≡ Minus = get_or_past (set known i it) j Minus (omega (arith, length-set known i it)) in
              let nothing : get_or classes j no_class ≡ no_class = get_or_past classes j no_class (omega (arith, fits.count)) in
              rw (none, nothing) (nothing_below z)
        ]
        | inr other ↦ subst (Fits z (get_or classes j no_class)) (sym (get_or-set_other known i j it Minus other)) (fits.each j)
      ];
    }

-- ---- a mixture is not below 0 along a state
signed_along : (z : List ℕ) (it : Known Entries) (u : Entries) → along (λ i. signed it (u i)) z ≡ signed it (along u z)
signed_along z Plus u = refl
signed_along z Minus u = along-neg u z
signed_along z (Bounded w) u = along-neg u z

signed_fits : (z : List ℕ) (class : Class) (it : Known Entries) → has_sign it ≡ true → Fits z class it → IsNotBelow0 (signed it (along class.entries z))
signed_fits z class Plus h fit = fit
signed_fits z class Minus h fit = fit
signed_fits z class (Bounded w) h fit = absurd (cc)

mixture_not_below : (z : List ℕ) (classes : List Class) (known : List (Known Entries)) (ms : List ClassMultiplier) → FitAll z classes known → list_all (may_mix known) ms ≡ true → IsNotBelow0 (along (mixture classes known ms) z)
mixture_not_below z classes known [] fits h = subst IsNotBelow0 (sym (along-zero z)) zero_not_below
mixture_not_below z classes known (m ∷ ms) fits h =
    let tests = and_parts (may_mix known m) (list_all (may_mix known) ms) h in
    let here = and_parts (has_sign (known_at known m.class)) (is_not_below (value m.by)) tests.0 in
    let class = class_at classes m.class in
    let it = known_at known m.class in
    let term : Entries = λ i. value m.by *Q signed it (class.entries i) in
    let e : along term z ≡ value m.by *Q signed it (along class.entries z) = along-mul (value m.by) (λ i. signed it (class.entries i)) z ∙ ap (λ s. value m.by *Q s) (signed_along z it class.entries) in
    let first : IsNotBelow0 (along term z) = subst IsNotBelow0 (sym e) (mul_not_below _ _ (not_below_from (value m.by) here.1) (signed_fits z class it here.0 (fits.each (m.class - 1)))) in
    subst IsNotBelow0 (sym (along-add term (mixture classes known ms) z)) (add_not_below _ _ first (mixture_not_below z classes known ms fits tests.1))

-- so the bound is at least what the class pays
bound_fits : (z : List ℕ) (classes : List Class) (known : List (Known Entries)) (k : ℕ) (minus plus : List ClassMultiplier) → FitAll z classes known → list_all (may_mix known) plus ≡ true → list_all (may_mix known) minus ≡ true
    → IsAtMost (pays z (class_at classes k)) (along (bound_of classes known k minus plus) z)
bound_fits z classes known k minus plus fits p m =
    let u : Entries = (class_at classes k).entries in
    let A : Entries = mixture classes known plus in
    let B : Entries = mixture classes known minus in
    let W : Entries = bound_of classes known k minus plus in
    let a : IsAtMost 0Q (along A z) = not_below_is_at_least _ (mixture_not_below z classes known plus fits p) in
    let b : IsAtMost 0Q (along B z) = not_below_is_at_least _ (mixture_not_below z classes known minus fits m) in
    let first : IsAtMost 0Q (along W z) = at_most_trans _ _ _ a (along-le A W z (λ i lt. greater_left (A i) (u i +Q B i))) in
    let sum : IsAtMost (along u z +Q 0Q) (along u z +Q along B z) = at_most_add (along u z) (along u z) 0Q (along B z) (at_most_refl (along u z)) b in
    let more : IsAtMost (along u z) (along (λ i. u i +Q B i) z) = subst (IsAtMost (along u z)) (sym (along-add u B z)) (subst (λ s. IsAtMost s (along u z +Q along B z)) (add_0 (along u z)) sum) in
    let second : IsAtMost (along u z) (along W z) = at_most_trans _ _ _ more (along-le (λ i. u i +Q B i) W z (λ i lt. greater_right (A i) (u i +Q B i))) in
    greater_least 0Q (along u z) (along W z) first second

-- ---- the multipliers of a leaf
abbrev Allowed : Known Entries → Q → Q → Type 0
Allowed Plus K m = IsNotBelow0 m
Allowed Minus K m = IsNotBelow0 m
Allowed (Bounded w) K m = (is_above K ≡ true → m ≡ 0Q) × (is_above K ≡ false → IsNotBelow0 m × IsAtMost m (neg_Q K))

nothing_allowed : (it : Known Entries) (K : Q) → Allowed it K 0Q
nothing_allowed Plus K = zero_not_below
nothing_allowed Minus K = zero_not_below
nothing_allowed (Bounded w) K = (λ e. refl, λ e. (zero_not_below, not_below_is_at_least (neg_Q K) (not_above_from K e)))

whole_allowed : (it : Known Entries) (K : Q) → has_sign it ≡ false → is_below K ≡ true → Allowed it K (neg_Q K)
whole_allowed Plus K h b = absurd (cc)
whole_allowed Minus K h b = absurd (cc)
whole_allowed (Bounded w) K h b = (λ e. absurd (both_ways (is_above K) (below_not_above K b) e), λ e. (below_from K b, at_most_refl (neg_Q K)))

some_allowed : (it : Known Entries) (K m : Q) → is_not_below m ≡ true → (has_sign it || (is_below K && is_no_more m (neg_Q K))) ≡ true → Allowed it K m
some_allowed Plus K m least h = not_below_from m least
some_allowed Minus K m least h = not_below_from m least
some_allowed (Bounded w) K m least h =
    let tests = and_parts (is_below K) (is_no_more m (neg_Q K)) h in
    (λ e. absurd (both_ways (is_above K) (below_not_above K tests.0) e), λ e. (not_below_from m least, no_more_from m (neg_Q K) tests.1))

full_allowed : (classes : List Class) (known : List (Known Entries)) (full : List ℕ) (k : ℕ) → list_all (may_be_full classes known) full ≡ true → is_in k full ≡ true
    → (has_sign (known_at known k) ≡ false) × (is_below (class_at classes k).kink ≡ true)
full_allowed classes known [] k h is = cc
full_allowed classes known (j ∷ js) k h is =
    let tests = and_parts (may_be_full classes known j) (list_all (may_be_full classes known) js) h in
    let here = and_parts (not (has_sign (known_at known j))) (is_below (class_at classes j).kink) tests.0 in
    elim (or_cases (j == k) (is_in k js) is) [
      | inl same ↦ subst (λ n. (has_sign (known_at known n) ≡ false) × (is_below (class_at classes n).kink ≡ true)) (eqb-true j k same) (not-true (has_sign (known_at known j)) here.0, here.1)
      | inr there ↦ full_allowed classes known js k tests.1 there
    ]

listed_allowed : (classes : List Class) (known : List (Known Entries)) (full : List ℕ) (ms : List ClassMultiplier) (k : ℕ) → list_all (may_stand classes known full) ms ≡ true → Allowed (known_at known k) (class_at classes k).kink (listed ms k)
listed_allowed classes known full [] k h = nothing_allowed (known_at known k) (class_at classes k).kink
listed_allowed classes known full (m ∷ ms) k h =
    let tests = and_parts (may_stand classes known full m) (list_all (may_stand classes known full) ms) h in
    let K = (class_at classes m.class).kink in
    let fits = has_sign (known_at known m.class) || (is_below K && is_no_more (value m.by) (neg_Q K)) in
    let here = and_parts (not (is_in m.class full)) (is_not_below (value m.by) && fits) tests.0 in
    let both = and_parts (is_not_below (value m.by)) fits here.1 in
    by_test (m.class == k) refl (some_allowed (known_at known m.class) K (value m.by) both.0 both.1) (listed_allowed classes known full ms k tests.1)
  where
    by_test : (t : Bool) → (m.class == k) ≡ t → Allowed (known_at known m.class) (class_at classes m.class).kink (value m.by) → Allowed (known_at known k) (class_at classes k).kink (listed ms k)
        → Allowed (known_at known k) (class_at classes k).kink (if t then value m.by else listed ms k)
    by_test true e this other = subst (λ n. Allowed (known_at known n) (class_at classes n).kink (value m.by)) (eqb-true m.class k e) this
    by_test false e this other = other

leaf_allowed : (classes : List Class) (known : List (Known Entries)) (full : List ℕ) (ms : List ClassMultiplier) → list_all (may_be_full classes known) full ≡ true → list_all (may_stand classes known full) ms ≡ true
    → (k : ℕ) → Allowed (known_at known k) (class_at classes k).kink (multiplier_of full ms k (class_at classes k).kink)
leaf_allowed classes known full ms f h k = by_test (is_in k full) refl
  where
    by_test : (t : Bool) → is_in k full ≡ t → Allowed (known_at known k) (class_at classes k).kink (if t then neg_Q (class_at classes k).kink else listed ms k)
    by_test true e = let is = full_allowed classes known full k f e in whole_allowed (known_at known k) (class_at classes k).kink is.0 is.1
    by_test false e = listed_allowed classes known full ms k h

-- ---- a class adds to a leaf at least what its kink pays
term_along : (z : List ℕ) (class : Class) (it : Known Entries) (m : Q) → along (class_term class it m) z ≡ along (kink_term it class.kink class.entries) z +Q m *Q signed it (along class.entries z)
term_along z class it m =
    along-add (kink_term it class.kink class.entries) (λ i. m *Q signed it (class.entries i)) z
    ∙ ap (λ s. along (kink_term it class.kink class.entries) z +Q s) (along-mul m (λ i. signed it (class.entries i)) z ∙ ap (λ s. m *Q s) (signed_along z it class.entries))

-- what is added is not below 0
with_more : (a b c : Q) → a ≡ b → IsNotBelow0 c → IsAtMost a (b +Q c)
with_more a b c e h = at_most_of_sum a c (b +Q c) (ap (λ s. s +Q c) e) h

pub pays_its_product : (d : Q) → IsNotBelow0 d → greater 0Q d ≡ d
pays_its_product d h = by_test (is_no_more 0Q d) refl
  where
    by_test : (t : Bool) → is_no_more 0Q d ≡ t → (if t then d else 0Q) ≡ d
    by_test true e = refl
    by_test false e = at_most_antisymm 0Q d (not_below_is_at_least d h) (more_from 0Q d e)

pub pays_nothing : (d : Q) → IsNotBelow0 (neg_Q d) → greater 0Q d ≡ 0Q
pays_nothing d h = by_test (is_no_more 0Q d) refl
  where
    by_test : (t : Bool) → is_no_more 0Q d ≡ t → (if t then d else 0Q) ≡ 0Q
    by_test true e = at_most_antisymm d 0Q (not_above_is_at_most d h) (no_more_from 0Q d e)
    by_test false e = refl

cancel_middle : (a b c : Q) → (a +Q neg_Q b) +Q (b +Q c) ≡ a +Q c
cancel_middle a b c =
    add_assoc a (neg_Q b) (b +Q c) ∙ ap (λ w. a +Q w) (sym (add_assoc (neg_Q b) b c) ∙ ap (λ w. w +Q c) (add_comm (neg_Q b) b ∙ add_neg b) ∙ zero_add_Q c)

-- with a multiplier from 0 to -K
owed_is : (K h d m : Q) → IsNotBelow0 h → IsAtMost d h → IsNotBelow0 m → IsAtMost m (neg_Q K) → IsAtMost (K *Q h) (m *Q neg_Q d)
owed_is K h d m least le low high =
    let first : IsAtMost (m *Q d) (m *Q h) = at_most_mul m d h low le in
    let second : IsAtMost (h *Q m) (h *Q neg_Q K) = at_most_mul h m (neg_Q K) least high in
    let same : m *Q h ≡ h *Q m = mul_comm_Q m h in
    let turned : h *Q neg_Q K +Q neg_Q (m *Q d) ≡ m *Q neg_Q d +Q neg_Q (K *Q h) = simp rationals in
    subst IsNotBelow0 (cancel_middle (h *Q neg_Q K) (h *Q m) (neg_Q (m *Q d)) ∙ turned)
    (add_not_below _ _ second (subst (λ s. IsNotBelow0 (s +Q neg_Q (m *Q d))) same first))

pays_least : (d : Q) → IsNotBelow0 (greater 0Q d)
pays_least d = at_least_is_not_below _ (greater_left 0Q d)

term_holds : (z : List ℕ) (class : Class) (it : Known Entries) (m : Q) → Fits z class it → Allowed it class.kink m → IsAtMost (class.kink *Q pays z class) (along (class_term class it m) z)
term_holds z class Plus m fit ok =
    let d = along class.entries z in
    let e : class.kink *Q pays z class ≡ along (kink_term Plus class.kink class.entries) z = ap (λ h. class.kink *Q h) (pays_its_product d fit) ∙ sym (along-mul class.kink class.entries z) in
    subst (IsAtMost (class.kink *Q pays z class)) (sym (term_along z class Plus m)) (with_more _ _ _ e (mul_not_below m d ok fit))
term_holds z class Minus m fit ok =
    let d = along class.entries z in
    let none : class.kink *Q 0Q ≡ 0Q = simp rationals in
    let e : class.kink *Q pays z class ≡ along (kink_term Minus class.kink class.entries) z = ap (λ h. class.kink *Q h) (pays_nothing d fit) ∙ none ∙ sym (along-zero z) in
    subst (IsAtMost (class.kink *Q pays z class)) (sym (term_along z class Minus m)) (with_more _ _ _ e (mul_not_below m (neg_Q d) ok fit))
term_holds z class (Bounded w) m fit ok = by_test (is_above class.kink) refl
  where
    by_test : (t : Bool) → is_above class.kink ≡ t → IsAtMost (class.kink *Q pays z class) (along (class_term class (Bounded w) m) z)
    by_test true e =
        let le : IsAtMost (class.kink *Q pays z class) (class.kink *Q along w z) = at_most_mul class.kink (pays z class) (along w z) (above_from class.kink e) fit in
        let none : m *Q neg_Q (along class.entries z) ≡ 0Q = ap (λ x. x *Q neg_Q (along class.entries z)) (ok.0 e) ∙ zero_mul_Q _ in
        let kink : along (kink_term (Bounded w) class.kink class.entries) z ≡ class.kink *Q along w z = ap (λ t. along (λ i. if t then class.kink *Q w i else 0Q) z) e ∙ along-mul class.kink w z in
        let all : along (class_term class (Bounded w) m) z ≡ class.kink *Q along w z = term_along z class (Bounded w) m ∙ ap (λ s. s +Q m *Q neg_Q (along class.entries z)) kink ∙ ap (λ s. class.kink *Q along w z +Q s) none ∙ add_0 _ in
        subst (IsAtMost (class.kink *Q pays z class)) (sym all) le
    by_test false e =
        let is = ok.1 e in
        let le = owed_is class.kink (pays z class) (along class.entries z) m (pays_least (along class.entries z)) (greater_right 0Q (along class.entries z)) is.0 is.1 in
        let kink : along (kink_term (Bounded w) class.kink class.entries) z ≡ 0Q = ap (λ t. along (λ i. if t then class.kink *Q w i else 0Q) z) e ∙ along-zero z in
        let all : along (class_term class (Bounded w) m) z ≡ m *Q neg_Q (along class.entries z) = term_along z class (Bounded w) m ∙ ap (λ s. s +Q m *Q neg_Q (along class.entries z)) kink ∙ zero_add_Q _ in
        subst (IsAtMost (class.kink *Q pays z class)) (sym all) le

-- ---- and so do all classes
abbrev pub owed : List ℕ → Class → Q
owed z class = class.kink *Q pays z class

-- what holds of each class, its number counted from k, and of what is known of it
abbrev ForEach : (ℕ → Class → Known Entries → Type 0) → ℕ → List Class → List (Known Entries) → Type 0
ForEach P k [] known = Unit {0}
ForEach P k (class ∷ classes) [] = ⊥
ForEach P k (class ∷ classes) (it ∷ known) = P k class it × ForEach P (k + 1) classes known

for_each : (P : ℕ → Class → Known Entries → Type 0) (k : ℕ) (classes : List Class) (known : List (Known Entries)) → length known ≡ length classes
    → ((j : ℕ) → P (k + j) (get_or classes j no_class) (get_or known j Minus)) → ForEach P k classes known
for_each P k [] known len h = tt
for_each P k (class ∷ classes) [] len h = absurd (omega (arith, len))
for_each P k (class ∷ classes) (it ∷ known) len h =
    let here : k + 0 ≡ k = omega arith in
    let next : (j : ℕ) → k + suc j ≡ (k + 1) + j = λ j. omega arith in (
      subst (λ n. P n class it) here (h 0),
      for_each P (k + 1) classes known (omega (arith, len)) (λ j. subst (λ n. P n (get_or classes j no_class) (get_or known j Minus)) (next j) (h (suc j))),
    )

terms_hold : (z : List ℕ) (mult : ℕ → Q → Q) (k : ℕ) (classes : List Class) (known : List (Known Entries)) → ForEach (λ n class it. IsAtMost (owed z class) (along (class_term class it (mult n class.kink)) z)) k classes known
    → IsAtMost (sum_over (owed z) classes) (over_classes (λ n class it. along (class_term class it (mult n class.kink)) z) k classes known)
terms_hold z mult k [] known h = at_most_refl 0Q
terms_hold z mult k (class ∷ classes) [] h = absurd h
terms_hold z mult k (class ∷ classes) (it ∷ known) h = at_most_add _ _ _ _ h.0 (terms_hold z mult (k + 1) classes known h.1)

leaf_holds : (z : List ℕ) (classes : List Class) (slope : Entries) (known : List (Known Entries)) (full : List ℕ) (ms : List ClassMultiplier) → FitAll z classes known
    → (list_all (may_be_full classes known) full && list_all (may_stand classes known full) ms) ≡ true
    → IsAtMost (along slope z +Q sum_over (owed z) classes) (along (leaf_entry classes slope known full ms) z)
leaf_holds z classes slope known full ms fits h =
    let tests = and_parts (list_all (may_be_full classes known) full) (list_all (may_stand classes known full) ms) h in
    let mult : ℕ → Q → Q = λ k K. multiplier_of full ms k K in
    let one : (j : ℕ) → 1 + j ≡ suc j = λ j. omega arith in
    let P : ℕ → Class → Known Entries → Type 0 = λ n class it. IsAtMost (owed z class) (along (class_term class it (mult n class.kink)) z) in
    let each : (j : ℕ) → P (1 + j) (get_or classes j no_class) (get_or known j Minus) =
    λ j. term_holds z (get_or classes j no_class) (get_or known j Minus) (mult (1 + j) (get_or classes j no_class).kink) (fits.each j) (subst (λ i. Allowed (get_or known i Minus) (get_or classes i no_class).kink (mult (1 + j) (get_or classes i no_class).kink)) (less_one j) (leaf_allowed classes known full ms tests.0 tests.1 (1 + j))) in
    let terms = terms_hold z mult 1 classes known (for_each P 1 classes known fits.count each) in
    let f : ℕ → Class → Known Entries → Entries = λ k class it. class_term class it (mult k class.kink) in
    let e : along slope z +Q over_classes (λ k class it. along (f k class it) z) 1 classes known ≡ along (leaf_entry classes slope known full ms) z =
    ap (λ s. along slope z +Q s) (sym (along_classes f 1 classes known z)) ∙ sym (along-add slope (λ i. over_classes (λ k class it. f k class it i) 1 classes known) z) in
    subst (IsAtMost (along slope z +Q sum_over (owed z) classes)) e (at_most_add _ _ _ _ (at_most_refl (along slope z)) terms)
  where
    less_one : (j : ℕ) → (1 + j) - 1 ≡ j
    less_one j = omega arith

entry_within : (e : Entries) (from left : ℕ) (i : ℕ) → none_above e from left ≡ true → from ≤ i → i < from + left → IsAtMost (e i) 0Q
entry_within e from zero i h low high = absurd (omega arith)
entry_within e from (suc left) i h low high =
    let tests = and_parts (is_no_more (e from) 0Q) (none_above e (from + 1) left) h in
    elim (cases_lt from i) [
      | inl lt ↦ entry_within e (from + 1) left i tests.1 (omega arith) (omega arith)
      | inr le ↦ let same : from ≡ i = omega arith in subst (λ k. IsAtMost (e k) 0Q) same (no_more_from (e from) 0Q tests.0)
    ]

-- ---- the tree
pub closed_holds : (n : ℕ) (classes : List Class) (slope : Entries) (known : List (Known Entries)) (tree : CellTree) → closes_in n classes slope known tree ≡ true
    → (z : List ℕ) → length z ≡ n + 1 → FitAll z classes known → IsAtMost (along slope z +Q sum_over (owed z) classes) 0Q
closed_holds n classes slope known (Split k plus minus) h z len fits =
    let up = closes_in n classes slope (now_known known k Plus) plus in
    let down = closes_in n classes slope (now_known known k Minus) minus in
    let tests = and_parts (not (has_sign (known_at known k))) (up && down) h in
    let both = and_parts up down tests.1 in
    elim (sign_cases (along (class_at classes k).entries z)) [
      | inl above ↦ closed_holds n classes slope (now_known known k Plus) plus both.0 z len (fit_now z classes known k Plus fits above)
      | inr below ↦ closed_holds n classes slope (now_known known k Minus) minus both.1 z len (fit_now z classes known k Minus fits below)
    ]
closed_holds n classes slope known (Bound k minus plus side) h z len fits =
    let w : Entries = bound_of classes known k minus plus in
    let here = closes_in n classes slope (now_known known k (Bounded w)) side in
    let mixed = list_all (may_mix known) plus && list_all (may_mix known) minus in
    let tests = and_parts (not (has_sign (known_at known k))) (mixed && here) h in
    let both = and_parts mixed here tests.1 in
    let mixes = and_parts (list_all (may_mix known) plus) (list_all (may_mix known) minus) both.0 in
    closed_holds n classes slope (now_known known k (Bounded w)) side both.1 z len (fit_now z classes known k (Bounded w) fits (bound_fits z classes known k minus plus fits mixes.0 mixes.1))
closed_holds n classes slope known (Leaf full ms) h z len fits =
    let e = leaf_entry classes slope known full ms in
    let tests = and_parts (list_all (may_be_full classes known) full && list_all (may_stand classes known full) ms) (none_above e 0 (n + 1)) h in
    let none : IsAtMost (along e z) (along (λ i. 0Q) z) = along-le e (λ i. 0Q) z (λ i lt. entry_within e 0 (n + 1) i tests.1 (omega arith) (omega arith)) in
    at_most_trans _ _ _ (leaf_holds z classes slope known full ms fits tests.0) (subst (IsAtMost (along e z)) (along-zero z) none)

-- at the root nothing is known but the entries
pub root_fits : (z : List ℕ) (classes : List Class) → FitAll z classes (map unsigned classes)
root_fits z classes = record {
  count = length-map classes unsigned;
  each = λ j. elim (cases_lt j (length classes)) [
    | inl within ↦ subst (Fits z (get_or classes j no_class)) (sym (get_or-map unsigned classes j no_class Minus within)) (root (get_or classes j no_class))
    | inr past ↦ let none : get_or (map unsigned classes) j Minus ≡ Minus = get_or_past (map unsigned classes) j Minus (omega (arith, length-map classes unsigned)) in
        let nothing : get_or classes j no_class ≡ no_class = get_or_past classes j no_class past in
        rw (none, nothing) (nothing_below z)
  ];
}
  where
    root : (class : Class) → IsAtMost (pays z class) (along (λ i. greater 0Q (class.entries i)) z)
    root class =
        let w : Entries = λ i. greater 0Q (class.entries i) in
        let first : IsAtMost 0Q (along w z) = subst (λ s. IsAtMost s (along w z)) (along-zero z) (along-le (λ i. 0Q) w z (λ i lt. greater_left 0Q (class.entries i))) in
        greater_least 0Q (along class.entries z) (along w z) first (along-le class.entries w z (λ i lt. greater_right 0Q (class.entries i)))
