-- A stable sort of offers leaves them in line: there is one order in which none stands before an
-- earlier one and offers that tie stay as they were.
use Rattle.std.proofs.Common.{◌≡◌, ℕ, suc, ◌+◌, ◌<◌, List, [], ◌∷◌, Bool, true, false, not, cond, filter, length, get_or, refl, sym, ap, subst, ◌∙◌, arith}
use Rattle.std.proofs.lemmas.Bool.{and_parts, not-true}
use Rattle.std.proofs.lemmas.Bool.Decides.{nat_tests}
use Rattle.std.proofs.lemmas.Grind.{common_steps}
use Rattle.std.proofs.lemmas.List.Sorted.{sorted_far}
use Rattle.std.specs.Cmp.{IsStrictWeakOrder}
use Rattle.std.specs.List.{AllByRecursion}
use Rattle.std.specs.List.Sorted.{ties, IsSortedBy, IsStableBy}
use Rattle.form.specs.declared.orders.Side.{Side}
use Rattle.form.specs.declared.orders.Side.TheVariants.{Buy, Sell}
use Rattle.bundle_match.specs.declared.queues.Offer.{Offer}
use Rattle.bundle_match.specs.Queue.{stands_before, put_into, in_line}

one_way : (side : Side) (x y : Offer) → stands_before side x y ≡ true → stands_before side y x ≡ false
one_way Buy x y h = grind (arith, common_steps, nat_tests)
one_way Sell x y h = grind (arith, common_steps, nat_tests)

chain : (side : Side) (x y z : Offer) → stands_before side x y ≡ false → stands_before side y z ≡ false → stands_before side x z ≡ false
chain Buy x y z a b = grind (arith, common_steps, nat_tests)
chain Sell x y z a b = grind (arith, common_steps, nat_tests)

pub is_order : (side : Side) → IsStrictWeakOrder (stands_before side)
is_order side = record { one_way = one_way side; chain = chain side }

-- ---- what holds of each offer
pub Each-weaker : (P Q : Offer → Type 0) → ((x : Offer) → P x → Q x) → (xs : List Offer) → AllByRecursion P xs → AllByRecursion Q xs
Each-weaker P Q f [] h = tt
Each-weaker P Q f (x ∷ xs) h = (f x h.0, Each-weaker P Q f xs h.1)

Each-put_into : (side : Side) (P : Offer → Type 0) (x : Offer) (ys : List Offer) → P x → AllByRecursion P ys → AllByRecursion P (put_into side x ys)
Each-put_into side P x [] p h = (p, tt)
Each-put_into side P x (y ∷ ys) p h =
    elim (stands_before side y x) as (λ b. AllByRecursion P (cond b (y ∷ put_into side x ys) (x ∷ y ∷ ys))) [
      | true ↦ (h.0, Each-put_into side P x ys p h.1)
      | false ↦ (p, h)
    ]

pub Each-in_line : (side : Side) (P : Offer → Type 0) (xs : List Offer) → AllByRecursion P xs → AllByRecursion P (in_line side xs)
Each-in_line side P [] h = tt
Each-in_line side P (x ∷ xs) h = Each-put_into side P x (in_line side xs) h.0 (Each-in_line side P xs h.1)

-- ---- lists in line
-- none of the offers stands before x
abbrev pub NoneBefore : Side → Offer → List Offer → Type 0
NoneBefore side x ys = AllByRecursion (λ y. stands_before side y x ≡ false) ys

abbrev pub IsInLine : Side → List Offer → Type 0
IsInLine side [] = Unit {0}
IsInLine side (x ∷ xs) = NoneBefore side x xs × IsInLine side xs

IsInLine-put_into : (side : Side) (x : Offer) (ys : List Offer) → IsInLine side ys → IsInLine side (put_into side x ys)
IsInLine-put_into side x [] h = (tt, tt)
IsInLine-put_into side x (y ∷ ys) h =
    let P : Bool → Type 0 = λ b. stands_before side y x ≡ b → IsInLine side (cond b (y ∷ put_into side x ys) (x ∷ y ∷ ys)) in
    (elim (stands_before side y x) as P [
      | true ↦ λ first. (Each-put_into side (λ z. stands_before side z y ≡ false) x ys (one_way side y x first) h.0, IsInLine-put_into side x ys h.1)
      | false ↦ λ later. ((later, Each-weaker (λ z. stands_before side z y ≡ false) (λ z. stands_before side z x ≡ false) (λ z le. chain side z y x le later) ys h.0), h)
    ]) refl

pub IsInLine-in_line : (side : Side) (xs : List Offer) → IsInLine side (in_line side xs)
IsInLine-in_line side [] = tt
IsInLine-in_line side (x ∷ xs) = IsInLine-put_into side x (in_line side xs) (IsInLine-in_line side xs)

-- ---- offers that tie
abbrev tied : Side → Offer → Offer → Bool
tied side x y = ties (stands_before side) x y

not_first_itself : (side : Side) (x : Offer) → stands_before side x x ≡ false
not_first_itself side x =
    let P : Bool → Type 0 = λ b. stands_before side x x ≡ b → b ≡ false in
    (elim (stands_before side x x) as P [ true ↦ λ h. sym h ∙ one_way side x x h | false ↦ λ _. refl ]) refl

tied_when : (side : Side) (x y : Offer) → stands_before side x y ≡ false → stands_before side y x ≡ false → tied side x y ≡ true
tied_when side x y a b = rw (a, b) refl

ties_itself : (side : Side) (x : Offer) → tied side x x ≡ true
ties_itself side x = tied_when side x x (not_first_itself side x) (not_first_itself side x)

-- an offer that is put behind one that stands before it does not tie with what that one ties with
not_both : (side : Side) (x y z : Offer) → stands_before side z y ≡ true → tied side x z ≡ true → tied side x y ≡ true → ⊥
not_both side x y z first a b =
    let back = not-true (stands_before side z x) (and_parts (not (stands_before side x z)) (not (stands_before side z x)) a).1 in
    let on = not-true (stands_before side x y) (and_parts (not (stands_before side x y)) (not (stands_before side y x)) b).0 in
    let later = chain side z x y back on in
    cc

tied-put_into : (side : Side) (x y : Offer) (zs : List Offer) → filter (tied side x) (put_into side y zs) ≡ filter (tied side x) (y ∷ zs)
tied-put_into side x y [] = refl
tied-put_into side x y (z ∷ zs) =
    let F = filter (tied side x) in
    let P : Bool → Type 0 = λ b. stands_before side z y ≡ b → F (cond b (z ∷ put_into side y zs) (y ∷ z ∷ zs)) ≡ F (y ∷ z ∷ zs) in
    let Q : Bool → Bool → Type 0 = λ a b. (a ≡ true → b ≡ true → ⊥) → cond a (z ∷ cond b (y ∷ F zs) (F zs)) (cond b (y ∷ F zs) (F zs)) ≡ cond b (y ∷ cond a (z ∷ F zs) (F zs)) (cond a (z ∷ F zs) (F zs)) in
    let swap : (a b : Bool) → Q a b = λ a b.
    elim a as (λ a. Q a b) [
      | true ↦ elim b as (Q true) [ true ↦ λ no. absurd (no refl refl) | false ↦ λ _. refl ]
      | false ↦ λ _. refl
    ] in
    (elim (stands_before side z y) as P [
      | true ↦ λ first. ap (λ l. cond (tied side x z) (z ∷ l) l) (tied-put_into side x y zs) ∙ swap (tied side x z) (tied side x y) (not_both side x y z first)
      | false ↦ λ _. refl
    ]) refl

tied-in_line : (side : Side) (x : Offer) (xs : List Offer) → filter (tied side x) (in_line side xs) ≡ filter (tied side x) xs
tied-in_line side x [] = refl
tied-in_line side x (y ∷ xs) = tied-put_into side x y (in_line side xs) ∙ ap (λ l. cond (tied side x y) (y ∷ l) l) (tied-in_line side x xs)

-- ---- one order
-- what holds of each offer holds of the first that passes a test
first_kept : (P : Offer → Type 0) (p : Offer → Bool) (c : Offer) (rest ys : List Offer) → filter p ys ≡ c ∷ rest → AllByRecursion P ys → P c
first_kept P p c rest [] e h = cc
first_kept P p c rest (y ∷ ys) e h =
    let Q : Bool → Type 0 = λ b. cond b (y ∷ filter p ys) (filter p ys) ≡ c ∷ rest → P c in
    (elim (p y) as Q [
      | true ↦ λ e. let is : y ≡ c = cc in subst P is h.0
      | false ↦ λ e. first_kept P p c rest ys e h.1
    ]) e

one_order : (side : Side) (xs ys : List Offer) → IsInLine side xs → IsInLine side ys → ((c : Offer) → filter (tied side c) xs ≡ filter (tied side c) ys) → xs ≡ ys
one_order side [] [] a b h = refl
one_order side [] (y ∷ ys) a b h =
    let e : [] ≡ y ∷ filter (tied side y) ys = h y ∙ ap (λ t. cond t (y ∷ filter (tied side y) ys) (filter (tied side y) ys)) (ties_itself side y) in
    cc
one_order side (x ∷ xs) [] a b h =
    let e : x ∷ filter (tied side x) xs ≡ [] = sym (ap (λ t. cond t (x ∷ filter (tied side x) xs) (filter (tied side x) xs)) (ties_itself side x)) ∙ h x in
    cc
one_order side (x ∷ xs) (y ∷ ys) a b h =
    let F : Offer → List Offer → List Offer = λ c. filter (tied side c) in
    let with_x : F x (x ∷ xs) ≡ x ∷ F x xs = ap (λ t. cond t (x ∷ F x xs) (F x xs)) (ties_itself side x) in
    let with_y : F y (y ∷ ys) ≡ y ∷ F y ys = ap (λ t. cond t (y ∷ F y ys) (F y ys)) (ties_itself side y) in
    let y_not : stands_before side y x ≡ false = first_kept (λ z. stands_before side z x ≡ false) (tied side y) y (F y ys) (x ∷ xs) (h y ∙ with_y) (not_first_itself side x, a.0) in
    let x_not : stands_before side x y ≡ false = first_kept (λ z. stands_before side z y ≡ false) (tied side x) x (F x xs) (y ∷ ys) (sym (h x) ∙ with_x) (not_first_itself side y, b.0) in
    let both : F x (y ∷ ys) ≡ y ∷ F x ys = ap (λ t. cond t (y ∷ F x ys) (F x ys)) (tied_when side x y x_not y_not) in
    let lists : x ∷ F x xs ≡ y ∷ F x ys = sym with_x ∙ h x ∙ both in
    let heads : x ≡ y = cc in
    let Q : Offer → Bool → Type 0 = λ c t. cond t (x ∷ F c xs) (F c xs) ≡ cond t (y ∷ F c ys) (F c ys) → F c xs ≡ F c ys in
    let tails : xs ≡ ys = one_order side xs ys a.1 b.1 (λ c.
    (elim (tied side c x) as (Q c) [ true ↦ λ e. cc | false ↦ λ e. e ]) (h c ∙ ap (λ z. cond (tied side c z) (y ∷ F c ys) (F c ys)) (sym heads))) in
    λ i. heads i ∷ tails i

-- ---- what the sort says
none_before : (side : Side) (x : Offer) (ys : List Offer) → ((k : ℕ) (d : Offer) → k < length ys → stands_before side (get_or ys k d) x ≡ false) → NoneBefore side x ys
none_before side x [] h = tt
none_before side x (y ∷ ys) h = (h 0 y (omega arith), none_before side x ys (λ k d lt. h (suc k) d (omega arith)))

sorted_is_in_line : (side : Side) (xs : List Offer) → IsSortedBy (stands_before side) xs → IsInLine side xs
sorted_is_in_line side [] h = tt
sorted_is_in_line side (x ∷ xs) h = (
  none_before side x xs (λ k d lt. sorted_far (stands_before side) (is_order side) (x ∷ xs) h 0 (suc k) d (omega arith) (omega arith)),
  sorted_is_in_line side xs (λ k d low high. let e : suc k + 1 ≡ suc (k + 1) = omega arith in subst (λ n. stands_before side (get_or (x ∷ xs) n d) (get_or xs k d) ≡ false) e (h (suc k) d (omega arith) (omega arith))),
)

pub stable_sort_is : (side : Side) (xs ys : List Offer) → IsSortedBy (stands_before side) ys → IsStableBy (stands_before side) xs ys → ys ≡ in_line side xs
stable_sort_is side xs ys sorted stable =
    one_order side ys (in_line side xs) (sorted_is_in_line side ys sorted) (IsInLine-in_line side xs) (λ c. stable c ∙ sym (tied-in_line side c xs))
