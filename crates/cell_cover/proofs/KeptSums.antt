-- The sums that a walk keeps are those of the definition, at each node.
use Rattle.std.proofs.Common.{◌≡◌, ℕ, zero, suc, ◌+◌, ◌-◌, ◌<◌, Bool, true, false, ◌&&◌, List, [], ◌∷◌, length, map, get_or, set, replicate, arith, pos, Result, Ok, Option, Some, None, refl, ap, sym, ◌∙◌, subst, All}
use Rattle.std.specs.Prelude.{if◌then◌else◌, nat_lt}
use Rattle.std.specs.List.{list_all}
use Rattle.std.proofs.lemmas.Bool.{and_left, and_right, and_from, lt-ltb}
use Rattle.std.proofs.lemmas.List.Elements.{All-head, All-tail}
use Rattle.exact_num.specs.declared.misfit.Wide.{Wide}
use Rattle.exact_num.specs.Fraction.{Fraction, IsLowest, whole}
use Rattle.exact_num.specs.Fits.{after}
use Rattle.exact_num.specs.Steps.{fold_steps}
use Rattle.exact_num.specs.Tests.{is_above_zero}
use Rattle.exact_num.specs.Rationals.{Q, ◌+Q◌, ◌*Q◌, neg_Q, 0Q, value}
use Rattle.exact_num.proofs.After.{after_value}
use Rattle.exact_num.proofs.Rationals.{rationals, add_0, zero_add_Q, add_assoc, add_comm, add_neg}
use Rattle.cell_cover.specs.Cells.{ClassMultiplier}
use Rattle.cell_cover.specs.Classes.{Class}
use Rattle.cell_cover.specs.Closed.{Known, Plus, Minus, Bounded, Entries, has_sign, is_above, is_not_below, greater, no_class, class_at, known_at, now_known, signed, kink_term, over_classes, unsigned, mixture, bound_of}
use Rattle.cell_cover.specs.Closed.{may_mix as plain_may_mix}
use Rattle.cell_cover.specs.Walk.{WalkClass, no_walk_class, walk_class_at, Cell, with_bound, without_bound, root_bound, root_step, root_known, root_cell, plus_cell, minus_cell, bound_cell, may_mix, mixed, add_each, plus_each, less_each, on_found, then_with, bound_steps, greater_each}
use Rattle.cell_cover.proofs.Stands.{StandsFor, Vector, vector_as, plus_each_stand, less_each_stand, greater_each_stand, at_least_zero_stand, zeros_stand, above_same, not_below_same, itself}

-- ---- classes and what is known of them
pub record ClassStands (n : ℕ) (walked : WalkClass) (class : Class) : Type 0 where
  pub entries : Vector n walked.entries class.entries
  pub kink : StandsFor walked.kink class.kink

abbrev pub AllStand : ℕ → List WalkClass → List Class → Type 0
AllStand n [] [] = Unit {0}
AllStand n [] (c ∷ cs) = ⊥
AllStand n (w ∷ ws) [] = ⊥
AllStand n (w ∷ ws) (c ∷ cs) = ClassStands n w c × AllStand n ws cs

pub class_stands : (n : ℕ) (ws : List WalkClass) (cs : List Class) (j : ℕ) → AllStand n ws cs → j < length cs → ClassStands n (get_or ws j no_walk_class) (get_or cs j no_class)
class_stands n [] [] j all lt = absurd (omega arith)
class_stands n [] (c ∷ cs) j all lt = absurd all
class_stands n (w ∷ ws) [] j all lt = absurd all
class_stands n (w ∷ ws) (c ∷ cs) zero all lt = all.0
class_stands n (w ∷ ws) (c ∷ cs) (suc j) all lt = class_stands n ws cs j all.1 (omega arith)

as_many : (n : ℕ) (ws : List WalkClass) (cs : List Class) → AllStand n ws cs → length ws ≡ length cs
as_many n [] [] all = refl
as_many n [] (c ∷ cs) all = absurd all
as_many n (w ∷ ws) [] all = absurd all
as_many n (w ∷ ws) (c ∷ cs) all = ap suc (as_many n ws cs all.1)

among : (n : ℕ) (ws : List WalkClass) (cs : List Class) (j : ℕ) → AllStand n ws cs → j < length cs → nat_lt j (length ws) ≡ true
among n ws cs j all lt = lt-ltb j (length ws) (omega (arith, as_many n ws cs all))

abbrev pub KnownStands : ℕ → Known (List Fraction) → Known Entries → Type 0
KnownStands n Plus Plus = Unit {0}
KnownStands n Plus Minus = ⊥
KnownStands n Plus (Bounded w) = ⊥
KnownStands n Minus Plus = ⊥
KnownStands n Minus Minus = Unit {0}
KnownStands n Minus (Bounded w) = ⊥
KnownStands n (Bounded ws) Plus = ⊥
KnownStands n (Bounded ws) Minus = ⊥
KnownStands n (Bounded ws) (Bounded w) = Vector n ws w

abbrev pub AllKnown : ℕ → List (Known (List Fraction)) → List (Known Entries) → Type 0
AllKnown n [] [] = Unit {0}
AllKnown n [] (b ∷ bs) = ⊥
AllKnown n (a ∷ ks) [] = ⊥
AllKnown n (a ∷ ks) (b ∷ bs) = KnownStands n a b × AllKnown n ks bs

pub known_stands : (n : ℕ) (ks : List (Known (List Fraction))) (bs : List (Known Entries)) (j : ℕ) → AllKnown n ks bs → KnownStands n (get_or ks j Minus) (get_or bs j Minus)
known_stands n [] [] j all = tt
known_stands n [] (b ∷ bs) j all = absurd all
known_stands n (a ∷ ks) [] j all = absurd all
known_stands n (a ∷ ks) (b ∷ bs) zero all = all.0
known_stands n (a ∷ ks) (b ∷ bs) (suc j) all = known_stands n ks bs j all.1

known_set : (n : ℕ) (ks : List (Known (List Fraction))) (bs : List (Known Entries)) (j : ℕ) (a : Known (List Fraction)) (b : Known Entries) → AllKnown n ks bs → KnownStands n a b → AllKnown n (set ks j a) (set bs j b)
known_set n [] [] j a b all it = tt
known_set n [] (y ∷ bs) j a b all it = absurd all
known_set n (x ∷ ks) [] j a b all it = absurd all
known_set n (x ∷ ks) (y ∷ bs) zero a b all it = (it, all.1)
known_set n (x ∷ ks) (y ∷ bs) (suc j) a b all it = (all.0, known_set n ks bs j a b all.1 it)

pub sign_same : (n : ℕ) (a : Known (List Fraction)) (b : Known Entries) → KnownStands n a b → has_sign b ≡ has_sign a
sign_same n Plus Plus st = refl
sign_same n Plus Minus st = absurd st
sign_same n Plus (Bounded w) st = absurd st
sign_same n Minus Plus st = absurd st
sign_same n Minus Minus st = refl
sign_same n Minus (Bounded w) st = absurd st
sign_same n (Bounded ws) Plus st = absurd st
sign_same n (Bounded ws) Minus st = absurd st
sign_same n (Bounded ws) (Bounded w) st = refl

-- ---- the sum over the classes, after one of them is known otherwise
abbrev pub kinks_at : ℕ → ℕ → Class → Known Entries → Q
kinks_at i k class it = kink_term it class.kink class.entries i

replaced : (a b r : Q) → b +Q r ≡ ((a +Q r) +Q neg_Q a) +Q b
replaced a b r =
    let e : (a +Q r) +Q neg_Q a ≡ r = add_assoc a r (neg_Q a) ∙ ap (λ s. a +Q s) (add_comm r (neg_Q a)) ∙ sym (add_assoc a (neg_Q a) r) ∙ ap (λ s. s +Q r) (add_neg a) ∙ zero_add_Q r in
    add_comm b r ∙ ap (λ s. s +Q b) (sym e)

further : (x a o b : Q) → x +Q ((a +Q neg_Q o) +Q b) ≡ ((x +Q a) +Q neg_Q o) +Q b
further x a o b = simp rationals

over_set : (i k : ℕ) (cs : List Class) (known : List (Known Entries)) (j : ℕ) (it : Known Entries) → length known ≡ length cs → j < length cs
    → over_classes (kinks_at i) k cs (set known j it) ≡ (over_classes (kinks_at i) k cs known +Q neg_Q (kinks_at i 0 (get_or cs j no_class) (get_or known j Minus))) +Q kinks_at i 0 (get_or cs j no_class) it
over_set i k [] known j it len lt = absurd (omega arith)
over_set i k (c ∷ cs) [] j it len lt = absurd (omega (arith, len))
over_set i k (c ∷ cs) (old ∷ known) zero it len lt = replaced (kinks_at i 0 c old) (kinks_at i 0 c it) (over_classes (kinks_at i) (k + 1) cs known)
over_set i k (c ∷ cs) (old ∷ known) (suc j) it len lt =
    ap (λ s. kinks_at i k c old +Q s) (over_set i (k + 1) cs known j it (omega (arith, len)) (omega arith))
    ∙ further (kinks_at i k c old) (over_classes (kinks_at i) (k + 1) cs known) (kinks_at i 0 (get_or cs j no_class) (get_or known j Minus)) (kinks_at i 0 (get_or cs j no_class) it)

length_now : (known : List (Known Entries)) (j : ℕ) (it : Known Entries) → length (set known j it) ≡ length known
length_now [] j it = refl
length_now (x ∷ known) zero it = refl
length_now (x ∷ known) (suc j) it = ap suc (length_now known j it)

-- ---- what is kept
abbrev pub kept_entries : List Class → Entries → List (Known Entries) → Entries
kept_entries cs slope known i = slope i +Q over_classes (kinks_at i) 1 cs known

pub record CellStands (n : ℕ) (cs : List Class) (slope : Entries) (cell : Cell) (known : List (Known Entries)) : Type 0 where
  pub sums : Vector n cell.sums (kept_entries cs slope known)
  pub each : AllKnown n cell.known known
  pub count : length known ≡ length cs

bound_term : (v : Entries) (q : Q) (t : Bool) → is_above q ≡ t → (u : Entries) (i : ℕ) → kink_term (Bounded v) q u i ≡ (if t then q *Q v i else 0Q)
bound_term v q t e u i = ap (λ b. if b then q *Q v i else 0Q) e

without_stands : (limit n : ℕ) (K : Fraction) (w sums out : List Fraction) (S v u : Entries) (q : Q) → Vector n sums S → StandsFor K q → Vector n w v
    → without_bound limit K w sums ≡ Ok out → Vector n out (λ i. S i +Q neg_Q (kink_term (Bounded v) q u i))
without_stands limit n K w sums out S v u q st sk sw h = by_test (is_above_zero K) refl h
  where
    less_nothing : (s : Q) → s ≡ s +Q neg_Q 0Q
    less_nothing s = simp rationals

    by_test : (t : Bool) → is_above_zero K ≡ t → (if t then less_each limit sums K w else Ok sums) ≡ Ok out → Vector n out (λ i. S i +Q neg_Q (kink_term (Bounded v) q u i))
    by_test true e h =
        vector_as n out (λ i. S i +Q neg_Q (q *Q v i)) (λ i. S i +Q neg_Q (kink_term (Bounded v) q u i)) (λ i. ap (λ s. S i +Q neg_Q s) (sym (bound_term v q true (above_same K q sk ∙ e) u i))) (less_each_stand limit n sums K w out S v q st sk sw h)
    by_test false e h =
        let is : sums ≡ out = cc in
        vector_as n out S (λ i. S i +Q neg_Q (kink_term (Bounded v) q u i)) (λ i. less_nothing (S i) ∙ ap (λ s. S i +Q neg_Q s) (sym (bound_term v q false (above_same K q sk ∙ e) u i))) (subst (λ zs. Vector n zs S) is st)

with_stands : (limit n : ℕ) (K : Fraction) (w sums out : List Fraction) (S v u : Entries) (q : Q) → Vector n sums S → StandsFor K q → Vector n w v
    → with_bound limit K w sums ≡ Ok out → Vector n out (λ i. S i +Q kink_term (Bounded v) q u i)
with_stands limit n K w sums out S v u q st sk sw h = by_test (is_above_zero K) refl h
  where
    by_test : (t : Bool) → is_above_zero K ≡ t → (if t then plus_each limit sums K w else Ok sums) ≡ Ok out → Vector n out (λ i. S i +Q kink_term (Bounded v) q u i)
    by_test true e h =
        vector_as n out (λ i. S i +Q q *Q v i) (λ i. S i +Q kink_term (Bounded v) q u i) (λ i. ap (λ s. S i +Q s) (sym (bound_term v q true (above_same K q sk ∙ e) u i))) (plus_each_stand limit n sums K w out S v q st sk sw h)
    by_test false e h =
        let is : sums ≡ out = cc in
        vector_as n out S (λ i. S i +Q kink_term (Bounded v) q u i) (λ i. sym (add_0 (S i)) ∙ ap (λ s. S i +Q s) (sym (bound_term v q false (above_same K q sk ∙ e) u i))) (subst (λ zs. Vector n zs S) is st)

-- ---- the root
root_class : (n : ℕ) (w : WalkClass) (c : Class) → ClassStands n w c → Vector n (root_bound w) (λ i. greater 0Q (c.entries i))
root_class n w c st = at_least_zero_stand n w.entries c.entries st.entries

root_sums : (limit n k : ℕ) (ws : List WalkClass) (cs : List Class) (sums out : List Fraction) (S : Entries) → AllStand n ws cs → Vector n sums S → fold_steps (root_step limit) sums ws ≡ Ok out
    → Vector n out (λ i. S i +Q over_classes (kinks_at i) k cs (map unsigned cs))
root_sums limit n k [] [] sums out S all st h =
    let is : sums ≡ out = cc in
    vector_as n out S (λ i. S i +Q 0Q) (λ i. sym (add_0 (S i))) (subst (λ zs. Vector n zs S) is st)
root_sums limit n k [] (c ∷ cs) sums out S all st h = absurd all
root_sums limit n k (w ∷ ws) [] sums out S all st h = absurd all
root_sums limit n k (w ∷ ws) (c ∷ cs) sums out S all st h =
    let one = after_value (root_step limit sums w) (λ next. fold_steps (root_step limit) next ws) out h in
    let v : Entries = λ i. greater 0Q (c.entries i) in
    let here = with_stands limit n w.kink (root_bound w) sums one.value S v c.entries c.kink st all.0.kink (root_class n w c all.0) one.first in
    let rest = root_sums limit n (k + 1) ws cs one.value out (λ i. S i +Q kink_term (Bounded v) c.kink c.entries i) all.1 here one.rest in
    vector_as n out (λ i. (S i +Q kink_term (Bounded v) c.kink c.entries i) +Q over_classes (kinks_at i) (k + 1) cs (map unsigned cs)) (λ i. S i +Q over_classes (kinks_at i) k (c ∷ cs) (map unsigned (c ∷ cs)))
    (λ i. add_assoc (S i) (kink_term (Bounded v) c.kink c.entries i) (over_classes (kinks_at i) (k + 1) cs (map unsigned cs))) rest

root_all : (n : ℕ) (ws : List WalkClass) (cs : List Class) → AllStand n ws cs → AllKnown n (map root_known ws) (map unsigned cs)
root_all n [] [] all = tt
root_all n [] (c ∷ cs) all = absurd all
root_all n (w ∷ ws) [] all = absurd all
root_all n (w ∷ ws) (c ∷ cs) all = (root_class n w c all.0, root_all n ws cs all.1)

length_unsigned : (cs : List Class) → length (map unsigned cs) ≡ length cs
length_unsigned [] = refl
length_unsigned (c ∷ cs) = ap suc (length_unsigned cs)

pub root_stands : (limit n : ℕ) (ws : List WalkClass) (cs : List Class) (sums : List Fraction) (slope : Entries) (cell : Cell) → AllStand n ws cs → Vector n sums slope → root_cell limit ws sums ≡ Ok cell
    → CellStands n cs slope cell (map unsigned cs)
root_stands limit n ws cs sums slope cell all st h =
    let made = after_value (fold_steps (root_step limit) sums ws) (λ out. Ok (record { sums = out; known = map root_known ws })) cell h in
    let is : record { sums = made.value; known = map root_known ws } ≡ cell = cc (made.rest) in
    subst (λ (x : Cell). CellStands n cs slope x (map unsigned cs)) is (record {
      sums = root_sums limit n 1 ws cs sums made.value slope all st made.first;
      each = root_all n ws cs all;
      count = length_unsigned cs;
    })

-- ---- one class is known otherwise
abbrev at_class : ℕ → List Class → Known Entries → ℕ → Q
at_class k cs it i = kinks_at i 0 (class_at cs k) it

changed : (cs : List Class) (slope : Entries) (known : List (Known Entries)) (k i : ℕ) (old it : Known Entries) → length known ≡ length cs → k - 1 < length cs → known_at known k ≡ old
    → (kept_entries cs slope known i +Q neg_Q (at_class k cs old i)) +Q at_class k cs it i ≡ kept_entries cs slope (now_known known k it) i
changed cs slope known k i old it len lt e =
    ap (λ o. (kept_entries cs slope known i +Q neg_Q (at_class k cs o i)) +Q at_class k cs it i) (sym e)
    ∙ order (slope i) (over_classes (kinks_at i) 1 cs known) (at_class k cs (known_at known k) i) (at_class k cs it i)
    ∙ ap (λ s. slope i +Q s) (sym (over_set i 1 cs known (k - 1) it len lt))
  where
    order : (s a o b : Q) → ((s +Q a) +Q neg_Q o) +Q b ≡ s +Q ((a +Q neg_Q o) +Q b)
    order s a o b = simp rationals

pub plus_stands_in : (limit n : ℕ) (ws : List WalkClass) (cs : List Class) (slope : Entries) (cell next : Cell) (known : List (Known Entries)) (k : ℕ) (w : List Fraction) (v : Entries)
    → AllStand n ws cs → CellStands n cs slope cell known → k - 1 < length cs → Vector n w v → known_at known k ≡ Bounded v
    → plus_cell limit ws cell k w ≡ Ok next → CellStands n cs slope next (now_known known k Plus)
plus_stands_in limit n ws cs slope cell next known k w v all st lt sw is h =
    let walked = walk_class_at ws k in
    let class = class_at cs k in
    let stands = class_stands n ws cs (k - 1) all lt in
    let one = after_value (without_bound limit walked.kink w cell.sums) (λ sums. after (plus_each limit sums walked.kink walked.entries) (λ sums. Ok (record { sums = sums; known = now_known cell.known k Plus }))) next h in
    let two = after_value (plus_each limit one.value walked.kink walked.entries) (λ sums. Ok (record { sums = sums; known = now_known cell.known k Plus })) next one.rest in
    let made : record { sums = two.value; known = now_known cell.known k Plus } ≡ next = cc (two.rest) in
    let S = kept_entries cs slope known in
    let less : Entries = λ i. S i +Q neg_Q (kink_term (Bounded v) class.kink class.entries i) in
    let first = without_stands limit n walked.kink w cell.sums one.value S v class.entries class.kink st.sums stands.kink sw one.first in
    let second = plus_each_stand limit n one.value walked.kink walked.entries two.value less class.entries class.kink first stands.kink stands.entries two.first in
    subst (λ (x : Cell). CellStands n cs slope x (now_known known k Plus)) made (record {
      sums = vector_as n two.value (λ i. less i +Q class.kink *Q class.entries i) (kept_entries cs slope (now_known known k Plus)) (λ i. changed cs slope known k i (Bounded v) Plus st.count lt is) second;
      each = known_set n cell.known known (k - 1) Plus Plus st.each tt;
      count = length_now known (k - 1) Plus ∙ st.count;
    })

pub minus_stands_in : (limit n : ℕ) (ws : List WalkClass) (cs : List Class) (slope : Entries) (cell next : Cell) (known : List (Known Entries)) (k : ℕ) (w : List Fraction) (v : Entries)
    → AllStand n ws cs → CellStands n cs slope cell known → k - 1 < length cs → Vector n w v → known_at known k ≡ Bounded v
    → minus_cell limit ws cell k w ≡ Ok next → CellStands n cs slope next (now_known known k Minus)
minus_stands_in limit n ws cs slope cell next known k w v all st lt sw is h =
    let walked = walk_class_at ws k in
    let class = class_at cs k in
    let stands = class_stands n ws cs (k - 1) all lt in
    let one = after_value (without_bound limit walked.kink w cell.sums) (λ sums. Ok (record { sums = sums; known = now_known cell.known k Minus })) next h in
    let made : record { sums = one.value; known = now_known cell.known k Minus } ≡ next = cc (one.rest) in
    let S = kept_entries cs slope known in
    let less : Entries = λ i. S i +Q neg_Q (kink_term (Bounded v) class.kink class.entries i) in
    let first = without_stands limit n walked.kink w cell.sums one.value S v class.entries class.kink st.sums stands.kink sw one.first in
    subst (λ (x : Cell). CellStands n cs slope x (now_known known k Minus)) made (record {
      sums = vector_as n one.value less (kept_entries cs slope (now_known known k Minus)) (λ i. sym (add_0 (less i)) ∙ changed cs slope known k i (Bounded v) Minus st.count lt is) first;
      each = known_set n cell.known known (k - 1) Minus Minus st.each tt;
      count = length_now known (k - 1) Minus ∙ st.count;
    })

pub bound_stands_in : (limit n : ℕ) (ws : List WalkClass) (cs : List Class) (slope : Entries) (cell next : Cell) (known : List (Known Entries)) (k : ℕ) (w other : List Fraction) (v o : Entries)
    → AllStand n ws cs → CellStands n cs slope cell known → k - 1 < length cs → Vector n w v → Vector n other o → known_at known k ≡ Bounded v
    → bound_cell limit ws cell k w other ≡ Ok next → CellStands n cs slope next (now_known known k (Bounded o))
bound_stands_in limit n ws cs slope cell next known k w other v o all st lt sw so is h =
    let K = (walk_class_at ws k).kink in
    let class = class_at cs k in
    let stands = class_stands n ws cs (k - 1) all lt in
    let end : List Fraction → Result Cell Wide = λ sums. Ok (record { sums = sums; known = now_known cell.known k (Bounded other) }) in
    let one = after_value (without_bound limit K w cell.sums) (λ sums. after (with_bound limit K other sums) end) next h in
    let two = after_value (with_bound limit K other one.value) end next one.rest in
    let made : record { sums = two.value; known = now_known cell.known k (Bounded other) } ≡ next = cc (two.rest) in
    let S = kept_entries cs slope known in
    let less : Entries = λ i. S i +Q neg_Q (kink_term (Bounded v) class.kink class.entries i) in
    let first = without_stands limit n K w cell.sums one.value S v class.entries class.kink st.sums stands.kink sw one.first in
    let second = with_stands limit n K other one.value two.value less o class.entries class.kink first stands.kink so two.first in
    subst (λ (x : Cell). CellStands n cs slope x (now_known known k (Bounded o))) made (record {
      sums = vector_as n two.value (λ i. less i +Q kink_term (Bounded o) class.kink class.entries i) (kept_entries cs slope (now_known known k (Bounded o))) (λ i. changed cs slope known k i (Bounded v) (Bounded o) st.count lt is) second;
      each = known_set n cell.known known (k - 1) (Bounded other) (Bounded o) st.each so;
      count = length_now known (k - 1) (Bounded o) ∙ st.count;
    })

-- ---- mixtures
-- each class is one of these, and each multiplier in lowest terms
pub record AreOf (count : ℕ) (ms : List ClassMultiplier) : Type 0 where
  pub within : All (λ (m : ClassMultiplier). m.class - 1 < count) ms
  pub lowest : All (λ (m : ClassMultiplier). IsLowest m.by) ms

pub are_rest : (count : ℕ) (m : ClassMultiplier) (ms : List ClassMultiplier) → AreOf count (m ∷ ms) → AreOf count ms
are_rest count m ms are = record { within = All-tail (λ (m : ClassMultiplier). m.class - 1 < count) m ms are.within; lowest = All-tail (λ (m : ClassMultiplier). IsLowest m.by) m ms are.lowest }

turned : (t p q : Q) → t +Q neg_Q (p *Q q) ≡ t +Q p *Q neg_Q q
turned t p q = simp rationals

signed_stand : (limit n : ℕ) (a : Known (List Fraction)) (b : Known Entries) (totals : List Fraction) (m : Fraction) (xs ys : List Fraction) (t u : Entries) (q : Q) → KnownStands n a b → Vector n totals t → StandsFor m q → Vector n xs u
    → add_each limit a totals m xs ≡ Ok ys → Vector n ys (λ i. t i +Q q *Q signed b (u i))
signed_stand limit n Plus Plus totals m xs ys t u q kn st sm sx h = plus_each_stand limit n totals m xs ys t u q st sm sx h
signed_stand limit n Plus Minus totals m xs ys t u q kn st sm sx h = absurd kn
signed_stand limit n Plus (Bounded w) totals m xs ys t u q kn st sm sx h = absurd kn
signed_stand limit n Minus Plus totals m xs ys t u q kn st sm sx h = absurd kn
signed_stand limit n Minus Minus totals m xs ys t u q kn st sm sx h =
    vector_as n ys (λ i. t i +Q neg_Q (q *Q u i)) (λ i. t i +Q q *Q neg_Q (u i)) (λ i. turned (t i) q (u i)) (less_each_stand limit n totals m xs ys t u q st sm sx h)
signed_stand limit n Minus (Bounded w) totals m xs ys t u q kn st sm sx h = absurd kn
signed_stand limit n (Bounded ws) Plus totals m xs ys t u q kn st sm sx h = absurd kn
signed_stand limit n (Bounded ws) Minus totals m xs ys t u q kn st sm sx h = absurd kn
signed_stand limit n (Bounded ws) (Bounded w) totals m xs ys t u q kn st sm sx h =
    vector_as n ys (λ i. t i +Q neg_Q (q *Q u i)) (λ i. t i +Q q *Q neg_Q (u i)) (λ i. turned (t i) q (u i)) (less_each_stand limit n totals m xs ys t u q st sm sx h)

pub may_mix_same : (n : ℕ) (ks : List (Known (List Fraction))) (known : List (Known Entries)) (m : ClassMultiplier) → AllKnown n ks known → IsLowest m.by → plain_may_mix known m ≡ may_mix ks m
may_mix_same n ks known m all low =
    ap (λ b. b && is_not_below (value m.by)) (sign_same n (known_at ks m.class) (known_at known m.class) (known_stands n ks known (m.class - 1) all))
    ∙ ap (λ b. has_sign (known_at ks m.class) && b) (not_below_same m.by (value m.by) (itself m.by low))

-- what a mixture answers: the vector, or nothing where a multiplier may not be mixed
abbrev pub MixStands : ℕ → List Class → List (Known Entries) → List ClassMultiplier → Entries → Option (List Fraction) → Type 0
MixStands n cs known ms t None = list_all (plain_may_mix known) ms ≡ false
MixStands n cs known ms t (Some ys) = (list_all (plain_may_mix known) ms ≡ true) × Vector n ys (λ i. t i +Q mixture cs known ms i)

pub mixed_stands : (limit n : ℕ) (ws : List WalkClass) (cs : List Class) (ks : List (Known (List Fraction))) (known : List (Known Entries)) (totals : List Fraction) (t : Entries) (ms : List ClassMultiplier) (made : Option (List Fraction))
    → AllStand n ws cs → AllKnown n ks known → AreOf (length cs) ms → Vector n totals t → mixed limit ws ks totals ms ≡ Ok made → MixStands n cs known ms t made
mixed_stands limit n ws cs ks known totals t [] made all kn are st h =
    let is : Some totals ≡ made = cc in
    subst (MixStands n cs known [] t) is (refl, vector_as n totals t (λ i. t i +Q 0Q) (λ i. sym (add_0 (t i))) st)
mixed_stands limit n ws cs ks known totals t (m ∷ ms) made all kn are st h =
    by_test (nat_lt (m.class - 1) (length ws) && may_mix ks m) refl h (λ next t2 st2 h2. mixed_stands limit n ws cs ks known next t2 ms made all kn (are_rest (length cs) m ms are) st2 h2)
  where
    test_is : plain_may_mix known m ≡ (nat_lt (m.class - 1) (length ws) && may_mix ks m)
    test_is =
        may_mix_same n ks known m kn (All-head (λ (m : ClassMultiplier). IsLowest m.by) m ms are.lowest)
        ∙ ap (λ b. b && may_mix ks m) (sym (among n ws cs (m.class - 1) all (All-head (λ (m : ClassMultiplier). m.class - 1 < length cs) m ms are.within)))

    by_test : (b : Bool) → (nat_lt (m.class - 1) (length ws) && may_mix ks m) ≡ b → (if b then after (add_each limit (known_at ks m.class) totals m.by (walk_class_at ws m.class).entries) (λ next. mixed limit ws ks next ms) else Ok None) ≡ Ok made
        → ((next : List Fraction) (t2 : Entries) → Vector n next t2 → mixed limit ws ks next ms ≡ Ok made → MixStands n cs known ms t2 made)
        → MixStands n cs known (m ∷ ms) t made
    by_test false e h go =
        let is : None ≡ made = cc in
        subst (MixStands n cs known (m ∷ ms) t) is (and_left (plain_may_mix known m) (list_all (plain_may_mix known) ms) (test_is ∙ e))
    by_test true e h go =
        let first = after_value (add_each limit (known_at ks m.class) totals m.by (walk_class_at ws m.class).entries) (λ next. mixed limit ws ks next ms) made h in
        let u : Entries = (class_at cs m.class).entries in
        let lt = All-head (λ (m : ClassMultiplier). m.class - 1 < length cs) m ms are.within in
        let low = All-head (λ (m : ClassMultiplier). IsLowest m.by) m ms are.lowest in
        let stands = class_stands n ws cs (m.class - 1) all lt in
        let here = signed_stand limit n (known_at ks m.class) (known_at known m.class) totals m.by (walk_class_at ws m.class).entries first.value t u (value m.by) (known_stands n ks known (m.class - 1) kn) st (itself m.by low) stands.entries first.first in
        joined made (go first.value (λ i. t i +Q value m.by *Q signed (known_at known m.class) (u i)) here first.rest)
      where
        joined : (made : Option (List Fraction)) → MixStands n cs known ms (λ i. t i +Q value m.by *Q signed (known_at known m.class) ((class_at cs m.class).entries i)) made → MixStands n cs known (m ∷ ms) t made
        joined None rest = and_right (plain_may_mix known m) (list_all (plain_may_mix known) ms) rest
        joined (Some ys) rest = (
          and_from (plain_may_mix known m) (list_all (plain_may_mix known) ms) (test_is ∙ e) rest.0,
          vector_as n ys (λ i. (t i +Q value m.by *Q signed (known_at known m.class) ((class_at cs m.class).entries i)) +Q mixture cs known ms i) (λ i. t i +Q mixture cs known (m ∷ ms) i)
              (λ i. add_assoc (t i) (value m.by *Q signed (known_at known m.class) ((class_at cs m.class).entries i)) (mixture cs known ms i)) rest.1,
        )

-- and a bound
abbrev pub BoundStands : ℕ → List Class → List (Known Entries) → ℕ → List ClassMultiplier → List ClassMultiplier → Option (List Fraction) → Type 0
BoundStands n cs known k minus plus None = (list_all (plain_may_mix known) plus && list_all (plain_may_mix known) minus) ≡ false
BoundStands n cs known k minus plus (Some ys) = ((list_all (plain_may_mix known) plus && list_all (plain_may_mix known) minus) ≡ true) × Vector n ys (bound_of cs known k minus plus)

pub bound_stands : (limit n : ℕ) (ws : List WalkClass) (cs : List Class) (ks : List (Known (List Fraction))) (known : List (Known Entries)) (k : ℕ) (minus plus : List ClassMultiplier) (made : Option (List Fraction))
    → AllStand (n + 1) ws cs → AllKnown (n + 1) ks known → AreOf (length cs) plus → AreOf (length cs) minus → k - 1 < length cs → bound_steps limit n ws ks k minus plus ≡ Ok made → BoundStands (n + 1) cs known k minus plus made
bound_stands limit n ws cs ks known k minus plus made all kn are_plus are_minus lt h =
    let zeros = replicate (n + 1) (whole (pos 0)) in
    let u = (walk_class_at ws k).entries in
    let second : List Fraction → Result (Option (List Fraction)) Wide = λ A. then_with (mixed limit ws ks u minus) None (λ B. Ok (Some (greater_each A B))) in
    let first = after_value (mixed limit ws ks zeros plus) (on_found None second) made h in
    on_first first.value (mixed_stands limit (n + 1) ws cs ks known zeros (λ i. 0Q) plus first.value all kn are_plus (zeros_stand (n + 1)) first.first) first.rest
  where
    on_second : (A : List Fraction) (made2 : Option (List Fraction)) → list_all (plain_may_mix known) plus ≡ true → Vector (n + 1) A (λ i. 0Q +Q mixture cs known plus i) → MixStands (n + 1) cs known minus (class_at cs k).entries made2
        → on_found None (λ B. Ok (Some (greater_each A B))) made2 ≡ Ok made → BoundStands (n + 1) cs known k minus plus made
    on_second A None p sa sb h =
        let is : None ≡ made = cc in
        subst (BoundStands (n + 1) cs known k minus plus) is (and_right (list_all (plain_may_mix known) plus) (list_all (plain_may_mix known) minus) sb)
    on_second A (Some B) p sa sb h =
        let is : Some (greater_each A B) ≡ made = cc in
        let a : Vector (n + 1) A (mixture cs known plus) = vector_as (n + 1) A (λ i. 0Q +Q mixture cs known plus i) (mixture cs known plus) (λ i. zero_add_Q (mixture cs known plus i)) sa in
        subst (BoundStands (n + 1) cs known k minus plus) is (
          and_from (list_all (plain_may_mix known) plus) (list_all (plain_may_mix known) minus) p sb.0,
          greater_each_stand (n + 1) A B (mixture cs known plus) (λ i. (class_at cs k).entries i +Q mixture cs known minus i) a sb.1,
        )

    on_first : (made1 : Option (List Fraction)) → MixStands (n + 1) cs known plus (λ i. 0Q) made1 → on_found None (λ A. then_with (mixed limit ws ks (walk_class_at ws k).entries minus) None (λ B. Ok (Some (greater_each A B)))) made1 ≡ Ok made
        → BoundStands (n + 1) cs known k minus plus made
    on_first None sa h =
        let is : None ≡ made = cc in
        subst (BoundStands (n + 1) cs known k minus plus) is (and_left (list_all (plain_may_mix known) plus) (list_all (plain_may_mix known) minus) sa)
    on_first (Some A) sa h =
        let second = after_value (mixed limit ws ks (walk_class_at ws k).entries minus) (on_found None (λ B. Ok (Some (greater_each A B)))) made h in
        on_second A second.value sa.0 sa.1 (mixed_stands limit (n + 1) ws cs ks known (walk_class_at ws k).entries (class_at cs k).entries minus second.value all kn are_minus (class_stands (n + 1) ws cs (k - 1) all lt).entries second.first) second.rest
