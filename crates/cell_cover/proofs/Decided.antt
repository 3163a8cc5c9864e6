-- Where the steps of a walk fit, it answers whether the tree closes.
use Rattle.std.proofs.Common.{◌≡◌, ℕ, ◌+◌, ◌-◌, ◌*◌, ◌<◌, ◌≤◌, Bool, true, false, not, ◌&&◌, List, [], ◌∷◌, ◌++◌, length, map, zip, get_or, set, replicate, arith, ℤ, pos, Result, Ok, Option, Some, None, refl, ap, sym, ◌∙◌, subst, All, add-one}
use Rattle.std.specs.Prelude.{if◌then◌else◌, nat_le}
use Rattle.std.specs.List.{list_all}
use Rattle.std.proofs.lemmas.Bool.{and_parts, leb-true}
use Rattle.std.proofs.lemmas.List.{length-map}
use Rattle.std.proofs.lemmas.List.Elements.{All-append, All-cons, All-head, All-nil, All-tail}
use Rattle.arithmetic.proofs.Sums.{All-of_map}
use Rattle.exact_num.specs.declared.misfit.Wide.{Wide}
use Rattle.exact_num.specs.Fraction.{Fraction, IsLowest, whole}
use Rattle.exact_num.specs.Fits.{add_of, mul_of, after}
use Rattle.exact_num.specs.Steps.{fold_steps, and_then}
use Rattle.exact_num.specs.Rationals.{Q, ◌+Q◌, ◌*Q◌, neg_Q, 0Q, whole_Q, value}
use Rattle.exact_num.proofs.After.{after_value}
use Rattle.exact_num.proofs.Rationals.{add_0, zero_add_Q, add_assoc}
use Rattle.form.specs.declared.orders.Order.{Order}
use Rattle.form.specs.Vector.{is_same_option}
use Rattle.form.proofs.SameOption.{same_option_is}
use Rattle.clearing_model.specs.Legs.{Exposure, Long, Short}
use Rattle.sign_tree.specs.Legs.{FractionLeg, fraction_legs}
use Rattle.cell_cover.specs.Cells.{ClassMultiplier, CellTree, Split, Bound, Leaf, classes_rise, class_in, is_class, has_classes}
use Rattle.cell_cover.specs.Classes.{Class, as_class, divisor_of, is_turned, class_of, is_among, with_classes, options_in, classes_of, for_exposure, owed_of, kink_of, slope_of}
use Rattle.cell_cover.specs.Closed.{Known, Plus, Minus, Bounded, Entries, has_sign, known_at, now_known, less_liability, closes_in, bound_of, unsigned}
use Rattle.cell_cover.specs.Closed.{may_mix as plain_may_mix}
use Rattle.cell_cover.specs.Walk.{WalkClass, walk_class, Cell, plus_cell, minus_cell, bound_cell, bound_steps, on_found, then_with, on_bounded, walk, KinksAndSlope, index_of, signed_amount, slope_step, leg_step, kinks_and_slope, root_cell}
use Rattle.cell_cover.specs.Laws.{IsLowestBy, HasLowest, WalksDecide}
use Rattle.cell_cover.proofs.Distinct.{Distinct, distinct}
use Rattle.cell_cover.proofs.Options.{class_entries}
use Rattle.cell_cover.proofs.Regrouped.{legs_among, legs_have, slope_part, if_same, LegIsAmong, option_at, legs_have_options}
use Rattle.cell_cover.proofs.Stands.{StandsFor, stands_as, Vector, vector_as, whole_stands, zero_stands, itself, negated_stands, sum_stands, product_stands, less_each_stand, zeros_stand, wholes_stand}
use Rattle.cell_cover.proofs.KeptSums.{AllStand, KnownStands, known_stands, CellStands, AreOf, BoundStands, bound_stands, root_stands, plus_stands_in, minus_stands_in, bound_stands_in}
use Rattle.cell_cover.proofs.LeafStands.{IsOf, rise_within, leaf_decides}

-- ---- the tree
abbrev Decides : ℕ → ℕ → List WalkClass → List Class → Entries → Fraction → CellTree → Type 0
Decides limit n ws cs slope L tree =
    (cell : Cell) (known : List (Known Entries)) (b : Bool) → CellStands (n + 1) cs slope cell known
    → walk limit n ws L cell tree ≡ Ok b → closes_in n cs (less_liability slope (value L)) known tree ≡ b

within_of : (count k : ℕ) → is_class count k ≡ true → k - 1 < count
within_of count k h =
    let tests = and_parts (nat_le 1 k) (nat_le k count) h in
    let low : 1 ≤ k = leb-true 1 k tests.0 in
    let high : k ≤ count = leb-true k count tests.1 in
    omega arith

are_of : (count : ℕ) (ms : List ClassMultiplier) → classes_rise count 0 (map class_in ms) ≡ true → All IsLowestBy ms → AreOf count ms
are_of count ms h low =
    let of : All (λ (m : ClassMultiplier). IsOf count m.class) ms = All-of_map (IsOf count) class_in ms (rise_within count 0 (map class_in ms) h) in
    record { within = λ k d lt. let is = of k d lt in omega (arith, is.0, is.1); lowest = low }

split_decides : (limit n : ℕ) (ws : List WalkClass) (cs : List Class) (slope : Entries) (L : Fraction) (k : ℕ) (plus minus : CellTree) → AllStand (n + 1) ws cs → k - 1 < length cs
    → Decides limit n ws cs slope L plus → Decides limit n ws cs slope L minus → Decides limit n ws cs slope L (Split k plus minus)
split_decides limit n ws cs slope L k plus minus all lt on_plus on_minus cell known b st h =
    by_known (known_at cell.known k) (known_at known k) refl (known_stands (n + 1) cell.known known (k - 1) st.each) h
  where
    by_side : (w : List Fraction) (v : Entries) (p : Bool) → known_at known k ≡ Bounded v → Vector (n + 1) w v → closes_in n cs (less_liability slope (value L)) (now_known known k Plus) plus ≡ p
        → (if p then after (minus_cell limit ws cell k w) (λ down. walk limit n ws L down minus) else Ok false) ≡ Ok b
        → (closes_in n cs (less_liability slope (value L)) (now_known known k Plus) plus && closes_in n cs (less_liability slope (value L)) (now_known known k Minus) minus) ≡ b
    by_side w v false is sw up h =
        let out : false ≡ b = cc in
        rw up out
    by_side w v true is sw up h =
        let down = after_value (minus_cell limit ws cell k w) (λ down. walk limit n ws L down minus) b h in
        rw up (on_minus down.value (now_known known k Minus) b (minus_stands_in limit (n + 1) ws cs slope cell down.value known k w v all st lt sw is down.first) down.rest)

    by_known : (a : Known (List Fraction)) (q : Known Entries) → known_at known k ≡ q → KnownStands (n + 1) a q
        → on_bounded a (λ w. after (plus_cell limit ws cell k w) (λ up. and_then (walk limit n ws L up plus) (after (minus_cell limit ws cell k w) (λ down. walk limit n ws L down minus)))) ≡ Ok b
        → (not (has_sign q) && (closes_in n cs (less_liability slope (value L)) (now_known known k Plus) plus && closes_in n cs (less_liability slope (value L)) (now_known known k Minus) minus)) ≡ b
    by_known Plus Plus is kn h = cc
    by_known Plus Minus is kn h = absurd kn
    by_known Plus (Bounded v) is kn h = absurd kn
    by_known Minus Plus is kn h = absurd kn
    by_known Minus Minus is kn h = cc
    by_known Minus (Bounded v) is kn h = absurd kn
    by_known (Bounded w) Plus is kn h = absurd kn
    by_known (Bounded w) Minus is kn h = absurd kn
    by_known (Bounded w) (Bounded v) is kn h =
        let rest : Result Bool Wide = after (minus_cell limit ws cell k w) (λ down. walk limit n ws L down minus) in
        let up = after_value (plus_cell limit ws cell k w) (λ up. and_then (walk limit n ws L up plus) rest) b h in
        let p = after_value (walk limit n ws L up.value plus) (λ holds. if holds then rest else Ok false) b up.rest in
        by_side w v p.value is kn (on_plus up.value (now_known known k Plus) p.value (plus_stands_in limit (n + 1) ws cs slope cell up.value known k w v all st lt kn is up.first) p.first) p.rest

bound_decides : (limit n : ℕ) (ws : List WalkClass) (cs : List Class) (slope : Entries) (L : Fraction) (k : ℕ) (minus plus : List ClassMultiplier) (side : CellTree) → AllStand (n + 1) ws cs → k - 1 < length cs
    → AreOf (length cs) plus → AreOf (length cs) minus → Decides limit n ws cs slope L side → Decides limit n ws cs slope L (Bound k minus plus side)
bound_decides limit n ws cs slope L k minus plus side all lt are_plus are_minus on_side cell known b st h =
    by_known (known_at cell.known k) (known_at known k) refl (known_stands (n + 1) cell.known known (k - 1) st.each) h
  where
    by_bound : (w : List Fraction) (v : Entries) (made : Option (List Fraction)) → known_at known k ≡ Bounded v → Vector (n + 1) w v → BoundStands (n + 1) cs known k minus plus made
        → on_found false (λ next. after (bound_cell limit ws cell k w next) (λ inner. walk limit n ws L inner side)) made ≡ Ok b
        → ((list_all (plain_may_mix known) plus && list_all (plain_may_mix known) minus) && closes_in n cs (less_liability slope (value L)) (now_known known k (Bounded (bound_of cs known k minus plus))) side) ≡ b
    by_bound w v None is sw made h =
        let out : false ≡ b = cc in
        rw made out
    by_bound w v (Some next) is sw made h =
        let inner = after_value (bound_cell limit ws cell k w next) (λ inner. walk limit n ws L inner side) b h in
        let o : Entries = bound_of cs known k minus plus in
        rw made.0 (on_side inner.value (now_known known k (Bounded o)) b (bound_stands_in limit (n + 1) ws cs slope cell inner.value known k w next v o all st lt sw made.1 is inner.first) inner.rest)

    by_known : (a : Known (List Fraction)) (q : Known Entries) → known_at known k ≡ q → KnownStands (n + 1) a q
        → on_bounded a (λ w. then_with (bound_steps limit n ws cell.known k minus plus) false (λ next. after (bound_cell limit ws cell k w next) (λ inner. walk limit n ws L inner side))) ≡ Ok b
        → (not (has_sign q) && ((list_all (plain_may_mix known) plus && list_all (plain_may_mix known) minus) && closes_in n cs (less_liability slope (value L)) (now_known known k (Bounded (bound_of cs known k minus plus))) side)) ≡ b
    by_known Plus Plus is kn h = cc
    by_known Plus Minus is kn h = absurd kn
    by_known Plus (Bounded v) is kn h = absurd kn
    by_known Minus Plus is kn h = absurd kn
    by_known Minus Minus is kn h = cc
    by_known Minus (Bounded v) is kn h = absurd kn
    by_known (Bounded w) Plus is kn h = absurd kn
    by_known (Bounded w) Minus is kn h = absurd kn
    by_known (Bounded w) (Bounded v) is kn h =
        let made = after_value (bound_steps limit n ws cell.known k minus plus) (on_found false (λ next. after (bound_cell limit ws cell k w next) (λ inner. walk limit n ws L inner side))) b h in
        by_bound w v made.value is kn (bound_stands limit n ws cs cell.known known k minus plus made.value all st.each are_plus are_minus lt made.first) made.rest

walks_decide_in : (limit n : ℕ) (ws : List WalkClass) (cs : List Class) (slope : Entries) (L : Fraction) (tree : CellTree) → AllStand (n + 1) ws cs → IsLowest L → has_classes (length cs) tree ≡ true → HasLowest tree
    → Decides limit n ws cs slope L tree
walks_decide_in limit n ws cs slope L (Split k plus minus) all low h lowest =
    let one = and_parts (is_class (length cs) k) (has_classes (length cs) plus && has_classes (length cs) minus) h in
    let both = and_parts (has_classes (length cs) plus) (has_classes (length cs) minus) one.1 in
    split_decides limit n ws cs slope L k plus minus all (within_of (length cs) k one.0) (walks_decide_in limit n ws cs slope L plus all low both.0 lowest.0) (walks_decide_in limit n ws cs slope L minus all low both.1 lowest.1)
walks_decide_in limit n ws cs slope L (Bound k minus plus side) all low h lowest =
    let rises = classes_rise (length cs) 0 (map class_in minus) && classes_rise (length cs) 0 (map class_in plus) in
    let one = and_parts (is_class (length cs) k) (rises && has_classes (length cs) side) h in
    let two = and_parts rises (has_classes (length cs) side) one.1 in
    let both = and_parts (classes_rise (length cs) 0 (map class_in minus)) (classes_rise (length cs) 0 (map class_in plus)) two.0 in
    bound_decides limit n ws cs slope L k minus plus side all (within_of (length cs) k one.0) (are_of (length cs) plus both.1 lowest.1) (are_of (length cs) minus both.0 lowest.0) (walks_decide_in limit n ws cs slope L side all low two.1 lowest.2)
walks_decide_in limit n ws cs slope L (Leaf full ms) all low h lowest =
    let both = and_parts (classes_rise (length cs) 0 full) (classes_rise (length cs) 0 (map class_in ms)) h in
    λ cell known b st e.
    leaf_decides limit n ws cs slope L cell known full ms b (record { classes = all; liability = low; full_rise = both.0; multipliers_rise = both.1; multipliers = are_of (length cs) ms both.1 lowest }) st e

-- ---- kinks and slope
abbrev KinksAre : List (List ℤ) → List Fraction → (List ℤ → Q) → Type 0
KinksAre [] [] a = Unit {0}
KinksAre [] (K ∷ Ks) a = ⊥
KinksAre (u ∷ us) [] a = ⊥
KinksAre (u ∷ us) (K ∷ Ks) a = StandsFor K (a u) × KinksAre us Ks a

kinks_as : (us : List (List ℤ)) (Ks : List Fraction) (a b : List ℤ → Q) → ((u : List ℤ) → a u ≡ b u) → KinksAre us Ks a → KinksAre us Ks b
kinks_as [] [] a b e st = tt
kinks_as [] (K ∷ Ks) a b e st = absurd st
kinks_as (u ∷ us) [] a b e st = absurd st
kinks_as (u ∷ us) (K ∷ Ks) a b e st = (stands_as K (a u) (b u) (e u) st.0, kinks_as us Ks a b e st.1)

no_kinks : (us : List (List ℤ)) → KinksAre us (replicate (length us) (whole (pos 0))) (λ u. 0Q)
no_kinks [] = tt
no_kinks (u ∷ us) = (zero_stands, no_kinks us)

kink_at : (us : List (List ℤ)) (Ks : List Fraction) (a : List ℤ → Q) (u : List ℤ) → KinksAre us Ks a → is_among u us ≡ true → StandsFor (get_or Ks (index_of u us) (whole (pos 0))) (a u)
kink_at [] [] a u st is = cc
kink_at [] (K ∷ Ks) a u st is = absurd st
kink_at (c ∷ us) [] a u st is = absurd st
kink_at (c ∷ us) (K ∷ Ks) a u st is = by_test (is_same_option u c) refl (kink_at us Ks a u st.1)
  where
    by_test : (t : Bool) → is_same_option u c ≡ t → (is_among u us ≡ true → StandsFor (get_or Ks (index_of u us) (whole (pos 0))) (a u)) → StandsFor (get_or (K ∷ Ks) (if is_same_option u c then 0 else index_of u us + 1) (whole (pos 0))) (a u)
    by_test true e go = let same : u ≡ c = same_option_is u c e in rw e (subst (λ w. StandsFor K (a w)) (sym same) st.0)
    by_test false e go = rw (e, add-one) (go (rw e at is))

others_same : (us : List (List ℤ)) (Ks : List Fraction) (a : List ℤ → Q) (u : List ℤ) (x : Q) → KinksAre us Ks a → is_among u us ≡ false → KinksAre us Ks (λ c. a c +Q if_same u c x)
others_same [] [] a u x st f = tt
others_same [] (K ∷ Ks) a u x st f = absurd st
others_same (c ∷ us) [] a u x st f = absurd st
others_same (c ∷ us) (K ∷ Ks) a u x st f = by_test (is_same_option u c) refl (others_same us Ks a u x st.1)
  where
    by_test : (t : Bool) → is_same_option u c ≡ t → (is_among u us ≡ false → KinksAre us Ks (λ c. a c +Q if_same u c x)) → StandsFor K (a c +Q if_same u c x) × KinksAre us Ks (λ c. a c +Q if_same u c x)
    by_test true e go = let n : true ≡ false = rw e at f in cc
    by_test false e go = (stands_as K (a c) (a c +Q if_same u c x) (sym (add_0 (a c)) ∙ ap (λ t. a c +Q (if t then x else 0Q)) (sym e)) st.0, go (rw e at f))

kink_set : (us : List (List ℤ)) (Ks : List Fraction) (a : List ℤ → Q) (u : List ℤ) (K : Fraction) (x : Q) → Distinct us → is_among u us ≡ true → KinksAre us Ks a → StandsFor K (a u +Q x)
    → KinksAre us (set Ks (index_of u us) K) (λ c. a c +Q if_same u c x)
kink_set [] [] a u K x d is st new = cc
kink_set [] (J ∷ Ks) a u K x d is st new = absurd st
kink_set (c ∷ us) [] a u K x d is st new = absurd st
kink_set (c ∷ us) (J ∷ Ks) a u K x d is st new = by_test (is_same_option u c) refl (λ s. kink_set us Ks a u K x d.1 s st.1 new)
  where
    by_test : (t : Bool) → is_same_option u c ≡ t → (is_among u us ≡ true → KinksAre us (set Ks (index_of u us) K) (λ c. a c +Q if_same u c x)) → KinksAre (c ∷ us) (set (J ∷ Ks) (if is_same_option u c then 0 else index_of u us + 1) K) (λ c. a c +Q if_same u c x)
    by_test true e go =
        let same : u ≡ c = same_option_is u c e in
        let none : is_among u us ≡ false = subst (λ w. is_among w us ≡ false) (sym same) d.0 in
        let here : StandsFor K (a c +Q if_same u c x) = stands_as K (a u +Q x) (a c +Q if_same u c x) (ap (λ w. a w +Q x) same ∙ ap (λ t. a c +Q (if t then x else 0Q)) (sym e)) new in
        rw e (here, others_same us Ks a u x st.1 none)
    by_test false e go =
        let here : StandsFor J (a c +Q if_same u c x) = stands_as J (a c) (a c +Q if_same u c x) (sym (add_0 (a c)) ∙ ap (λ t. a c +Q (if t then x else 0Q)) (sym e)) st.0 in
        rw (e, add-one) (here, go (rw e at is))

amount_stands : (exposure : Exposure) (x : Fraction) (q : Q) → StandsFor x q → StandsFor (signed_amount exposure x) (for_exposure exposure q)
amount_stands Long x q st = st
amount_stands Short x q st = negated_stands x q st

slope_stands : (limit n : ℕ) (t : Bool) (slope out : List Fraction) (x : Fraction) (u : List ℤ) (l : Entries) (q : Q) → length u ≡ n → Vector n slope l → StandsFor x q → slope_step limit t slope x (map whole u) ≡ Ok out
    → Vector n out (λ i. l i +Q (if t then neg_Q (q *Q class_entries u i) else 0Q))
slope_stands limit n true slope out x u l q len st sx h =
    let entries : Vector n (map whole u) (class_entries u) = subst (λ k. Vector k (map whole u) (class_entries u)) len (wholes_stand u) in
    less_each_stand limit n slope x (map whole u) out l (class_entries u) q st sx entries h
slope_stands limit n false slope out x u l q len st sx h =
    let is : slope ≡ out = cc in
    vector_as n out l (λ i. l i +Q 0Q) (λ i. sym (add_0 (l i))) (subst (λ zs. Vector n zs l) is st)

abbrev IsFit : ℕ → FractionLeg → Type 0
IsFit n leg = IsLowest leg.fill × (length leg.option ≡ n)

kinks_stand : (limit n : ℕ) (us : List (List ℤ)) (legs : List FractionLeg) (from to : KinksAndSlope) (a : List ℤ → Q) (l : Entries) → Distinct us → All (LegIsAmong us) legs → All (IsFit n) legs
    → KinksAre us from.kinks a → Vector n from.slope l → fold_steps (leg_step limit us) from legs ≡ Ok to
    → KinksAre us to.kinks (λ c. a c +Q kink_of legs c) × Vector n to.slope (λ i. l i +Q slope_of legs i)
kinks_stand limit n us [] from to a l d among fit ks sl h =
    let is : from ≡ to = cc in
    subst (λ (x : KinksAndSlope). KinksAre us x.kinks (λ c. a c +Q 0Q) × Vector n x.slope (λ i. l i +Q 0Q)) is
    (kinks_as us from.kinks a (λ c. a c +Q 0Q) (λ c. sym (add_0 (a c))) ks, vector_as n from.slope l (λ i. l i +Q 0Q) (λ i. sym (add_0 (l i))) sl)
kinks_stand limit n us (leg ∷ legs) from to a l d among fit ks sl h =
    let u = class_of leg.option in
    let j = index_of u us in
    let N = pos (leg.size * divisor_of leg.option) in
    let K0 = get_or from.kinks j (whole (pos 0)) in
    let end : Fraction → List Fraction → Result KinksAndSlope Wide = λ K slope. Ok (record { kinks = set from.kinks j K; slope = slope }) in
    let last : Fraction → Fraction → Result KinksAndSlope Wide = λ x K. after (slope_step limit (is_turned leg.option) from.slope x (map whole u)) (end K) in
    let next : Fraction → Result KinksAndSlope Wide = λ p. after (add_of limit K0 (signed_amount leg.exposure p)) (last (signed_amount leg.exposure p)) in
    let step = after_value (leg_step limit us from leg) (λ made. fold_steps (leg_step limit us) made legs) to h in
    let one = after_value (mul_of limit leg.fill (whole N)) next step.value step.first in
    let x = signed_amount leg.exposure one.value in
    let two = after_value (add_of limit K0 x) (last x) step.value one.rest in
    let three = after_value (slope_step limit (is_turned leg.option) from.slope x (map whole u)) (end two.value) step.value two.rest in
    let made : record { kinks = set from.kinks j two.value; slope = three.value } ≡ step.value = cc (three.rest) in
    let here = All-head (LegIsAmong us) leg legs among in
    let is_fit = All-head (IsFit n) leg legs fit in
    let sx : StandsFor x (owed_of leg) = amount_stands leg.exposure one.value _ (product_stands limit leg.fill (whole N) one.value (value leg.fill) (whole_Q N) (itself leg.fill is_fit.0) (whole_stands N) one.first) in
    let sK : StandsFor two.value (a u +Q owed_of leg) = sum_stands limit K0 x two.value (a u) (owed_of leg) (kink_at us from.kinks a u ks here) sx two.first in
    let ks2 = kink_set us from.kinks a u two.value (owed_of leg) d here ks sK in
    let len : length u ≡ n = length-map leg.option _ ∙ is_fit.1 in
    let sl2 = slope_stands limit n (is_turned leg.option) from.slope three.value x u l (owed_of leg) len sl sx three.first in
    let both : KinksAre us step.value.kinks (λ c. a c +Q if_same u c (owed_of leg)) × Vector n step.value.slope (λ i. l i +Q slope_part leg i) =
    subst (λ (m : KinksAndSlope). KinksAre us m.kinks (λ c. a c +Q if_same u c (owed_of leg)) × Vector n m.slope (λ i. l i +Q slope_part leg i)) made (ks2, sl2) in
    let rest = kinks_stand limit n us legs step.value to (λ c. a c +Q if_same u c (owed_of leg)) (λ i. l i +Q slope_part leg i) d (All-tail (LegIsAmong us) leg legs among) (All-tail (IsFit n) leg legs fit) both.0 both.1 step.rest in (
      kinks_as us to.kinks (λ c. (a c +Q if_same u c (owed_of leg)) +Q kink_of legs c) (λ c. a c +Q kink_of (leg ∷ legs) c) (λ c. add_assoc (a c) (if_same u c (owed_of leg)) (kink_of legs c)) rest.0,
      vector_as n to.slope (λ i. (l i +Q slope_part leg i) +Q slope_of legs i) (λ i. l i +Q slope_of (leg ∷ legs) i) (λ i. add_assoc (l i) (slope_part leg i) (slope_of legs i)) rest.1,
    )

-- ---- the classes of the walk
abbrev HasEntries : ℕ → List ℤ → Type 0
HasEntries n v = length v ≡ n

classes_have : (n : ℕ) (cs vs : List (List ℤ)) → All (HasEntries n) cs → All (HasEntries n) vs → All (HasEntries n) (with_classes cs vs)
classes_have n cs [] have all = have
classes_have n cs (v ∷ vs) have all = by_test (is_among (class_of v) cs) (λ ds h. classes_have n ds vs h (All-tail (HasEntries n) v vs all))
  where
    by_test : (t : Bool) → ((ds : List (List ℤ)) → All (HasEntries n) ds → All (HasEntries n) (with_classes ds vs)) → All (HasEntries n) (with_classes (if t then cs else cs ++ class_of v ∷ []) vs)
    by_test true go = go cs have
    by_test false go = go (cs ++ class_of v ∷ []) (All-append (HasEntries n) cs (class_of v ∷ []) have (All-cons (HasEntries n) (class_of v) [] (length-map v _ ∙ All-head (HasEntries n) v vs all) (All-nil (HasEntries n))))

classes_stand : (n : ℕ) (legs : List FractionLeg) (us : List (List ℤ)) (Ks : List Fraction) → All (HasEntries n) us → KinksAre us Ks (kink_of legs) → AllStand n (map walk_class (zip us Ks)) (map (as_class legs) us)
classes_stand n legs [] [] have ks = tt
classes_stand n legs [] (K ∷ Ks) have ks = absurd ks
classes_stand n legs (u ∷ us) [] have ks = absurd ks
classes_stand n legs (u ∷ us) (K ∷ Ks) have ks = (
  record { entries = subst (λ k. Vector k (map whole u) (class_entries u)) (All-head (HasEntries n) u us have) (wholes_stand u); kink = ks.0 },
  classes_stand n legs us Ks (All-tail (HasEntries n) u us have) ks.1,
)

-- ---- the legs of the orders
legs_fit : (n : ℕ) (os : List Order) (fs : List Fraction) → length fs ≡ length os → All IsLowest fs → All (HasEntries n) (options_in os) → All (IsFit n) (fraction_legs os fs)
legs_fit n os fs len low have =
    let options : All (λ (leg : FractionLeg). length leg.option ≡ n) (fraction_legs os fs) = All-of_map (HasEntries n) option_at (fraction_legs os fs) (subst (All (HasEntries n)) (sym (legs_have_options os fs len)) have) in
    λ k d lt. (legs_have IsLowest os fs low k d lt, options k d lt)

pub walks_decide : WalksDecide
walks_decide limit n orders fills L tree b len have low low_L lowest formed h =
    let legs = fraction_legs orders fills in
    let us = classes_of orders in
    let cs = map (as_class legs) us in
    let made = after_value (kinks_and_slope limit n us legs) (λ made. let classes = map walk_class (zip us made.kinks) in after (root_cell limit classes made.slope) (λ root. walk limit n classes L root tree)) b h in
    let ws = map walk_class (zip us made.value.kinks) in
    let root = after_value (root_cell limit ws made.value.slope) (λ root. walk limit n ws L root tree) b made.rest in
    let stand = kinks_stand limit (n + 1) us legs (record { kinks = replicate (length us) (whole (pos 0)); slope = replicate (n + 1) (whole (pos 0)) }) made.value (λ c. 0Q) (λ i. 0Q)
    (distinct [] (options_in orders) tt) (legs_among orders fills len) (legs_fit (n + 1) orders fills len low have) (no_kinks us) (zeros_stand (n + 1)) made.first in
    let kinks = kinks_as us made.value.kinks (λ c. 0Q +Q kink_of legs c) (kink_of legs) (λ c. zero_add_Q (kink_of legs c)) stand.0 in
    let slope = vector_as (n + 1) made.value.slope (λ i. 0Q +Q slope_of legs i) (slope_of legs) (λ i. zero_add_Q (slope_of legs i)) stand.1 in
    let all = classes_stand (n + 1) legs us made.value.kinks (classes_have (n + 1) [] (options_in orders) (All-nil (HasEntries (n + 1))) have) kinks in
    let cell = root_stands limit (n + 1) ws cs made.value.slope (slope_of legs) root.value all slope root.first in
    let of : has_classes (length cs) tree ≡ true = subst (λ k. has_classes k tree ≡ true) (sym (length-map us (as_class legs))) formed in
    walks_decide_in limit n ws cs (slope_of legs) L tree all low_L of lowest root.value (map unsigned cs) b cell root.rest
