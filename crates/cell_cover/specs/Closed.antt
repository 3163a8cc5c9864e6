-- Where a cover by cells closes over the classes of a batch.
use Rattle.std.specs.Prelude.{ℕ, zero, suc, ◌+◌, ◌-◌, ◌==◌, Bool, true, false, not, ◌&&◌, ◌||◌, if◌then◌else◌, List, [], ◌∷◌, map, get_or, slice_set}
use Rattle.std.specs.List.{list_all}
use Rattle.exact_num.specs.Fraction.{Fraction}
use Rattle.exact_num.specs.Rationals.{Q, ◌+Q◌, ◌*Q◌, neg_Q, 0Q, value}
use Rattle.exact_num.specs.Tests.{is_above_zero, is_below_zero, is_not_below_zero}
use Rattle.form.specs.declared.orders.Order.{Order}
use Rattle.sign_tree.specs.Legs.{fraction_legs}
use Rattle.cell_cover.specs.Classes.{Class, as_class, classes_of, slope_of, sum_over}
use Rattle.cell_cover.specs.Cells.{ClassMultiplier, CellTree, Split, Bound, Leaf}

-- what is known of a class in a cell: its sign, or without one the vector by which what it pays is
-- bounded
pub data Known (W : Type 0) : Type 0 where
  Plus : Known W
  Minus : Known W
  Bounded : W → Known W

abbrev pub has_sign : {W : Type 0} → Known W → Bool
has_sign Plus = true
has_sign Minus = true
has_sign (Bounded w) = false

-- the entries of a vector
abbrev pub Entries : Type 0
Entries = ℕ → Q

-- ---- tests of numbers
abbrev pub is_above : Q → Bool
is_above x = is_above_zero x.fraction

abbrev pub is_below : Q → Bool
is_below x = is_below_zero x.fraction

abbrev pub is_not_below : Q → Bool
is_not_below x = is_not_below_zero x.fraction

abbrev pub is_no_more : Q → Q → Bool
is_no_more x y = is_not_below (y +Q neg_Q x)

abbrev pub greater : Q → Q → Q
greater x y = if is_no_more x y then y else x

-- ---- the classes by their numbers
-- a class that nothing is owed of, for a number that no class has
abbrev pub no_class : Class
no_class = record { entries = λ i. 0Q; kink = 0Q }

abbrev pub class_at : List Class → ℕ → Class
class_at classes k = get_or classes (k - 1) no_class

abbrev pub known_at : {W : Type 0} → List (Known W) → ℕ → Known W
known_at known k = get_or known (k - 1) Minus

abbrev pub now_known : {W : Type 0} → List (Known W) → ℕ → Known W → List (Known W)
now_known known k it = slice_set known (k - 1) it

-- ---- a bound
-- the entry with the class's sign, and with minus where it has none
abbrev pub signed : {W : Type 0} → Known W → Q → Q
signed Plus x = x
signed Minus x = neg_Q x
signed (Bounded w) x = neg_Q x

-- the sum of the classes' signed entries, each times its multiplier
abbrev pub mixture : List Class → List (Known Entries) → List ClassMultiplier → Entries
mixture classes known ms i =
    sum_over (λ (m : ClassMultiplier). value m.by *Q signed (known_at known m.class) ((class_at classes m.class).entries i)) ms

-- entry by entry the greater of one mixture, and of the class and another
abbrev pub bound_of : List Class → List (Known Entries) → ℕ → List ClassMultiplier → List ClassMultiplier → Entries
bound_of classes known k minus plus i =
    greater (mixture classes known plus i) ((class_at classes k).entries i +Q mixture classes known minus i)

-- only classes with a sign are mixed, and no multiplier is below 0
abbrev pub may_mix : List (Known Entries) → ClassMultiplier → Bool
may_mix known m = has_sign (known_at known m.class) && is_not_below (value m.by)

-- ---- a leaf
abbrev pub is_in : ℕ → List ℕ → Bool
is_in k [] = false
is_in k (j ∷ js) = (j == k) || is_in k js

-- the multiplier that is listed for the class, and else 0
abbrev pub listed : List ClassMultiplier → ℕ → Q
listed [] k = 0Q
listed (m ∷ ms) k = if m.class == k then value m.by else listed ms k

-- the multiplier of the class with the kink K
abbrev pub multiplier_of : List ℕ → List ClassMultiplier → ℕ → Q → Q
multiplier_of full ms k K = if is_in k full then neg_Q K else listed ms k

-- a class that stands with its whole kink has no sign, and a kink below 0
abbrev pub may_be_full : List Class → List (Known Entries) → ℕ → Bool
may_be_full classes known k = not (has_sign (known_at known k)) && is_below (class_at classes k).kink

-- a multiplier is not below 0, and one of a class without a sign at most -K, which is above 0
abbrev pub may_stand : List Class → List (Known Entries) → List ℕ → ClassMultiplier → Bool
may_stand classes known full m =
    let K = (class_at classes m.class).kink in
    not (is_in m.class full)
    && (is_not_below (value m.by) && (has_sign (known_at known m.class) || (is_below K && is_no_more (value m.by) (neg_Q K))))

-- what a class with these entries and the kink K adds to the entry i of a leaf
abbrev pub kink_term : Known Entries → Q → Entries → Entries
kink_term Plus K u i = K *Q u i
kink_term Minus K u i = 0Q
kink_term (Bounded w) K u i = if is_above K then K *Q w i else 0Q

abbrev pub class_term : Class → Known Entries → Q → Entries
class_term class known m i = kink_term known class.kink class.entries i +Q m *Q signed known (class.entries i)

-- f of each class, its number counted from k, what is known of it and the entry, added up
abbrev pub over_classes : (ℕ → Class → Known Entries → Q) → ℕ → List Class → List (Known Entries) → Q
over_classes f k [] known = 0Q
over_classes f k (class ∷ classes) [] = 0Q
over_classes f k (class ∷ classes) (it ∷ known) = f k class it +Q over_classes f (k + 1) classes known

abbrev pub leaf_entry : List Class → Entries → List (Known Entries) → List ℕ → List ClassMultiplier → Entries
leaf_entry classes slope known full ms i =
    slope i +Q over_classes (λ k class it. class_term class it (multiplier_of full ms k class.kink) i) 1 classes known

-- whether none of so many entries from i on is above 0
abbrev pub none_above : Entries → ℕ → ℕ → Bool
none_above e i zero = true
none_above e i (suc left) = is_no_more (e i) 0Q && none_above e (i + 1) left

-- ---- the cover
-- whether the tree closes, where so much is known; the slope is that of the net less the liability
abbrev pub closes_in : ℕ → List Class → Entries → List (Known Entries) → CellTree → Bool
closes_in n classes slope known (Split k plus minus) =
    not (has_sign (known_at known k))
    && (closes_in n classes slope (now_known known k Plus) plus && closes_in n classes slope (now_known known k Minus) minus)
closes_in n classes slope known (Bound k minus plus side) =
    not (has_sign (known_at known k))
    && ((list_all (may_mix known) plus && list_all (may_mix known) minus)
    && closes_in n classes slope (now_known known k (Bounded (bound_of classes known k minus plus))) side)
closes_in n classes slope known (Leaf full ms) =
    (list_all (may_be_full classes known) full && list_all (may_stand classes known full) ms)
    && none_above (leaf_entry classes slope known full ms) 0 (n + 1)

-- at the root each class is bounded by its entries, with 0 for those below 0
abbrev pub unsigned : Class → Known Entries
unsigned class = Bounded (λ i. greater 0Q (class.entries i))

-- the liability stands in entry 0
abbrev pub less_liability : Entries → Q → Entries
less_liability slope L zero = slope zero +Q neg_Q L
less_liability slope L (suc i) = slope (suc i)

-- whether the tree closes over the fills of the orders, with the liability L
abbrev pub closes : ℕ → List Order → List Fraction → Fraction → CellTree → Bool
closes n orders fills L tree =
    let legs = fraction_legs orders fills in
    let classes = map (as_class legs) (classes_of orders) in
    closes_in n classes (less_liability (slope_of legs) (value L)) (map unsigned classes) tree
