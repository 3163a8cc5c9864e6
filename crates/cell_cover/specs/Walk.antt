-- The walk over a cover by cells, each step with a limit: sums of what is due are kept along the
-- tree. A cover is closed where the walk ends, and open where it fails before a step does not fit.
use Rattle.std.specs.Prelude.{ℕ, zero, suc, ◌+◌, ◌-◌, ◌*◌, Bool, true, false, not, ◌&&◌, ◌||◌, if◌then◌else◌, List, [], ◌∷◌, map, zip, get_or, slice_set, replicate, length, nat_lt, ℤ, pos, Option, Some, None, Result, Ok}
use Rattle.std.specs.List.{list_all}
use Rattle.exact_num.specs.declared.misfit.Wide.{Wide}
use Rattle.exact_num.specs.Fraction.{Fraction, whole, negated}
use Rattle.exact_num.specs.Fits.{add_of, mul_of, after}
use Rattle.exact_num.specs.Steps.{fold_steps, and_then, plus_product, less_product}
use Rattle.exact_num.specs.Tests.{greater_of, is_above_zero, is_at_most, is_below_zero, is_not_below_zero}
use Rattle.clearing_model.specs.Legs.{Exposure, Long, Short}
use Rattle.sign_tree.specs.Legs.{FractionLeg}
use Rattle.sign_tree.specs.Walk.{less_liability}
use Rattle.form.specs.Vector.{is_same_option}
use Rattle.cell_cover.specs.Classes.{divisor_of, is_turned, class_of, with_classes}
use Rattle.cell_cover.specs.Cells.{ClassMultiplier, CellTree, Split, Bound, Leaf}
use Rattle.cell_cover.specs.Closed.{Known, Plus, Minus, Bounded, has_sign, known_at, now_known, is_in}

-- ---- vectors
-- a step for each item, in order
abbrev pub each_of : {A B : Type 0} → (A → Result B Wide) → List A → Result (List B) Wide
each_of step [] = Ok []
each_of step (x ∷ xs) = after (step x) (λ y. after (each_of step xs) (λ ys. Ok (y ∷ ys)))

-- the total and the product of a and b, or the total less it: as it is signed, and as minus without
-- a sign
abbrev pub add_signed : {W : Type 0} → ℕ → Known W → Fraction → Fraction → Fraction → Result Fraction Wide
add_signed limit Plus total a b = plus_product limit total a b
add_signed limit Minus total a b = less_product limit total a b
add_signed limit (Bounded w) total a b = less_product limit total a b

-- the same of each total, m and the entry beside it
abbrev pub add_each : {W : Type 0} → ℕ → Known W → List Fraction → Fraction → List Fraction → Result (List Fraction) Wide
add_each limit it totals m xs = each_of (λ (p : Fraction × Fraction). add_signed limit it p.0 m p.1) (zip totals xs)

abbrev pub plus_each : ℕ → List Fraction → Fraction → List Fraction → Result (List Fraction) Wide
plus_each limit totals m xs = add_each {W = Unit {0}} limit Plus totals m xs

abbrev pub less_each : ℕ → List Fraction → Fraction → List Fraction → Result (List Fraction) Wide
less_each limit totals m xs = add_each {W = Unit {0}} limit Minus totals m xs

abbrev pub greater_each : List Fraction → List Fraction → List Fraction
greater_each xs ys = map (λ (p : Fraction × Fraction). greater_of p.0 p.1) (zip xs ys)

abbrev pub at_least_zero : List Fraction → List Fraction
at_least_zero xs = map (greater_of (whole (pos 0))) xs

-- ---- kinks and slope
pub record KinksAndSlope : Type 0 where
  pub kinks : List Fraction
  pub slope : List Fraction

-- how many classes come before this one
abbrev pub index_of : List ℤ → List (List ℤ) → ℕ
index_of u [] = 0
index_of u (c ∷ cs) = if is_same_option u c then 0 else index_of u cs + 1

abbrev pub signed_amount : Exposure → Fraction → Fraction
signed_amount Long x = x
signed_amount Short x = negated x

abbrev pub slope_step : ℕ → Bool → List Fraction → Fraction → List Fraction → Result (List Fraction) Wide
slope_step limit turned slope x u = if turned then less_each limit slope x u else Ok slope

-- what a leg adds to the kink of its class, which is at j, and to the slope
abbrev pub leg_step_at : ℕ → ℕ → KinksAndSlope → FractionLeg → Result KinksAndSlope Wide
leg_step_at limit j so_far leg =
    let u = class_of leg.option in
    after (mul_of limit leg.fill (whole (pos (leg.size * divisor_of leg.option))))
    (λ p. let x = signed_amount leg.exposure p in
    after (add_of limit (get_or so_far.kinks j (whole (pos 0))) x)
    (λ K. after (slope_step limit (is_turned leg.option) so_far.slope x (map whole u))
    (λ slope. Ok (record { kinks = slice_set so_far.kinks j K; slope = slope }))))

abbrev pub leg_step : ℕ → List (List ℤ) → KinksAndSlope → FractionLeg → Result KinksAndSlope Wide
leg_step limit classes so_far leg = leg_step_at limit (index_of (class_of leg.option) classes) so_far leg

abbrev pub kinks_and_slope : ℕ → ℕ → List (List ℤ) → List FractionLeg → Result KinksAndSlope Wide
kinks_and_slope limit n classes legs =
    fold_steps (leg_step limit classes) (record { kinks = replicate (length classes) (whole (pos 0)); slope = replicate (n + 1) (whole (pos 0)) }) legs

-- ---- the classes, and what is kept along the tree
pub record WalkClass : Type 0 where
  pub entries : List Fraction
  pub kink : Fraction

abbrev pub walk_class : List ℤ × Fraction → WalkClass
walk_class p = record { entries = map whole p.0; kink = p.1 }

abbrev pub no_walk_class : WalkClass
no_walk_class = record { entries = []; kink = whole (pos 0) }

abbrev pub walk_class_at : List WalkClass → ℕ → WalkClass
walk_class_at classes k = get_or classes (k - 1) no_walk_class

-- the sum of slope and kinks by entry, and what is known of each class
pub record Cell : Type 0 where
  pub sums : List Fraction
  pub known : List (Known (List Fraction))

-- a bound counts where the kink is above 0
abbrev pub with_bound : ℕ → Fraction → List Fraction → List Fraction → Result (List Fraction) Wide
with_bound limit K w sums = if is_above_zero K then plus_each limit sums K w else Ok sums

abbrev pub without_bound : ℕ → Fraction → List Fraction → List Fraction → Result (List Fraction) Wide
without_bound limit K w sums = if is_above_zero K then less_each limit sums K w else Ok sums

-- at the root
abbrev pub root_bound : WalkClass → List Fraction
root_bound class = at_least_zero class.entries

abbrev pub root_step : ℕ → List Fraction → WalkClass → Result (List Fraction) Wide
root_step limit sums class = with_bound limit class.kink (root_bound class) sums

abbrev pub root_known : WalkClass → Known (List Fraction)
root_known class = Bounded (root_bound class)

abbrev pub root_cell : ℕ → List WalkClass → List Fraction → Result Cell Wide
root_cell limit classes slope = after (fold_steps (root_step limit) slope classes) (λ sums. Ok (record { sums = sums; known = map root_known classes }))

-- a class without a sign, whose bound is w, gets one
abbrev pub plus_cell : ℕ → List WalkClass → Cell → ℕ → List Fraction → Result Cell Wide
plus_cell limit classes cell k w =
    let class = walk_class_at classes k in
    after (without_bound limit class.kink w cell.sums)
    (λ sums. after (plus_each limit sums class.kink class.entries) (λ sums. Ok (record { sums = sums; known = now_known cell.known k Plus })))

abbrev pub minus_cell : ℕ → List WalkClass → Cell → ℕ → List Fraction → Result Cell Wide
minus_cell limit classes cell k w =
    after (without_bound limit (walk_class_at classes k).kink w cell.sums) (λ sums. Ok (record { sums = sums; known = now_known cell.known k Minus }))

-- or another bound
abbrev pub bound_cell : ℕ → List WalkClass → Cell → ℕ → List Fraction → List Fraction → Result Cell Wide
bound_cell limit classes cell k w next =
    let K = (walk_class_at classes k).kink in
    after (without_bound limit K w cell.sums)
    (λ sums. after (with_bound limit K next sums) (λ sums. Ok (record { sums = sums; known = now_known cell.known k (Bounded next) })))

-- ---- a bound
abbrev pub may_mix : List (Known (List Fraction)) → ClassMultiplier → Bool
may_mix known m = has_sign (known_at known m.class) && is_not_below_zero m.by

-- the totals and the mixture, where only such multipliers of these classes are mixed: each is tested
-- before its steps
abbrev pub mixed : ℕ → List WalkClass → List (Known (List Fraction)) → List Fraction → List ClassMultiplier → Result (Option (List Fraction)) Wide
mixed limit classes known totals [] = Ok (Some totals)
mixed limit classes known totals (m ∷ ms) =
    if nat_lt (m.class - 1) (length classes) && may_mix known m
    then after (add_each limit (known_at known m.class) totals m.by (walk_class_at classes m.class).entries) (λ next. mixed limit classes known next ms)
    else Ok None

-- what follows with what was found, and none where nothing was
abbrev pub on_found : {A B : Type 0} → B → (A → Result B Wide) → Option A → Result B Wide
on_found none next None = Ok none
on_found none next (Some a) = next a

abbrev pub then_with : {A B : Type 0} → Result (Option A) Wide → B → (A → Result B Wide) → Result B Wide
then_with made none next = after made (on_found none next)

abbrev pub bound_steps : ℕ → ℕ → List WalkClass → List (Known (List Fraction)) → ℕ → List ClassMultiplier → List ClassMultiplier → Result (Option (List Fraction)) Wide
bound_steps limit n classes known k minus plus =
    then_with (mixed limit classes known (replicate (n + 1) (whole (pos 0))) plus) None
    (λ A. then_with (mixed limit classes known (walk_class_at classes k).entries minus) None (λ B. Ok (Some (greater_each A B))))

-- ---- a leaf
abbrev pub may_be_full : List WalkClass → List (Known (List Fraction)) → ℕ → Bool
may_be_full classes known k = not (has_sign (known_at known k)) && is_below_zero (walk_class_at classes k).kink

abbrev pub may_stand : List WalkClass → List (Known (List Fraction)) → List ℕ → ClassMultiplier → Bool
may_stand classes known full m =
    let K = (walk_class_at classes m.class).kink in
    not (is_in m.class full)
    && (is_not_below_zero m.by && (has_sign (known_at known m.class) || (is_below_zero K && is_at_most m.by (negated K))))

abbrev pub entry_at : List WalkClass → ℕ → ℕ → Fraction
entry_at classes k i = get_or (walk_class_at classes k).entries i (whole (pos 0))

abbrev pub add_full : ℕ → List WalkClass → ℕ → Fraction → ℕ → Result Fraction Wide
add_full limit classes i total k = plus_product limit total (walk_class_at classes k).kink (entry_at classes k i)

abbrev pub add_multiplier : ℕ → List WalkClass → List (Known (List Fraction)) → ℕ → Fraction → ClassMultiplier → Result Fraction Wide
add_multiplier limit classes known i total m = add_signed limit (known_at known m.class) total m.by (entry_at classes m.class i)

abbrev pub entry_sum : ℕ → List WalkClass → Fraction → Cell → List ℕ → List ClassMultiplier → ℕ → Result Fraction Wide
entry_sum limit classes L cell full ms i =
    after (fold_steps (add_full limit classes i) (get_or cell.sums i (whole (pos 0))) full)
    (λ total. after (fold_steps (add_multiplier limit classes cell.known i) total ms) (less_liability limit L i))

-- whether none of so many entries from i on is above 0
abbrev pub entries_close : ℕ → List WalkClass → Fraction → Cell → List ℕ → List ClassMultiplier → ℕ → ℕ → Result Bool Wide
entries_close limit classes L cell full ms i zero = Ok true
entries_close limit classes L cell full ms i (suc left) =
    after (entry_sum limit classes L cell full ms i)
    (λ sum. if is_above_zero sum then Ok false else entries_close limit classes L cell full ms (i + 1) left)

abbrev pub leaf_closes : ℕ → ℕ → List WalkClass → Fraction → Cell → List ℕ → List ClassMultiplier → Result Bool Wide
leaf_closes limit n classes L cell full ms =
    if list_all (may_be_full classes cell.known) full && list_all (may_stand classes cell.known full) ms
    then entries_close limit classes L cell full ms 0 (n + 1)
    else Ok false

-- ---- the tree
-- what follows with the bound of a class without a sign, and false with a sign
abbrev pub on_bounded : {W : Type 0} → Known W → (W → Result Bool Wide) → Result Bool Wide
on_bounded Plus next = Ok false
on_bounded Minus next = Ok false
on_bounded (Bounded w) next = next w

abbrev pub walk : ℕ → ℕ → List WalkClass → Fraction → Cell → CellTree → Result Bool Wide
walk limit n classes L cell (Split k plus minus) =
    on_bounded (known_at cell.known k)
    (λ w. after (plus_cell limit classes cell k w)
    (λ up. and_then (walk limit n classes L up plus)
    (after (minus_cell limit classes cell k w) (λ down. walk limit n classes L down minus))))
walk limit n classes L cell (Bound k minus plus side) =
    on_bounded (known_at cell.known k)
    (λ w. then_with (bound_steps limit n classes cell.known k minus plus) false
    (λ next. after (bound_cell limit classes cell k w next) (λ inner. walk limit n classes L inner side)))
walk limit n classes L cell (Leaf full ms) = leaf_closes limit n classes L cell full ms

-- the walk over the classes of these options, and their legs
abbrev pub walk_steps : ℕ → ℕ → List (List ℤ) → List FractionLeg → Fraction → CellTree → Result Bool Wide
walk_steps limit n options legs L tree =
    let us = with_classes [] options in
    after (kinks_and_slope limit n us legs)
    (λ made. let classes = map walk_class (zip us made.kinks) in
    after (root_cell limit classes made.slope) (λ root. walk limit n classes L root tree))
