-- The bound of a market covers its exposure, on however many underlyings it is.
use Rattle.std.proofs.Common.{◌≡◌, ℕ, ◌+◌, ◌*◌, ◌++◌, ◌≤◌, nat_eq, nat_lt, Bool, true, false, not, ◌&&◌, ◌||◌, List, [], ◌∷◌, length, map, filter, take, drop, All, Ok, Err, arith, ℤ, pos, ◌+ℤ◌, ◌*ℤ◌, ◌≤ℤ◌, unsigned_abs, refl, ap, sym, ◌∙◌, subst}
use Rattle.std.specs.Int.{◌∣◌}
use Rattle.std.specs.List.{flat_map, list_any}
use Rattle.std.proofs.lemmas.Bool.{eqb-true, ltb-false}
use Rattle.std.proofs.lemmas.Int.{ints}
use Rattle.std.proofs.lemmas.List.{drop_at, take_at}
use Rattle.std.proofs.lemmas.List.Elements.{All-append, All-cons, All-drop, All-filter, All-head, All-nil, All-same, All-tail, All-take, All-weaker}
use Rattle.arithmetic.proofs.Integers.{*ℤ_cancel_le}
use Rattle.arithmetic.proofs.Products.{products}
use Rattle.arithmetic.proofs.Sums.{All-of_map, All-to_map}
use Rattle.exact_num.specs.Fraction.{Fraction, IsNotBelowZero, whole}
use Rattle.exact_num.specs.CommonDenominator.{common_denominator}
use Rattle.form.specs.declared.legs.Leg.{Leg}
use Rattle.form.specs.declared.limits.TheConstants.{MAX_ORDERS}
use Rattle.form.specs.declared.orders.Order.{Order}
use Rattle.form.specs.declared.orders.Side.TheVariants.{Sell}
use Rattle.form.specs.Limits.{IsOrderWithin}
use Rattle.form.specs.Payoff.{bundle_legs, leg_of, legs_in, option_of}
use Rattle.form.specs.Vector.{is_same_option}
use Rattle.form.proofs.Vectors.{length-option_of}
use Rattle.settlement.specs.declared.position.Position.{Position}
use Rattle.settlement.specs.Positions.{IsHeldPosition}
use Rattle.portfolio_margin.specs.Laws.{MayBeAsked}
use Rattle.portfolio_margin.specs.Owed.{fill_of, fills_of, owed_over}
use Rattle.portfolio_margin.proofs.Owing.{common_is, fills_defined}
use Rattle.account_need.specs.Account.{is_large}
use Rattle.account_need.specs.Exposure.{Covers, IsInBox, Portfolio, losses_at}
use Rattle.account_need.specs.Laws.{BoundsCover, IsTraded}
use Rattle.account_need.specs.Rounded.{OptionSum, Summed, each_once, is_some_sum, options_held, options_of, owed_of, rounded_exposure, sum_of, summed, sums_of, unit}
use Rattle.account_need.specs.Several.{Bounded, and_then, is_by_itself, is_single_sell, owing, owing_in, owing_one, owing_single, owing_sum, run_over, several_bound, side_of, tops, with_own}
use Rattle.account_need.proofs.Bounded.{bound_by, by_tests}
use Rattle.account_need.proofs.Entered.{held_sum, tops_held}
use Rattle.account_need.proofs.OwingAmounts.{IsEntered, IsOver, IsSumEntered, owed_of_both, singles_owe, sums_owe, tops_owe, whole_due}
use Rattle.account_need.proofs.OwnLosses.{by_kinds, own_within}
use Rattle.account_need.proofs.Reached.{as_filled, line_covers}
use Rattle.account_need.proofs.Rounding.{rounded_owes_more}
use Rattle.account_need.proofs.RunBounds.{run_covers, value_in}

-- ---- the options of positions are those of forms
legs_entered : (legs : List Leg) → All IsEntered (options_of (map leg_of legs))
legs_entered [] = All-nil IsEntered
legs_entered (leg ∷ legs) =
    All-cons IsEntered (option_of leg.form) (options_of (map leg_of legs))
    (record { some = omega (arith, length-option_of leg.form, leg.form.count_in_range.0); few = omega (arith, length-option_of leg.form, leg.form.count_in_range.1) }) (legs_entered legs)

held_entered : (ps : List Position) → All IsEntered (flat_map (λ (p : Position). options_of (bundle_legs p.bundle)) ps)
held_entered [] = All-nil IsEntered
held_entered (p ∷ ps) =
    All-append IsEntered (options_of (bundle_legs p.bundle)) (flat_map (λ (p : Position). options_of (bundle_legs p.bundle)) ps) (legs_entered (legs_in p.bundle)) (held_entered ps)

once_entered : (options : List (List ℤ)) → All IsEntered options → All IsEntered (each_once options)
once_entered [] are = are
once_entered (v ∷ options) are =
    All-cons IsEntered v (filter (λ w. not (is_same_option w v)) (each_once options)) (All-head IsEntered v options are)
    (All-filter (λ w. not (is_same_option w v)) IsEntered (each_once options) (once_entered options (All-tail IsEntered v options are)))

abbrev HasEntered : OptionSum → Type 0
HasEntered s = IsEntered s.option

sums_entered : (ps : List Position) → All HasEntered (sums_of ps)
sums_entered ps =
    All-filter is_some_sum HasEntered (map (sum_of ps) (options_held ps))
    (All-to_map HasEntered (sum_of ps) (options_held ps) (once_entered (flat_map (λ (p : Position). options_of (bundle_legs p.bundle)) ps) (held_entered ps)))

-- and none of their sums is large
all_small : (sums : List OptionSum) → All HasEntered sums → list_any is_large sums ≡ false → All IsSumEntered sums
all_small [] are e = All-nil IsSumEntered
all_small (s ∷ sums) are e = by (is_large s) refl e (all_small sums (All-tail HasEntered s sums are))
  where
    by : (b : Bool) → is_large s ≡ b → (b || list_any is_large sums) ≡ false → (list_any is_large sums ≡ false → All IsSumEntered sums) → All IsSumEntered (s ∷ sums)
    by true h e rest = absurd (cc)
    by false h e rest = All-cons IsSumEntered s sums (record { option = All-head HasEntered s sums are; small = ltb-false _ _ h }) (rest e)

-- ---- what may be asked
abbrev IsDue : Position → Type 0
IsDue p = IsNotBelowZero (fill_of p)

tops_due : (n : ℕ) → All IsDue (tops n)
tops_due n = All-weaker IsHeldPosition IsDue (λ p held. held.not_below_zero) (tops n) (tops_held 0 n)

sums_due : (sums : List OptionSum) → All IsSumEntered sums → All IsDue (map owing_sum sums)
sums_due [] are = All-nil IsDue
sums_due (s ∷ sums) are =
    let one = held_sum (side_of s.sum) s.option (unsigned_abs s.sum) (All-head IsSumEntered s sums are).small in
    All-cons IsDue (owing_sum s) (map owing_sum sums) one.not_below_zero (sums_due sums (All-tail IsSumEntered s sums are))

singles_due : (live : List Order) → All IsOrderWithin live → All IsDue (map owing_single live)
singles_due [] within = All-nil IsDue
singles_due (o ∷ live) within =
    All-cons IsDue (owing_single o) (map owing_single live) (whole_due Sell o.bundle o.quantity (All-head IsOrderWithin o live within).quantity) (singles_due live (All-tail IsOrderWithin o live within))

may_ask : (n : ℕ) (ps : List Position) → 1 ≤ n → n ≤ 8 → All IsDue ps → MayBeAsked n ps
may_ask n ps some few are = record { some = some; few = few; not_below_zero = All-to_map IsNotBelowZero fill_of ps are }

one_may : (n : ℕ) (o : Order) → 1 ≤ n → n ≤ 8 → MayBeAsked n (owing_one n o)
one_may n o some few =
    may_ask n (owing_one n o) some few (All-cons IsDue (owing o.side o.bundle (whole (pos 1))) (tops n) (whole_due o.side o.bundle 1 (omega arith)) (tops_due n))

-- ---- both runs together
-- the parts of a list of entries
front : (D : ℕ) (xs ys : List Position) → All (IsOver D) (xs ++ ys) → All (IsOver D) xs
front D xs ys over = All-same (IsOver D) xs (take (length xs) (xs ++ ys)) (sym (take_at xs ys (length xs) refl)) (All-take (IsOver D) (length xs) (xs ++ ys) over)

back : (D : ℕ) (xs ys : List Position) → All (IsOver D) (xs ++ ys) → All (IsOver D) ys
back D xs ys over = All-same (IsOver D) ys (drop (length xs) (xs ++ ys)) (sym (drop_at xs ys (length xs) refl)) (All-drop (IsOver D) (length xs) (xs ++ ys) over)

-- what is owed of the sums, and what the live sells of one option may lose, by the first run
of_parts : (A B G S : ℤ) (D t W : ℕ) → 1 ≤ D → A *ℤ pos unit ≡ G *ℤ pos D → pos (D * W) ≤ℤ B → (A +ℤ B) ≤ℤ (S *ℤ pos (D * t)) → (G +ℤ pos (unit * W)) ≤ℤ (S *ℤ pos (unit * t))
of_parts A B G S D t W some sums singles owed = *ℤ_cancel_le D (G +ℤ pos (unit * W)) (S *ℤ pos (unit * t)) some (omega (arith, ints, products, sums, singles, owed))

-- and what all live orders may lose
with_others : (G S S' : ℤ) (t W O all : ℕ) → (G +ℤ pos (unit * W)) ≤ℤ (S *ℤ pos (unit * t)) → ((S *ℤ pos t) +ℤ pos O) ≤ℤ (S' *ℤ pos t) → all ≤ W + O → (G +ℤ pos (unit * all)) ≤ℤ (S' *ℤ pos (unit * t))
with_others G S S' t W O all first others kinds = omega (arith, ints, products, first, others, kinds)

module _ (n : ℕ) (m : Summed) (some : 1 ≤ n) (few : n ≤ 8) (are : All IsSumEntered m.sums) (within : All IsOrderWithin m.live) (t : ℕ) (s : List ℕ) (box : IsInBox n t s) where
  sums : List Position
  sums = map owing_sum m.sums

  singles : List Position
  singles = map owing_single (filter is_single_sell m.live)

  run_bounds : (spent later : ℕ) (S : ℤ) → run_over n spent (owing_in n m) ≡ Ok (S, later) → (owed_of (t ∷ s) m.sums +ℤ pos (unit * losses_at (t ∷ s) (filter is_single_sell m.live))) ≤ℤ (S *ℤ pos (unit * t))
  unfolding sums singles
  run_bounds spent later S found =
      let all = owing_in n m in
      let D = common_denominator (fills_of all) in
      let common = common_is (fills_of all) (fills_defined all) in
      let over : All (IsOver D) all = All-of_map (λ (f : Fraction). f.denominator ∣ D) fill_of all common.divides in
      let over_both = front D (sums ++ singles) (tops n) over in
      let sold = All-filter is_single_sell IsOrderWithin m.live within in
      let may = may_ask n all some few (All-append IsDue (sums ++ singles) (tops n) (All-append IsDue sums singles (sums_due m.sums are) (singles_due (filter is_single_sell m.live) sold)) (tops_due n)) in
      let owed = run_covers n spent all may S later found t s box D common in
      let parts = owed_of_both D (sums ++ singles) (tops n) (t ∷ s) in
      let both = owed_of_both D sums singles (t ∷ s) in
      let nothing = tops_owe D n 0 n t s (omega arith) few box.within in
      let of_sums = sums_owe D (t ∷ s) m.sums are (front D sums singles over_both) in
      let of_singles = singles_owe D (t ∷ s) m.live within (back D sums singles over_both) in
      of_parts (owed_over D sums (t ∷ s)) (owed_over D singles (t ∷ s)) (owed_of (t ∷ s) m.sums) S D t (losses_at (t ∷ s) (filter is_single_sell m.live)) common.some of_sums of_singles
      (omega (arith, ints, owed, parts, both, nothing))

  several_bounds : (spent later : ℕ) (S : ℤ) → several_bound n spent m ≡ Ok (S, later) → rounded_exposure m (t ∷ s) ≤ℤ (S *ℤ pos (unit * t))
  several_bounds spent later S found = by (run_over n spent (owing_in n m)) refl found
    where
      by : (ran : Bounded) → run_over n spent (owing_in n m) ≡ ran → and_then ran (with_own n (filter is_by_itself m.live)) ≡ Ok (S, later) → rounded_exposure m (t ∷ s) ≤ℤ (S *ℤ pos (unit * t))
      by (Err word) e h = absurd (cc)
      by (Ok (S0, units)) e h =
          with_others (owed_of (t ∷ s) m.sums) S0 S t (losses_at (t ∷ s) (filter is_single_sell m.live)) (losses_at (t ∷ s) (filter is_by_itself m.live)) (losses_at (t ∷ s) m.live)
          (run_bounds spent units S0 e) (own_within n t s few box (λ o. one_may n o some few) (filter is_by_itself m.live) S0 S units later h) (by_kinds (t ∷ s) m.live)

-- ---- a market
module _ (p : Portfolio) (traded : IsTraded p) (spent later : ℕ) (S : ℤ) where
  several_covers : list_any is_large (sums_of p.positions) ≡ false → several_bound p.underlyings spent (summed p) ≡ Ok (S, later) → Covers p S
  several_covers small found t s box D den =
      let are = all_small (sums_of p.positions) (sums_entered p.positions) small in
      let most = several_bounds p.underlyings (summed p) traded.some traded.few are traded.orders t s box spent later S found in
      as_filled (owed_over D p.positions (t ∷ s)) (owed_of (t ∷ s) (sums_of p.positions)) S D t (losses_at (t ∷ s) p.live) (rounded_owes_more p.positions (t ∷ s) D den) most

  by_bound : (a b c d : Bool) → nat_eq p.underlyings 1 ≡ b → list_any is_large (sums_of p.positions) ≡ d → bound_by (a || (not b && (c || d))) b p.underlyings spent (summed p) ≡ Ok (S, later) → Covers p S
  by_bound true b c d one small found = absurd (cc)
  by_bound false true c d one small found = subst (Covers p) (ap value_in found) (line_covers p (eqb-true p.underlyings 1 one))
  by_bound false false true d one small found = absurd (cc)
  by_bound false false false true one small found = absurd (cc)
  by_bound false false false false one small found = several_covers small found

pub bounds_cover : BoundsCover
bounds_cover p spent later S traded found =
    let m = summed p in
    let crowded = nat_lt MAX_ORDERS (length m.sums + length m.live) in
    let long = nat_lt MAX_ORDERS (length (owing_in p.underlyings m)) in
    let large = list_any is_large m.sums in
    by_bound p traded spent later S crowded (nat_eq p.underlyings 1) long large refl refl (sym (by_tests p.underlyings spent m crowded (nat_eq p.underlyings 1) long large refl refl refl refl) ∙ found)
