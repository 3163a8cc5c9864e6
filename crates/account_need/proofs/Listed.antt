-- The sums of positions within the limits are within theirs.
use Rattle.std.proofs.Common.{◌≡◌, ℕ, ◌*◌, ◌^◌, ◌≤◌, List, [], ◌∷◌, length, map, filter, All, arith, ℤ, unsigned_abs, sym, subst, ◌∙◌}
use mathlib.Core.Bool.{not}
use Rattle.std.specs.List.{flat_map}
use Rattle.std.proofs.lemmas.Int.{ints}
use Rattle.std.proofs.lemmas.List.Elements.{All-append, All-cons, All-filter, All-head, All-nil, All-tail}
use Rattle.arithmetic.specs.Sums.{total}
use Rattle.form.specs.declared.legs.Leg.{Leg}
use Rattle.form.specs.Limits.{IsListed}
use Rattle.form.specs.Payoff.{bundle_legs, leg_of, legs_in, option_of}
use Rattle.form.specs.Vector.{is_same_option}
use Rattle.form.proofs.Vectors.{length-option_of}
use Rattle.settlement.specs.declared.position.Position.{Position}
use Rattle.settlement.specs.Positions.{IsHeldPosition}
use Rattle.account_need.specs.declared.sums.FormSum.{FormSum}
use Rattle.account_need.specs.Prices.{IsPositionOn, IsSumOn, option_sum}
use Rattle.account_need.specs.Rounded.{OptionSum, each_once, is_some_sum, options_held, options_of, part_owed, sum_of, sums_of}
use Rattle.account_need.proofs.Parts.{part_small}

-- ---- options
record IsOn (count : ℕ) (v : List ℤ) : Type 0 where
  listed : IsListed v
  size : length v ≡ count

once_has : (P : List ℤ → Type 0) (options : List (List ℤ)) → All P options → All P (each_once options)
once_has P [] all = all
once_has P (v ∷ options) all =
    let rest = All-filter (λ w. not (is_same_option w v)) P (each_once options) (once_has P options (All-tail P v options all)) in
    All-cons P v (filter (λ w. not (is_same_option w v)) (each_once options)) (All-head P v options all) rest

legs_on : (count : ℕ) (legs : List Leg) → All (λ (leg : Leg). IsListed (option_of leg.form)) legs → All (λ (leg : Leg). leg.form.count ≡ count) legs → All (IsOn count) (options_of (map leg_of legs))
legs_on count [] listed on = All-nil (IsOn count)
legs_on count (leg ∷ legs) listed on =
    let here : IsOn count (option_of leg.form) = record {
      listed = All-head (λ (leg : Leg). IsListed (option_of leg.form)) leg legs listed;
      size = length-option_of leg.form ∙ All-head (λ (leg : Leg). leg.form.count ≡ count) leg legs on;
    } in
    All-cons (IsOn count) (option_of leg.form) (options_of (map leg_of legs)) here
    (legs_on count legs (All-tail (λ (leg : Leg). IsListed (option_of leg.form)) leg legs listed) (All-tail (λ (leg : Leg). leg.form.count ≡ count) leg legs on))

positions_on : (count : ℕ) (ps : List Position) → All (IsPositionOn count) ps → All (IsOn count) (flat_map (λ (p : Position). options_of (bundle_legs p.bundle)) ps)
positions_on count [] all = All-nil (IsOn count)
positions_on count (p ∷ ps) all =
    let here = All-head (IsPositionOn count) p ps all in
    All-append (IsOn count) (options_of (bundle_legs p.bundle)) (flat_map (λ (p : Position). options_of (bundle_legs p.bundle)) ps)
    (legs_on count (legs_in p.bundle) here.options here.on) (positions_on count ps (All-tail (IsPositionOn count) p ps all))

-- ---- sums
pub total_small : (v : List ℤ) (ps : List Position) → All IsHeldPosition ps → unsigned_abs (total (part_owed v) ps) ≤ length ps * 4294967296000000
total_small v [] held = omega arith
total_small v (p ∷ ps) held =
    omega (arith, ints, part_small v p (All-head IsHeldPosition p ps held), total_small v ps (All-tail IsHeldPosition p ps held))

record IsSmall (count : ℕ) (s : OptionSum) : Type 0 where
  on : IsOn count s.option
  small : unsigned_abs s.sum ≤ 72057594037927936000000

all_small : (count : ℕ) (ps : List Position) (options : List (List ℤ)) → All IsHeldPosition ps → length ps ≤ 2 ^ 24 → All (IsOn count) options → All (IsSmall count) (map (sum_of ps) options)
all_small count ps [] held few on = All-nil (IsSmall count)
all_small count ps (v ∷ options) held few on =
    let here : IsSmall count (sum_of ps v) = record { on = All-head (IsOn count) v options on; small = omega (arith, few, total_small v ps held) } in
    All-cons (IsSmall count) (sum_of ps v) (map (sum_of ps) options) here (all_small count ps options held few (All-tail (IsOn count) v options on))

sums_are : (count : ℕ) (sums : List FormSum) → All (IsSmall count) (map option_sum sums) → All (IsSumOn count) sums
sums_are count [] all = All-nil (IsSumOn count)
sums_are count (s ∷ sums) all =
    let here = All-head (IsSmall count) (option_sum s) (map option_sum sums) all in
    All-cons (IsSumOn count) s sums (record { option = here.on.listed; on = sym (length-option_of s.form) ∙ here.on.size; small = here.small })
    (sums_are count sums (All-tail (IsSmall count) (option_sum s) (map option_sum sums) all))

pub sums_on : (count : ℕ) (ps : List Position) (sums : List FormSum) → All IsHeldPosition ps → length ps ≤ 2 ^ 24 → All (IsPositionOn count) ps → map option_sum sums ≡ sums_of ps → All (IsSumOn count) sums
sums_on count ps sums held few on is =
    let options = options_held ps in
    let all = All-filter is_some_sum (IsSmall count) (map (sum_of ps) options)
    (all_small count ps options held few (once_has (IsOn count) (flat_map (λ (p : Position). options_of (bundle_legs p.bundle)) ps) (positions_on count ps on))) in
    sums_are count sums (subst (All (IsSmall count)) (sym is) all)
