-- The leg and the sign at an index.
use Rattle.std.proofs.Common.{◌≡◌, ℕ, zero, suc, ◌+◌, ◌-◌, ◌<◌, ◌≤◌, true, false, negsuc, Bool, List, [], ◌∷◌, ◌++◌, length, get_or, map, drop, replicate, arith, ℤ, pos, refl, ap, sym, subst, ◌∙◌, slice_get, option_map, Some, None, Ok}
use Rattle.std.specs.Prelude.{nat_le}
use Rattle.std.proofs.lemmas.Option.{slice_get-get_or, slice_get-map, get_or_from_slice_get}
use Rattle.std.proofs.lemmas.List.{get_or_default, length-append, length-map}
use Rattle.std.proofs.Math.Bool.{and-false}
use Rattle.std.proofs.lemmas.Bool.Decides.{nat_tests}
use Rattle.std.proofs.Math.Seq.{drop-append_seam}
use Rattle.std.proofs.lemmas.List.Sums.{sum_by-cons}
use Rattle.exact_num.specs.Fraction.{Fraction}
use Rattle.form.specs.declared.legs.Leg.{Leg}
use Rattle.form.specs.declared.orders.Order.{Order}
use Rattle.form.specs.Payoff.{BundleLeg, bundle_of, leg_of, legs_in}
use Rattle.form.proofs.SameBundle.{length-legs_in}
use Rattle.arithmetic.proofs.Lists.{drop_map, item_first}
use Rattle.clearing_model.specs.Legs.{Exposure, Long, Short}
use Rattle.clearing_model.specs.Tree.{Sign, Unsigned}
use Rattle.sign_tree.specs.Read.{sign_of}
use Rattle.sign_tree.specs.Legs.{FractionLeg, fraction_leg, fraction_legs, leg_count}
use Rattle.sign_tree.specs.Left.{IsOfFirst}
use Rattle.sign_tree.specs.Walk.{is_unsigned, passes_at, passes, is_within, is_within_at}

-- what stands in the first of two lists, and in the second
in_first : {A : Type 0} (xs ys : List A) (i : ℕ) → i < length xs → slice_get (xs ++ ys) i ≡ slice_get xs i
in_first [] ys i lt = absurd (omega arith)
in_first (x ∷ xs) ys zero lt = refl
in_first (x ∷ xs) ys (suc i) lt = in_first xs ys i (omega arith)

in_second : {A : Type 0} (xs ys : List A) (i : ℕ) → length xs ≤ i → slice_get (xs ++ ys) i ≡ slice_get ys (i - length xs)
in_second [] ys i le = let e : i - 0 ≡ i = omega arith in rw e refl
in_second (x ∷ xs) ys zero le = absurd (omega arith)
in_second (x ∷ xs) ys (suc i) le =
    let e : suc i - suc (length xs) ≡ i - length xs = omega arith in
    rw e (in_second xs ys i (omega arith))

-- the legs of the orders from k on
abbrev pub legs_from : {A : Type 0} → (A → Fraction) → List Order → List A → ℕ → List FractionLeg
legs_from value os fs k = fraction_legs (drop k os) (map value (drop k fs))

abbrev pub leg_in : Order → Fraction → BundleLeg → FractionLeg
leg_in o f leg = fraction_leg o.side f leg

-- those of the order at k come first
pub order_first : {A : Type 0} (value : A → Fraction) (os : List Order) (fs : List A) (k : ℕ) (o : Order) (f : A) → length fs ≡ length os → k < length os → o ≡ get_or os k o → f ≡ get_or fs k f
    → legs_from value os fs k ≡ map (leg_in o (value f)) (bundle_of o) ++ legs_from value os fs (k + 1)
order_first value os fs k o f len lt io jf = rw (item_first os k o lt io, item_first fs k f (omega arith) jf) refl

-- the leg of an order, and those after the order's
pub length-bundle : (o : Order) → length (bundle_of o) ≡ length (legs_in o.bundle)
unfolding bundle_of
length-bundle o = length-map (legs_in o.bundle) leg_of

in_bundle : (o : Order) (i : ℕ) (leg : Leg) → i < length (legs_in o.bundle) → leg ≡ get_or (legs_in o.bundle) i leg → slice_get (bundle_of o) i ≡ Some (leg_of leg)
unfolding bundle_of
in_bundle o i leg lt is = slice_get-map leg_of (legs_in o.bundle) i ∙ ap (option_map leg_of) (slice_get-get_or (legs_in o.bundle) i leg lt ∙ ap Some (sym is))

pub leg_here : (o : Order) (f : Fraction) (rest : List FractionLeg) (i : ℕ) (leg : Leg) → i < length (legs_in o.bundle) → leg ≡ get_or (legs_in o.bundle) i leg
    → slice_get (map (leg_in o f) (bundle_of o) ++ rest) i ≡ Some (leg_in o f (leg_of leg))
leg_here o f rest i leg lt is =
    in_first (map (leg_in o f) (bundle_of o)) rest i (omega (arith, length-map (bundle_of o) (leg_in o f), length-bundle o))
    ∙ slice_get-map (leg_in o f) (bundle_of o) i ∙ ap (option_map (leg_in o f)) (in_bundle o i leg lt is)

pub leg_past : (o : Order) (f : Fraction) (rest : List FractionLeg) (i : ℕ) → length (legs_in o.bundle) ≤ i
    → slice_get (map (leg_in o f) (bundle_of o) ++ rest) i ≡ slice_get rest (i - length (legs_in o.bundle))
leg_past o f rest i le =
    let legs = map (leg_in o f) (bundle_of o) in
    let size : length legs ≡ length (legs_in o.bundle) = length-map (bundle_of o) (leg_in o f) ∙ length-bundle o in
    in_second legs rest i (omega arith) ∙ ap (λ n. slice_get rest (i - n)) size

-- the leg at `next` comes first, and then those after it
pub leg_first : (o : Order) (f : Fraction) (rest : List FractionLeg) (i : ℕ) (leg : Leg) → i < length (legs_in o.bundle) → leg ≡ get_or (legs_in o.bundle) i leg
    → drop i (map (leg_in o f) (bundle_of o) ++ rest) ≡ leg_in o f (leg_of leg) ∷ drop (i + 1) (map (leg_in o f) (bundle_of o) ++ rest)
leg_first o f rest i leg lt is =
    let legs = map (leg_in o f) (bundle_of o) in
    let x = leg_in o f (leg_of leg) in
    let within : i < length (legs ++ rest) = omega (arith, length-append legs rest, length-map (bundle_of o) (leg_in o f), length-bundle o) in
    item_first (legs ++ rest) i x within (sym (get_or_from_slice_get (legs ++ rest) i x x (leg_here o f rest i leg lt is)))

pub legs_end : (o : Order) (f : Fraction) (rest : List FractionLeg) (i : ℕ) → i ≡ length (legs_in o.bundle) → drop i (map (leg_in o f) (bundle_of o) ++ rest) ≡ rest
legs_end o f rest i e =
    let legs = map (leg_in o f) (bundle_of o) in
    let size : i ≡ length legs = omega (arith, e, length-map (bundle_of o) (leg_in o f), length-bundle o) in
    rw size (drop-append_seam legs rest)

-- the same of the legs that are left, where these are the first order and its fill
pub first_left : {A : Type 0} (value : A → Fraction) (os rest : List Order) (fs fills : List A) (next : ℕ) (o : Order) (f : A) (leg : Leg) → os ≡ o ∷ rest → fs ≡ f ∷ fills → next < length (legs_in o.bundle) → leg ≡ get_or (legs_in o.bundle) next leg
    → drop next (fraction_legs os (map value fs)) ≡ leg_in o (value f) (leg_of leg) ∷ drop (next + 1) (fraction_legs os (map value fs))
first_left value os rest fs fills next o f leg orders fs_are lt is = rw (orders, fs_are) (leg_first o (value f) (fraction_legs rest (map value fills)) next leg lt is)

pub next_order : {A : Type 0} (value : A → Fraction) (os rest : List Order) (fs fills : List A) (next : ℕ) (o : Order) (f : A) → os ≡ o ∷ rest → fs ≡ f ∷ fills → next ≡ length (legs_in o.bundle)
    → drop next (fraction_legs os (map value fs)) ≡ fraction_legs rest (map value fills)
next_order value os rest fs fills next o f orders fs_are e = rw (orders, fs_are) (legs_end o (value f) (fraction_legs rest (map value fills)) next e)

pub of_first : (os rest : List Order) (o : Order) (next : ℕ) → os ≡ o ∷ rest → next < length (legs_in o.bundle) → IsOfFirst os next
of_first os rest o next is lt = subst (λ os. IsOfFirst os next) (sym is) lt

pub at_start : (os : List Order) → IsOfFirst os 0
at_start [] = refl
at_start (o ∷ os) = omega (arith, length-legs_in o.bundle, o.bundle.size_in_range)

-- ---- tests at an index
pub passes_here : (test : Exposure → Sign → Bool) (legs : List FractionLeg) (ss : List ℤ) (i : ℕ) (leg : FractionLeg) (s : ℤ) → slice_get legs i ≡ Some leg → i < length ss → s ≡ get_or ss i (pos 0)
    → passes_at test legs (map sign_of ss) i ≡ test leg.exposure (sign_of s)
passes_here test [] ss i leg s is lt sign = cc
passes_here test (l ∷ legs) [] i leg s is lt sign = absurd (omega arith)
passes_here test (l ∷ legs) (t ∷ ss) zero leg s is lt sign =
    let same : l ≡ leg = cc in
    rw (same, sign) refl
passes_here test (l ∷ legs) (t ∷ ss) (suc i) leg s is lt sign = passes_here test legs ss i leg s is (omega arith) sign

pub passes_none : (test : Exposure → Sign → Bool) (legs : List FractionLeg) (signs : List Sign) (i : ℕ) → slice_get legs i ≡ None → passes_at test legs signs i ≡ false
passes_none test [] signs i none = refl
passes_none test (l ∷ legs) [] i none = refl
passes_none test (l ∷ legs) (t ∷ signs) zero none = cc
passes_none test (l ∷ legs) (t ∷ signs) (suc i) none = passes_none test legs signs i none

pub passes_past : (test : Exposure → Sign → Bool) (legs : List FractionLeg) (ss : List ℤ) (i : ℕ) → length ss ≤ i → passes_at test legs (map sign_of ss) i ≡ false
passes_past test [] ss i past = refl
passes_past test (l ∷ legs) [] i past = refl
passes_past test (l ∷ legs) (t ∷ ss) zero past = absurd (omega arith)
passes_past test (l ∷ legs) (t ∷ ss) (suc i) past = passes_past test legs ss i (omega arith)

-- the same of places
pub passes_zero : (test : Exposure → Sign → Bool) (legs : List FractionLeg) (signs : List Sign) (place : ℕ) → place ≡ 0 → passes test legs signs place ≡ false
passes_zero test legs signs place none = rw none refl

pub passes_behind : (test : Exposure → Sign → Bool) (legs : List FractionLeg) (ss : List ℤ) (place : ℕ) → length ss < place → passes test legs (map sign_of ss) place ≡ false
passes_behind test legs ss place past = rw (passes_past test legs ss (place - 1) (omega arith)) (and-false (nat_le 1 place))

pub passes_nowhere : (test : Exposure → Sign → Bool) (legs : List FractionLeg) (signs : List Sign) (place : ℕ) → slice_get legs (place - 1) ≡ None → passes test legs signs place ≡ false
passes_nowhere test legs signs place none = rw (passes_none test legs signs (place - 1) none) (and-false (nat_le 1 place))

pub passes_there : (test : Exposure → Sign → Bool) (legs : List FractionLeg) (ss : List ℤ) (place : ℕ) (leg : FractionLeg) (s : ℤ) → 1 ≤ place → place ≤ length ss → slice_get legs (place - 1) ≡ Some leg → s ≡ get_or ss (place - 1) (pos 0)
    → passes test legs (map sign_of ss) place ≡ test leg.exposure (sign_of s)
passes_there test legs ss place leg s one within is sign =
    let first : nat_le 1 place ≡ true = grind (arith, nat_tests) in
    rw first (passes_here test legs ss (place - 1) leg s is (omega arith) sign)

pub within_here : (limit : ℕ) (legs : List FractionLeg) (i : ℕ) (leg : FractionLeg) (by : Fraction) → slice_get legs i ≡ Some leg → is_within_at limit legs i by ≡ is_within limit leg.exposure leg by
within_here limit [] i leg by is = cc
within_here limit (l ∷ legs) zero leg by is =
    let same : l ≡ leg = cc in
    rw same refl
within_here limit (l ∷ legs) (suc i) leg by is = within_here limit legs i leg by is

pub within_none : (limit : ℕ) (legs : List FractionLeg) (i : ℕ) (by : Fraction) → slice_get legs i ≡ None → is_within_at limit legs i by ≡ Ok true
within_none limit [] i by none = refl
within_none limit (l ∷ legs) zero by none = cc
within_none limit (l ∷ legs) (suc i) by none = within_none limit legs i by none

-- ---- signs
pub signs_drop : (ss : List ℤ) (i : ℕ) (s : ℤ) → i < length ss → s ≡ get_or ss i (pos 0) → drop i (map sign_of ss) ≡ sign_of s ∷ drop (i + 1) (map sign_of ss)
signs_drop ss i s lt is = drop_map sign_of ss i s lt (is ∙ get_or_default ss i (pos 0) s lt)

-- a sign that is none is 0
pub none_is : (exposure : Exposure) (s : ℤ) → is_unsigned exposure (sign_of s) ≡ true → s ≡ pos 0
none_is Long (pos zero) h = refl
none_is Long (pos (suc n)) h = cc
none_is Long (negsuc n) h = cc
none_is Short s h = cc

-- where each sign is 0 no leg is signed
pub none_signed : (ss : List ℤ) → ((k : ℕ) → k < length ss → get_or ss k (pos 0) ≡ pos 0) → map sign_of ss ≡ replicate (length ss) Unsigned
none_signed [] each = refl
none_signed (s ∷ ss) each =
    let here : s ≡ pos 0 = each 0 (omega arith) in
    rw here (ap (λ (signs : List Sign). Unsigned ∷ signs) (none_signed ss (λ k lt. each (suc k) (omega arith))))

pub length-fraction_legs : (os : List Order) (fs : List Fraction) → length fs ≡ length os → length (fraction_legs os fs) ≡ leg_count os
length-fraction_legs [] fs len = refl
length-fraction_legs (o ∷ os) [] len = absurd (omega arith)
length-fraction_legs (o ∷ os) (f ∷ fs) len =
    let legs = map (fraction_leg o.side f) (bundle_of o) in
    let rest = length-fraction_legs os fs (omega arith) in
    omega (arith, length-append legs (fraction_legs os fs), length-map (bundle_of o) (fraction_leg o.side f), length-bundle o, length-legs_in o.bundle, sum_by-cons (λ (order : Order). order.bundle.size) o os, rest)
