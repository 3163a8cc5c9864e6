-- The net of fills, class by class: the slope along the state, and what the kinks pay.
use Rattle.std.proofs.Common.{◌≡◌, ℕ, ◌*◌, ◌/◌, Bool, true, false, List, [], ◌∷◌, ◌++◌, length, map, arith, ℤ, pos, neg_ℤ, ◌+ℤ◌, ◌*ℤ◌, ◌≤ℤ◌, refl, ap, sym, ◌∙◌, subst, All}
use Rattle.std.specs.Prelude.{if◌then◌else◌}
use Rattle.std.proofs.lemmas.Int.{ints}
use Rattle.std.proofs.lemmas.List.Elements.{All-cons, All-head, All-nil, All-tail}
use Rattle.arithmetic.proofs.Products.{products}
use Rattle.arithmetic.proofs.Sums.{All-of_map}
use Rattle.exact_num.specs.Fraction.{Fraction, IsDefined, IsNotBelowZero}
use Rattle.exact_num.specs.CommonDenominator.{common_denominator, amount_over}
use Rattle.exact_num.specs.Rationals.{Q, ◌+Q◌, ◌*Q◌, neg_Q, 0Q, whole_Q, value, IsNotBelow0, IsAtMost}
use Rattle.exact_num.proofs.Rationals.{rationals, same_of, product_Q_is, whole_Q_is, value_is, add_0, zero_add_Q, mul_0, zero_mul_Q, at_most_out}
use Rattle.exact_num.proofs.Fractions.{divides, amount_is_exact}
use Rattle.std.specs.Int.{◌∣◌}
use Rattle.arithmetic.proofs.Integers.{*ℤ_mono}
use Rattle.arithmetic.proofs.Parts.{part_above}
use Rattle.form.specs.declared.orders.Order.{Order}
use Rattle.form.specs.declared.orders.Side.{Side}
use Rattle.form.specs.Payoff.{BundleLeg, bundle_of, payoff, scale_of}
use Rattle.form.specs.Vector.{is_same_option}
use Rattle.form.proofs.SameOption.{same_option_is}
use Rattle.clearing_model.specs.Clearing.{net}
use Rattle.clearing_model.specs.Certificate.{filled_over}
use Rattle.clearing_model.specs.Legs.{Exposure, Long, Short}
use Rattle.market_laws.proofs.Legs.{net_is}
use Rattle.market_laws.proofs.Tree.{leg_net, due}
use Rattle.sign_tree.specs.Legs.{FractionLeg, fraction_leg, fraction_legs}
use Rattle.sign_tree.proofs.LeafSums.{amount_of, leg_amount, legs_over}
use Rattle.sign_tree.proofs.OverCommon.{legs_are_same}
use Rattle.cell_cover.specs.Classes.{divisor_of, is_turned, class_of, is_among, option_in, options_in, classes_of, sum_over, for_exposure, owed_of, kink_of, slope_of, as_class}
use Rattle.cell_cover.specs.Closed.{Entries, greater, less_liability, unsigned}
use Rattle.cell_cover.specs.Laws.{ClosedCellsHold}
use Rattle.cell_cover.proofs.Ordered.{at_most_mul, at_most_is_not_above}
use Rattle.cell_cover.proofs.AlongStates.{along, along-zero, along-neg, along-mul, along_sum, along_less, whole_sum, whole_product, natural_not_below}
use Rattle.cell_cover.proofs.Held.{owed, closed_holds, root_fits}
use Rattle.cell_cover.proofs.Options.{whole_negated, class_entries, turned_product, pays_by_class_Q}
use Rattle.cell_cover.proofs.Distinct.{Distinct, IsAmong, distinct, all_among}

-- ---- sums
sum-add : {A : Type 0} (f g : A → Q) (xs : List A) → sum_over (λ x. f x +Q g x) xs ≡ sum_over f xs +Q sum_over g xs
sum-add f g [] = sym (add_0 0Q)
sum-add f g (x ∷ xs) = ap (λ s. (f x +Q g x) +Q s) (sum-add f g xs) ∙ swap (f x) (g x) (sum_over f xs) (sum_over g xs)
  where
    swap : (a b s t : Q) → (a +Q b) +Q (s +Q t) ≡ (a +Q s) +Q (b +Q t)
    swap a b s t = simp rationals

sum-zero : {A : Type 0} (xs : List A) → sum_over (λ (x : A). 0Q) xs ≡ 0Q
sum-zero [] = refl
sum-zero (x ∷ xs) = ap (λ s. 0Q +Q s) (sum-zero xs) ∙ add_0 0Q

sum_same : {A : Type 0} (f g : A → Q) (xs : List A) → ((x : A) → f x ≡ g x) → sum_over f xs ≡ sum_over g xs
sum_same f g [] h = refl
sum_same f g (x ∷ xs) h = ap (λ s. s +Q sum_over f xs) (h x) ∙ ap (λ s. g x +Q s) (sum_same f g xs h)

sum-map : {A B : Type 0} (f : B → Q) (g : A → B) (xs : List A) → sum_over f (map g xs) ≡ sum_over (λ x. f (g x)) xs
sum-map f g [] = refl
sum-map f g (x ∷ xs) = ap (λ s. f (g x) +Q s) (sum-map f g xs)

-- ---- the net, leg by leg
abbrev leg_fill_of : FractionLeg → Q
leg_fill_of leg = value leg.fill *Q whole_Q (pos leg.size)

abbrev leg_paid : List ℕ → FractionLeg → Q
leg_paid z leg = for_exposure leg.exposure (leg_fill_of leg) *Q whole_Q (pos (payoff leg.option z))

-- over D a fill has this amount
abbrev FillIs : ℕ → Fraction → Type 0
FillIs D f = whole_Q (pos (amount_of D f)) ≡ whole_Q (pos D) *Q value f

abbrev AmountIs : ℕ → FractionLeg → Type 0
AmountIs D leg = FillIs D leg.fill

fill_is : (D : ℕ) (f : Fraction) → f.denominator ∣ D → IsDefined f → IsNotBelowZero f → FillIs D f
fill_is D f div defined least =
    let ratio : f.numerator *ℤ pos D ≡ amount_over D f *ℤ pos f.denominator = amount_is_exact D f div in
    let low : pos 0 ≤ℤ amount_over D f = omega (arith, ints, *ℤ_mono (D / f.denominator) (pos 0) f.numerator least) in
    let same : pos (amount_of D f) ≡ amount_over D f = part_above (amount_over D f) low in
    let e : pos (amount_of D f) *ℤ pos (1 * f.denominator) ≡ (pos D *ℤ f.numerator) *ℤ pos 1 = omega (arith, ints, products, ratio, ap (λ w. w *ℤ pos f.denominator) same) in
    same_of (whole_Q (pos (amount_of D f))) (whole_Q (pos D) *Q value f) (pos (amount_of D f)) (pos D *ℤ f.numerator) 1 (1 * f.denominator) (whole_Q_is (pos (amount_of D f))) (product_Q_is (whole_Q (pos D)) (value f) (pos D) f.numerator 1 f.denominator (whole_Q_is (pos D)) (value_is f defined)) e

due_is : (exposure : Exposure) (D a size h : ℕ) (f : Q) → whole_Q (pos a) ≡ whole_Q (pos D) *Q f
    → whole_Q (due exposure (a * size) h) ≡ whole_Q (pos D) *Q (for_exposure exposure (f *Q whole_Q (pos size)) *Q whole_Q (pos h))
due_is Long D a size h f is =
    let e : due Long (a * size) h ≡ (pos a *ℤ pos size) *ℤ pos h = omega (arith, ints, products) in
    ap whole_Q e ∙ whole_product (pos a *ℤ pos size) (pos h) ∙ ap (λ s. s *Q whole_Q (pos h)) (whole_product (pos a) (pos size) ∙ ap (λ s. s *Q whole_Q (pos size)) is) ∙ order (whole_Q (pos D)) f (whole_Q (pos size)) (whole_Q (pos h))
  where
    order : (d f s h : Q) → ((d *Q f) *Q s) *Q h ≡ d *Q ((f *Q s) *Q h)
    order d f s h = simp rationals
due_is Short D a size h f is =
    let e : due Short (a * size) h ≡ neg_ℤ ((pos a *ℤ pos size) *ℤ pos h) = omega (arith, ints, products) in
    ap whole_Q e ∙ whole_negated ((pos a *ℤ pos size) *ℤ pos h) ∙ ap neg_Q (whole_product (pos a *ℤ pos size) (pos h) ∙ ap (λ s. s *Q whole_Q (pos h)) (whole_product (pos a) (pos size) ∙ ap (λ s. s *Q whole_Q (pos size)) is))
    ∙ order (whole_Q (pos D)) f (whole_Q (pos size)) (whole_Q (pos h))
  where
    order : (d f s h : Q) → neg_Q (((d *Q f) *Q s) *Q h) ≡ d *Q (neg_Q (f *Q s) *Q h)
    order d f s h = simp rationals

leg_more : (D : ℕ) (leg : FractionLeg) (legs : List FractionLeg) (z : List ℕ) → leg_net (legs_over D (leg ∷ legs)) z ≡ due leg.exposure (leg_amount D leg) (payoff leg.option z) +ℤ leg_net (legs_over D legs) z
leg_more D leg legs z = omega (arith, ints)

net_by_legs : (D : ℕ) (legs : List FractionLeg) (z : List ℕ) → All (AmountIs D) legs → whole_Q (leg_net (legs_over D legs) z) ≡ whole_Q (pos D) *Q sum_over (leg_paid z) legs
unfolding 0Q
net_by_legs D [] z are = zero_times (whole_Q (pos D))
  where
    zero_times : (d : Q) → 0Q ≡ d *Q 0Q
    zero_times d = sym (mul_0 d)
net_by_legs D (leg ∷ legs) z are =
    ap whole_Q (leg_more D leg legs z)
    ∙ whole_sum (due leg.exposure (leg_amount D leg) (payoff leg.option z)) (leg_net (legs_over D legs) z)
    ∙ ap (λ s. s +Q whole_Q (leg_net (legs_over D legs) z)) (due_is leg.exposure D (amount_of D leg.fill) leg.size (payoff leg.option z) (value leg.fill) (All-head (AmountIs D) leg legs are))
    ∙ ap (λ s. whole_Q (pos D) *Q leg_paid z leg +Q s) (net_by_legs D legs z (All-tail (AmountIs D) leg legs are))
    ∙ factor (whole_Q (pos D)) (leg_paid z leg) (sum_over (leg_paid z) legs)
  where
    factor : (d a b : Q) → d *Q a +Q d *Q b ≡ d *Q (a +Q b)
    factor d a b = simp rationals

-- ---- a leg by its class
abbrev pub slope_part : FractionLeg → Entries
slope_part leg i = if is_turned leg.option then neg_Q (owed_of leg *Q class_entries (class_of leg.option) i) else 0Q

abbrev class_pays : List ℕ → List ℤ → Q
class_pays z u = greater 0Q (along (class_entries u) z)

slope_along : (z : List ℕ) (t : Bool) (x : Q) (u : List ℤ) → along (λ i. if t then neg_Q (x *Q class_entries u i) else 0Q) z ≡ x *Q turned_product t (along (class_entries u) z)
slope_along z true x u = along-neg (λ i. x *Q class_entries u i) z ∙ ap neg_Q (along-mul x (class_entries u) z) ∙ turned_is x (along (class_entries u) z)
  where
    turned_is : (x d : Q) → neg_Q (x *Q d) ≡ x *Q neg_Q d
    turned_is x d = simp rationals
slope_along z false x u = along-zero z ∙ sym (mul_0 x)

owed_is : (exposure : Exposure) (f : Q) (size g : ℕ) (paid : Q) → for_exposure exposure (f *Q whole_Q (pos size)) *Q (whole_Q (pos g) *Q paid) ≡ for_exposure exposure (f *Q whole_Q (pos (size * g))) *Q paid
owed_is Long f size g paid = order f (whole_Q (pos size)) (whole_Q (pos g)) paid ∙ ap (λ s. (f *Q s) *Q paid) (sym (whole_product (pos size) (pos g)))
  where
    order : (f s g p : Q) → (f *Q s) *Q (g *Q p) ≡ (f *Q (s *Q g)) *Q p
    order f s g p = simp rationals
owed_is Short f size g paid = order f (whole_Q (pos size)) (whole_Q (pos g)) paid ∙ ap (λ s. neg_Q (f *Q s) *Q paid) (sym (whole_product (pos size) (pos g)))
  where
    order : (f s g p : Q) → neg_Q (f *Q s) *Q (g *Q p) ≡ neg_Q (f *Q (s *Q g)) *Q p
    order f s g p = simp rationals

leg_by_class : (z : List ℕ) (leg : FractionLeg) → leg_paid z leg ≡ along (slope_part leg) z +Q owed_of leg *Q class_pays z (class_of leg.option)
leg_by_class z leg =
    let u = class_of leg.option in
    let d = along (class_entries u) z in
    let t = is_turned leg.option in
    ap (λ s. for_exposure leg.exposure (leg_fill_of leg) *Q s) (pays_by_class_Q leg.option z)
    ∙ owed_is leg.exposure (value leg.fill) leg.size (divisor_of leg.option) (class_pays z u +Q turned_product t d)
    ∙ order (owed_of leg) (class_pays z u) (turned_product t d)
    ∙ ap (λ s. s +Q owed_of leg *Q class_pays z u) (sym (slope_along z t (owed_of leg) u))
  where
    order : (x h d : Q) → x *Q (h +Q d) ≡ x *Q d +Q x *Q h
    order x h d = simp rationals

-- ---- all legs by their classes
abbrev pub if_same : List ℤ → List ℤ → Q → Q
if_same u c x = if is_same_option u c then x else 0Q

none_same : (u : List ℤ) (x : Q) (h : List ℤ → Q) (cs : List (List ℤ)) → is_among u cs ≡ false → sum_over (λ c. if_same u c x *Q h c) cs ≡ 0Q
none_same u x h [] n = refl
none_same u x h (c ∷ cs) n = by_test (is_same_option u c) refl (none_same u x h cs)
  where
    by_test : (t : Bool) → is_same_option u c ≡ t → (is_among u cs ≡ false → sum_over (λ c. if_same u c x *Q h c) cs ≡ 0Q) → if_same u c x *Q h c +Q sum_over (λ c. if_same u c x *Q h c) cs ≡ 0Q
    by_test true e go = let no : true ≡ false = rw e at n in cc
    by_test false e go = rw e (ap (λ s. s +Q sum_over (λ c. if_same u c x *Q h c) cs) (zero_mul_Q (h c)) ∙ zero_add_Q _ ∙ go (rw e at n))

one_same : (u : List ℤ) (x : Q) (h : List ℤ → Q) (cs : List (List ℤ)) → Distinct cs → is_among u cs ≡ true → sum_over (λ c. if_same u c x *Q h c) cs ≡ x *Q h u
one_same u x h [] d is = cc
one_same u x h (c ∷ cs) d is = by_test (is_same_option u c) refl (one_same u x h cs d.1)
  where
    by_test : (t : Bool) → is_same_option u c ≡ t → (is_among u cs ≡ true → sum_over (λ c. if_same u c x *Q h c) cs ≡ x *Q h u) → if_same u c x *Q h c +Q sum_over (λ c. if_same u c x *Q h c) cs ≡ x *Q h u
    by_test true e go =
        let same : u ≡ c = same_option_is u c e in
        let none = none_same u x h cs (subst (λ w. is_among w cs ≡ false) (sym same) d.0) in
        rw e (ap (λ s. x *Q h c +Q s) none ∙ add_0 (x *Q h c) ∙ ap (λ w. x *Q h w) (sym same))
    by_test false e go = rw e (ap (λ s. s +Q sum_over (λ c. if_same u c x *Q h c) cs) (zero_mul_Q (h c)) ∙ zero_add_Q _ ∙ go (rw e at is))

abbrev pub LegIsAmong : List (List ℤ) → FractionLeg → Type 0
LegIsAmong cs leg = is_among (class_of leg.option) cs ≡ true

kinks_pay : (legs : List FractionLeg) (h : List ℤ → Q) (cs : List (List ℤ)) → Distinct cs → All (LegIsAmong cs) legs
    → sum_over (λ c. kink_of legs c *Q h c) cs ≡ sum_over (λ (leg : FractionLeg). owed_of leg *Q h (class_of leg.option)) legs
kinks_pay [] h cs d are = sum_same (λ c. 0Q *Q h c) (λ c. 0Q) cs (λ c. zero_mul_Q (h c)) ∙ sum-zero cs
kinks_pay (leg ∷ legs) h cs d are =
    let u = class_of leg.option in
    let here : List ℤ → Q = λ c. if_same u c (owed_of leg) *Q h c in
    let there : List ℤ → Q = λ c. kink_of legs c *Q h c in
    sum_same (λ c. (if_same u c (owed_of leg) +Q kink_of legs c) *Q h c) (λ c. here c +Q there c) cs (λ c. parts (if_same u c (owed_of leg)) (kink_of legs c) (h c))
    ∙ sum-add here there cs
    ∙ ap (λ s. s +Q sum_over there cs) (one_same u (owed_of leg) h cs d (All-head (LegIsAmong cs) leg legs are))
    ∙ ap (λ s. owed_of leg *Q h u +Q s) (kinks_pay legs h cs d (All-tail (LegIsAmong cs) leg legs are))
  where
    parts : (a b c : Q) → (a +Q b) *Q c ≡ a *Q c +Q b *Q c
    parts a b c = simp rationals

net_by_classes : (legs : List FractionLeg) (cs : List (List ℤ)) (z : List ℕ) → Distinct cs → All (LegIsAmong cs) legs → sum_over (leg_paid z) legs ≡ along (slope_of legs) z +Q sum_over (owed z) (map (as_class legs) cs)
net_by_classes legs cs z d are =
    sum_same (leg_paid z) (λ leg. along (slope_part leg) z +Q owed_of leg *Q class_pays z (class_of leg.option)) legs (leg_by_class z)
    ∙ sum-add (λ leg. along (slope_part leg) z) (λ leg. owed_of leg *Q class_pays z (class_of leg.option)) legs
    ∙ ap (λ s. s +Q sum_over (λ (leg : FractionLeg). owed_of leg *Q class_pays z (class_of leg.option)) legs) (sym (along_sum slope_part legs z))
    ∙ ap (λ s. along (slope_of legs) z +Q s) (sym (kinks_pay legs (class_pays z) cs d are) ∙ sym (sum-map (owed z) (as_class legs) cs))

-- ---- the legs have the options of the orders
abbrev pub option_at : FractionLeg → List ℤ
option_at leg = leg.option

bundle_options : (side : Side) (f : Fraction) (bundle : List BundleLeg) (legs : List FractionLeg) (rest : List (List ℤ)) → map option_at legs ≡ rest
    → map option_at (map (fraction_leg side f) bundle ++ legs) ≡ map option_in bundle ++ rest
bundle_options side f [] legs rest h = h
bundle_options side f (leg ∷ bundle) legs rest h = ap (λ vs. leg.option ∷ vs) (bundle_options side f bundle legs rest h)

pub legs_have_options : (os : List Order) (fs : List Fraction) → length fs ≡ length os → map option_at (fraction_legs os fs) ≡ options_in os
legs_have_options [] fs len = refl
legs_have_options (o ∷ os) [] len = absurd (omega (arith, len))
legs_have_options (o ∷ os) (f ∷ fs) len = bundle_options o.side f (bundle_of o) (fraction_legs os fs) (options_in os) (legs_have_options os fs (omega (arith, len)))

pub legs_among : (os : List Order) (fs : List Fraction) → length fs ≡ length os → All (LegIsAmong (classes_of os)) (fraction_legs os fs)
legs_among os fs len =
    All-of_map (IsAmong (classes_of os)) option_at (fraction_legs os fs) (subst (All (IsAmong (classes_of os))) (sym (legs_have_options os fs len)) (all_among [] (options_in os)))

-- what holds of each fill holds of those of the legs
bundle_has : (P : Fraction → Type 0) (side : Side) (f : Fraction) (bundle : List BundleLeg) (rest : List FractionLeg) → P f → All (λ (leg : FractionLeg). P leg.fill) rest → All (λ (leg : FractionLeg). P leg.fill) (map (fraction_leg side f) bundle ++ rest)
bundle_has P side f [] rest here all = all
bundle_has P side f (leg ∷ bundle) rest here all = All-cons (λ (leg : FractionLeg). P leg.fill) (fraction_leg side f leg) (map (fraction_leg side f) bundle ++ rest) here (bundle_has P side f bundle rest here all)

pub legs_have : (P : Fraction → Type 0) (os : List Order) (fs : List Fraction) → All P fs → All (λ (leg : FractionLeg). P leg.fill) (fraction_legs os fs)
legs_have P [] fs all = All-nil (λ (leg : FractionLeg). P leg.fill)
legs_have P (o ∷ os) [] all = All-nil (λ (leg : FractionLeg). P leg.fill)
legs_have P (o ∷ os) (f ∷ fs) all = bundle_has P o.side f (bundle_of o) (fraction_legs os fs) (All-head P f fs all) (legs_have P os fs (All-tail P f fs all))

-- ---- the liability is enough
liability_is : (D : ℕ) (L : Fraction) → L.denominator ∣ D → IsDefined L → whole_Q (amount_over D L) ≡ whole_Q (pos D) *Q value L
liability_is D L div defined =
    let ratio : L.numerator *ℤ pos D ≡ amount_over D L *ℤ pos L.denominator = amount_is_exact D L div in
    let e : amount_over D L *ℤ pos (1 * L.denominator) ≡ (pos D *ℤ L.numerator) *ℤ pos 1 = omega (arith, ints, products, ratio) in
    same_of (whole_Q (amount_over D L)) (whole_Q (pos D) *Q value L) (amount_over D L) (pos D *ℤ L.numerator) 1 (1 * L.denominator) (whole_Q_is (amount_over D L)) (product_Q_is (whole_Q (pos D)) (value L) (pos D) L.numerator 1 L.denominator (whole_Q_is (pos D)) (value_is L defined)) e

moved : (a s b : Q) → IsAtMost ((a +Q neg_Q b) +Q s) 0Q → IsAtMost (a +Q s) b
moved a s b h =
    let e : neg_Q ((a +Q neg_Q b) +Q s) ≡ b +Q neg_Q (a +Q s) = simp rationals in
    subst IsNotBelow0 e (at_most_is_not_above ((a +Q neg_Q b) +Q s) h)

whole_order : (a b : ℤ) → IsAtMost (whole_Q a) (whole_Q b) → a ≤ℤ b
whole_order a b h = let le = at_most_out (whole_Q a) (whole_Q b) a b 1 1 (whole_Q_is a) (whole_Q_is b) h in omega (arith, ints, le)

pub closed_cells_hold : ClosedCellsHold
closed_cells_hold n orders fills L nodes len defined least L_defined closed z state =
    let D = common_denominator (L ∷ fills) in
    let legs = fraction_legs orders fills in
    let cs = classes_of orders in
    let classes = map (as_class legs) cs in
    let div = divides (L ∷ fills) in
    let div_L : L.denominator ∣ D = All-head (λ (f : Fraction). f.denominator ∣ D) L fills div in
    let div_fills = All-tail (λ (f : Fraction). f.denominator ∣ D) L fills div in
    let amounts : All (FillIs D) fills = λ k d lt. fill_is D _ (div_fills k d lt) (defined k d lt) (least k d lt) in
    let slope = less_liability (slope_of legs) (value L) in
    let holds = closed_holds n classes slope (map unsigned classes) closed.tree closed.closes z state.0 (root_fits z classes) in
    let t = whole_Q (pos (scale_of z)) in
    let all = along (slope_of legs) z +Q sum_over (owed z) classes in
    let below : IsAtMost all (value L *Q t) = moved (along (slope_of legs) z) (sum_over (owed z) classes) (value L *Q t) (subst (λ a. IsAtMost (a +Q sum_over (owed z) classes) 0Q) (along_less (slope_of legs) (value L) z) holds) in
    let scaled : IsAtMost (whole_Q (pos D) *Q all) (whole_Q (pos D) *Q (value L *Q t)) = at_most_mul (whole_Q (pos D)) all (value L *Q t) (natural_not_below D) below in
    let net_Q : whole_Q (net (filled_over D orders fills) z) ≡ whole_Q (pos D) *Q all =
    ap whole_Q (net_is (filled_over D orders fills) z ∙ ap (λ ls. leg_net ls z) (legs_are_same D orders fills))
    ∙ net_by_legs D legs z (legs_have (FillIs D) orders fills amounts)
    ∙ ap (λ s. whole_Q (pos D) *Q s) (net_by_classes legs cs z (distinct [] (options_in orders) tt) (legs_among orders fills len)) in
    let debt : whole_Q (pos D) *Q (value L *Q t) ≡ whole_Q (amount_over D L *ℤ pos (scale_of z)) =
    order (whole_Q (pos D)) (value L) t ∙ ap (λ s. s *Q t) (sym (liability_is D L div_L L_defined)) ∙ sym (whole_product (amount_over D L) (pos (scale_of z))) in
    whole_order _ _ (subst (λ s. IsAtMost s (whole_Q (amount_over D L *ℤ pos (scale_of z)))) (sym net_Q) (subst (IsAtMost (whole_Q (pos D) *Q all)) debt scaled))
  where
    order : (d l t : Q) → d *Q (l *Q t) ≡ (d *Q l) *Q t
    order d l t = simp rationals
