-- An amount covers what the positions lose, whatever the prices.
use Rattle.std.proofs.Common.{◌≡◌, ℕ, suc, ◌+◌, ◌*◌, ◌/◌, List, [], ◌∷◌, length, map, Bool, true, false, None, Ok, Err, arith, ℤ, pos, neg_ℤ, ◌+ℤ◌, ◌*ℤ◌, ◌≤ℤ◌, All, refl, ap, sym, ◌∙◌, subst}
use Rattle.std.specs.Prelude.{nat_le, int_lt, if◌then◌else◌}
use Rattle.std.specs.Int.{◌∣◌}
use Rattle.std.proofs.lemmas.Int.{ints}
use Rattle.std.proofs.lemmas.List.Elements.{All-cons, All-head, All-tail}
use Rattle.std.proofs.lemmas.List.Sums.{sum_by-cons}
use native.Mathlib.Nat.{mul-div_cancel'}
use Rattle.arithmetic.specs.Sums.{positive_part, total}
use Rattle.arithmetic.proofs.Integers.{*ℤ_cancel_le, *ℤ_distr, *ℤ_mono}
use Rattle.arithmetic.proofs.Parts.{positive_part_above}
use Rattle.arithmetic.proofs.Products.{products}
use Rattle.arithmetic.proofs.Signed.{factor_out}
use Rattle.arithmetic.proofs.Tests.{int_lt-yes, int_lt-no}
use Rattle.exact_num.specs.Fraction.{Fraction, IsDefined}
use Rattle.exact_num.specs.CommonDenominator.{amount_over, common_denominator}
use Rattle.frac.specs.Range.{limit as largest}
use Rattle.form.specs.declared.orders.Side.{Side}
use Rattle.form.specs.declared.orders.Side.TheVariants.{Buy, Sell}
use Rattle.form.specs.Payoff.{IsState, bundle_legs, bundle_payoff}
use Rattle.settlement.specs.declared.position.Position.{Position}
use Rattle.settlement.specs.Payout.{worth_at}
use Rattle.clearing_model.specs.Clearing.{for_side}
use Rattle.settlement.specs.Positions.{gain_at}
use Rattle.settlement.proofs.Gains.{gains_are_rounded_down}
use Rattle.portfolio_margin.specs.declared.least_margin.LeastMargin.TheVariants.{Least, Unbounded, Wide, Budget}
use Rattle.portfolio_margin.specs.declared.needs.Needed.{Needed}
use Rattle.portfolio_margin.specs.declared.needs.Needed.TheVariants.{Amount, Sum}
use Rattle.portfolio_margin.specs.Owed.{Covers, fill_of, fills_of, owed_by, owed_over}
use Rattle.portfolio_margin.specs.Need.{Demand, Counted, demand_amount, demands_of, ceil_of, first_demand_word, first_word, demand_sum, sum_need, whole_demand, word_or}
use Rattle.portfolio_margin.specs.Laws.{AreDemandsCovered, NeedsCover, Settled, gain_in}
use Rattle.portfolio_margin.proofs.Owing.{Divides, common_is, fills_defined}
use Rattle.portfolio_margin.proofs.Rounded.{liabilities_are_rounded_up}

-- ---- one position loses less than a tick more than what it owes
side_owes : (side : Side) (w n : ℤ) (q : ℕ) → neg_ℤ (owed_by side (w *ℤ (n *ℤ pos q))) ≡ (n *ℤ for_side side w) *ℤ pos q
side_owes Buy w n q = omega (arith, ints, products)
side_owes Sell w n q = omega (arith, ints, products)

-- over D, whose quotient by d is q
times_quotient : (y : ℤ) (d q D : ℕ) → d * q ≡ D → (y *ℤ pos d) *ℤ pos q ≡ y *ℤ pos D
times_quotient y d q D is =
    let turned : q * d ≡ D = omega (arith, is) in
    sym (factor_out y q d) ∙ ap (λ (n : ℕ). y *ℤ pos n) turned

next_above : (g x : ℤ) (d : ℕ) → ((k : ℤ) → (k *ℤ pos (d * 1)) ≤ℤ (x *ℤ pos 1) → k ≤ℤ g) → x ≤ℤ ((g +ℤ pos 1) *ℤ pos d)
next_above g x d greatest =
    let y = (g +ℤ pos 1) *ℤ pos d in
    by y refl (int_lt x y) refl
  where
    by : (y : ℤ) → y ≡ (g +ℤ pos 1) *ℤ pos d → (b : Bool) → int_lt x y ≡ b → x ≤ℤ ((g +ℤ pos 1) *ℤ pos d)
    by y is true e = subst (λ (v : ℤ). x ≤ℤ v) is (omega (arith, ints, int_lt-yes x y e))
    by y is false e =
        let le : y ≤ℤ x = int_lt-no x y e in
        let unit : (g +ℤ pos 1) *ℤ pos (d * 1) ≡ y = (let one : d * 1 ≡ d = omega arith in ap (λ (n : ℕ). (g +ℤ pos 1) *ℤ pos n) one ∙ sym is) in
        let same : x ≡ x *ℤ pos 1 = omega (arith, ints) in
        let next = greatest (g +ℤ pos 1) (subst (λ (v : ℤ). v ≤ℤ (x *ℤ pos 1)) (sym unit) (subst (λ (v : ℤ). y ≤ℤ v) same le)) in
        absurd (omega (arith, ints, next))

loses : (D : ℕ) (prices : List ℕ) (p : Position) → (fill_of p).denominator ∣ D
    → neg_ℤ (owed_by p.side (bundle_payoff (bundle_legs p.bundle) (1 ∷ prices) *ℤ amount_over D (fill_of p))) ≤ℤ ((gain_at prices p +ℤ pos 1) *ℤ pos D)
loses D prices p divides =
    let f = fill_of p in
    let w = worth_at prices (bundle_legs p.bundle) in
    let q = D / f.denominator in
    let x = f.numerator *ℤ for_side p.side w in
    let g = gain_at prices p in
    let floor = gains_are_rounded_down p.side f (bundle_legs p.bundle) prices p.fill.lowest.positive in
    let above : x ≤ℤ ((g +ℤ pos 1) *ℤ pos f.denominator) = next_above g x f.denominator (λ k le. floor.greatest k le) in
    subst (λ (v : ℤ). v ≤ℤ ((g +ℤ pos 1) *ℤ pos D)) (sym (side_owes p.side w f.numerator q))
    (subst (λ (v : ℤ). (x *ℤ pos q) ≤ℤ v) (times_quotient (g +ℤ pos 1) f.denominator q D (mul-div_cancel' f.denominator divides)) (*ℤ_mono q x ((g +ℤ pos 1) *ℤ pos f.denominator) above))

-- all of a market
one_more : (o r g G : ℤ) (k D : ℕ) → neg_ℤ o ≤ℤ ((g +ℤ pos 1) *ℤ pos D) → neg_ℤ r ≤ℤ ((G +ℤ pos k) *ℤ pos D) → neg_ℤ (o +ℤ r) ≤ℤ (((g +ℤ G) +ℤ pos (suc k)) *ℤ pos D)
one_more o r g G k D first rest =
    let same : (g +ℤ G) +ℤ pos (suc k) ≡ (g +ℤ pos 1) +ℤ (G +ℤ pos k) = omega (arith, ints) in
    let parts = *ℤ_distr (g +ℤ pos 1) (G +ℤ pos k) (pos D) in
    subst (λ (v : ℤ). neg_ℤ (o +ℤ r) ≤ℤ v) (sym (ap (λ (v : ℤ). v *ℤ pos D) same ∙ parts))
    (add o r ((g +ℤ pos 1) *ℤ pos D) ((G +ℤ pos k) *ℤ pos D) first rest)
  where
    add : (o r a b : ℤ) → neg_ℤ o ≤ℤ a → neg_ℤ r ≤ℤ b → neg_ℤ (o +ℤ r) ≤ℤ (a +ℤ b)
    add o r a b first rest = omega (arith, ints, first, rest)

pub all_lose : (D : ℕ) (prices : List ℕ) (ps : List Position) → All (Divides D) (fills_of ps)
    → neg_ℤ (owed_over D ps (1 ∷ prices)) ≤ℤ ((total (gain_at prices) ps +ℤ pos (length ps)) *ℤ pos D)
all_lose D prices [] divides = omega (arith, ints)
all_lose D prices (p ∷ ps) divides =
    one_more (owed_by p.side (bundle_payoff (bundle_legs p.bundle) (1 ∷ prices) *ℤ amount_over D (fill_of p))) (owed_over D ps (1 ∷ prices)) (gain_at prices p) (total (gain_at prices) ps) (length ps) D
    (loses D prices p (All-head (Divides D) (fill_of p) (fills_of ps) divides)) (all_lose D prices ps (All-tail (Divides D) (fill_of p) (fills_of ps) divides))

-- ---- the liability rounded up
amount_small : (L : Fraction) (D : ℕ) → IsDefined L → L.denominator ∣ D → amount_over D L ≤ℤ (ceil_of L.numerator L.denominator *ℤ pos D)
amount_small L D defined divides =
    let c = ceil_of L.numerator L.denominator in
    let q = D / L.denominator in
    let up = (liabilities_are_rounded_up L defined).not_below in
    let unit : L.numerator *ℤ pos 1 ≡ L.numerator = omega (arith, ints) in
    let le : L.numerator ≤ℤ (c *ℤ pos L.denominator) = subst (λ (v : ℤ). v ≤ℤ (c *ℤ pos L.denominator)) unit up in
    subst (λ (v : ℤ). (L.numerator *ℤ pos q) ≤ℤ v) (times_quotient c L.denominator q D (mul-div_cancel' L.denominator divides)) (*ℤ_mono q L.numerator (c *ℤ pos L.denominator) le)

settled_state : (prices : List ℕ) → IsState (length prices) (1 ∷ prices)
settled_state prices = (omega arith, omega (arith, sum_by-cons (λ (k : ℕ). k) 1 prices))

market_loses : (L : Fraction) (prices : List ℕ) (ps : List Position) → IsDefined L → Covers (length prices) ps L
    → neg_ℤ (ceil_of L.numerator L.denominator +ℤ pos (length ps)) ≤ℤ total (gain_at prices) ps
market_loses L prices ps defined covers =
    let fills = fills_of ps in
    let c = ceil_of L.numerator L.denominator in
    let D = common_denominator (L ∷ fills) in
    let is = common_is (L ∷ fills) (All-cons IsDefined L fills defined (fills_defined ps)) in
    let T = total (gain_at prices) ps in
    let owed = owed_over D ps (1 ∷ prices) in
    let most : owed ≤ℤ (amount_over D L *ℤ pos 1) = covers (1 ∷ prices) (settled_state prices) D is in
    let small = amount_small L D defined (All-head (Divides D) L fills is.divides) in
    let lost = all_lose D prices ps (All-tail (Divides D) L fills is.divides) in
    let negated : neg_ℤ (c *ℤ pos D) ≡ neg_ℤ c *ℤ pos D = omega (arith, ints, products) in
    let unit : amount_over D L *ℤ pos 1 ≡ amount_over D L = omega (arith, ints) in
    let le : (neg_ℤ c *ℤ pos D) ≤ℤ ((T +ℤ pos (length ps)) *ℤ pos D) =
    chain owed (amount_over D L) (c *ℤ pos D) (neg_ℤ c *ℤ pos D) ((T +ℤ pos (length ps)) *ℤ pos D) (subst (λ (v : ℤ). owed ≤ℤ v) unit most) small negated lost in
    last c T (length ps) (*ℤ_cancel_le D (neg_ℤ c) (T +ℤ pos (length ps)) is.some le)
  where
    chain : (o a cD n v : ℤ) → o ≤ℤ a → a ≤ℤ cD → neg_ℤ cD ≡ n → neg_ℤ o ≤ℤ v → n ≤ℤ v
    chain o a cD n v first second same third = omega (arith, ints, first, second, same, third)

    last : (c T : ℤ) (k : ℕ) → neg_ℤ c ≤ℤ (T +ℤ pos k) → neg_ℤ (c +ℤ pos k) ≤ℤ T
    last c T k le = omega (arith, ints, le)

-- ---- all markets
part_covers : (y g : ℤ) (part : ℕ) → y ≤ℤ pos part → neg_ℤ y ≤ℤ g → neg_ℤ (pos part) ≤ℤ g
part_covers y g part le lost = omega (arith, ints, le, lost)

together : (a b whole : ℕ) (g G : ℤ) → whole ≡ a + b → neg_ℤ (pos a) ≤ℤ g → neg_ℤ (pos b) ≤ℤ G → neg_ℤ (pos whole) ≤ℤ (g +ℤ G)
together a b whole g G is first rest = omega (arith, ints, is, first, rest)

-- each liability is a fraction
abbrev pub AreDefined : {W : Type 0} → List (Demand W) → Type 0
AreDefined [] = Unit {0}
AreDefined ((Ok L, count) ∷ demands) = IsDefined L × AreDefined demands
AreDefined ((Err word, count) ∷ demands) = AreDefined demands

all_covered : {W : Type 0} (demands : List (Demand W)) (markets : List Settled) → first_demand_word demands ≡ None → AreDefined demands → AreDemandsCovered demands markets
    → neg_ℤ (pos (whole_demand demands)) ≤ℤ total gain_in markets
all_covered [] [] none are covered = omega (arith, ints)
all_covered [] (s ∷ markets) none are covered = absurd covered
all_covered (a ∷ demands) [] none are covered = absurd covered
all_covered ((Ok L, count) ∷ demands) (s ∷ markets) none (defined, are) (counted, covers, rest) =
    let y = ceil_of L.numerator L.denominator +ℤ pos count in
    let lost : neg_ℤ y ≤ℤ gain_in s = subst (λ (k : ℕ). neg_ℤ (ceil_of L.numerator L.denominator +ℤ pos k) ≤ℤ gain_in s) counted (market_loses L s.prices s.positions defined covers) in
    let part = positive_part y in
    together part (whole_demand demands) (whole_demand ((Ok L, count) ∷ demands)) (gain_in s) (total gain_in markets)
    (sum_by-cons (λ (k : ℕ). k) part (map (λ a. demand_amount a.0 a.1) demands))
    (part_covers y (gain_in s) part (positive_part_above y) lost) (all_covered demands markets none are rest)
all_covered ((Err word, count) ∷ demands) (s ∷ markets) none are covered = cc

-- ---- the amount
amount_is : {W : Type 0} (demands : List (Demand W)) (amount : ℕ) → demand_sum demands ≡ Amount amount → whole_demand demands ≡ amount
amount_is demands amount h = by (nat_le (whole_demand demands) largest) h
  where
    by : (b : Bool) → (if b then Amount (whole_demand demands) else Sum) ≡ Amount amount → whole_demand demands ≡ amount
    by true h = cc
    by false h = cc

-- where each market demands a liability, their sum covers what the positions lose
pub sums_cover : {W : Type 0} (demands : List (Demand W)) (markets : List Settled) (amount : ℕ) → first_demand_word demands ≡ None → demand_sum demands ≡ Amount amount
    → AreDefined demands → AreDemandsCovered demands markets → neg_ℤ (pos amount) ≤ℤ total gain_in markets
sums_cover demands markets amount none h are covered =
    subst (λ (k : ℕ). neg_ℤ (pos k) ≤ℤ total gain_in markets) (amount_is demands amount h) (all_covered demands markets none are covered)

no_word : (margins : List Counted) (need : Needed) (amount : ℕ) → word_or (first_word margins) need ≡ Amount amount → (first_word margins ≡ None) × (need ≡ Amount amount)
no_word [] need amount h = (refl, h)
no_word ((Least L at tree, count) ∷ margins) need amount h = no_word margins need amount h
no_word ((Unbounded ray, count) ∷ margins) need amount h = cc
no_word ((Wide unit wide, count) ∷ margins) need amount h = cc
no_word ((Budget, count) ∷ margins) need amount h = cc

margins_defined : (margins : List Counted) → AreDefined (demands_of margins)
margins_defined [] = tt
margins_defined ((Least L at tree, count) ∷ margins) = (L.lowest.positive, margins_defined margins)
margins_defined ((Unbounded ray, count) ∷ margins) = margins_defined margins
margins_defined ((Wide unit wide, count) ∷ margins) = margins_defined margins
margins_defined ((Budget, count) ∷ margins) = margins_defined margins

pub needs_cover : NeedsCover
needs_cover margins markets amount h covered =
    let parts = no_word margins (sum_need margins) amount h in
    sums_cover (demands_of margins) markets amount parts.0 parts.1 (margins_defined margins) covered
