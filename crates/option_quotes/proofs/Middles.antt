-- The middles of a gap that is halved until both ends are next to each other.
use Rattle.std.proofs.Common.{◌≡◌, ℕ, suc, zero, ◌+◌, ◌*◌, ◌^◌, ◌<◌, ◌≤◌, Bool, true, false, List, [], ◌∷◌, map, arith, Option, Some, None, if◌then◌else◌, refl, ap, sym, ◌∙◌}
use Rattle.std.proofs.lemmas.Bool.{le-leb, lt-leb}
use Rattle.std.proofs.lemmas.Nat.{div-add-mod'}
use Rattle.std.proofs.Math.Nat.{mod-lt, pow-suc}
use Rattle.form.specs.declared.orders.Side.{Side}
use Rattle.form.specs.declared.orders.Side.TheVariants.{Buy, Sell}
use Rattle.form.specs.declared.orders.Order.{Order}
use Rattle.form.specs.declared.orders.Batch.{Batch}
use Rattle.form.specs.declared.limits.TheConstants.{MAX_PRICE}
use Rattle.cert_check.specs.declared.outcome.Outcome.{Outcome}
use Rattle.option_quotes.specs.declared.ends.Ends.{Ends}
use Rattle.option_quotes.specs.Probes.{Probe, is_optimal, is_raised, probe_outcome, gap, middle, middles, probe_at, probes_between, first_unmarked}
use Rattle.option_quotes.specs.Ends.{IsBetter, AreEnds}

-- ---- one halving

pub middles_end : (h : ℕ) (raises : ℕ → Bool) (a b : ℕ) → gap a b ≤ 1 → middles h raises a b ≡ []
unfolding middles
middles_end zero raises a b near = refl
middles_end (suc h) raises a b near =
    let m = middle a b in
    ap (λ (t : Bool). if t then [] else m ∷ (if raises m then middles h raises m b else middles h raises a m)) (le-leb (gap a b) 1 near)

pub middles_up : (h : ℕ) (raises : ℕ → Bool) (a b : ℕ) → 1 < gap a b → raises (middle a b) ≡ true → middles (suc h) raises a b ≡ middle a b ∷ middles h raises (middle a b) b
unfolding middles
middles_up h raises a b far e =
    let m = middle a b in
    ap (λ (t : Bool). if t then [] else m ∷ (if raises m then middles h raises m b else middles h raises a m)) (lt-leb (gap a b) 1 far)
    ∙ ap (λ (t : Bool). m ∷ (if t then middles h raises m b else middles h raises a m)) e

pub middles_down : (h : ℕ) (raises : ℕ → Bool) (a b : ℕ) → 1 < gap a b → raises (middle a b) ≡ false → middles (suc h) raises a b ≡ middle a b ∷ middles h raises a (middle a b)
unfolding middles
middles_down h raises a b far e =
    let m = middle a b in
    ap (λ (t : Bool). if t then [] else m ∷ (if raises m then middles h raises m b else middles h raises a m)) (lt-leb (gap a b) 1 far)
    ∙ ap (λ (t : Bool). m ∷ (if t then middles h raises m b else middles h raises a m)) e

middles_more : (h : ℕ) (raises : ℕ → Bool) (a b : ℕ) → 1 < gap a b → (rest : List ℕ) × (middles (suc h) raises a b ≡ middle a b ∷ rest)
middles_more h raises a b far = by_test (raises (middle a b)) refl
  where
    by_test : (t : Bool) → raises (middle a b) ≡ t → (rest : List ℕ) × (middles (suc h) raises a b ≡ middle a b ∷ rest)
    by_test true e = (middles h raises (middle a b) b, middles_up h raises a b far e)
    by_test false e = (middles h raises a (middle a b), middles_down h raises a b far e)

-- the middle, and what is left of the gap on either side
middle_is : (a b : ℕ) → (2 * middle a b ≤ a + b) × (a + b ≤ 2 * middle a b + 1)
middle_is a b =
    let sum = div-add-mod' (a + b) 2 in
    let left = mod-lt (a + b) {m = 2} (omega arith) in
    (omega (arith, sum, left), omega (arith, sum, left))

pub halved : (h a b : ℕ) → gap a b ≤ 2 ^ suc h → (gap (middle a b) b ≤ 2 ^ h) × (gap a (middle a b) ≤ 2 ^ h)
halved h a b small =
    let is = middle_is a b in
    let power = pow-suc 2 h in
    (omega (arith, is, power, small), omega (arith, is, power, small))

pub between_ends : (side : Side) (a b : ℕ) → IsBetter side b a → 1 < gap a b → IsBetter side b (middle a b) × IsBetter side (middle a b) a
between_ends Buy a b better far = let is = middle_is a b in (omega (arith, is, better, far), omega (arith, is, better, far))
between_ends Sell a b better far = let is = middle_is a b in (omega (arith, is, better, far), omega (arith, is, better, far))

pub middle_within : (a b : ℕ) → a ≤ MAX_PRICE → b ≤ MAX_PRICE → middle a b ≤ MAX_PRICE
middle_within a b p q = let is = middle_is a b in omega (arith, is, p, q)

-- ---- the first probe that is not marked
pub first_marked : (probe : Probe) (rest : List Probe) → is_optimal probe.1 ≡ true → first_unmarked (probe ∷ rest) ≡ first_unmarked rest
first_marked probe rest e = ap (λ (t : Bool). if t then first_unmarked rest else Some probe) e

pub first_not_marked : (probe : Probe) (rest : List Probe) → is_optimal probe.1 ≡ false → first_unmarked (probe ∷ rest) ≡ Some probe
first_not_marked probe rest e = ap (λ (t : Bool). if t then first_unmarked rest else Some probe) e

-- ---- the ends that a loop has come to, from those at its start: what is left to be probed
abbrev pub unmarked_between : Batch → Order → ℕ → Outcome → ℕ → ℕ → ℕ → Option Probe
unmarked_between batch o limit base h a b = first_unmarked (probes_between (probe_outcome batch o limit) base h a b)

pub record Narrows (batch : Batch) (o : Order) (limit : ℕ) (base : Outcome) (a b : ℕ) (ends : Ends) : Type 0 where
  pub are : AreEnds batch o limit base ends
  pub left : (h : ℕ) → gap a b ≤ 2 ^ h
      → (k : ℕ) × (gap ends.raising.price ends.other.price ≤ 2 ^ k) × (unmarked_between batch o limit base h a b ≡ unmarked_between batch o limit base k ends.raising.price ends.other.price)

pub narrows_first : (batch : Batch) (o : Order) (limit : ℕ) (base : Outcome) (ends : Ends) → AreEnds batch o limit base ends → Narrows batch o limit base ends.raising.price ends.other.price ends
narrows_first batch o limit base ends are = record { are = are; left = λ h small. (h, small, refl) }

-- one more probe, at the middle
Left : Batch → Order → ℕ → Outcome → ℕ → ℕ → ℕ → ℕ → ℕ → Type 0
Left batch o limit base k r x a b = (h : ℕ) × (gap a b ≤ 2 ^ h) × (unmarked_between batch o limit base k r x ≡ unmarked_between batch o limit base h a b)

left_up : (batch : Batch) (o : Order) (limit : ℕ) (base : Outcome) (k r x : ℕ) → gap r x ≤ 2 ^ k → 1 < gap r x
    → is_optimal (probe_outcome batch o limit (middle r x)) ≡ true → is_raised base (probe_outcome batch o limit (middle r x)) ≡ true
    → Left batch o limit base k r x (middle r x) x
unfolding Left
left_up batch o limit base zero r x small far optimal raised = absurd (omega (arith, small, far))
left_up batch o limit base (suc h) r x small far optimal raised =
    let outcome = probe_outcome batch o limit in
    let raises : ℕ → Bool = λ price. is_raised base (outcome price) in (
      h,
      (halved h r x small).0,
      ap (λ (prices : List ℕ). first_unmarked (map (probe_at outcome) prices)) (middles_up h raises r x far raised)
          ∙ first_marked (probe_at outcome (middle r x)) (map (probe_at outcome) (middles h raises (middle r x) x)) optimal,
    )

left_down : (batch : Batch) (o : Order) (limit : ℕ) (base : Outcome) (k r x : ℕ) → gap r x ≤ 2 ^ k → 1 < gap r x
    → is_optimal (probe_outcome batch o limit (middle r x)) ≡ true → is_raised base (probe_outcome batch o limit (middle r x)) ≡ false
    → Left batch o limit base k r x r (middle r x)
unfolding Left
left_down batch o limit base zero r x small far optimal raised = absurd (omega (arith, small, far))
left_down batch o limit base (suc h) r x small far optimal raised =
    let outcome = probe_outcome batch o limit in
    let raises : ℕ → Bool = λ price. is_raised base (outcome price) in (
      h,
      (halved h r x small).1,
      ap (λ (prices : List ℕ). first_unmarked (map (probe_at outcome) prices)) (middles_down h raises r x far raised)
          ∙ first_marked (probe_at outcome (middle r x)) (map (probe_at outcome) (middles h raises r (middle r x))) optimal,
    )

pub narrows_up : (batch : Batch) (o : Order) (limit : ℕ) (base : Outcome) (a b : ℕ) (ends : Ends) (outcome : Outcome) → Narrows batch o limit base a b ends
    → 1 < gap ends.raising.price ends.other.price → outcome ≡ probe_outcome batch o limit (middle ends.raising.price ends.other.price) → is_optimal outcome ≡ true → is_raised base outcome ≡ true
    → Narrows batch o limit base a b (record { raising = record { price = middle ends.raising.price ends.other.price; outcome = outcome }; other = ends.other })
unfolding Left
narrows_up batch o limit base a b ends outcome n far is optimal raised =
    let r = ends.raising.price in
    let x = ends.other.price in
    record {
      are = record {
        raising = record { within = middle_within r x n.are.raising.within n.are.other.within; is = is; optimal = optimal };
        other = n.are.other;
        raised = raised;
        not_raised = n.are.not_raised;
        better = (between_ends o.side r x n.are.better far).0;
      };
      left = λ h small.
          let was = n.left h small in
          let now = left_up batch o limit base was.0 r x was.1 far (ap is_optimal (sym is) ∙ optimal) (ap (is_raised base) (sym is) ∙ raised) in
          (now.0, now.1, was.2 ∙ now.2);
    }

pub narrows_down : (batch : Batch) (o : Order) (limit : ℕ) (base : Outcome) (a b : ℕ) (ends : Ends) (outcome : Outcome) → Narrows batch o limit base a b ends
    → 1 < gap ends.raising.price ends.other.price → outcome ≡ probe_outcome batch o limit (middle ends.raising.price ends.other.price) → is_optimal outcome ≡ true → is_raised base outcome ≡ false
    → Narrows batch o limit base a b (record { raising = ends.raising; other = record { price = middle ends.raising.price ends.other.price; outcome = outcome } })
unfolding Left
narrows_down batch o limit base a b ends outcome n far is optimal not_raised =
    let r = ends.raising.price in
    let x = ends.other.price in
    record {
      are = record {
        raising = n.are.raising;
        other = record { within = middle_within r x n.are.raising.within n.are.other.within; is = is; optimal = optimal };
        raised = n.are.raised;
        not_raised = not_raised;
        better = (between_ends o.side r x n.are.better far).1;
      };
      left = λ h small.
          let was = n.left h small in
          let now = left_down batch o limit base was.0 r x was.1 far (ap is_optimal (sym is) ∙ optimal) (ap (is_raised base) (sym is) ∙ not_raised) in
          (now.0, now.1, was.2 ∙ now.2);
    }

-- the ends are next to each other: each probe was marked
pub narrows_end : (batch : Batch) (o : Order) (limit : ℕ) (base : Outcome) (a b : ℕ) (ends : Ends) → Narrows batch o limit base a b ends → gap ends.raising.price ends.other.price ≤ 1
    → (h : ℕ) → gap a b ≤ 2 ^ h → None ≡ unmarked_between batch o limit base h a b
narrows_end batch o limit base a b ends n near h small =
    let was = n.left h small in
    let outcome = probe_outcome batch o limit in
    let none = middles_end was.0 (λ price. is_raised base (outcome price)) ends.raising.price ends.other.price near in
    sym (was.2 ∙ ap (λ (prices : List ℕ). first_unmarked (map (probe_at outcome) prices)) none)

-- the middle is not marked
stopped : (batch : Batch) (o : Order) (limit : ℕ) (base : Outcome) (k r x : ℕ) → gap r x ≤ 2 ^ k → 1 < gap r x
    → is_optimal (probe_outcome batch o limit (middle r x)) ≡ false
    → unmarked_between batch o limit base k r x ≡ Some (Some (middle r x), probe_outcome batch o limit (middle r x))
stopped batch o limit base zero r x small far not_optimal = absurd (omega (arith, small, far))
stopped batch o limit base (suc h) r x small far not_optimal =
    let outcome = probe_outcome batch o limit in
    let raises : ℕ → Bool = λ price. is_raised base (outcome price) in
    let rest = middles_more h raises r x far in
    ap (λ (prices : List ℕ). first_unmarked (map (probe_at outcome) prices)) rest.1
    ∙ first_not_marked (probe_at outcome (middle r x)) (map (probe_at outcome) rest.0) not_optimal

pub narrows_stop : (batch : Batch) (o : Order) (limit : ℕ) (base : Outcome) (a b : ℕ) (ends : Ends) (outcome : Outcome) → Narrows batch o limit base a b ends
    → 1 < gap ends.raising.price ends.other.price → outcome ≡ probe_outcome batch o limit (middle ends.raising.price ends.other.price) → is_optimal outcome ≡ false
    → (h : ℕ) → gap a b ≤ 2 ^ h → Some (Some (middle ends.raising.price ends.other.price), outcome) ≡ unmarked_between batch o limit base h a b
narrows_stop batch o limit base a b ends outcome n far is not_optimal h small =
    let r = ends.raising.price in
    let x = ends.other.price in
    let was = n.left h small in
    ap (λ (it : Outcome). Some (Some (middle r x), it)) is
    ∙ sym (was.2 ∙ stopped batch o limit base was.0 r x was.1 far (ap is_optimal (sym is) ∙ not_optimal))
