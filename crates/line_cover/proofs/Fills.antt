-- Sums over fills, over one denominator of the fills and the liability.
use Rattle.std.proofs.Common.{◌≡◌, ℕ, List, zip, arith, ℤ, pos, neg_ℤ, ◌+ℤ◌, ◌*ℤ◌, All, Result, Ok, subst}
use Rattle.std.proofs.lemmas.Int.{ints}
use Rattle.arithmetic.proofs.Lists.{zip-map_right, All-zip_right}
use Rattle.arithmetic.proofs.Products.{products}
use Rattle.arithmetic.proofs.Sums.{total-map}
use Rattle.exact_num.specs.declared.misfit.Wide.{Wide}
use Rattle.exact_num.specs.Fraction.{Fraction, whole}
use Rattle.exact_num.specs.CommonDenominator.{amount_over}
use Rattle.exact_num.specs.Steps.{fold_steps}
use Rattle.exact_num.proofs.LowestRatios.{IsLowestRatio, Adds, fold_stands, plus_stands, less_stands}
use Rattle.form.specs.declared.orders.Side.{Side}
use Rattle.form.specs.declared.orders.Side.TheVariants.{Buy, Sell}
use Rattle.form.specs.declared.orders.Order.{Order}
use Rattle.form.specs.Steps.{add_for_side}
use Rattle.clearing_model.specs.Clearing.{SignedFill, for_side, signed_sum}
use Rattle.clearing_model.specs.Certificate.{signed_over}

pub side_stands : (limit : ℕ) (side : Side) (total f s : Fraction) (k x y : ℤ) (D : ℕ) → IsLowestRatio total x D → IsLowestRatio f y D → add_for_side limit total side f (whole k) ≡ Ok s → IsLowestRatio s (x +ℤ for_side side (k *ℤ y)) D
side_stands limit Buy total f s k x y D st sf h =
    let e : x +ℤ (y *ℤ k) ≡ x +ℤ (k *ℤ y) = omega (arith, ints, products) in
    subst (λ w. IsLowestRatio s w D) e (plus_stands limit total f s k x y D st sf h)
side_stands limit Sell total f s k x y D st sf h =
    let e : x +ℤ neg_ℤ (y *ℤ k) ≡ x +ℤ neg_ℤ (k *ℤ y) = omega (arith, ints, products) in
    subst (λ w. IsLowestRatio s w D) e (less_stands limit total f s k x y D st sf h)

-- where the step for a fill adds the order's f times the amount, or subtracts it, the steps give
-- the signed sum
pub fills_stand : (D : ℕ) (step : Fraction → Order × Fraction → Result Fraction Wide) (f : Order → ℤ)
    → ((o : Order) (a : Fraction) → IsLowestRatio a (amount_over D a) D → Adds step (λ (fill : Order × Fraction). for_side fill.0.side (f fill.0 *ℤ amount_over D fill.1)) D (o, a))
    → (os : List Order) (fs : List Fraction) (s : Fraction) → All (λ a. IsLowestRatio a (amount_over D a) D) fs → fold_steps step (whole (pos 0)) (zip os fs) ≡ Ok s
    → IsLowestRatio s (signed_sum f (signed_over D os fs)) D
fills_stand D step f adds os fs s stand h =
    let v = λ (fill : Order × Fraction). for_side fill.0.side (f fill.0 *ℤ amount_over D fill.1) in
    let here = fold_stands step v D (zip os fs) s (λ k d lt. adds _ _ (All-zip_right (λ a. IsLowestRatio a (amount_over D a) D) os fs stand k d lt)) h in
    rw (zip-map_right (amount_over D) os fs, total-map (λ (fill : SignedFill). for_side fill.0.side (f fill.0 *ℤ fill.1)) (λ (p : Order × Fraction). (p.0, amount_over D p.1)) (zip os fs)) here
