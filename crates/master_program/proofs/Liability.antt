-- The liability that is read off is what the fills owe at the first state and the slack.
use Rattle.std.proofs.Common.{◌≡◌, ℕ, ◌*◌, ◌<◌, List, ◌∷◌, zip, arith, ℤ, pos, ◌+ℤ◌, ◌-ℤ◌, ◌*ℤ◌, All, Ok, refl, ap, sym, ◌∙◌, subst}
use Rattle.std.proofs.lemmas.Int.{ints}
use Rattle.std.specs.Int.{◌∣◌}
use Rattle.std.proofs.Math.Nat.{mul-pos}
use Rattle.std.proofs.lemmas.List.Elements.{All-head, All-tail}
use Rattle.arithmetic.proofs.Integers.{*ℤ_cancel}
use Rattle.arithmetic.proofs.Products.{products}
use Rattle.exact_num.specs.Fraction.{Fraction, IsLowest, whole}
use Rattle.exact_num.specs.CommonDenominator.{common_denominator, amount_over, IsRatio}
use Rattle.exact_num.specs.Fits.{add_of, whole_of}
use Rattle.exact_num.specs.Steps.{plus_product}
use Rattle.exact_num.proofs.After.{after_value}
use Rattle.exact_num.proofs.Exactness.{sums_are_exact}
use Rattle.exact_num.proofs.Fractions.{divides, amount_is_exact}
use Rattle.exact_num.proofs.LowestRatios.{IsLowestRatio, plus_stands}
use Rattle.form.specs.declared.orders.Side.{Side}
use Rattle.form.specs.declared.orders.Side.TheVariants.{Buy, Sell}
use Rattle.form.specs.declared.orders.Order.{Order}
use Rattle.clearing_model.specs.Clearing.{for_side, signed_sum, signed_net}
use Rattle.clearing_model.specs.Certificate.{signed_over}
use Rattle.cert_check.proofs.Fills.{fills_stand}
use Rattle.master_program.specs.Master.{zero_prices, payoff_at_zero, signed_for}
use Rattle.master_program.specs.Reading.{add_owed, owed_of, liability_of}
use Rattle.master_program.specs.Certified.{IsLiability}
use Rattle.master_program.proofs.Steps.{whole_gives, side_is, first_is}

-- ---- the fills one after another
turned : (side : Side) (a f : ℤ) → a *ℤ for_side side f ≡ for_side side (f *ℤ a)
turned Buy a f = omega (arith, ints, products)
turned Sell a f = omega (arith, ints, products)

-- the step for a fill adds what it owes at the first state
owed_adds : (limit D : ℕ) (o : Order) (fill : Fraction) (a : ℤ) → IsLowestRatio fill a D → (total s : Fraction) (x : ℤ) → IsLowestRatio total x D → add_owed limit total (o, fill) ≡ Ok s
    → IsLowestRatio s (x +ℤ for_side o.side (payoff_at_zero o *ℤ a)) D
unfolding add_owed
owed_adds limit D o fill a sf total s x st h =
    let f : ℤ = payoff_at_zero o in
    let step = after_value (whole_of limit f) (λ first. plus_product limit total fill (signed_for o.side first)) s h in
    let here : plus_product limit total fill (whole (for_side o.side f)) ≡ Ok s =
    ap (λ w. plus_product limit total fill w) (sym (ap (signed_for o.side) (whole_gives limit f step.value step.first) ∙ side_is o.side f f refl)) ∙ step.rest in
    subst (λ v. IsLowestRatio s v D) (ap (λ v. x +ℤ v) (turned o.side a f)) (plus_stands limit total fill s (for_side o.side f) x a D st sf here)

-- ---- the slack is the liability less what is owed
slack_cross : (a b l N Lo : ℤ) (D da db dl : ℕ) → 0 < da → 0 < dl → l *ℤ pos (da * db) ≡ (a *ℤ pos db +ℤ b *ℤ pos da) *ℤ pos dl → a *ℤ pos D ≡ N *ℤ pos da → l *ℤ pos D ≡ Lo *ℤ pos dl → b *ℤ pos D ≡ (Lo -ℤ N) *ℤ pos db
slack_cross a b l N Lo D da db dl pa pl e f g =
    *ℤ_cancel (da * dl) (b *ℤ pos D) ((Lo -ℤ N) *ℤ pos db) (mul-pos pa pl)
    (omega (arith, ints, products, ap (λ w. w *ℤ pos D) e, ap (λ w. w *ℤ pos (db * dl)) f, ap (λ w. w *ℤ pos (da * db)) g))

abbrev Divides : ℕ → Fraction → Type 0
Divides D f = f.denominator ∣ D

-- the liability is in lowest terms, and is that of the fills and the slack
pub record IsRead (n : ℕ) (orders : List Order) (fills : List Fraction) (slack L : Fraction) : Type 0 where
  pub lowest : IsLowest L
  pub liability : IsLiability (zero_prices n) orders fills slack L

pub liability_is_read : (limit n : ℕ) (orders : List Order) (fills : List Fraction) (slack L : Fraction) → All IsLowest fills → IsLowest slack → liability_of limit orders fills slack ≡ Ok L → IsRead n orders fills slack L
unfolding liability_of
liability_is_read limit n orders fills slack L low slack_low h =
    let D : ℕ = common_denominator (L ∷ fills) in
    let parts = divides (L ∷ fills) in
    let step = after_value (owed_of limit (zip orders fills)) (λ owed. add_of limit owed slack) L h in
    let owed : Fraction = step.value in
    let each : All (λ f. IsLowestRatio f (amount_over D f) D) fills = λ k d lt. record { lowest = low k d lt; ratio = amount_is_exact D _ (All-tail (Divides D) L fills parts k d lt) } in
    let stands = fills_stand D (add_owed limit) payoff_at_zero (λ o f sf. owed_adds limit D o f (amount_over D f) sf) orders fills owed each step.first in
    let N : ℤ = signed_net (signed_over D orders fills) (zero_prices n) in
    let same : signed_sum payoff_at_zero (signed_over D orders fills) ≡ N = λ j. signed_sum (λ o. first_is o n j) (signed_over D orders fills) in
    let exact = sums_are_exact limit owed slack L stands.lowest slack_low step.rest in
    record {
      lowest = exact.lowest;
      liability = slack_cross owed.numerator slack.numerator L.numerator N (amount_over D L) D owed.denominator slack.denominator L.denominator stands.lowest.positive exact.lowest.positive exact.same
          (subst (λ v. IsRatio owed v D) same stands.ratio) (amount_is_exact D L (All-head (Divides D) L fills parts));
    }
