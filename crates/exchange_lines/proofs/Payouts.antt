-- What is paid out for the positions of a batch is what its traders gain.
use Rattle.std.proofs.Common.{◌≡◌, ℕ, ◌≤ℤ◌, Bool, true, false, cond, if◌then◌else◌, List, [], ◌∷◌, filter, map, nat_eq, int_lt, ℤ, pos, negsuc, unsigned_abs, ◌*ℤ◌, refl, ap, sym, ◌∙◌, arith}
use Rattle.std.specs.List.{All, zip}
use Rattle.std.proofs.Math.Nat.{zero-div}
use Rattle.std.proofs.lemmas.Int.{ints}
use Rattle.std.proofs.lemmas.List.Elements.{All-nil, All-cons, All-head, All-tail, All-append}
use Rattle.arithmetic.specs.Sums.{total}
use Rattle.arithmetic.proofs.Sums.{total-append}
use Rattle.arithmetic.proofs.Tests.{int_lt-no}
use Rattle.clearing_model.specs.Certificate.{IsFill}
use Rattle.form.specs.declared.orders.Order.{Order}
use Rattle.form.specs.declared.orders.Side.{Side}
use Rattle.form.specs.Payoff.{BundleLeg, bundle_legs}
use Rattle.frac.specs.declared.frac128.Frac128.{Frac128}
use Rattle.frac.specs.Value.{fraction_of}
use Rattle.settlement.specs.declared.position.Position.{Position}
use Rattle.settlement.specs.Payout.{floor_of, gain_of, worth_at}
use Rattle.clearing_model.specs.Clearing.{for_side}
use Rattle.settlement.specs.Positions.{gain_at, held_in, is_of, paid_out, paid_side, payouts_of}
use Rattle.exchange_core.specs.Positions.{position_of, positions_of, positions_in}
use Rattle.exchange_lines.specs.Gain.{is_payout_of, paid_to_trader, paid_to_traders}
use Rattle.exchange_lines.proofs.FillGains.{gain_on}
use Rattle.exchange_lines.proofs.Filters.{filter_commute}

-- the positions of a batch
abbrev pub is_held_for : ℕ → Position → Bool
is_held_for number position = nat_eq position.batch number

abbrev pub held_for : ℕ → List Position → List Position
held_for number positions = filter (is_held_for number) positions

-- ---- from payouts to gains
paid_gain : (prices : List ℕ) (position : Position) → paid_to_trader (paid_out prices position) ≡ gain_at prices position
paid_gain prices position = by (gain_at prices position)
  where
    by : (gain : ℤ) → paid_to_trader (record { batch = position.batch; order = position.order; account = position.account; side = paid_side gain; amount = unsigned_abs gain }) ≡ gain
    by (pos n) = refl
    by (negsuc n) = refl

paid_each : (number : ℕ) (prices : List ℕ) (positions : List Position) → paid_to_traders number (map (paid_out prices) positions) ≡ total (gain_at prices) (held_for number positions)
paid_each number prices [] = refl
paid_each number prices (p ∷ positions) =
    let later = paid_each number prices positions in
    elim (nat_eq p.batch number) as (λ b.
    total paid_to_trader (cond b (paid_out prices p ∷ filter (is_payout_of number) (map (paid_out prices) positions)) (filter (is_payout_of number) (map (paid_out prices) positions)))
    ≡ total (gain_at prices) (cond b (p ∷ held_for number positions) (held_for number positions))) [
      | true ↦ rw (paid_gain prices p, later) refl
      | false ↦ later
    ]

-- the payouts of a batch are the gains of its positions in the market
pub paid_for : (number market : ℕ) (prices : List ℕ) (positions : List Position)
    → paid_to_traders number (payouts_of market prices positions) ≡ total (gain_at prices) (held_in market (held_for number positions))
paid_for number market prices positions =
    paid_each number prices (held_in market positions)
    ∙ ap (total (gain_at prices)) (filter_commute (is_held_for number) (is_of market) positions)

-- ---- the positions of a cleared batch
-- what holds of the position of each such order holds of all
pub all_made : (P : Position → Type 0) (Q : Order → Type 0) (market number : ℕ) → ((order : Order) (fill : Frac128) → Q order → P (position_of market number order fill))
    → (orders : List Order) (fills : List Frac128) → All Q orders → All P (positions_in market number orders fills)
all_made P Q market number each [] fills are = All-nil P
all_made P Q market number each (order ∷ orders) [] are = All-nil P
all_made P Q market number each (order ∷ orders) (fill ∷ fills) are =
    let first : All P (positions_of market number order fill) =
    elim (int_lt (pos 0) (fraction_of fill).numerator) as (λ b. All P (if b then position_of market number order fill ∷ [] else [])) [
      | true ↦ All-cons P (position_of market number order fill) [] (each order fill (All-head Q order orders are)) (All-nil P)
      | false ↦ All-nil P
    ] in
    All-append P (positions_of market number order fill) (positions_in market number orders fills) first
    (all_made P Q market number each orders fills (All-tail Q order orders are))

-- a fill of 0 gains nothing
no_gain : (side : Side) (n : ℤ) (d : ℕ) (legs : List BundleLeg) (prices : List ℕ) → n ≡ pos 0 → gain_of side (record { numerator = n; denominator = d }) legs prices ≡ pos 0
no_gain side n d legs prices zero =
    let none : n *ℤ for_side side (worth_at prices legs) ≡ pos 0 = rw zero (omega (arith, ints)) in
    ap (λ z. floor_of z d) none ∙ ap pos (zero-div d)

module _ (market number : ℕ) (prices : List ℕ) where
  gains_first : (order : Order) (fill : Frac128) → pos 0 ≤ℤ (fraction_of fill).numerator → total (gain_at prices) (positions_of market number order fill) ≡ gain_on prices (order, fill)
  gains_first order fill low = by (int_lt (pos 0) (fraction_of fill).numerator) refl
    where
      by : (b : Bool) → int_lt (pos 0) (fraction_of fill).numerator ≡ b → total (gain_at prices) (if b then position_of market number order fill ∷ [] else []) ≡ gain_on prices (order, fill)
      by true e = omega (arith, ints)
      by false e =
          let high = int_lt-no (pos 0) (fraction_of fill).numerator e in
          sym (no_gain order.side (fraction_of fill).numerator (fraction_of fill).denominator (bundle_legs order.bundle) prices (omega (arith, ints, low, high)))

  -- their gains are those of the fills
  pub gains_of_fills : (orders : List Order) (fills : List Frac128) → All IsFill (zip orders (map fraction_of fills))
      → total (gain_at prices) (positions_in market number orders fills) ≡ total (gain_on prices) (zip orders fills)
  gains_of_fills [] fills are = refl
  gains_of_fills (order ∷ orders) [] are = refl
  gains_of_fills (order ∷ orders) (fill ∷ fills) are =
      let is = All-head IsFill (order, fraction_of fill) (zip orders (map fraction_of fills)) are in
      let later = gains_of_fills orders fills (All-tail IsFill (order, fraction_of fill) (zip orders (map fraction_of fills)) are) in
      total-append (gain_at prices) (positions_of market number order fill) (positions_in market number orders fills) ∙ rw (gains_first order fill is.1, later) refl
