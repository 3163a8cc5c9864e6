-- What rounded sums, the bound of a market on one underlying and the need of an account imply.
use Rattle.std.specs.Prelude.{ℕ, ◌*◌, ◌≡◌, ◌≤◌, List, [], ◌∷◌, true, ℤ, pos, ◌+ℤ◌, ◌*ℤ◌, ◌≤ℤ◌, Ok}
use Rattle.std.specs.List.{All, sum, zip}
use Rattle.arithmetic.specs.Sums.{weigh_ℤ}
use Rattle.exact_num.specs.Fraction.{Fraction}
use Rattle.form.specs.declared.limits.TheConstants.{MAX_UNDERLYINGS}
use Rattle.form.specs.Limits.{IsOrderWithin}
use Rattle.clearing_model.specs.Clearing.{Filled, AreFills}
use Rattle.settlement.specs.declared.position.Position.{Position}
use Rattle.portfolio_margin.specs.Owed.{IsDenominator, fills_of, owed_over}
use Rattle.account_need.specs.Account.{bound_of, can_pay, need_of}
use Rattle.account_need.specs.Exposure.{Portfolio, Covers, IsEnough, IsInBox, IsSecured, IsTrueNeed, cost_at}
use Rattle.account_need.specs.Rounded.{Summed, owed_of, rounded_exposure, summed, sums_of, unit}
use Rattle.account_need.specs.Line.{greatest_exposure, line_need}

-- what is owed of the rounded sums is at least what the positions owe, at every state
abbrev pub RoundedOwesMore : Type 0
RoundedOwesMore =
    (positions : List Position) (z : List ℕ) (D : ℕ) → IsDenominator D (fills_of positions)
    → (owed_over D positions z *ℤ pos unit) ≤ℤ (owed_of z (sums_of positions) *ℤ pos D)

-- ---- one underlying
-- the amount of a fill, and what one bundle of its order costs
abbrev pub amount_of : Filled → ℕ
amount_of fill = fill.1

abbrev pub cost_of : List ℕ → Filled → ℤ
cost_of z fill = cost_at z fill.0

-- at each state of the box the rounded exposure is at most the greatest
abbrev pub GreatestBounds : Type 0
GreatestBounds =
    (p : Summed) (t : ℕ) (s : List ℕ) → IsInBox 1 t s
    → (rounded_exposure p (t ∷ s) *ℤ pos (greatest_exposure p).denominator) ≤ℤ ((greatest_exposure p).numerator *ℤ pos (unit * t))

-- and some fills of the live orders, each from 0 to its quantity, cost just that much at some state
-- of the box: so no smaller bound does
pub record IsReached (p : Summed) (S : Fraction) : Type 0 where
  pub t : ℕ
  pub s : List ℕ
  pub in_box : IsInBox 1 t s
  pub fills : List ℕ
  pub are_fills : AreFills p.live fills 1
  pub reached : (owed_of (t ∷ s) p.sums +ℤ pos unit *ℤ weigh_ℤ amount_of (cost_of (t ∷ s)) (zip p.live fills)) *ℤ pos S.denominator ≡ S.numerator *ℤ pos (unit * t)

abbrev pub GreatestIsReached : Type 0
GreatestIsReached = (p : Summed) → IsReached p (greatest_exposure p)

-- the need is enough, so that it is at least the true need
abbrev pub LineNeedIsEnough : Type 0
LineNeedIsEnough = (p : Portfolio) → p.underlyings ≡ 1 → IsEnough p (pos (line_need (summed p)))

abbrev pub EnoughIsAboveTrue : Type 0
EnoughIsAboveTrue = (p : Portfolio) (need amount : ℕ) → IsTrueNeed p need → IsEnough p (pos amount) → need ≤ amount

-- ---- accounts
-- a market on 1 to 8 underlyings, with live orders within the limits
pub record IsTraded (p : Portfolio) : Type 0 where
  pub some : 1 ≤ p.underlyings
  pub few : p.underlyings ≤ MAX_UNDERLYINGS
  pub orders : All IsOrderWithin p.live

-- the bound that is found for it covers its exposure
abbrev pub BoundsCover : Type 0
BoundsCover =
    (p : Portfolio) (spent later : ℕ) (S : ℤ) → IsTraded p → bound_of p.underlyings spent (summed p) ≡ Ok (S, later) → Covers p S

-- so a balance that can pay the need secures the account
abbrev pub PayingSecures : Type 0
PayingSecures =
    (markets : List Portfolio) (balance : ℤ) → All IsTraded markets → can_pay balance (need_of markets) ≡ true → IsSecured markets balance

-- and the need is at least the true needs of all markets together
abbrev pub AreTrueNeeds : List Portfolio → List ℕ → Type 0
AreTrueNeeds [] [] = Unit {0}
AreTrueNeeds [] (need ∷ needs) = ⊥
AreTrueNeeds (p ∷ markets) [] = ⊥
AreTrueNeeds (p ∷ markets) (need ∷ needs) = IsTrueNeed p need × AreTrueNeeds markets needs

abbrev pub NeedIsAboveTrue : Type 0
NeedIsAboveTrue =
    (markets : List Portfolio) (needs : List ℕ) (amount : ℕ) → All IsTraded markets → AreTrueNeeds markets needs → need_of markets ≡ Ok amount → sum needs ≤ amount
