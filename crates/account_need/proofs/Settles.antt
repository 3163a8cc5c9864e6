-- A settlement: the positions lose at most what they owe there, and a tick more for each.
use Rattle.std.proofs.Common.{◌≡◌, ℕ, ◌+◌, ◌*◌, ◌≤◌, List, [], length, All, arith, ℤ, pos, neg_ℤ, ◌+ℤ◌, ◌*ℤ◌, ◌≤ℤ◌, ◌∷◌, refl, sym, subst}
use Rattle.std.proofs.lemmas.Int.{ints}
use Rattle.arithmetic.specs.Sums.{positive_part, total}
use Rattle.arithmetic.proofs.Integers.{*ℤ_cancel_le}
use Rattle.arithmetic.proofs.Parts.{positive_part_above}
use Rattle.arithmetic.proofs.Products.{products}
use Rattle.exact_num.specs.CommonDenominator.{common_denominator}
use Rattle.exact_num.proofs.Fractions.{common_positive, divides}
use Rattle.limits.specs.declared.TheConstants.{MAX_SETTLEMENT_PRICE}
use Rattle.settlement.specs.Positions.{gain_at}
use Rattle.portfolio_margin.specs.Owed.{fills_of, owed_over}
use Rattle.portfolio_margin.proofs.NeedCovers.{all_lose}
use Rattle.portfolio_margin.proofs.Owing.{fills_defined}
use Rattle.account_need.specs.Exposure.{Portfolio, IsEnough, losses_at, reserve_of}
use Rattle.account_need.specs.Moves.{SettlementsKeep}
use Rattle.account_need.proofs.Portfolios.{portfolio, portfolio_is}

-- ---- the settlement
-- the gains are at least what is owed, with its sign turned, less a tick for each position
gained : (o S G : ℤ) (D L k : ℕ) → 1 ≤ D → (o +ℤ pos (D * L)) ≤ℤ (S *ℤ pos (D * 1)) → neg_ℤ o ≤ℤ ((G +ℤ pos k) *ℤ pos D) → neg_ℤ S ≤ℤ (G +ℤ pos k)
gained o S G D L k some most lost = *ℤ_cancel_le D (neg_ℤ S) (G +ℤ pos k) some (omega (arith, ints, products, most, lost))

left : (R m k : ℕ) (S G balance : ℤ) → pos (R + positive_part (S +ℤ pos (k + 2 * m))) ≤ℤ balance → neg_ℤ S ≤ℤ (G +ℤ pos k) → pos 0 ≤ℤ (balance +ℤ G)
left R m k S G balance enough gains = omega (arith, ints, enough, gains, positive_part_above (S +ℤ pos (k + 2 * m)))

not_below : (p : Portfolio) (prices : List ℕ) (balance : ℤ) → length prices ≡ p.underlyings → All (λ price. price ≤ MAX_SETTLEMENT_PRICE) prices
    → IsEnough p balance → pos 0 ≤ℤ (balance +ℤ total (gain_at prices) p.positions)
not_below p prices balance on within e =
    let fills = fills_of p.positions in
    let D = common_denominator fills in
    let some = common_positive fills (fills_defined p.positions) in
    let parts = divides fills in
    let most = e.covers 1 prices (record { settlement = omega arith; on = on; within = λ k d lt. omega (arith, within k d lt) }) D (record { some = some; divides = parts }) in
    let gains = gained (owed_over D p.positions (1 ∷ prices)) e.bound (total (gain_at prices) p.positions) D (losses_at (1 ∷ prices) p.live) (length p.positions) some most (all_lose D prices p.positions parts) in
    left (reserve_of p.live) (length p.live) (length p.positions) e.bound (total (gain_at prices) p.positions) balance e.asked gains

pub nothing_left : (n : ℕ) (balance : ℤ) → pos 0 ≤ℤ balance → IsEnough (portfolio n [] []) balance
nothing_left n balance le = record {
  bound = pos 0;
  covers = λ t s box D is. omega (arith, ints);
  asked = omega (arith, ints, le);
}

pub settlements_keep : SettlementsKeep
settlements_keep before after prices balance is e =
    let same = portfolio_is after after.underlyings [] [] refl is.paid_out is.lapsed in
    let b = balance +ℤ total (gain_at prices) before.positions in
    subst (λ (p : Portfolio). IsEnough p b) (sym same) (nothing_left after.underlyings b (not_below before prices balance is.on is.within e))
