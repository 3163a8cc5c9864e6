-- Live orders that are taken out: less is lost, reserved and asked.
use Rattle.std.proofs.Common.{ℕ, ◌+◌, ◌*◌, ◌≤◌, Bool, true, false, cond, List, [], ◌∷◌, length, filter, arith, ℤ, pos, ◌+ℤ◌, sym, subst}
use Rattle.std.proofs.lemmas.Int.{ints}
use Rattle.form.specs.declared.orders.Order.{Order}
use Rattle.settlement.specs.declared.position.Position.{Position}
use Rattle.portfolio_margin.specs.Owed.{owed_over}
use Rattle.account_need.specs.Exposure.{Portfolio, IsEnough, losses_at, reserve_of}
use Rattle.account_need.specs.Moves.{CancelsKeep}
use Rattle.account_need.proofs.Portfolios.{portfolio, portfolio_is, part_mono, less_exposed}

record IsLess (z : List ℕ) (few all : List Order) : Type 0 where
  losses : losses_at z few ≤ losses_at z all
  reserve : reserve_of few ≤ reserve_of all
  count : length few ≤ length all

fewer : (z : List ℕ) (stays : Order → Bool) (live : List Order) → IsLess z (filter stays live) live
fewer z stays [] = record { losses = omega arith; reserve = omega arith; count = omega arith }
fewer z stays (o ∷ live) = by (stays o) (fewer z stays live)
  where
    by : (b : Bool) → IsLess z (filter stays live) live → IsLess z (cond b (o ∷ filter stays live) (filter stays live)) (o ∷ live)
    by true h = record { losses = omega (arith, h.losses); reserve = omega (arith, h.reserve); count = omega (arith, h.count) }
    by false h = record { losses = omega (arith, h.losses); reserve = omega (arith, h.reserve); count = omega (arith, h.count) }

cancelled : (n : ℕ) (ps : List Position) (live : List Order) (stays : Order → Bool) (balance : ℤ) → IsEnough (portfolio n ps live) balance → IsEnough (portfolio n ps (filter stays live)) balance
cancelled n ps live stays balance e =
    let less = fewer [] stays live in
    let parts = part_mono (e.bound +ℤ pos (length ps + 2 * length (filter stays live))) (e.bound +ℤ pos (length ps + 2 * length live)) (omega (arith, ints, less.count)) in
    record {
      bound = e.bound;
      covers = λ t s box D is. less_exposed (owed_over D ps (t ∷ s)) _ D (losses_at (t ∷ s) (filter stays live)) (losses_at (t ∷ s) live) (fewer (t ∷ s) stays live).losses (e.covers t s box D is);
      asked = omega (arith, ints, e.asked, less.reserve, parts);
    }

pub cancels_keep : CancelsKeep
cancels_keep before after stays balance is e =
    let same = portfolio_is after before.underlyings before.positions (filter stays before.live) is.underlyings is.positions is.live in
    subst (λ (p : Portfolio). IsEnough p balance) (sym same) (cancelled before.underlyings before.positions before.live stays balance e)
