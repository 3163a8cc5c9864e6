-- The positions of a market that is settled: each is paid out at the prices, from an account that
-- is open.
use Rattle.std.proofs.Common.{◌≡◌, ℕ, ◌+◌, ◌≤◌, List, [], ◌∷◌, Bool, true, false, cond, length, nat_eq, Some, refl, sym, ap, ◌∙◌, subst}
use Rattle.std.specs.List.{All}
use Rattle.std.proofs.lemmas.List.Elements.{All-nil, All-cons, All-head, All-tail, All-map, All-weaker}
use Rattle.std.proofs.lemmas.Bool.{eqb-true}
use Rattle.form.specs.Payoff.{IsOnCount}
use Rattle.frac.specs.Value.{fraction_of}
use Rattle.order_book.specs.Book.{BookState, market_of}
use Rattle.order_book.specs.Markets.{MarketState}
use Rattle.limits.specs.declared.TheConstants.{MAX_SETTLEMENT_PRICE}
use Rattle.settlement.specs.declared.position.Position.{Position}
use Rattle.settlement.specs.Payout.{IsSettledAt}
use Rattle.settlement.specs.Positions.{AreSettledAt, held_in, paid_out, payouts_of}
use Rattle.settlement.proofs.Gains.{gain_small}
use Rattle.exchange_core.specs.Kept.{ArePositionsKept, IsPaidOut, IsPositionKept, trading_on}
use Rattle.exchange_core.proofs.PositionsKept.{trading-here}

module _ (accounts : List ℕ) (book : BookState) (market : ℕ) (m : MarketState) (found : market_of book market ≡ Some m) (unsettled : m.settled ≡ false)
    (prices : List ℕ) (count : length prices ≡ m.underlyings) (within : All (λ p. p ≤ MAX_SETTLEMENT_PRICE) prices) where
  abbrev IsKeptOne : Position → Type 0
  IsKeptOne = IsPositionKept accounts book.markets

  -- kept, and to be settled at the prices
  abbrev IsSettledOne : Position → Type 0
  IsSettledOne position = IsKeptOne position × IsSettledAt prices position.bundle

  settled : (p : Position) → IsKeptOne p → p.market ≡ market → IsSettledAt prices p.bundle
  settled p kept own =
      let there : Some m.underlyings ≡ Some kept.underlyings = sym (trading-here market book.markets m found unsettled) ∙ ap (trading_on book.markets) (sym own) ∙ kept.trading in
      let same : m.underlyings ≡ kept.underlyings = cc in
      record {
        forms = subst (λ n. IsOnCount (n + 1) p.bundle) (sym (count ∙ same)) kept.forms;
        options = kept.options;
        within = within;
      }

  settled_ones : (positions : List Position) → ArePositionsKept accounts book.markets positions → All IsSettledOne (held_in market positions)
  settled_ones [] kept = All-nil IsSettledOne
  settled_ones (p ∷ positions) kept = by (nat_eq p.market market) refl (settled_ones positions (All-tail IsKeptOne p positions kept))
    where
      by : (b : Bool) → nat_eq p.market market ≡ b → All IsSettledOne (held_in market positions) → All IsSettledOne (cond b (p ∷ held_in market positions) (held_in market positions))
      by true is rest =
          let first = All-head IsKeptOne p positions kept in
          All-cons IsSettledOne p (held_in market positions) (first, settled p first (eqb-true p.market market is)) rest
      by false is rest = rest

  pub are_settled : (positions : List Position) → ArePositionsKept accounts book.markets positions → AreSettledAt market prices positions
  are_settled positions kept = All-weaker IsSettledOne (λ (p : Position). IsSettledAt prices p.bundle) (λ p s. s.1) (held_in market positions) (settled_ones positions kept)

  pub are_paid_out : (positions : List Position) → ArePositionsKept accounts book.markets positions → All (IsPaidOut accounts) (payouts_of market prices positions)
  are_paid_out positions kept =
      All-map (IsPaidOut accounts) (paid_out prices) (held_in market positions)
      (All-weaker IsSettledOne (λ (p : Position). IsPaidOut accounts (paid_out prices p))
      (λ p s. record { account = s.0.account; amount = gain_small p.side (fraction_of p.fill) p.bundle prices p.fill.lowest.positive s.0.held s.1 })
      (held_in market positions) (settled_ones positions kept))
