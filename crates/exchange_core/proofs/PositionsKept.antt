-- Positions stay kept, as accounts and markets come and change.
use Rattle.std.proofs.Common.{◌≡◌, ℕ, List, [], ◌∷◌, ◌++◌, Bool, true, false, cond, not, if◌then◌else◌, nat_eq, None, Some, refl, sym, ap, ◌∙◌, subst, arith, true≢false}
use Rattle.std.specs.List.{All}
use Rattle.std.specs.Map.{lookup}
use Rattle.std.specs.Option.{option_map_or}
use Rattle.std.proofs.lemmas.Bool.Decides.{nat_tests}
use Rattle.std.proofs.lemmas.List.Elements.{All-nil, All-cons, All-head, All-tail, All-weaker}
use Rattle.cash_ledger.specs.Ledger.{is_open}
use Rattle.form.specs.declared.orders.Order.{Order}
use Rattle.order_book.specs.Markets.{MarketState, Markets, settled_market, changed_in, with_live, with_live_in, without, without_in_each}
use Rattle.settlement.specs.declared.position.Position.{Position}
use Rattle.settlement.specs.Positions.{outside}
use Rattle.exchange_core.specs.Kept.{IsPositionKept, ArePositionsKept, on_if_trading, trading_on}
use Rattle.exchange_core.proofs.LiveAccounts.{any-push}

-- ---- the market of a position
module _ (q : ℕ) where
  -- a market that stays on its underlyings and unsettled, where it is the one asked for
  trading-changed : (change : MarketState → MarketState) (market : ℕ) → ((m : MarketState) → nat_eq q market ≡ true → on_if_trading (change m) ≡ on_if_trading m)
      → (markets : Markets) → trading_on (changed_in change market markets) q ≡ trading_on markets q
  trading-changed change market same [] = refl
  trading-changed change market same (m ∷ markets) = by (nat_eq market m.0) refl (nat_eq q m.0) refl (trading-changed change market same markets)
    where
      own : nat_eq market m.0 ≡ true → nat_eq q m.0 ≡ true → nat_eq q market ≡ true
      own a b = grind (arith, nat_tests)

      by : (b : Bool) → nat_eq market m.0 ≡ b → (c : Bool) → nat_eq q m.0 ≡ c → trading_on (changed_in change market markets) q ≡ trading_on markets q
          → option_map_or on_if_trading (lookup (nat_eq q) (if b then (m.0, change m.1) ∷ markets else m ∷ changed_in change market markets)) None
          ≡ option_map_or on_if_trading (cond c (Some m.1) (lookup (nat_eq q) markets)) None
      by true is true at later =
          ap (λ c. option_map_or on_if_trading (cond c (Some (change m.1)) (lookup (nat_eq q) markets)) None) at ∙ same m.1 (own is at)
      by true is false at later = ap (λ c. option_map_or on_if_trading (cond c (Some (change m.1)) (lookup (nat_eq q) markets)) None) at
      by false is true at later = ap (λ c. option_map_or on_if_trading (cond c (Some m.1) (lookup (nat_eq q) (changed_in change market markets))) None) at
      by false is false at later = ap (λ c. option_map_or on_if_trading (cond c (Some m.1) (lookup (nat_eq q) (changed_in change market markets))) None) at ∙ later

  trading-without : (number : ℕ) (markets : Markets) → trading_on (without_in_each number markets) q ≡ trading_on markets q
  trading-without number [] = refl
  trading-without number (m ∷ markets) =
      elim (nat_eq q m.0) as (λ c.
      option_map_or on_if_trading (cond c (Some (with_live m.1 (without number m.1.live))) (lookup (nat_eq q) (without_in_each number markets))) None
      ≡ option_map_or on_if_trading (cond c (Some m.1) (lookup (nat_eq q) markets)) None) [ true ↦ refl | false ↦ trading-without number markets ]

  trading-more : (n : ℕ) (new : ℕ × MarketState) (markets : Markets) → trading_on markets q ≡ Some n → trading_on (markets ++ new ∷ []) q ≡ Some n
  trading-more n new [] there = cc
  trading-more n new (m ∷ markets) there =
      let Goal : Bool → Type 0 = λ c. option_map_or on_if_trading (cond c (Some m.1) (lookup (nat_eq q) markets)) None ≡ Some n
      → option_map_or on_if_trading (cond c (Some m.1) (lookup (nat_eq q) (markets ++ new ∷ []))) None ≡ Some n in
      (elim (nat_eq q m.0) as Goal [ true ↦ λ h. h | false ↦ λ h. trading-more n new markets h ]) there

-- a market that is there and not settled
pub trading-here : (market : ℕ) (markets : Markets) (m : MarketState) → lookup (nat_eq market) markets ≡ Some m → m.settled ≡ false → trading_on markets market ≡ Some m.underlyings
trading-here market markets m found unsettled =
    ap (λ r. option_map_or on_if_trading r None) found ∙ ap (λ b. if b then None else Some m.underlyings) unsettled

-- and still so without its live orders
pub trading-emptied : (market : ℕ) (markets : Markets) (m : MarketState) → lookup (nat_eq market) markets ≡ Some m → m.settled ≡ false → trading_on (with_live_in market [] markets) market ≡ Some m.underlyings
trading-emptied market markets m found unsettled =
    trading-changed market (λ s. with_live s []) market (λ s h. refl) markets ∙ trading-here market markets m found unsettled

-- ---- one position
module _ (accounts new : List ℕ) (markets after : Markets) where
  moved : (p : Position) → (is_open accounts p.account ≡ true → is_open new p.account ≡ true) → ((n : ℕ) → trading_on markets p.market ≡ Some n → trading_on after p.market ≡ Some n)
      → IsPositionKept accounts markets p → IsPositionKept new after p
  moved p opened traded kept = record {
    account = opened kept.account;
    underlyings = kept.underlyings;
    trading = traded kept.underlyings kept.trading;
    forms = kept.forms;
    options = kept.options;
    filled = kept.filled;
    held = kept.held;
  }

  all_moved : ((p : Position) → is_open accounts p.account ≡ true → is_open new p.account ≡ true) → ((p : Position) (n : ℕ) → trading_on markets p.market ≡ Some n → trading_on after p.market ≡ Some n)
      → (positions : List Position) → ArePositionsKept accounts markets positions → ArePositionsKept new after positions
  all_moved opened traded positions kept = All-weaker (IsPositionKept accounts markets) (IsPositionKept new after) (λ p. moved p (opened p) (traded p)) positions kept

-- ---- all positions
module _ (accounts : List ℕ) where
  pub positions-open : (account : ℕ) (markets : Markets) (positions : List Position) → ArePositionsKept accounts markets positions → ArePositionsKept (accounts ++ account ∷ []) markets positions
  positions-open account markets = all_moved accounts (accounts ++ account ∷ []) markets markets (λ p held. any-push p.account accounts account held) (λ p n there. there)

  pub positions-market : (markets : Markets) (new : ℕ × MarketState) (positions : List Position) → ArePositionsKept accounts markets positions → ArePositionsKept accounts (markets ++ new ∷ []) positions
  positions-market markets new = all_moved accounts accounts markets (markets ++ new ∷ []) (λ p held. held) (λ p n there. trading-more p.market n new markets there)

  pub positions-live : (market : ℕ) (live : List Order) (markets : Markets) (positions : List Position) → ArePositionsKept accounts markets positions
      → ArePositionsKept accounts (with_live_in market live markets) positions
  positions-live market live markets =
      all_moved accounts accounts markets (with_live_in market live markets) (λ p held. held)
      (λ p n there. trading-changed p.market (λ m. with_live m live) market (λ m h. refl) markets ∙ there)

  pub positions-cancel : (number : ℕ) (markets : Markets) (positions : List Position) → ArePositionsKept accounts markets positions → ArePositionsKept accounts (without_in_each number markets) positions
  positions-cancel number markets = all_moved accounts accounts markets (without_in_each number markets) (λ p held. held) (λ p n there. trading-without p.market number markets ∙ there)

  -- the positions of a market that is settled are taken out
  pub positions-closed : (market : ℕ) (markets : Markets) (positions : List Position) → ArePositionsKept accounts markets positions
      → ArePositionsKept accounts (changed_in settled_market market markets) (outside market positions)
  positions-closed market markets [] kept = All-nil (IsPositionKept accounts (changed_in settled_market market markets))
  positions-closed market markets (p ∷ positions) kept =
      by (nat_eq p.market market) refl (positions-closed market markets positions (All-tail (IsPositionKept accounts markets) p positions kept))
    where
      After : Position → Type 0
      After = IsPositionKept accounts (changed_in settled_market market markets)

      stays : nat_eq p.market market ≡ false → After p
      stays other =
          moved accounts accounts markets (changed_in settled_market market markets) p (λ held. held)
          (λ n there. trading-changed p.market settled_market market (λ m same. absurd (true≢false (sym same ∙ other))) markets ∙ there)
          (All-head (IsPositionKept accounts markets) p positions kept)

      by : (b : Bool) → nat_eq p.market market ≡ b → All After (outside market positions) → All After (cond (not b) (p ∷ outside market positions) (outside market positions))
      by true is rest = rest
      by false is rest = All-cons After p (outside market positions) (stays is) rest

-- the same accounts, or the same markets
module _ (positions : List Position) where
  pub positions-same : {accounts new : List ℕ} {markets : Markets} → new ≡ accounts → ArePositionsKept accounts markets positions → ArePositionsKept new markets positions
  positions-same {markets = markets} same kept = subst (λ l. ArePositionsKept l markets positions) (sym same) kept

  pub positions-at : {accounts : List ℕ} {markets new : Markets} → new ≡ markets → ArePositionsKept accounts markets positions → ArePositionsKept accounts new positions
  positions-at {accounts = accounts} same kept = subst (λ l. ArePositionsKept accounts l positions) (sym same) kept
