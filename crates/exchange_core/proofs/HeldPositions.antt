-- The positions that an account has in a market are on its underlyings.
use Rattle.std.proofs.Common.{◌≡◌, ℕ, ◌+◌, ◌≤◌, List, [], ◌∷◌, Bool, true, false, nat_eq, if◌then◌else◌, Option, Some, None, option_map, refl, sym, ap, ◌∙◌, subst, lit≤}
use Rattle.std.specs.List.{All}
use Rattle.std.specs.Map.{lookup}
use Rattle.std.specs.Option.{option_map_or}
use Rattle.std.proofs.lemmas.Bool.{and_parts, eqb-true}
use Rattle.std.proofs.lemmas.List.Elements.{All-nil, All-cons, All-head, All-tail}
use Rattle.form.specs.Payoff.{IsOnCount}
use Rattle.order_book.specs.Book.{BookState, info_of, market_of}
use Rattle.order_book.specs.declared.market.MarketInfo.{MarketInfo}
use Rattle.order_book.specs.Markets.{MarketState}
use Rattle.order_book.proofs.BookKept.{market_kept}
use Rattle.settlement.specs.declared.position.Position.{Position}
use Rattle.settlement.specs.Positions.{IsHeldPosition}
use Rattle.exchange_core.specs.ExchangeState.{ExchangeState}
use Rattle.exchange_core.specs.Held.{is_held_by, positions_of, underlyings_in}
use Rattle.exchange_core.specs.Kept.{IsKept, IsPositionKept, on_if_trading, trading_on}

-- a fact of each position of the market that is kept
pub held_have : (K P : Position → Type 0) (account market : ℕ) → ((p : Position) → K p → p.market ≡ market → P p)
    → (ps : List Position) → All K ps → All P (positions_of account market ps)
held_have K P account market each [] kept = All-nil P
held_have K P account market each (p ∷ ps) kept =
    by (is_held_by account market p) refl (held_have K P account market each ps (All-tail K p ps kept))
  where
    by : (b : Bool) → is_held_by account market p ≡ b → All P (positions_of account market ps)
        → All P (if b then p ∷ positions_of account market ps else positions_of account market ps)
    by true e later =
        let own = eqb-true p.market market (and_parts (nat_eq p.account account) (nat_eq p.market market) e).1 in
        All-cons P p (positions_of account market ps) (each p (All-head K p ps kept) own) later
    by false e later = later

-- the underlyings of a market that is not settled
trading_underlyings : (book : BookState) (market n : ℕ) → trading_on book.markets market ≡ Some n → underlyings_in book market ≡ n
trading_underlyings book market n = by (lookup (nat_eq market) book.markets)
  where
    is : (m : MarketState) (settled : Bool) → (if settled then None else Some m.underlyings) ≡ Some n → m.underlyings ≡ n
    is m true h = cc
    is m false h = cc

    by : (o : Option MarketState) → option_map_or on_if_trading o None ≡ Some n → option_map_or (λ (info : MarketInfo). info.underlyings) (option_map info_of o) 1 ≡ n
    by None h = cc
    by (Some m) h = is m m.settled h

pub position_is_on : (accounts : List ℕ) (book : BookState) (market : ℕ) (p : Position) → IsPositionKept accounts book.markets p → p.market ≡ market
    → IsOnCount (underlyings_in book market + 1) p.bundle
position_is_on accounts book market p kept own =
    let there : trading_on book.markets market ≡ Some kept.underlyings = ap (trading_on book.markets) (sym own) ∙ kept.trading in
    subst (λ (n : ℕ). IsOnCount (n + 1) p.bundle) (sym (trading_underlyings book market kept.underlyings there)) kept.forms

pub held_are_on : (state : ExchangeState) (account market : ℕ) → IsKept state → All (λ (p : Position). IsOnCount (underlyings_in state.book market + 1) p.bundle) (positions_of account market state.positions)
held_are_on state account market kept =
    held_have (IsPositionKept state.accounts state.book.markets) (λ (p : Position). IsOnCount (underlyings_in state.book market + 1) p.bundle) account market
    (λ p one own. position_is_on state.accounts state.book market p one own) state.positions kept.positions

pub held_are_held : (state : ExchangeState) (account market : ℕ) → IsKept state → All IsHeldPosition (positions_of account market state.positions)
held_are_held state account market kept =
    held_have (IsPositionKept state.accounts state.book.markets) IsHeldPosition account market (λ p one own. one.held) state.positions kept.positions

-- and they are from 1 to 8
pub underlyings_few : (state : ExchangeState) (market : ℕ) → IsKept state → (1 ≤ underlyings_in state.book market) × (underlyings_in state.book market ≤ 8)
underlyings_few state market kept = by (market_of state.book market) refl
  where
    by : (o : Option MarketState) → market_of state.book market ≡ o
        → (1 ≤ option_map_or (λ (info : MarketInfo). info.underlyings) (option_map info_of o) 1) × (option_map_or (λ (info : MarketInfo). info.underlyings) (option_map info_of o) 1 ≤ 8)
    by None found = (lit≤ tt, lit≤ tt)
    by (Some m) found = let is = market_kept state.book kept.orders.book market m found in (is.some, is.few)
