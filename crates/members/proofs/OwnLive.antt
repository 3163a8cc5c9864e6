-- The live orders of a session's accounts, as the calls of the exchange tell them.
use Rattle.std.proofs.Common.{◌≡◌, ◌≤◌, ◌<◌, ℕ, suc, ◌+◌, Bool, true, false, not, ◌&&◌, List, [], ◌∷◌, length, nat_le, Option, None, Some, if◌then◌else◌, refl, sym, ap, arith}
use Rattle.std.specs.Option.{option_map, option_map_or}
use Rattle.std.proofs.lemmas.Bool.Decides.{nat_tests}
use Rattle.form.specs.declared.orders.Order.{Order}
use Rattle.order_book.specs.declared.market.MarketInfo.{MarketInfo}
use Rattle.order_book.specs.Book.{BookState, info_in, info_of, market_of}
use Rattle.order_book.specs.Markets.{MarketState}
use Rattle.members.specs.Members.{Owned, has_own_live, own_live, owns}
use Rattle.members.specs.declared.quota.TheConstants.{MAX_OWN_LIVE}

-- no more than there are
pub own_at_most : (owners : Owned) (session : ℕ) (orders : List Order) → own_live owners session orders ≤ length orders
own_at_most owners session [] = omega arith
own_at_most owners session (order ∷ orders) = by (owns owners session order.account) (own_at_most owners session orders)
  where
    by : (b : Bool) → own_live owners session orders ≤ length orders → (if b then 1 else 0) + own_live owners session orders ≤ suc (length orders)
    by true later = omega arith
    by false later = omega arith

-- a test that is not passed, whatever stands before it
behind_false : (a b : Bool) → b ≡ false → false ≡ (a && b)
behind_false true b is = sym is
behind_false false b is = refl

module _ (owners : Owned) (session market : ℕ) (book : BookState) where
  abbrev Tells : Bool → Type 0
  Tells many = many ≡ has_own_live owners book session market

  -- where it has fewer live orders than a session may have
  pub few_told : (info : MarketInfo) → info_in book market ≡ Some info → info.live < MAX_OWN_LIVE → Tells false
  few_told info found few = by (market_of book market) found
    where
      below : (n : ℕ) → n < MAX_OWN_LIVE → nat_le MAX_OWN_LIVE n ≡ false
      below n less = grind (arith, nat_tests)

      by : (m : Option MarketState) → option_map info_of m ≡ Some info
          → false ≡ (option_map_or (λ (found : MarketInfo). not found.settled) (option_map info_of m) false
          && nat_le MAX_OWN_LIVE (own_live owners session (option_map_or (λ (s : MarketState). s.live) m [])))
      by None h = absurd (cc)
      by (Some m) h =
          let same : info_of m ≡ info = cc in
          let live : length m.live ≡ info.live = ap (λ (i : MarketInfo). i.live) same in
          let most = own_at_most owners session m.live in
          behind_false (not m.settled) (nat_le MAX_OWN_LIVE (own_live owners session m.live)) (below (own_live owners session m.live) (omega (arith, live, most, few)))
