-- A session's accounts have few live orders in each market.
use Rattle.std.proofs.Common.{◌≡◌, ◌≤◌, ℕ, ◌+◌, Bool, true, false, cond, not, List, [], ◌∷◌, ◌++◌, length, take, drop, nat_eq, All, Option, Some, None, is_some, if◌then◌else◌, refl, sym, ap, arith}
use Rattle.std.specs.Map.{lookup}
use Rattle.std.specs.Option.{option_map_or}
use Rattle.std.proofs.lemmas.Bool.Decides.{nat_tests}
use Rattle.std.proofs.lemmas.List.{drop_at, take_at}
use Rattle.std.proofs.lemmas.List.Elements.{All-cons, All-drop, All-head, All-nil, All-same, All-tail, All-take}
use Rattle.cash_ledger.specs.Ledger.{is_open}
use Rattle.form.specs.declared.orders.Order.{Order}
use Rattle.order_book.specs.Markets.{MarketState, Markets, changed_in, live_in, live_orders, with_live, without, without_in_each}
use Rattle.exchange_core.specs.Kept.{IsOfOpen}
use Rattle.members.specs.Members.{Owned, owner_of, own_live, own_one, with_owner}

-- ---- of some orders
module _ (owners : Owned) (session : ℕ) where
  pub own_more : (orders : List Order) (order : Order) → own_live owners session (orders ++ order ∷ []) ≡ own_live owners session orders + own_one owners session order
  own_more [] order = omega arith
  own_more (o ∷ orders) order = let later = own_more orders order in omega (arith, later)

  -- where one is taken out there are no more
  pub own_left : (number : ℕ) (orders : List Order) → own_live owners session (without number orders) ≤ own_live owners session orders
  own_left number [] = omega arith
  own_left number (o ∷ orders) = by (nat_eq number o.id) (own_left number orders)
    where
      by : (b : Bool) → own_live owners session (without number orders) ≤ own_live owners session orders
          → own_live owners session (cond (not b) (o ∷ without number orders) (without number orders)) ≤ own_one owners session o + own_live owners session orders
      by true later = omega (arith, later)
      by false later = omega (arith, later)

-- ---- as another account is opened
owner_apart : (owners : Owned) (new : ℕ × ℕ) (account : ℕ) → nat_eq account new.0 ≡ false → owner_of (owners ++ new ∷ []) account ≡ owner_of owners account
owner_apart [] new account apart = ap (λ b. cond b (Some new.1) None) apart
owner_apart (o ∷ owners) new account apart = ap (cond (nat_eq account o.0) (Some o.1)) (owner_apart owners new account apart)

owner_other : (owners : Owned) (new session account : ℕ) → nat_eq account new ≡ false → owner_of (with_owner owners new session) account ≡ owner_of owners account
owner_other owners new session account apart = by (is_some (owner_of owners new))
  where
    by : (b : Bool) → owner_of (if b then owners else owners ++ (new, session) ∷ []) account ≡ owner_of owners account
    by true = refl
    by false = owner_apart owners (new, session) account apart

open_apart : (accounts : List ℕ) (new account : ℕ) → is_open accounts new ≡ false → is_open accounts account ≡ true → nat_eq account new ≡ false
open_apart accounts new account shut open_there = by (nat_eq account new) refl
  where
    by : (b : Bool) → nat_eq account new ≡ b → nat_eq account new ≡ false
    by true same = let is : account ≡ new = grind (arith, nat_tests) in absurd (cc)
    by false differ = differ

module _ (owners : Owned) (accounts : List ℕ) (new speaker session : ℕ) (shut : is_open accounts new ≡ false) where
  -- no order is of an account that was not open
  pub own_opened : (orders : List Order) → All (IsOfOpen accounts) orders → own_live (with_owner owners new speaker) session orders ≡ own_live owners session orders
  own_opened [] all = refl
  own_opened (o ∷ orders) all =
      let same = owner_other owners new speaker o.account (open_apart accounts new o.account shut (All-head (IsOfOpen accounts) o orders all)) in
      let here : own_one (with_owner owners new speaker) session o ≡ own_one owners session o = ap (λ (owner : Option ℕ). if option_map_or (nat_eq session) owner false then 1 else 0) same in
      let later = own_opened orders (All-tail (IsOfOpen accounts) o orders all) in
      omega (arith, here, later)

-- ---- of each market
module _ (Q : List Order → Type 0) where
  abbrev pub InEach : Markets → Type 0
  InEach markets = All (λ (m : ℕ × MarketState). Q m.1.live) markets

  abbrev Here : ℕ × MarketState → Type 0
  Here m = Q m.1.live

  pub in_live : Q [] → (market : ℕ) (markets : Markets) → InEach markets → Q (live_in market markets)
  in_live none market [] all = none
  in_live none market (m ∷ markets) all =
      elim (nat_eq market m.0) as (λ b. Q (option_map_or (λ (s : MarketState). s.live) (cond b (Some m.1) (lookup (nat_eq market) markets)) [])) [
        | true ↦ All-head Here m markets all
        | false ↦ in_live none market markets (All-tail Here m markets all)
      ]

  -- one market is changed
  pub in_changed : (market : ℕ) (change : MarketState → MarketState) → ((m : MarketState) → Q (change m).live) → (markets : Markets) → InEach markets → InEach (changed_in change market markets)
  in_changed market change new [] all = All-nil Here
  in_changed market change new (m ∷ markets) all =
      let back = All-tail Here m markets all in
      elim (nat_eq market m.0) as (λ b. InEach (if b then (m.0, change m.1) ∷ markets else m ∷ changed_in change market markets)) [
        | true ↦ All-cons Here (m.0, change m.1) markets (new m.1) back
        | false ↦ All-cons Here m (changed_in change market markets) (All-head Here m markets all) (in_changed market change new markets back)
      ]

  -- an order is taken out
  pub in_left : (number : ℕ) → ((orders : List Order) → Q orders → Q (without number orders)) → (markets : Markets) → InEach markets → InEach (without_in_each number markets)
  in_left number less [] all = All-nil Here
  in_left number less (m ∷ markets) all =
      All-cons Here (m.0, with_live m.1 (without number m.1.live)) (without_in_each number markets)
      (less m.1.live (All-head Here m markets all)) (in_left number less markets (All-tail Here m markets all))

-- what holds of the orders of each market, where something holds of all live orders
pub in_each_of : (P : Order → Type 0) (Q R : List Order → Type 0) → ((orders : List Order) → All P orders → Q orders → R orders) → (markets : Markets) → All P (live_orders markets) → InEach Q markets → InEach R markets
in_each_of P Q R goes [] live all = All-nil (λ (m : ℕ × MarketState). R m.1.live)
in_each_of P Q R goes (m ∷ markets) live all =
    let own = m.1.live in
    let others = live_orders markets in
    let QHere : ℕ × MarketState → Type 0 = λ m. Q m.1.live in
    let RHere : ℕ × MarketState → Type 0 = λ m. R m.1.live in
    let front = All-same P own (take (length own) (own ++ others)) (sym (take_at own others (length own) refl)) (All-take P (length own) (own ++ others) live) in
    let back = All-same P others (drop (length own) (own ++ others)) (sym (drop_at own others (length own) refl)) (All-drop P (length own) (own ++ others) live) in
    All-cons RHere m markets (goes own front (All-head QHere m markets all)) (in_each_of P Q R goes markets back (All-tail QHere m markets all))
