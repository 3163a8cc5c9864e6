-- The live orders of a market, as some come and as some go.
use Rattle.std.proofs.Common.{◌≡◌, ◌≤◌, ℕ, ◌+◌, Bool, true, false, true≢false, cond, not, List, [], ◌∷◌, nat_eq, All, Contains, ◌⊎◌, inl, inr, Option, Some, None, if◌then◌else◌, refl, sym, ◌∙◌, subst, arith}
use Rattle.std.specs.List.{find}
use Rattle.std.specs.Map.{lookup}
use Rattle.std.specs.Option.{option_map_or}
use Rattle.std.proofs.lemmas.Bool.Decides.{nat_tests}
use Rattle.std.proofs.lemmas.List.Elements.{All-nil, All-cons, All-contains, All-contains_itself, All-filter, All-weaker, Contains-append_right, Contains-get_or}
use Rattle.std.proofs.lemmas.List.Folds.{list_any_at}
use Rattle.form.specs.declared.orders.Order.{Order}
use Rattle.order_book.specs.Markets.{MarketState, Markets, changed_in, has_number, live_in, live_orders, without}
use Rattle.order_book.specs.Numbers.{number_count}
use Rattle.order_book.proofs.LiveOrders.{none_counted}
use Rattle.exchange_core.proofs.LiveAccounts.{All-live_in}

-- what holds of the live orders of a market, as one of the markets changes
module _ (Q : ℕ → List Order → Type 0) (change : MarketState → MarketState) (changed market : ℕ) (new : (m : MarketState) → Q changed (change m).live) where
  pub live_changed : (markets : Markets) → Q market (live_in market markets) → Q market (live_in market (changed_in change changed markets))
  live_changed [] old = old
  live_changed (m ∷ markets) old = by (nat_eq changed m.0) refl (nat_eq market m.0) refl old (live_changed markets)
    where
      by : (b : Bool) → nat_eq changed m.0 ≡ b → (c : Bool) → nat_eq market m.0 ≡ c → Q market (option_map_or (λ (s : MarketState). s.live) (cond c (Some m.1) (lookup (nat_eq market) markets)) [])
          → (Q market (live_in market markets) → Q market (live_in market (changed_in change changed markets)))
          → Q market (live_in market (if b then (m.0, change m.1) ∷ markets else m ∷ changed_in change changed markets))
      by true here true there h later = let same : changed ≡ market = grind (arith, nat_tests) in rw there (subst (λ k. Q k (change m.1).live) same (new m.1))
      by true here false there h later = rw there h
      by false here true there h later = rw there h
      by false here false there h later = rw there (later h)

-- ---- one goes
module _ (number : ℕ) where
  -- an order without the number is left
  abbrev IsLeft : List Order → Order → Type 0
  IsLeft left order = has_number number order ≡ false → Contains left order

  all_left : (orders : List Order) → All (IsLeft (without number orders)) orders
  all_left [] = All-nil (IsLeft [])
  all_left (o ∷ orders) = by (nat_eq number o.id) refl (all_left orders)
    where
      left : List Order
      left = without number orders

      by : (b : Bool) → nat_eq number o.id ≡ b → All (IsLeft left) orders → All (IsLeft (cond (not b) (o ∷ left) left)) (o ∷ orders)
      by true is later = All-cons (IsLeft left) o orders (λ other. absurd (true≢false (sym is ∙ other))) later
      by false is later =
          All-cons (IsLeft (o ∷ left)) o orders (λ other. Contains-get_or (o ∷ left) 0 o (omega arith))
          (All-weaker (IsLeft left) (IsLeft (o ∷ left)) (λ x at other. Contains-append_right (o ∷ []) left x (at other)) orders later)

  -- the order with the number is the one that is found
  abbrev IsFound : Option Order → Order → Type 0
  IsFound found order = has_number number order ≡ true → found ≡ Some order

  all_found : (orders : List Order) → number_count number orders ≤ 1 → All (IsFound (find (has_number number) orders)) orders
  all_found [] once = All-nil (IsFound None)
  all_found (o ∷ orders) once = by (nat_eq number o.id) refl once (all_found orders)
    where
      found : Option Order
      found = find (has_number number) orders

      by : (b : Bool) → nat_eq number o.id ≡ b → (if b then 1 else 0) + number_count number orders ≤ 1 → (number_count number orders ≤ 1 → All (IsFound found) orders)
          → All (IsFound (cond b (Some o) found)) (o ∷ orders)
      by true is h later =
          let none = none_counted number orders (omega (arith, h)) in
          All-cons (IsFound (Some o)) o orders (λ numbered. refl) (λ k d lt numbered. absurd (true≢false (sym (list_any_at (has_number number) orders k d lt numbered) ∙ none)))
      by false is h later = All-cons (IsFound found) o orders (λ numbered. absurd (true≢false (sym numbered ∙ is))) (later (omega (arith, h)))

  -- one that is left was there
  pub was_there : (orders : List Order) (order : Order) → Contains (without number orders) order → Contains orders order
  was_there orders order at = All-contains (Contains orders) (without number orders) order (All-filter (λ o. not (has_number number o)) (Contains orders) orders (All-contains_itself orders)) at

  -- one that was live in a market is left, or is the one that is found
  pub left_or_found : (market : ℕ) (markets : Markets) (order : Order) → number_count number (live_orders markets) ≤ 1 → Contains (live_in market markets) order
      → Contains (without number (live_in market markets)) order ⊎ (find (has_number number) (live_orders markets) ≡ Some order)
  left_or_found market markets order once at = by (has_number number order) refl
    where
      live : List Order
      live = live_in market markets

      Found : Order → Type 0
      Found = IsFound (find (has_number number) (live_orders markets))

      by : (b : Bool) → has_number number order ≡ b → Contains (without number live) order ⊎ (find (has_number number) (live_orders markets) ≡ Some order)
      by true is = inr (All-contains Found live order (All-live_in Found market markets (all_found (live_orders markets) once)) at is)
      by false is = inl (All-contains (IsLeft (without number live)) live order (all_left live) at is)
