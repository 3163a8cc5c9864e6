-- Limits that get better for a match: a higher bid, a lower ask. What fills cover, and the greatest
-- surplus, at them.
use Rattle.std.specs.Prelude.{ℕ, ◌≤◌, List, ◌∷◌, ◌++◌}
use Rattle.std.specs.List.{zip}
use Rattle.exact_num.specs.Fraction.{Fraction, AtMost}
use Rattle.form.specs.declared.orders.Side.{Side}
use Rattle.form.specs.declared.orders.Side.TheVariants.{Buy, Sell}
use Rattle.form.specs.declared.orders.Order.{Order}
use Rattle.clearing_model.specs.Clearing.{AreFills, Covers, IsGreatest}

-- the order with another limit
abbrev pub at_price : Order → ℕ → Order
at_price order price = record {
  id = order.id;
  account = order.account;
  side = order.side;
  bundle = order.bundle;
  price = price;
  quantity = order.quantity;
}

-- for a match the price q is no worse than p: a bid is at least as high, an ask at least as low
abbrev pub IsNoWorse : Side → ℕ → ℕ → Type 0
IsNoWorse Buy p q = p ≤ q
IsNoWorse Sell p q = q ≤ p

-- g over F are fills of the orders, and cover the surplus S
abbrev pub FillsCoverAt : ℕ → List Order → List ℕ → ℕ → Fraction → Type 0
FillsCoverAt n orders g F S = AreFills orders g F × Covers n (zip orders g) F S

-- what fills cover, they cover where one order's limit is no worse for a match
abbrev pub BetterLimitsCover : Type 0
BetterLimitsCover =
    (n : ℕ) (front back : List Order) (order : Order) (price : ℕ) → IsNoWorse order.side order.price price
    → (g : List ℕ) (F : ℕ) (S : Fraction)
    → FillsCoverAt n (front ++ order ∷ back) g F S
    → FillsCoverAt n (front ++ at_price order price ∷ back) g F S

-- so the greatest surplus does not fall
abbrev pub GreatestDoesNotFall : Type 0
GreatestDoesNotFall =
    (n : ℕ) (front back : List Order) (order : Order) (price : ℕ) → IsNoWorse order.side order.price price
    → (S T : Fraction)
    → IsGreatest n (front ++ order ∷ back) S → IsGreatest n (front ++ at_price order price ∷ back) T
    → AtMost S T
