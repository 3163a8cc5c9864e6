-- Live orders by their numbers.
use Rattle.std.specs.Prelude.{ℕ, ◌+◌, ◌≡◌, ◌≤◌, List, [], ◌∷◌, map, nat_eq, if◌then◌else◌, Box}
use Rattle.std.specs.Global.{Global}
use Rattle.std.specs.List.{IsDistinct}
use Rattle.std.specs.Map.{keys_of, values_of}
use Rattle.form.specs.declared.orders.Order.{Order}

abbrev pub numbers_of : List Order → List ℕ
numbers_of orders = map (λ (order : Order). order.id) orders

-- the entries with the orders that their boxes hold
abbrev pub orders_in_boxes : List (ℕ × Box Order Global) → List (ℕ × Order)
orders_in_boxes entries = map (λ (e : ℕ × Box Order Global). (e.0, e.1.value)) entries

-- each order stands under its number, and no two under the same
pub record AreByNumber (entries : List (ℕ × Order)) : Type 0 where
  pub own : keys_of entries ≡ numbers_of (values_of entries)
  pub distinct : IsDistinct nat_eq (keys_of entries)

-- how many of the orders have the number
abbrev pub number_count : ℕ → List Order → ℕ
number_count number [] = 0
number_count number (order ∷ orders) = (if nat_eq number order.id then 1 else 0) + number_count number orders

-- no two of the orders have the same number
abbrev pub AreNumberedApart : List Order → Type 0
AreNumberedApart orders = (number : ℕ) → number_count number orders ≤ 1
