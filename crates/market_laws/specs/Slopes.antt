-- The greatest surplus as the limit of one order changes. The line through an optimum, whose slope
-- is the order's fill, is nowhere above it: so it is convex.
use Rattle.std.specs.Prelude.{ℕ, ◌*◌, ◌-◌, ◌≡◌, ◌≤◌, List, ◌∷◌, ◌++◌, length, ℤ, pos, ◌+ℤ◌, ◌-ℤ◌, ◌*ℤ◌}
use Rattle.exact_num.specs.Fraction.{Fraction, IsDefined, AtMost, over, plain_sum}
use Rattle.form.specs.declared.orders.Side.{Side}
use Rattle.form.specs.declared.orders.Order.{Order}
use Rattle.clearing_model.specs.Clearing.{IsGreatest, for_side}
use Rattle.market_laws.specs.Limits.{at_price, FillsCoverAt}

-- what the amount a of an order earns more at the limit q than at p
abbrev pub earned_more : Side → ℕ → ℕ → ℕ → ℤ
earned_more side p q a = for_side side (pos q -ℤ pos p) *ℤ pos a

-- T is S and what the fill a / F earns more
abbrev pub IsOnLine : Side → ℕ → ℕ → ℕ → ℕ → Fraction → Fraction → Type 0
IsOnLine side p q a F S T =
    T.numerator *ℤ pos (S.denominator * F) ≡ (S.numerator *ℤ pos F +ℤ earned_more side p q a *ℤ pos S.denominator) *ℤ pos T.denominator

-- what fills cover changes with one order's limit by what its fill earns more
abbrev pub FillsCoverAlongLines : Type 0
FillsCoverAlongLines =
    (n : ℕ) (front back : List Order) (order : Order) (price : ℕ) (before after : List ℕ) (a F : ℕ) (S T : Fraction)
    → length before ≡ length front → IsDefined S → IsOnLine order.side order.price price a F S T
    → FillsCoverAt n (front ++ order ∷ back) (before ++ a ∷ after) F S
    → FillsCoverAt n (front ++ at_price order price ∷ back) (before ++ a ∷ after) F T

-- so the greatest surplus at any limit is on the line through an optimum, whose slope is the
-- order's fill, or above it
abbrev pub GreatestIsAboveLines : Type 0
GreatestIsAboveLines =
    (n : ℕ) (front back : List Order) (order : Order) (price : ℕ) (before after : List ℕ) (a F : ℕ) (S T R : Fraction)
    → length before ≡ length front → IsDefined S → IsDefined T → IsOnLine order.side order.price price a F S T
    → FillsCoverAt n (front ++ order ∷ back) (before ++ a ∷ after) F S
    → IsGreatest n (front ++ at_price order price ∷ back) R
    → AtMost T R

-- p times as much, p being a whole number
abbrev pub times : ℕ → Fraction → Fraction
times p x = over (pos p *ℤ x.numerator) x.denominator

-- and between two limits it is on the line between their greatest surpluses, or below it
abbrev pub GreatestIsConvex : Type 0
GreatestIsConvex =
    (n : ℕ) (front back : List Order) (order : Order) (p q r : ℕ) → p ≤ q → q ≤ r → (P Q R : Fraction)
    → IsGreatest n (front ++ at_price order p ∷ back) P
    → IsGreatest n (front ++ at_price order q ∷ back) Q
    → IsGreatest n (front ++ at_price order r ∷ back) R
    → AtMost (times (r - p) Q) (plain_sum (times (r - q) P) (times (q - p) R))
