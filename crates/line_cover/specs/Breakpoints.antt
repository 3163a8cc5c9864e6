-- The states of a market on one underlying: the price 0, each price where a payoff bends, and the
-- slope beyond the last.
use Rattle.std.specs.Prelude.{ℕ, ◌*◌, ◌≡◌, ◌≤◌, List, [], ◌∷◌, ◌++◌, length, nat_lt, get_or, Bool, true, if◌then◌else◌, ℤ, pos, ◌*ℤ◌, ◌≤ℤ◌}
use Rattle.std.specs.List.{fold, All}
use Rattle.exact_num.specs.Fraction.{IsLowest, over}
use Rattle.form.specs.declared.orders.Order.{Order}
use Rattle.form.specs.Vector.{scale_of}
use Rattle.clearing_model.specs.Clearing.{SignedFill, signed_net}
use Rattle.line_cover.specs.Line.{breakpoints_of}

-- the entry s of a state (t, s)
abbrev pub price_entry : List ℕ → ℕ
price_entry z = get_or z 1 0

-- whether the price s / t of y is below that of z
abbrev pub is_below : List ℕ → List ℕ → Bool
is_below y z = nat_lt (price_entry y * scale_of z) (price_entry z * scale_of y)

-- states in rising price and one more in its place, unless one of its price is there
unfoldable pub insert : List (List ℕ) → List ℕ → List (List ℕ)
insert [] z = z ∷ []
insert (y ∷ ys) z =
    let later = insert ys z in
    if is_below z y then z ∷ y ∷ ys else if is_below y z then y ∷ later else y ∷ ys

-- the states in rising price, each once
unfoldable pub in_rising_price : List (List ℕ) → List (List ℕ)
in_rising_price zs = fold insert [] zs

-- the price 0
abbrev pub first_state : List ℕ
first_state = 1 ∷ 0 ∷ []

-- the slope beyond all prices
abbrev pub last_state : List ℕ
last_state = 0 ∷ 1 ∷ []

-- the states after the first: each distinct breakpoint in rising price, and the slope
abbrev pub later_states : List Order → List (List ℕ)
later_states orders = in_rising_price (breakpoints_of orders) ++ (last_state ∷ [])

-- all of them
abbrev pub line_states : List Order → List (List ℕ)
line_states orders = first_state ∷ later_states orders

-- a state (t, s) whose price s / t is above 0 and in lowest terms
pub record IsPriced (z : List ℕ) : Type 0 where
  pub entries : length z ≡ 2
  pub lowest : IsLowest (over (pos (price_entry z)) (scale_of z))
  pub above_zero : 1 ≤ price_entry z

-- each price is below all that follow
abbrev pub Rise : List (List ℕ) → Type 0
Rise [] = Unit {0}
Rise (z ∷ zs) = All (λ y. is_below z y ≡ true) zs × Rise zs

-- the net of the fills is at most the liability at a state
abbrev pub HoldsAtState : List SignedFill → ℤ → List ℕ → Type 0
HoldsAtState fills L z = signed_net fills z ≤ℤ (L *ℤ pos (scale_of z))
