-- Fills of a batch, what they earn and owe, and the surplus that they cover.
use Rattle.std.specs.Prelude.{ℕ, ◌*◌, ◌≡◌, ◌≤◌, List, ◌∷◌, length, map, ℤ, pos, neg_ℤ, ◌-ℤ◌, ◌*ℤ◌, ◌≤ℤ◌}
use Rattle.std.specs.List.{zip, All}
use Rattle.form.specs.Sums.{weigh_ℤ, total}
use Rattle.form.specs.Fraction.{Fraction, IsDefined, AtMost}
use Rattle.form.specs.declared.orders.Side.{Side}
use Rattle.form.specs.declared.orders.Side.TheVariants.{Buy, Sell}
use Rattle.form.specs.declared.orders.Order.{Order}
use Rattle.form.specs.Payoff.{IsBundle, bundle_of, bundle_payoff, IsState, scale_of}

-- an order and the amount that is filled of it
abbrev pub Filled : Type 0
Filled = Order × ℕ

-- the amount, if the side is that of buyers, and else 0; and the same of sellers
abbrev pub if_buy : Side → ℕ → ℕ
if_buy Buy amount = amount
if_buy Sell amount = 0

abbrev pub if_sell : Side → ℕ → ℕ
if_sell Buy amount = 0
if_sell Sell amount = amount

abbrev pub bought : Filled → ℕ
bought fill = if_buy fill.0.side fill.1

abbrev pub sold : Filled → ℕ
sold fill = if_sell fill.0.side fill.1

-- the sum of amount times f over the buys, less the same sum over the sells
abbrev pub buys_less_sells : (Order → ℤ) → List Filled → ℤ
buys_less_sells f fills =
    weigh_ℤ bought (λ (fill : Filled). f fill.0) fills -ℤ weigh_ℤ sold (λ (fill : Filled). f fill.0) fills

-- what the fills owe to buyers less what sellers owe to them, at a state
abbrev pub net : List Filled → List ℕ → ℤ
net fills z = buys_less_sells (λ o. bundle_payoff (bundle_of o) z) fills

-- what buyers pay less what sellers get
abbrev pub premium : List Filled → ℤ
premium fills = buys_less_sells (λ o. pos o.price) fills

-- g over F are fills of the orders: one amount for each order, and none past the order's quantity
abbrev pub AreFills : List Order → List ℕ → ℕ → Type 0
AreFills orders g F =
    (1 ≤ F) × (length g ≡ length orders) × All (λ (fill : Filled). fill.1 ≤ fill.0.quantity * F) (zip orders g)

-- each order's bundle is one on n underlyings
abbrev pub AreOn : ℕ → List Order → Type 0
AreOn n orders = All (λ (order : Order). IsBundle n (bundle_of order)) orders

-- at each settlement (t, s) of n underlyings, premiums less net payoffs are at least the surplus S
abbrev pub Covers : ℕ → List Filled → ℕ → Fraction → Type 0
Covers n fills F S =
    (t : ℕ) (s : List ℕ) → 1 ≤ t → length s ≡ n
    → (S.numerator *ℤ pos (F * t)) ≤ℤ (pos S.denominator *ℤ (premium fills *ℤ pos t -ℤ net fills (t ∷ s)))

-- S is the greatest surplus that fills of the orders cover
abbrev pub IsGreatest : ℕ → List Order → Fraction → Type 0
IsGreatest n orders S =
    IsDefined S
    × ((g : List ℕ) × (F : ℕ) × AreFills orders g F × Covers n (zip orders g) F S)
    × ((g : List ℕ) (F : ℕ) (R : Fraction)
    → IsDefined R → AreFills orders g F → Covers n (zip orders g) F R → AtMost R S)

-- the net is at most the liability times t at every state, rays among them
abbrev pub HoldsAtEachState : ℕ → List Filled → ℤ → Type 0
HoldsAtEachState n fills L = (z : List ℕ) → IsState n z → net fills z ≤ℤ (L *ℤ pos (scale_of z))

-- ---- the same sums over amounts of either sign
-- an order and a whole amount of it, which may be below 0
abbrev pub SignedFill : Type 0
SignedFill = Order × ℤ

-- the fills, their amounts taken as numbers of either sign
abbrev pub as_signed : List Filled → List SignedFill
as_signed fills = map (λ (fill : Filled). (fill.0, pos fill.1)) fills

-- x for a buy, and its opposite for a sell
abbrev pub for_side : Side → ℤ → ℤ
for_side Buy x = x
for_side Sell x = neg_ℤ x

-- amount times f, added up over the buys, with a minus for the sells
abbrev pub signed_sum : (Order → ℤ) → List SignedFill → ℤ
signed_sum f fills = total (λ (fill : SignedFill). for_side fill.0.side (f fill.0 *ℤ fill.1)) fills

abbrev pub signed_net : List SignedFill → List ℕ → ℤ
signed_net fills z = signed_sum (λ o. bundle_payoff (bundle_of o) z) fills

abbrev pub signed_premium : List SignedFill → ℤ
signed_premium fills = signed_sum (λ o. pos o.price) fills
