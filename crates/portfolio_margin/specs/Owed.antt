-- What positions of one market owe at a state, and the liability that covers it.
use Rattle.std.specs.Prelude.{ℕ, ◌≡◌, ◌≤◌, List, ◌∷◌, map, ℤ, pos, neg_ℤ, ◌*ℤ◌, ◌≤ℤ◌, ◌<ℤ◌}
use Rattle.std.specs.Int.{◌∣◌}
use Rattle.std.specs.List.{All}
use Rattle.arithmetic.specs.Sums.{total}
use Rattle.exact_num.specs.Fraction.{Fraction, IsDefined, IsLowest, AtMost}
use Rattle.exact_num.specs.CommonDenominator.{amount_over}
use Rattle.frac.specs.Value.{fraction_of}
use Rattle.form.specs.declared.orders.Side.{Side}
use Rattle.form.specs.declared.orders.Side.TheVariants.{Buy, Sell}
use Rattle.form.specs.Payoff.{bundle_legs, bundle_payoff, IsState, scale_of}
use Rattle.settlement.specs.declared.position.Position.{Position}

abbrev pub fill_of : Position → Fraction
fill_of position = fraction_of position.fill

abbrev pub fills_of : List Position → List Fraction
fills_of positions = map fill_of positions

-- a sell owes what its bundle pays, and a buy is owed it
abbrev pub owed_by : Side → ℤ → ℤ
owed_by Sell x = x
owed_by Buy x = neg_ℤ x

-- over D: fill times payoff, added up over the sells, less the same sum over the buys
abbrev pub owed_over : ℕ → List Position → List ℕ → ℤ
owed_over D positions z =
    total (λ (p : Position). owed_by p.side (bundle_payoff (bundle_legs p.bundle) z *ℤ amount_over D (fill_of p))) positions

-- D is a common denominator of the fractions
pub record IsDenominator (D : ℕ) (fractions : List Fraction) : Type 0 where
  pub some : 1 ≤ D
  pub divides : All (λ (f : Fraction). f.denominator ∣ D) fractions

-- what the positions owe at the state is at most the liability times t, and is just that
abbrev pub CoversAt : Fraction → List Position → List ℕ → Type 0
CoversAt L positions z =
    (D : ℕ) → IsDenominator D (L ∷ fills_of positions) → owed_over D positions z ≤ℤ (amount_over D L *ℤ pos (scale_of z))

abbrev pub EqualsAt : Fraction → List Position → List ℕ → Type 0
EqualsAt L positions z =
    (D : ℕ) → IsDenominator D (L ∷ fills_of positions) → owed_over D positions z ≡ amount_over D L *ℤ pos (scale_of z)

-- it covers what they owe at every state of n underlyings, rays among them
abbrev pub Covers : ℕ → List Position → Fraction → Type 0
Covers n positions L = (z : List ℕ) → IsState n z → CoversAt L positions z

-- the least liability that covers them: it does, and at a settlement they owe just that much
pub record IsLeast (n : ℕ) (positions : List Position) (L : Fraction) (at : List ℕ) : Type 0 where
  pub lowest : IsLowest L
  pub covers : Covers n positions L
  pub state : IsState n at
  pub settlement : 1 ≤ scale_of at
  pub equal : EqualsAt L positions at
  pub least : (M : Fraction) → IsDefined M → Covers n positions M → AtMost L M

-- along a ray they owe more than nothing, so that no liability covers them
pub record IsUnbounded (n : ℕ) (positions : List Position) (along : List ℕ) : Type 0 where
  pub state : IsState n along
  pub ray : scale_of along ≡ 0
  pub above : (D : ℕ) → IsDenominator D (fills_of positions) → pos 0 <ℤ owed_over D positions along
  pub none : (M : Fraction) → IsDefined M → Covers n positions M → ⊥
