-- Portfolios by their parts, and what is asked for them.
use Rattle.std.proofs.Common.{◌≡◌, ℕ, ◌*◌, ◌≤◌, List, arith, ℤ, pos, ◌+ℤ◌, ◌≤ℤ◌}
use Rattle.std.proofs.lemmas.Int.{ints}
use native.Mathlib.Nat.{mul-le-mul_left}
use Rattle.form.specs.declared.orders.Order.{Order}
use Rattle.settlement.specs.declared.position.Position.{Position}
use Rattle.arithmetic.specs.Sums.{positive_part}
use Rattle.arithmetic.proofs.Parts.{positive_part_above, positive_part_least}
use Rattle.account_need.specs.Exposure.{Portfolio}

abbrev pub portfolio : ℕ → List Position → List Order → Portfolio
portfolio n positions live = record { underlyings = n; positions = positions; live = live }

pub portfolio_is : (p : Portfolio) (n : ℕ) (positions : List Position) (live : List Order) → p.underlyings ≡ n → p.positions ≡ positions → p.live ≡ live
    → p ≡ portfolio n positions live
portfolio_is p n positions live a b c = λ i. record { underlyings = a i; positions = b i; live = c i }

pub part_mono : (x y : ℤ) → x ≤ℤ y → positive_part x ≤ positive_part y
part_mono x y le = positive_part_least x (positive_part y) (omega (arith, ints, le, positive_part_above y))

-- fewer losses
pub less_exposed : (o top : ℤ) (D a b : ℕ) → a ≤ b → (o +ℤ pos (D * b)) ≤ℤ top → (o +ℤ pos (D * a)) ≤ℤ top
less_exposed o top D a b le h = omega (arith, ints, h, mul-le-mul_left D le)
