-- What margins and needs imply.
use Rattle.std.specs.Prelude.{ℕ, ◌≡◌, ◌≤◌, List, [], ◌∷◌, length, ℤ, pos, neg_ℤ, ◌≤ℤ◌, Result, Ok, Err}
use Rattle.std.specs.List.{All}
use Rattle.arithmetic.specs.Sums.{total}
use Rattle.exact_num.specs.Fraction.{Fraction, IsNotBelowZero}
use Rattle.clearing_model.specs.Certificate.{ClosesAsWritten}
use Rattle.clearing_model.specs.Written.{WrittenTree, nodes_of, multipliers_of}
use Rattle.settlement.specs.declared.position.Position.{Position}
use Rattle.settlement.specs.Positions.{gain_at}
use Rattle.simplex_run.specs.Ending.{done, unbounded}
use Rattle.portfolio_margin.specs.declared.needs.Needed.TheVariants.{Amount}
use Rattle.portfolio_margin.specs.Owed.{Covers, IsLeast, IsUnbounded, fills_of}
use Rattle.portfolio_margin.specs.Run.{asked_for, least, endless, margin_run, orders_of}
use Rattle.portfolio_margin.specs.Need.{Demand, Counted, demands_of, need_of}

-- ---- the run
-- positions on one to eight underlyings whose fills are not below 0
pub record MayBeAsked (n : ℕ) (positions : List Position) : Type 0 where
  pub some : 1 ≤ n
  pub few : n ≤ 8
  pub not_below_zero : All IsNotBelowZero (fills_of positions)

-- a run that ends with a liability ends with the least one, and a tree that closes
abbrev pub MarginsAreLeast : Type 0
MarginsAreLeast =
    (limit budget n units : ℕ) (positions : List Position) (L : Fraction) (at : List ℕ) (tree : WrittenTree) → MayBeAsked n positions
    → margin_run (asked_for limit budget n positions) ≡ done (least L at tree) units
    → IsLeast n positions L at × ClosesAsWritten n (orders_of positions) (fills_of positions) L (nodes_of tree) (multipliers_of tree)

-- one that ends with a ray has shown that no liability covers the positions
abbrev pub EndlessAreUnbounded : Type 0
EndlessAreUnbounded =
    (limit budget n units : ℕ) (positions : List Position) (ray : List ℕ) → MayBeAsked n positions
    → margin_run (asked_for limit budget n positions) ≡ done (endless ray) units → IsUnbounded n positions ray

-- each run ends with one of these, or stops at a number that does not fit or for want of a unit
abbrev pub EachRunEnds : Type 0
EachRunEnds =
    (limit budget n units : ℕ) (positions : List Position) (d : List Fraction) → MayBeAsked n positions
    → margin_run (asked_for limit budget n positions) ≡ unbounded d units → ⊥

-- ---- the need
-- positions of one market, and the prices at which it is settled
pub record Settled : Type 0 where
  pub positions : List Position
  pub prices : List ℕ

abbrev pub gain_in : Settled → ℤ
gain_in s = total (gain_at s.prices) s.positions

-- the liability covers the positions
abbrev pub IsCovered : {W : Type 0} → Result Fraction W → Settled → Type 0
IsCovered (Ok L) s = Covers (length s.prices) s.positions L
IsCovered (Err word) s = Unit {0}

-- each does, of so many positions
abbrev pub AreDemandsCovered : {W : Type 0} → List (Demand W) → List Settled → Type 0
AreDemandsCovered [] [] = Unit {0}
AreDemandsCovered [] (s ∷ markets) = ⊥
AreDemandsCovered (d ∷ demands) [] = ⊥
AreDemandsCovered (d ∷ demands) (s ∷ markets) = (length s.positions ≡ d.1) × IsCovered d.0 s × AreDemandsCovered demands markets

abbrev pub AreCovered : List Counted → List Settled → Type 0
AreCovered margins markets = AreDemandsCovered (demands_of margins) markets

-- an amount covers what all positions lose, whatever the prices of each market
abbrev pub NeedsCover : Type 0
NeedsCover =
    (margins : List Counted) (markets : List Settled) (amount : ℕ) → need_of margins ≡ Amount amount → AreCovered margins markets
    → neg_ℤ (pos amount) ≤ℤ total gain_in markets
