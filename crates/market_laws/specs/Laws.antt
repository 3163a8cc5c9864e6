-- The laws of covers, of their certificates and of weak duality.
use Rattle.std.specs.Prelude.{ℕ, ◌*◌, ◌≡◌, ◌≤◌, ◌↔◌, List, ◌∷◌, ◌++◌, length, map, ℤ, pos, ◌-ℤ◌, ◌*ℤ◌, ◌≤ℤ◌}
use Rattle.std.specs.List.{zip, All}
use Rattle.exact_num.specs.Fraction.{Fraction, IsDefined, whole}
use Rattle.exact_num.specs.CommonDenominator.{IsRatio, amounts_of}
use Rattle.form.specs.declared.orders.Order.{Order}
use Rattle.form.specs.Payoff.{dot, positive_part, payoff}
use Rattle.form.specs.Vector.{call_of, put_of}
use Rattle.clearing_model.specs.Clearing.{Filled, SignedFill, as_signed, buys_less_sells, net, premium, signed_sum, AreFills, Covers, IsGreatest, HoldsAtEachState}
use Rattle.clearing_model.specs.Balance.{AreBalanced}
use Rattle.clearing_model.specs.Legs.{legs_of}
use Rattle.clearing_model.specs.Measure.{WeightedState, IsMeasure, bound_of, Proves}
use Rattle.clearing_model.specs.Tree.{Tree, IsClosed}
use Rattle.clearing_model.specs.Line.{HoldsAtPrice, IsLineCover}
use Rattle.clearing_model.specs.Written.{WrittenNode, PlacedMultiplier, WrittenTree, nodes_of, multipliers_of}
use Rattle.clearing_model.specs.Certificate.{fractions_of, TreeCloses, ClosesAsWritten, LineCloses, IsPremiumLessLiability, FillsCover, AreFractionFills, by_of, Point, IsFractionMeasure, MeasureProves}

-- at the settlement (t, s) a call pays, times t, what the basket is worth above the strike at the
-- prices s / t, and a put what it is worth below
abbrev pub CallsAndPutsPay : Type 0
CallsAndPutsPay =
    (K : ℤ) (w : List ℤ) (t : ℕ) (s : List ℕ)
    → (payoff (call_of K w) (t ∷ s) ≡ positive_part (dot w s -ℤ K *ℤ pos t))
    × (payoff (put_of K w) (t ∷ s) ≡ positive_part (K *ℤ pos t -ℤ dot w s))

-- the sums over amounts of either sign are those of fills, where none is below 0
abbrev pub SignedSumsAgree : Type 0
SignedSumsAgree = (f : Order → ℤ) (fills : List Filled) → signed_sum f (as_signed fills) ≡ buys_less_sells f fills

-- where prices grow without end, fills that cover a surplus owe nothing
abbrev pub NothingOwedAtRays : Type 0
NothingOwedAtRays =
    (n : ℕ) (fills : List Filled) (F : ℕ) (S : Fraction) → IsDefined S → Covers n fills F S
    → (s : List ℕ) → length s ≡ n → net fills (0 ∷ s) ≤ℤ pos 0

-- no surplus that fills cover is above the bound of a measure
abbrev pub WeakDuality : Type 0
WeakDuality =
    (n : ℕ) (orders : List Order) (points : List WeightedState) (W : ℕ) → IsMeasure n points W
    → (g : List ℕ) (F : ℕ) → AreFills orders g F
    → (S : Fraction) → IsDefined S → Covers n (zip orders g) F S
    → (S.numerator *ℤ pos W) ≤ℤ pos (bound_of orders points W * S.denominator)

-- a surplus that fills cover and a measure proves is the greatest
abbrev pub ProvedIsGreatest : Type 0
ProvedIsGreatest =
    (n : ℕ) (orders : List Order) (g : List ℕ) (F : ℕ) (S : Fraction) (points : List WeightedState) (W : ℕ)
    → IsDefined S → AreFills orders g F → Covers n (zip orders g) F S
    → IsMeasure n points W → Proves orders points W S
    → IsGreatest n orders S

-- where a liability L / F is enough at every state, the premium less it, P / F - L / F, is covered
abbrev pub LiabilityGivesCover : Type 0
LiabilityGivesCover =
    (n : ℕ) (fills : List Filled) (F : ℕ) (L : ℤ) (S : Fraction)
    → 1 ≤ F → HoldsAtEachState n fills L → IsRatio S (premium fills -ℤ L) F
    → Covers n fills F S

-- a cover speaks of the fractions g / F alone: it is the same over k times F
abbrev pub CoverIsOfFractions : Type 0
CoverIsOfFractions =
    (n : ℕ) (orders : List Order) (g : List ℕ) (F k : ℕ) (S : Fraction)
    → 1 ≤ k → Covers n (zip orders (map (λ a. k * a) g)) (k * F) S ↔ Covers n (zip orders g) F S

-- fills that balance each bundle owe nothing at any state
abbrev pub BalancedOwesNothing : Type 0
BalancedOwesNothing = (fills : List Filled) → AreBalanced fills → (z : List ℕ) → net fills z ≡ pos 0

-- and cover their premium
abbrev pub BalancedFillsCover : Type 0
BalancedFillsCover =
    (n : ℕ) (orders : List Order) (fills : List Fraction) (S : Fraction)
    → AreFractionFills orders fills → AreBalanced (zip orders (amounts_of fills))
    → IsPremiumLessLiability orders fills (whole (pos 0)) S
    → FillsCover n orders fills S

-- a line cover shows that the liability is enough
abbrev pub LineCoversHold : Type 0
LineCoversHold = (fills : List Filled) (L : ℤ) → IsLineCover (as_signed fills) L → HoldsAtEachState 1 fills L

-- it holds at a state exactly where it holds at a multiple: so at a breakpoint in lowest terms too
abbrev pub HoldsAtMultiples : Type 0
HoldsAtMultiples =
    (fills : List SignedFill) (L : ℤ) (k t s : ℕ) → 1 ≤ k
    → HoldsAtPrice fills L (k * t) (k * s) ↔ HoldsAtPrice fills L t s

-- a closed tree over the legs of fills shows that the liability is enough
abbrev pub ClosedTreesHold : Type 0
ClosedTreesHold =
    (n : ℕ) (fills : List Filled) (L : ℤ) (tree : Tree) → IsClosed n (legs_of fills) L tree → HoldsAtEachState n fills L

-- no two trees are written alike, whatever follows them
abbrev pub TreesReadOneWay : Type 0
TreesReadOneWay =
    (a b : WrittenTree) (xs ys : List WrittenNode) (ms ns : List PlacedMultiplier)
    → nodes_of a ++ xs ≡ nodes_of b ++ ys → multipliers_of a ++ ms ≡ multipliers_of b ++ ns
    → (a ≡ b) × (xs ≡ ys) × (ms ≡ ns)

-- fractions whose tree closes cover the premium less the liability
abbrev pub TreeCertificateCovers : Type 0
TreeCertificateCovers =
    (n : ℕ) (orders : List Order) (fills : List Fraction) (L S : Fraction) (tree : WrittenTree)
    → AreFractionFills orders fills → IsDefined L → All IsDefined (fractions_of tree)
    → TreeCloses n orders fills L tree → IsPremiumLessLiability orders fills L S
    → FillsCover n orders fills S

-- so do those whose written tree passes the walk
abbrev pub WrittenTreeCovers : Type 0
WrittenTreeCovers =
    (n : ℕ) (orders : List Order) (fills : List Fraction) (L S : Fraction) (nodes : List WrittenNode) (ms : List PlacedMultiplier)
    → AreFractionFills orders fills → IsDefined L → All IsDefined (map by_of ms)
    → ClosesAsWritten n orders fills L nodes ms → IsPremiumLessLiability orders fills L S
    → FillsCover n orders fills S

-- fractions whose line is covered do so too
abbrev pub LineCertificateCovers : Type 0
LineCertificateCovers =
    (orders : List Order) (fills : List Fraction) (L S : Fraction)
    → AreFractionFills orders fills → IsDefined L
    → LineCloses orders fills L → IsPremiumLessLiability orders fills L S
    → FillsCover 1 orders fills S

-- a surplus that fills cover and a measure proves is the greatest, over fractions
abbrev pub CoverAndMeasureAreOptimal : Type 0
CoverAndMeasureAreOptimal =
    (n : ℕ) (orders : List Order) (fills : List Fraction) (S : Fraction) (points : List Point)
    → IsDefined S → FillsCover n orders fills S
    → IsFractionMeasure n points → MeasureProves orders points S
    → IsGreatest n orders S
