-- The conditions of a certificate, in the words of the model.
use Rattle.std.specs.Prelude.{ℕ, Bool, true, false, ◌≡◌, ◌<◌, List, [], ◌∷◌, length, map, zip, pos, ◌≤ℤ◌}
use Rattle.std.specs.List.{All}
use Rattle.exact_num.specs.Fraction.{Fraction, whole}
use Rattle.exact_num.specs.CommonDenominator.{amounts_of}
use Rattle.frac.specs.Value.{fraction_of}
use Rattle.form.specs.declared.orders.Order.{Order}
use Rattle.form.specs.declared.orders.Batch.{Batch}
use Rattle.form.specs.Payoff.{IsState}
use Rattle.clearing_model.specs.Clearing.{AreOn}
use Rattle.clearing_model.specs.Balance.{AreBalanced}
use Rattle.clearing_model.specs.Certificate.{AreFractionFills, IsPremiumLessLiability, LineCloses, ClosesAsWritten, Point, HasUnitMass, MeasureProves}
use Rattle.sign_tree.specs.Read.{node_of, placed_of}
use Rattle.cert_check.specs.declared.measures.Measure.{Measure}
use Rattle.cert_check.specs.Points.{point_of}
use Rattle.cert_check.specs.declared.outcome.Cover.{Cover}
use Rattle.cert_check.specs.declared.outcome.Cover.TheVariants.{Line, Tree}
use Rattle.cert_check.specs.declared.outcome.Mark.{Mark}
use Rattle.cert_check.specs.declared.outcome.Mark.TheVariants.{Optimal, Wide, Budget}
use Rattle.cert_check.specs.declared.outcome.FailedCondition.{FailedCondition}
use Rattle.cert_check.specs.declared.outcome.FailedCondition.TheVariants as no
use Rattle.cert_check.specs.declared.outcome.Outcome.{Outcome}
use Rattle.cert_check.specs.declared.outcome.Verdict.{Verdict}
use Rattle.cert_check.specs.declared.outcome.Verdict.TheVariants.{Yes, No as Refused, Wide as TooWide}

-- a fact where the judgement is yes; of the condition, where it is no
abbrev pub OnYes : Verdict → Type 0 → Type 0
OnYes Yes P = P
OnYes (Refused condition) P = Unit {0}
OnYes (TooWide w) P = Unit {0}

abbrev pub IfNo : Verdict → (FailedCondition → Type 0) → Type 0
IfNo Yes P = Unit {0}
IfNo (Refused condition) P = P condition
IfNo (TooWide w) P = Unit {0}

-- whether the mark is optimal
abbrev pub is_optimal_mark : Mark → Bool
is_optimal_mark (Optimal cover measure) = true
is_optimal_mark (Wide w) = false
is_optimal_mark Budget = false

-- a fact of the cover and the measure, where the mark is optimal
abbrev pub IfOptimal : Mark → (Cover → Measure → Type 0) → Type 0
IfOptimal (Optimal cover measure) P = P cover measure
IfOptimal (Wide w) P = Unit {0}
IfOptimal Budget P = Unit {0}

-- a line is the cover of one underlying, and a tree of several
abbrev pub IsCoverOn : ℕ → Cover → Type 0
IsCoverOn n Line = n ≡ 1
IsCoverOn n (Tree tree) = 1 < n

-- each order is on the batch's underlyings and has a fill, and on these underlyings are the cover
-- and the states of the measure
pub record IsOfBatch (batch : Batch) (outcome : Outcome) : Type 0 where
  pub orders : AreOn batch.underlyings batch.orders
  pub fills : length outcome.fills ≡ length batch.orders
  pub mark : IfOptimal outcome.mark (λ cover measure. IsCoverOn batch.underlyings cover × All (λ (point : Point). IsState batch.underlyings point.0) (map point_of measure.points))

-- the cover shows that the liability L is enough
abbrev pub Closes : ℕ → List Order → List Fraction → Fraction → Cover → Type 0
Closes n orders fills L Line = LineCloses orders fills L
Closes n orders fills L (Tree tree) = ClosesAsWritten n orders fills L (map node_of tree.nodes) (map placed_of tree.multipliers)

-- nothing is owed: the liability is 0, and as much is bought as sold of each bundle
abbrev pub OwesNothing : List Order → List Fraction → Fraction → Type 0
OwesNothing orders fills L = (L ≡ whole (pos 0)) × AreBalanced (zip orders (amounts_of fills))

-- the liability is enough, by the cover or since nothing is owed
abbrev pub IsEnough : ℕ → List Order → List Fraction → Fraction → Mark → Type 0
IsEnough n orders fills L (Optimal cover measure) = Closes n orders fills L cover
IsEnough n orders fills L (Wide w) = OwesNothing orders fills L
IsEnough n orders fills L Budget = OwesNothing orders fills L

-- the premium less the liability is the surplus, which is not below 0
pub record LeavesSurplus (batch : Batch) (outcome : Outcome) : Type 0 where
  pub left : IsPremiumLessLiability batch.orders (map fraction_of outcome.fills) (fraction_of outcome.claim.liability) (fraction_of outcome.claim.surplus)
  pub not_below_zero : pos 0 ≤ℤ (fraction_of outcome.claim.surplus).numerator

-- a batch and its outcome meet the condition
abbrev pub Meets : Batch → Outcome → FailedCondition → Type 0
Meets batch outcome no.BatchShape = IsOfBatch batch outcome
Meets batch outcome no.Fill = AreFractionFills batch.orders (map fraction_of outcome.fills)
Meets batch outcome no.Cover =
    LeavesSurplus batch outcome
    × IsEnough batch.underlyings batch.orders (map fraction_of outcome.fills) (fraction_of outcome.claim.liability) outcome.mark
Meets batch outcome no.Measure = IfOptimal outcome.mark (λ cover measure. HasUnitMass (map point_of measure.points))
Meets batch outcome no.Bound =
    IfOptimal outcome.mark (λ cover measure. MeasureProves batch.orders (map point_of measure.points) (fraction_of outcome.claim.surplus))

-- the conditions in order, and those that come before one
abbrev pub conditions : List FailedCondition
conditions = no.BatchShape ∷ no.Fill ∷ no.Cover ∷ no.Measure ∷ no.Bound ∷ []

abbrev pub conditions_before : FailedCondition → List FailedCondition
conditions_before no.BatchShape = []
conditions_before no.Fill = no.BatchShape ∷ []
conditions_before no.Cover = no.BatchShape ∷ no.Fill ∷ []
conditions_before no.Measure = no.BatchShape ∷ no.Fill ∷ no.Cover ∷ []
conditions_before no.Bound = no.BatchShape ∷ no.Fill ∷ no.Cover ∷ no.Measure ∷ []

-- the condition is the first that the batch and its outcome do not meet
pub record IsFirstUnmet (batch : Batch) (outcome : Outcome) (condition : FailedCondition) : Type 0 where
  pub before : All (Meets batch outcome) (conditions_before condition)
  pub unmet : ¬ (Meets batch outcome condition)
