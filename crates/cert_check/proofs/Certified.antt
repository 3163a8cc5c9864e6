-- What follows from the conditions of the model: the fills cover, and the measure proves the
-- greatest surplus.
use Rattle.std.proofs.Common.{List, [], ◌∷◌, map, All, sym, subst}
use Rattle.std.proofs.lemmas.List.Elements.{All-head, All-tail}
use Rattle.frac.specs.Value.{fraction_of}
use Rattle.form.specs.declared.orders.Batch.{Batch}
use Rattle.clearing_model.specs.Certificate.{FillsCover, AreFractionFills, IsPremiumLessLiability, HasUnitMass, MeasureProves}
use Rattle.market_laws.proofs.Certificate.{line_certificate_covers, written_tree_covers, balanced_fills_cover, cover_and_measure_are_optimal}
use Rattle.sign_tree.specs.Read.{node_of, placed_of}
use Rattle.sign_tree.proofs.Decided.{multipliers_lowest}
use Rattle.cert_check.specs.Points.{point_of}
use Rattle.cert_check.specs.declared.outcome.Cover.TheVariants.{Line, Tree}
use Rattle.cert_check.specs.declared.outcome.Mark.{Mark}
use Rattle.cert_check.specs.declared.outcome.Mark.TheVariants.{Optimal, Wide, Budget}
use Rattle.cert_check.specs.declared.outcome.FailedCondition.{FailedCondition}
use Rattle.cert_check.specs.declared.outcome.FailedCondition.TheVariants as no
use Rattle.cert_check.specs.declared.outcome.Outcome.{Outcome}
use Rattle.cert_check.specs.Conditions.{IfOptimal, IsEnough, LeavesSurplus, OwesNothing, Meets}
use Rattle.cert_check.specs.Laws.{IsCovered, IsProved, IsMeasured, ConditionsCover, ConditionsMeasure, ConditionsProve}
use Rattle.cert_check.proofs.Shapes.{AreOnTheSame}

-- the conditions before that of the bound, each by its name
pub record Met (batch : Batch) (outcome : Outcome) : Type 0 where
  pub shape : Meets batch outcome no.BatchShape
  pub fills : Meets batch outcome no.Fill
  pub cover : Meets batch outcome no.Cover
  pub mass : Meets batch outcome no.Measure

pub met : (batch : Batch) (outcome : Outcome) (rest : List FailedCondition) → All (Meets batch outcome) (no.BatchShape ∷ no.Fill ∷ no.Cover ∷ no.Measure ∷ rest) → Met batch outcome × All (Meets batch outcome) rest
met batch outcome rest all =
    let P = Meets batch outcome in
    let a = All-tail P no.BatchShape (no.Fill ∷ no.Cover ∷ no.Measure ∷ rest) all in
    let b = All-tail P no.Fill (no.Cover ∷ no.Measure ∷ rest) a in
    let d = All-tail P no.Cover (no.Measure ∷ rest) b in (
      record {
        shape = All-head P no.BatchShape (no.Fill ∷ no.Cover ∷ no.Measure ∷ rest) all;
        fills = All-head P no.Fill (no.Cover ∷ no.Measure ∷ rest) a;
        cover = All-head P no.Cover (no.Measure ∷ rest) b;
        mass = All-head P no.Measure rest d;
      },
      All-tail P no.Measure rest d,
    )

-- without a mark nothing is owed
owing_nothing : (batch : Batch) (outcome : Outcome) → AreFractionFills batch.orders (map fraction_of outcome.fills) → LeavesSurplus batch outcome
    → OwesNothing batch.orders (map fraction_of outcome.fills) (fraction_of outcome.claim.liability)
    → FillsCover batch.underlyings batch.orders (map fraction_of outcome.fills) (fraction_of outcome.claim.surplus)
owing_nothing batch outcome fills leaves owes =
    let fs = map fraction_of outcome.fills in
    let S = fraction_of outcome.claim.surplus in
    balanced_fills_cover batch.underlyings batch.orders fs S fills owes.1 (subst (λ L. IsPremiumLessLiability batch.orders fs L S) owes.0 leaves.left)

-- where the shape, the fills and the cover are as they should be the fills cover
pub fills_cover : (batch : Batch) (outcome : Outcome) (mark : Mark) → AreFractionFills batch.orders (map fraction_of outcome.fills) → LeavesSurplus batch outcome → IfOptimal mark (AreOnTheSame batch.underlyings)
    → IsEnough batch.underlyings batch.orders (map fraction_of outcome.fills) (fraction_of outcome.claim.liability) mark
    → FillsCover batch.underlyings batch.orders (map fraction_of outcome.fills) (fraction_of outcome.claim.surplus)
fills_cover batch outcome (Optimal Line measure) fills leaves on holds =
    let fs = map fraction_of outcome.fills in
    let S = fraction_of outcome.claim.surplus in
    subst (λ n. FillsCover n batch.orders fs S) (sym on.0)
    (line_certificate_covers batch.orders fs (fraction_of outcome.claim.liability) S fills outcome.claim.liability.lowest.positive holds leaves.left)
fills_cover batch outcome (Optimal (Tree tree) measure) fills leaves on holds =
    let low = multipliers_lowest tree.multipliers in
    written_tree_covers batch.underlyings batch.orders (map fraction_of outcome.fills) (fraction_of outcome.claim.liability) (fraction_of outcome.claim.surplus) (map node_of tree.nodes) (map placed_of tree.multipliers)
    fills outcome.claim.liability.lowest.positive (λ k d lt. (low k d lt).positive) holds leaves.left
fills_cover batch outcome (Wide w) fills leaves on holds = owing_nothing batch outcome fills leaves holds
fills_cover batch outcome Budget fills leaves on holds = owing_nothing batch outcome fills leaves holds

pub covered : (batch : Batch) (outcome : Outcome) → Meets batch outcome no.BatchShape → Meets batch outcome no.Fill → Meets batch outcome no.Cover → IsCovered batch outcome
covered batch outcome shape fills cover =
    record {
      on_underlyings = shape.orders;
      covers = fills_cover batch outcome outcome.mark fills cover.0 shape.mark cover.1;
      not_below_zero = cover.0.not_below_zero;
    }

pub conditions_cover : ConditionsCover
conditions_cover batch outcome all =
    let m = (met batch outcome (no.Bound ∷ []) all).0 in
    covered batch outcome m.shape m.fills m.cover

measured : (batch : Batch) (outcome : Outcome) (mark : Mark) → IfOptimal mark (AreOnTheSame batch.underlyings) → IfOptimal mark (λ cover measure. HasUnitMass (map point_of measure.points))
    → IfOptimal mark (λ cover measure. MeasureProves batch.orders (map point_of measure.points) (fraction_of outcome.claim.surplus)) → IfOptimal mark (λ cover measure. IsMeasured batch outcome measure)
measured batch outcome (Optimal cover measure) on mass proves = record { is_measure = record { states = on.1; unit = mass }; bound = proves }
measured batch outcome (Wide w) on mass proves = tt
measured batch outcome Budget on mass proves = tt

pub conditions_measure : ConditionsMeasure
conditions_measure batch outcome all =
    let m = met batch outcome (no.Bound ∷ []) all in
    measured batch outcome outcome.mark m.0.shape.mark m.0.mass (All-head (Meets batch outcome) no.Bound [] m.1)

proved : (batch : Batch) (outcome : Outcome) (mark : Mark) → IsCovered batch outcome → IfOptimal mark (λ cover measure. IsMeasured batch outcome measure) → IfOptimal mark (λ cover measure. IsProved batch outcome)
proved batch outcome (Optimal cover measure) covered is =
    record {
      covered = covered;
      greatest = cover_and_measure_are_optimal batch.underlyings batch.orders (map fraction_of outcome.fills) (fraction_of outcome.claim.surplus) (map point_of measure.points) outcome.claim.surplus.lowest.positive covered.covers is.is_measure is.bound;
    }
proved batch outcome (Wide w) covered is = tt
proved batch outcome Budget covered is = tt

pub conditions_prove : ConditionsProve
conditions_prove batch outcome all = proved batch outcome outcome.mark (conditions_cover batch outcome all) (conditions_measure batch outcome all)
