-- A proposal of nothing is judged a bound.
use Rattle.std.proofs.Common.{◌≡◌, ℕ, zero, suc, ◌*◌, ◌<◌, ◌≤◌, true, List, [], ◌∷◌, length, map, zip, get_or, replicate, pos, Ok, refl, ap, ap₂, sym, subst, ◌∙◌, arith}
use Rattle.std.specs.List.{All, sum}
use Rattle.std.specs.Prelude.{nat_le}
use Rattle.std.proofs.lemmas.Bool.{le-leb, true_from_ne_false}
use Rattle.std.proofs.lemmas.Int.{ints}
use Rattle.std.proofs.lemmas.List.{length-map, length-replicate}
use Rattle.std.proofs.lemmas.List.Elements.{All-cons, All-nil}
use Rattle.std.proofs.lemmas.List.Sums.{sum_by-cons}
use Rattle.exact_num.specs.Fraction.{Fraction, whole}
use Rattle.exact_num.proofs.Units.{sub-zero}
use Rattle.frac.specs.declared.frac128.Frac128.{Frac128}
use Rattle.frac.specs.Range.{limit}
use Rattle.frac.specs.Value.{fraction_of}
use Rattle.form.specs.declared.orders.Batch.{Batch}
use Rattle.form.specs.declared.orders.Order.{Order}
use Rattle.form.specs.Limits.{IsOrderWithin, IsWithinLimits}
use Rattle.form.specs.Payoff.{IsState}
use Rattle.form.specs.States.{vector_of}
use Rattle.form.proofs.BundleLegs.{is_bundle_of}
use Rattle.clearing_model.specs.Certificate.{AreFractionFills, IsFill, Point}
use Rattle.cert_check.specs.declared.measures.Measure.{Measure}
use Rattle.cert_check.specs.declared.measures.Weighted.{Weighted}
use Rattle.cert_check.specs.Points.{point_of}
use Rattle.cert_check.specs.MeasureSums.{bound_of, has_unit_mass}
use Rattle.sign_tree.specs.Read.{node_of, placed_of}
use Rattle.sign_tree.specs.declared.trees.Node.{Node}
use Rattle.sign_tree.specs.Legs.{fraction_legs, leg_count}
use Rattle.sign_tree.specs.Walk.{closes_of}
use Rattle.cert_check.specs.declared.outcome.Cover.{Cover}
use Rattle.cert_check.specs.declared.outcome.Cover.TheVariants.{Line, Tree}
use Rattle.cert_check.specs.declared.outcome.FailedCondition.TheVariants as no
use Rattle.cert_check.specs.Conditions.{IsCoverOn}
use Rattle.cert_check.specs.Shape.{are_fills}
use Rattle.cert_check.specs.Tests.{claim_holds, cover_holds, premium_of, surplus_holds}
use Rattle.cert_check.proofs.Shapes.{fills_unmet}
use Rattle.proposal_check.specs.declared.covers.Proposal.{Proposal}
use Rattle.proposal_check.specs.declared.covers.ProposalCover.{ProposalCover}
use Rattle.proposal_check.specs.declared.covers.ProposalCover.TheVariants.{Checked, Match, Cells}
use Rattle.proposal_check.specs.declared.shape.TheConstants.{MAX_WALKED}
use Rattle.proposal_check.specs.Conditions.{IsOfBatch}
use Rattle.proposal_check.specs.Covers.{IsCoverOf, cover_shows, is_walkable}
use Rattle.proposal_check.specs.Proposals.{fitting, has_shape, measured_bound, proposal_bound, proposal_covered, require}
use Rattle.proposal_check.proofs.Shapes.{shape_unmet}
use Rattle.proposals.specs.Judged.{IsBare, IsBareCover, NothingIsABound, ProposesNothing, zero_prices}
use Rattle.proposals.proofs.Bounded.{bound_fits, unit_mass}
use Rattle.proposals.proofs.NothingOwed.{adds_nothing, leaf_is_nothing, line_is_nothing, nothing, unfilled}

-- ---- shape and fills
cover_on : (n : ℕ) (cover : Cover) → IsBareCover n cover → IsCoverOn n cover
cover_on n Line is = is
cover_on n (Tree tree) is = omega (arith, is.0)

few_legs : (orders : List Order) → leg_count orders ≤ 4 * length orders
few_legs [] = let none : leg_count [] ≡ 0 = refl in omega (arith, none)
few_legs (o ∷ orders) =
    let size = o.bundle.size_in_range.1 in
    omega (arith, sum_by-cons (λ (order : Order). order.bundle.size) o orders, size, few_legs orders)

-- one leaf is walked over the legs of 256 orders
walked : (batch : Batch) (cover : Cover) → IsWithinLimits batch → IsBareCover batch.underlyings cover → is_walkable (leg_count batch.orders) cover ≡ true
walked batch Line within is = refl
walked batch (Tree tree) within is =
    let legs = leg_count batch.orders in
    ap (λ (nodes : List Node). nat_le (length nodes * legs) MAX_WALKED) is.1
    ∙ le-leb (1 * legs) MAX_WALKED (omega (arith, few_legs batch.orders, within.orders_fit))

cover_of : (batch : Batch) (cover : ProposalCover) → IsWithinLimits batch → IsBare batch.underlyings cover → IsCoverOf batch cover
cover_of batch (Checked cover) within is = (cover_on batch.underlyings cover is, walked batch cover within is)
cover_of batch Match within is = absurd is
cover_of batch (Cells nodes) within is = absurd is

sum_above : (n : ℕ) → 0 < sum (1 ∷ replicate n 0)
sum_above n = omega (arith, sum_by-cons (λ (n : ℕ). n) 1 (replicate n 0))

states_on : (n : ℕ) → All (λ (point : Point). IsState n point.0) (zero_prices n)
states_on n =
    let P : Point → Type 0 = λ point. IsState n point.0 in
    All-cons P (1 ∷ replicate n 0, whole (pos 1)) [] (omega (arith, length-replicate {A = ℕ} n 0), sum_above n) (All-nil P)

fills_count : (batch : Batch) (proposal : Proposal) → ProposesNothing batch proposal → length proposal.fills ≡ length batch.orders
fills_count batch proposal is =
    sym (length-map proposal.fills fraction_of) ∙ ap length is.fills ∙ length-replicate (length batch.orders) nothing

shape_passes : (batch : Batch) (proposal : Proposal) → IsWithinLimits batch → ProposesNothing batch proposal → has_shape batch proposal ≡ true
shape_passes batch proposal within is =
    let n = batch.underlyings in
    let P : List Point → Type 0 = λ points. All (λ (point : Point). IsState n point.0) points in
    let met : IsOfBatch batch proposal = record {
      orders = λ k d lt. is_bundle_of n (get_or batch.orders k d) (within.has_forms.forms k d lt);
      fills = fills_count batch proposal is;
      cover = cover_of batch proposal.cover within is.cover;
      states = subst P (sym is.measure) (states_on n);
    } in
    true_from_ne_false _ (λ failed. shape_unmet batch proposal failed met)

each_unfilled : (orders : List Order) → All IsFill (unfilled orders)
each_unfilled [] = All-nil IsFill
each_unfilled (o ∷ orders) = All-cons IsFill (o, nothing) (unfilled orders) (omega arith, omega (arith, ints), omega (arith, ints)) (each_unfilled orders)

fills_pass : (batch : Batch) (proposal : Proposal) → ProposesNothing batch proposal → are_fills batch.orders proposal.fills ≡ true
fills_pass batch proposal is =
    let none = replicate (length batch.orders) nothing in
    let met : AreFractionFills batch.orders none = (length-replicate (length batch.orders) nothing, each_unfilled batch.orders) in
    true_from_ne_false _ (λ failed. fills_unmet batch.orders proposal.fills failed (subst (AreFractionFills batch.orders) (sym is.fills) met))

-- ---- surplus and cover
premium_is_nothing : (orders : List Order) → premium_of limit (unfilled orders) ≡ Ok nothing
premium_is_nothing [] = refl
premium_is_nothing (o ∷ orders) = rw (adds_nothing o.side (pos o.price)) (premium_is_nothing orders)

surplus_is_nothing : (orders : List Order) → surplus_holds limit (unfilled orders) nothing nothing ≡ Ok true
surplus_is_nothing orders = rw (premium_is_nothing orders, sub-zero limit nothing (omega arith) (omega arith)) refl

claimed : (batch : Batch) (proposal : Proposal) → ProposesNothing batch proposal → claim_holds limit batch.orders proposal.fills proposal.claim ≡ Ok true
claimed batch proposal is =
    (λ i. surplus_holds limit (zip batch.orders (is.fills i)) (is.liability i) (is.surplus i)) ∙ surplus_is_nothing batch.orders

cover_closes : (n : ℕ) (orders : List Order) (cover : Cover) → IsBareCover n cover → All IsOrderWithin orders
    → cover_holds limit n orders (replicate (length orders) nothing) nothing cover ≡ Ok true
cover_closes n orders Line is within = line_is_nothing orders within
cover_closes n orders (Tree tree) is within =
    (λ i. closes_of limit n (fraction_legs orders (replicate (length orders) nothing)) nothing (map node_of (is.1 i)) (map placed_of (is.2 i)))
    ∙ leaf_is_nothing n orders

shows : (batch : Batch) (proposal : Proposal) (cover : ProposalCover) → IsWithinLimits batch → ProposesNothing batch proposal → IsBare batch.underlyings cover
    → cover_shows limit batch proposal.fills proposal.claim.liability cover ≡ Ok true
shows batch proposal (Checked cover) within is bare =
    (λ i. cover_holds limit batch.underlyings batch.orders (is.fills i) (is.liability i) cover)
    ∙ cover_closes batch.underlyings batch.orders cover bare within.orders_within
shows batch proposal Match within is bare = absurd bare
shows batch proposal (Cells nodes) within is bare = absurd bare

covered : (batch : Batch) (proposal : Proposal) → IsWithinLimits batch → ProposesNothing batch proposal → proposal_covered limit batch proposal ≡ Ok true
covered batch proposal within is = rw (claimed batch proposal is) (shows batch proposal proposal.cover within is is.cover)

-- ---- what the code makes
pub fills_of_one : (n : ℕ) (x : Frac128) → fraction_of x ≡ nothing → map fraction_of (replicate n x) ≡ replicate n nothing
fills_of_one zero x is = refl
fills_of_one (suc n) x is = ap₂ (λ (f : Fraction) (fs : List Fraction). f ∷ fs) is (fills_of_one n x is)

pub point_at_zero : (n : ℕ) (points : List Weighted) (point : Weighted) (prices : List ℕ) → points ≡ point ∷ [] → vector_of point.state ≡ 1 ∷ prices → prices ≡ replicate n 0
    → fraction_of point.weight ≡ whole (pos 1) → map point_of points ≡ zero_prices n
point_at_zero n points point prices one vector none weight =
    ap (map point_of) one ∙ ap₂ (λ (z : List ℕ) (w : Fraction). (z, w) ∷ []) (vector ∙ ap (λ (s : List ℕ). 1 ∷ s) none) weight

-- ---- the measure
record HasSomeBound (batch : Batch) (measure : Measure) : Type 0 where
  bound : Fraction
  is : measured_bound limit batch.orders measure ≡ Ok bound

measured : (batch : Batch) (proposal : Proposal) → IsWithinLimits batch → ProposesNothing batch proposal → HasSomeBound batch proposal.measure
measured batch proposal within is =
    let n = batch.underlyings in
    let sum = bound_fits n batch.orders within.orders_within within.orders_fit in
    record {
      bound = sum.bound;
      is = (λ i. require no.Measure (has_unit_mass limit (is.measure i)) (fitting (bound_of limit batch.orders (is.measure i)))) ∙ rw (unit_mass n, sum.is) refl;
    }

pub nothing_is_a_bound : NothingIsABound
nothing_is_a_bound batch proposal within is =
    let last = measured batch proposal within is in
    let bound : proposal_bound limit batch proposal ≡ Ok last.bound =
    rw (shape_passes batch proposal within is, fills_pass batch proposal is, covered batch proposal within is) last.is in
    rw bound refl
