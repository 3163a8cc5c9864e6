-- A solution of the master program certifies itself, over any states.
use Rattle.std.proofs.Common.{◌≡◌, ℕ, ◌*◌, List, [], ◌∷◌, length, map, zip, arith, ℤ, pos, ◌+ℤ◌, ◌*ℤ◌, ◌≤ℤ◌, refl, ap, sym, subst}
use Rattle.std.proofs.lemmas.Int.{ints}
use Rattle.std.proofs.lemmas.List.Elements.{All-cons}
use Rattle.arithmetic.proofs.Lists.{zip-map_right, All-zip_left, All-zip_right}
use Rattle.exact_num.specs.Fraction.{Fraction, IsDefined, IsNotBelowZero}
use Rattle.exact_num.specs.CommonDenominator.{common_denominator, amount_over, signed_amounts_over, amounts_of}
use Rattle.form.specs.Vector.{IsState, scale_of}
use Rattle.clearing_model.specs.Measure.{WeightedState, mass_of, bound_of, Proves}
use Rattle.clearing_model.specs.Certificate.{Point, fraction_weight, points_over, HasUnitMass, IsFractionMeasure}
use Rattle.cert_check.proofs.Duality.{duality}
use Rattle.cert_check.proofs.Certificate.{are_fills, is_measure}
use Rattle.master_program.specs.OptimumLaws.{measure_points, MasterCertifies}
use Rattle.master_program.proofs.Primal.{primal}
use Rattle.master_program.proofs.Dual.{dual}

-- ---- the points
weights_are : (states : List (List ℕ)) (weights : List Fraction) → length weights ≡ length states → map fraction_weight (zip states weights) ≡ weights
weights_are [] [] h = refl
weights_are [] (f ∷ fs) h = absurd (omega (arith, h))
weights_are (z ∷ states) [] h = absurd (omega (arith, h))
weights_are (z ∷ states) (f ∷ fs) h = ap (λ v. f ∷ v) (weights_are states fs (omega (arith, h)))

-- ---- the bound is the surplus, from both sides
both_ways : (n : ℤ) (W bound d : ℕ) → (n *ℤ pos W) ≤ℤ pos (bound * d) → pos (bound * d) ≤ℤ (n *ℤ pos W) → n *ℤ pos W ≡ pos bound *ℤ pos d
both_ways n W bound d h k = omega (arith, ints, h, k)

first_mass : (t : ℕ) (w M : ℤ) (W : ℕ) → t ≡ 1 → w +ℤ M ≡ pos W → (w *ℤ pos t) +ℤ M ≡ pos W
first_mass t w M W e h = omega (arith, ints, ap (λ (n : ℕ). w *ℤ pos n) e, h)

pub master_certifies : MasterCertifies
master_certifies n first orders states fills slack L S duals weights reduced w one is_first are_states h =
    let p = primal first orders states fills slack L S duals weights reduced w one h in
    let d = dual first orders states fills slack L S duals weights reduced w h in
    let W : ℕ = common_denominator (w ∷ weights) in
    let w' : ℤ = amount_over W w in
    let ws : List ℤ = signed_amounts_over W weights in
    let points : List Point = measure_points first states w weights in
    let weighted : List WeightedState = (first, w') ∷ zip states ws in
    let same_weights : w ∷ weights ≡ map fraction_weight points = ap (λ v. w ∷ v) (sym (weights_are states weights h.weights_count)) in
    let same_points : weighted ≡ points_over W points = ap (λ (v : List WeightedState). (first, w') ∷ v) (zip-map_right (amount_over W) states weights) in
    let Mass : List Fraction → Type 0 = λ fs. mass_of (points_over (common_denominator fs) points) ≡ pos (common_denominator fs) in
    let Bounds : List Fraction → Type 0 = λ fs. Proves orders (points_over (common_denominator fs) points) (common_denominator fs) S in
    let mass : mass_of weighted ≡ pos W = first_mass (scale_of first) w' (mass_of (zip states ws)) W one d.mass_is in
    let unit : HasUnitMass points = record {
      weights = All-zip_right (λ f. IsDefined f × IsNotBelowZero f) (first ∷ states) (w ∷ weights) (λ k e lt. (d.defined k e lt, d.signs k e lt));
      mass = subst Mass same_weights (subst (λ v. mass_of v ≡ pos W) same_points mass);
    } in
    let measure : IsFractionMeasure n points = record { states = All-zip_left (IsState n) (first ∷ states) (w ∷ weights) (All-cons (IsState n) first states is_first are_states); unit = unit } in
    record {
      fills = p.fills_are;
      liability_defined = h.liability_defined;
      surplus_defined = h.optimum.value_lowest.positive;
      earned = p.earned;
      not_below_zero = d.surplus_sign;
      enough = p.enough;
      measure = measure;
      proves = λ cover.
          let Above : List Fraction → Type 0 = λ fs. (S.numerator *ℤ pos (common_denominator fs)) ≤ℤ pos (bound_of orders (points_over (common_denominator fs) points) (common_denominator fs) * S.denominator) in
          let W' = common_denominator (map fraction_weight points) in
          let above = duality n orders (points_over W' points) W' (is_measure n points measure) (amounts_of fills) (common_denominator fills) (are_fills orders fills p.fills_are) S h.optimum.value_lowest.positive cover.covers in
          let here : (S.numerator *ℤ pos W) ≤ℤ pos (bound_of orders weighted W * S.denominator) =
          subst (λ v. (S.numerator *ℤ pos W) ≤ℤ pos (bound_of orders v W * S.denominator)) (sym same_points) (subst Above (sym same_weights) above) in
          let proves : Proves orders weighted W S = both_ways S.numerator W (bound_of orders weighted W) S.denominator here d.bound_below in
          subst Bounds same_weights (subst (λ v. Proves orders v W S) same_points proves);
    }
