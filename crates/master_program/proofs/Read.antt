-- What is read off an optimum is certified, and so is what is read off a run.
use Rattle.std.proofs.Common.{◌≡◌, ℕ, zero, suc, ◌+◌, List, [], ◌∷◌, ◌++◌, length, take, drop, replicate, zip, arith, All, refl, ap, sym, ◌∙◌, subst}
use Rattle.std.specs.Prelude.{Result, Ok}
use Rattle.std.proofs.lemmas.List.{take-append-drop, length-take-le, length-drop, length-replicate}
use Rattle.std.proofs.lemmas.List.Sums.{sum_by-cons}
use Rattle.std.proofs.lemmas.List.Elements.{All-cons}
use Rattle.arithmetic.proofs.Lists.{All-zip_right}
use Rattle.exact_num.specs.declared.misfit.Wide.{Wide}
use Rattle.exact_num.specs.Fraction.{Fraction, IsLowest}
use Rattle.exact_num.proofs.After.{after_value}
use Rattle.simplex_run.specs.Places.{at}
use Rattle.simplex_run.specs.Program.{LinearProgram}
use Rattle.simplex_run.specs.Run.{run}
use Rattle.simplex_run.specs.Optimum.{IsOptimum, IsAsSaid}
use Rattle.simplex_run.proofs.Optima.{ends_are_as_said}
use Rattle.form.specs.declared.orders.Order.{Order}
use Rattle.form.specs.Vector.{IsState}
use Rattle.clearing_model.specs.Certificate.{Point}
use Rattle.cert_check.proofs.Certificate.{cover_and_measure_are_optimal}
use Rattle.master_program.specs.Master.{zero_prices, plain_master, master}
use Rattle.master_program.specs.Reading.{Reading, reading_with, liability_of, points_with_weight}
use Rattle.master_program.proofs.Bounded.{master_is_program, master_is_bounded}
use Rattle.master_program.proofs.Steps.{steps_give_master}
use Rattle.master_program.specs.Certified.{IsSolved, IsCertifiedAt}
use Rattle.master_program.specs.OptimumLaws.{measure_points, ReadingsAreCertified, RunsAreCertified, NoRunIsUnbounded, CoveredIsGreatest}
use Rattle.master_program.proofs.Primal.{all_first, all_later}
use Rattle.master_program.proofs.Liability.{liability_is_read}
use Rattle.master_program.proofs.Certifies.{master_certifies}
use Rattle.master_program.proofs.Dropped.{empty_points_drop}

-- ---- lists in parts
last_apart : (xs : List Fraction) (k : ℕ) → length xs ≡ k + 1 → xs ≡ take k xs ++ (at xs k ∷ [])
last_apart [] k h = absurd (omega (arith, h))
last_apart (x ∷ []) zero h = refl
last_apart (x ∷ y ∷ xs) zero h = absurd (omega (arith, h))
last_apart (x ∷ xs) (suc k) h = ap (λ v. x ∷ v) (last_apart xs k (omega (arith, h)))

-- ---- the state where all prices are 0
pub zero_prices_are : (n : ℕ) → IsState n (zero_prices n)
zero_prices_are n =
    let zeros : List ℕ = replicate n 0 in
    let none : ℕ = 0 in
    (omega (arith, length-replicate n none), omega (arith, sum_by-cons (λ (k : ℕ). k) 1 zeros))

-- ---- the reading of an optimum
abbrev LowestWeight : Point → Type 0
LowestWeight point = IsLowest point.1

ok_reading : (a b : Reading) (r : Result Reading Wide) → r ≡ Ok a → r ≡ Ok b → a ≡ b
ok_reading a b r h k = cc

-- the points of weight 0 left out
without_empty : (n : ℕ) (orders : List Order) (states : List (List ℕ)) (fills : List Fraction) (S L : Fraction) (points : List Point) → All LowestWeight points
    → IsCertifiedAt n orders states (reading_with fills S points L) → IsCertifiedAt n orders states (reading_with fills S (points_with_weight points) L)
without_empty n orders states fills S L points low c =
    let d = empty_points_drop n orders S points low c.measure in
    record {
      fills = c.fills;
      liability_defined = c.liability_defined;
      surplus_defined = c.surplus_defined;
      earned = c.earned;
      not_below_zero = c.not_below_zero;
      enough = c.enough;
      measure = d.0;
      proves = λ cover. d.1 (c.proves cover);
    }

pub readings_are_certified : ReadingsAreCertified
readings_are_certified limit n orders states x y reduced S r are is h =
    let first = zero_prices n in
    let k = length orders in
    let p = plain_master first orders states in
    let fills : List Fraction = take k x in
    let slack : Fraction = at x k in
    let duals : List Fraction = take k y in
    let weights : List Fraction = drop k y in
    let points : List Point = measure_points first states (at reduced k) weights in
    let step = after_value (liability_of limit orders fills slack) (λ L. Ok (reading_with fills S (points_with_weight points) L)) r h in
    let L : Fraction = step.value in
    let ex : x ≡ fills ++ (slack ∷ []) = last_apart x k is.x_sign.count in
    let ey : y ≡ duals ++ weights = sym (take-append-drop k y) in
    let er : reduced ≡ take k reduced ++ (at reduced k ∷ []) = last_apart reduced k is.reduced_sign.count in
    let optimum : IsOptimum p (fills ++ (slack ∷ [])) (duals ++ weights) (take k reduced ++ (at reduced k ∷ [])) S =
    subst (λ v. IsOptimum p (fills ++ (slack ∷ [])) (duals ++ weights) v S) er
    (subst (λ v. IsOptimum p (fills ++ (slack ∷ [])) v reduced S) ey (subst (λ v. IsOptimum p v y reduced S) ex is)) in
    let read = liability_is_read limit n orders fills slack L (all_first IsLowest fills (slack ∷ []) optimum.x_sign.lowest) (is.x_sign.lowest k) step.first in
    let solved : IsSolved first orders states fills slack L S duals weights (take k reduced) (at reduced k) = record {
      optimum = optimum;
      fills_count = length-take-le k x (omega (arith, is.x_sign.count));
      duals_count = length-take-le k y (omega (arith, is.y_sign.count));
      weights_count = length-drop k y ∙ omega (arith, is.y_sign.count);
      reduced_count = length-take-le k reduced (omega (arith, is.reduced_sign.count));
      liability_defined = read.lowest.positive;
      liability_is = read.liability;
    } in
    let low : All LowestWeight points = All-cons LowestWeight (first, at reduced k) (zip states weights) (is.reduced_sign.lowest k) (All-zip_right IsLowest states weights (all_later IsLowest duals weights optimum.y_sign.lowest)) in
    let c = master_certifies n first orders states fills slack L S duals weights (take k reduced) (at reduced k) refl (zero_prices_are n) are solved in
    subst (λ v. IsCertifiedAt n orders (first ∷ states) v) (ok_reading (reading_with fills S (points_with_weight points) L) r _ refl step.rest) (without_empty n orders (first ∷ states) fills S L points low c)

-- ---- the reading of a run
pub run_is_as_said : (payoff_limit limit n left spent : ℕ) (orders : List Order) (states : List (List ℕ)) (p : LinearProgram) → master payoff_limit limit orders states ≡ Ok p
    → IsAsSaid (plain_master (zero_prices n) orders states) (run limit p left spent)
run_is_as_said payoff_limit limit n left spent orders states p h =
    let plain = plain_master (zero_prices n) orders states in
    subst (λ q. IsAsSaid plain (run limit q left spent)) (sym (steps_give_master payoff_limit limit n orders states p h))
    (ends_are_as_said limit plain left spent (master_is_program (zero_prices n) orders states))

pub runs_are_certified : RunsAreCertified
runs_are_certified payoff_limit limit n left spent units orders states p x y reduced S r are h ends read =
    readings_are_certified limit n orders states x y reduced S r are
    (subst (IsAsSaid (plain_master (zero_prices n) orders states)) ends (run_is_as_said payoff_limit limit n left spent orders states p h)) read

pub no_run_is_unbounded : NoRunIsUnbounded
no_run_is_unbounded payoff_limit limit left spent units orders states p d h ends =
    master_is_bounded (zero_prices 1) orders states d
    (subst (IsAsSaid (plain_master (zero_prices 1) orders states)) ends (run_is_as_said payoff_limit limit 1 left spent orders states p h))

-- ---- the greatest surplus
pub covered_is_greatest : CoveredIsGreatest
covered_is_greatest n orders states r c cover =
    let proves = c.proves cover in
    record {
      covers = cover;
      not_below_zero = c.not_below_zero;
      measure = c.measure;
      proves = proves;
      greatest = cover_and_measure_are_optimal n orders r.fills r.surplus r.measure c.surplus_defined cover c.measure proves;
    }
