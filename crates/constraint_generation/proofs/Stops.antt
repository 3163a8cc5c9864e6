-- A part that stops, or ends with an answer, and the whole that goes on after it.
use Rattle.std.proofs.Common.{◌≡◌, ℕ, List, refl, Ok, Err, true, false, Bool, sym, ap, ◌∙◌, subst}
use Rattle.exact_num.specs.Fraction.{Fraction}
use Rattle.simplex.specs.Spaces.{Contents, IsFound, answer_of, contents_after}
use Rattle.simplex.specs.Stops.{stop_of}
use Rattle.simplex.specs.declared.stop.RunStop.{RunStop}
use Rattle.simplex.specs.declared.stop.RunStop.TheVariants.{Wide, Budget}
use Rattle.simplex_run.specs.Ending.{Ending, done, unbounded, wide_at, no_unit_left, on_answer}
use Rattle.simplex_run.specs.Run.{Optimum}
use Rattle.simplex_run.specs.Units.{units_of}
use Rattle.pricing_oracle.proofs.NodeEnds.{optimum_there}
use Rattle.constraint_generation.specs.Answers.{IsJointAnswer}
use Rattle.constraint_generation.specs.Optima.{optimum_of}
use Rattle.constraint_generation.specs.Stops.{IsStopOf}
use Rattle.constraint_generation.specs.Run.{CoveredReading}

-- ---- a run in a space that stops, and one that does not rise
pub run_stop : (e : Ending Optimum) (stop : RunStop) (units : ℕ) → answer_of e ≡ Err stop → units ≡ units_of e → IsStopOf e stop units
run_stop (done o s) stop units err spent = cc
run_stop (unbounded d s) stop units err spent = cc
run_stop (wide_at s w) (Wide u v) units err spent =
    let unit : s ≡ u = cc in
    let wide : w ≡ v = cc in
    ((λ i. wide_at (unit i) (wide i)), spent ∙ unit)
run_stop (wide_at s w) Budget units err spent = cc
run_stop (no_unit_left s) (Wide u v) units err spent = cc
run_stop (no_unit_left s) Budget units err spent = ap (λ (u : ℕ). no_unit_left u) (sym spent)

pub found_there : (e : Ending Optimum) (bounded : Bool) (c : Contents) (units : ℕ) → answer_of e ≡ Ok bounded → c ≡ contents_after e → units ≡ units_of e → ((d : List Fraction) (s : ℕ) → e ≡ unbounded d s → ⊥)
    → IsFound c × (e ≡ done (optimum_of c) units)
found_there e true c units ok is spent never =
    let there = optimum_there e c units ok is spent in
    (there.1, there.0)
found_there (done o s) false c units ok is spent never = cc
found_there (unbounded d s) false c units ok is spent never = absurd (never d s refl)
found_there (wide_at s w) false c units ok is spent never = cc
found_there (no_unit_left s) false c units ok is spent never = cc

-- ---- what stops a part stops the whole
pub stops_after : {A B : Type 0} (ending : Ending A) (next : A → ℕ → Ending B) (stop : RunStop) (spent : ℕ) → IsStopOf ending stop spent → IsStopOf (on_answer ending next) stop spent
stops_after {A} {B} ending next (Wide unit w) spent is = let go : Ending A → Ending B = λ e. on_answer e next in (ap go is.0, is.1)
stops_after {A} {B} ending next Budget spent is = let go : Ending A → Ending B = λ e. on_answer e next in ap go is

pub stops_as : {A : Type 0} (whole ending : Ending A) (stop : RunStop) (spent : ℕ) → whole ≡ ending → IsStopOf ending stop spent → IsStopOf whole stop spent
stops_as {A} whole ending stop spent e is = subst (λ (x : Ending A). IsStopOf x stop spent) (sym e) is

-- and is its answer
pub joint_of_stop : {A : Type 0} (value : A → Fraction) (ending : Ending CoveredReading) (stop : RunStop) (spent : ℕ) → IsStopOf ending stop spent → IsJointAnswer value ending (Err (stop_of stop)) spent
joint_of_stop value ending (Wide unit w) spent is = is
joint_of_stop value ending Budget spent is = is

-- ---- a part that is there
pub goes_on : {A B : Type 0} (whole : Ending B) (ending : Ending A) (next : A → ℕ → Ending B) (a : A) (spent : ℕ) → whole ≡ on_answer ending next → ending ≡ done a spent → whole ≡ next a spent
goes_on {A} {B} whole ending next a spent e is = let go : Ending A → Ending B = λ x. on_answer x next in e ∙ ap go is
