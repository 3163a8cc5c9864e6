-- What was found, and the sums of the verdict on it.
use Rattle.std.proofs.Common.{◌≡◌, ℕ, ◌-◌, ◌<◌, ◌==◌, List, Bool, true, false, if◌then◌else◌, Result, Ok, Err, refl, sym, ap, ◌∙◌, subst, arith}
use Rattle.std.proofs.lemmas.Bool.{eqb-true}
use Rattle.exact_num.specs.declared.misfit.Wide.{Wide as Misfit}
use Rattle.exact_num.specs.Fraction.{Fraction}
use Rattle.frac.specs.Range.{limit as largest}
use Rattle.simplex_run.specs.Ending.{Ending, done, on_answer, where_fits}
use Rattle.form.specs.declared.orders.Order.{Order}
use Rattle.form.specs.declared.orders.Batch.{Batch}
use Rattle.sign_tree.specs.Walk.{fraction_legs, closes_of}
use Rattle.cert_check.specs.declared.outcome.Cover.{Cover}
use Rattle.cert_check.specs.declared.outcome.Cover.TheVariants.{Line, Tree}
use Rattle.line_cover.specs.Breakpoints.{later_states}
use Rattle.simplex.specs.declared.stop.SolveStop.{SolveStop}
use Rattle.simplex.specs.declared.stop.SolveStop.TheVariants.{Wide, Budget, Memory}
use Rattle.master_program.specs.Reading.{Reading}
use Rattle.master_program.specs.Solve.{master_solve}
use Rattle.master_program.specs.Verdict.{sums_on, sums_with}
use Rattle.master_program.specs.Rounds.{Limits, rounds}
use Rattle.constraint_generation.specs.declared.solution.Solution.{Solution}
use Rattle.constraint_generation.specs.Answers.{IsCoverAs, IsJointAnswer, IsJudgedAnswer, OfSolution, reading_in}
use Rattle.constraint_generation.specs.Run.{CoveredReading, WrittenCover, by_line, by_tree, on_line, on_tree, sums_of, unjudged_run, joint_run}
use Rattle.constraint_generation.proofs.JointRuns.{cleared_by}

pub joint_answer_as : {A : Type 0} (value : A → Fraction) (whole ending : Ending CoveredReading) (result : Result (Solution A) SolveStop) (spent : ℕ) → whole ≡ ending → IsJointAnswer value ending result spent → IsJointAnswer value whole result spent
joint_answer_as {A} value whole ending result spent e is = subst (λ (x : Ending CoveredReading). IsJointAnswer value x result spent) (sym e) is

-- ---- before the sums, on one underlying
pub on_one : (limits : Limits) (n : ℕ) (orders : List Order) (spent : ℕ) (states : List (List ℕ)) → n ≡ 1 → states ≡ later_states orders
    → unjudged_run limits n orders spent ≡ on_answer (master_solve limits.payoff_limit limits.limit (limits.budget - spent) spent n orders states) on_line
on_one limits n orders spent states one is =
    let several = on_answer (rounds limits n orders spent) on_tree in
    let first = on_answer (master_solve limits.payoff_limit limits.limit (limits.budget - spent) spent 1 orders (later_states orders)) on_line in
    ap (λ (k : ℕ). if k == 1 then first else several) one
    ∙ (λ j. on_answer (master_solve limits.payoff_limit limits.limit (limits.budget - spent) spent (sym one j) orders (sym is j)) on_line)

-- ---- on several
not_one : (n : ℕ) → 1 < n → (n == 1) ≡ false
not_one n several = by (n == 1) refl
  where
    by : (one : Bool) → (n == 1) ≡ one → one ≡ false
    by true is = absurd (omega (arith, eqb-true n 1 is, several))
    by false is = refl

pub on_several : (limits : Limits) (n : ℕ) (orders : List Order) (spent : ℕ) → 1 < n
    → unjudged_run limits n orders spent ≡ on_answer (rounds limits n orders spent) on_tree
on_several limits n orders spent several =
    let first = on_answer (master_solve limits.payoff_limit limits.limit (limits.budget - spent) spent 1 orders (later_states orders)) on_line in
    ap (λ (one : Bool). if one then first else on_answer (rounds limits n orders spent) on_tree) (not_one n several)

-- ---- the sums of the code are those of the run: a tree is walked as it is written
pub same_sums : (batch : Batch) (r : Reading) (written : WrittenCover) (cover : Cover) → IsCoverAs written cover → sums_of largest batch.underlyings batch.orders (r, written) ≡ sums_on batch r cover
same_sums batch r by_line Line is = refl
same_sums batch r by_line (Tree tree) is = absurd is
same_sums batch r (by_tree written) Line is = absurd is
same_sums batch r (by_tree written) (Tree tree) is =
    λ j. sums_with largest batch.orders r (closes_of largest batch.underlyings (fraction_legs batch.orders r.fills) r.liability (sym is.0 j) (sym is.1 j))

-- a solution whose sums fit
pub passed : {A : Type 0} (value : A → Fraction) (batch : Batch) (joint : Solution A) (spent : ℕ) (holds : Bool)
    → sums_on batch (reading_in value joint) joint.cover ≡ Ok holds → IsJudgedAnswer value batch joint (Ok joint) spent
passed value batch joint spent holds fits written is =
    let r = reading_in value joint in
    let ended : Result Bool Misfit → Ending CoveredReading = cleared_by spent r written in
    (written, is, ap ended (same_sums batch r written joint.cover is ∙ fits))

-- and one of which a step does not fit
pub not_passed : {A : Type 0} (value : A → Fraction) (batch : Batch) (joint : Solution A) (spent : ℕ) (w : Misfit)
    → sums_on batch (reading_in value joint) joint.cover ≡ Err w → IsJudgedAnswer value batch joint (Err (Wide spent w)) spent
not_passed value batch joint spent w fits written is =
    let r = reading_in value joint in
    let ended : Result Bool Misfit → Ending CoveredReading = cleared_by spent r written in
    (ap ended (same_sums batch r written joint.cover is ∙ fits), refl)

-- ---- the whole run
pub then_sums : (limits : Limits) (n : ℕ) (orders : List Order) (spent : ℕ) → joint_run limits n orders spent ≡ on_answer (unjudged_run limits n orders spent) (where_fits (sums_of limits.payoff_limit n orders))
unfolding joint_run
then_sums limits n orders spent = refl

-- a run that stops before the sums stops,
pub stops_before : {A : Type 0} (value : A → Fraction) (whole ending : Ending CoveredReading) (next : CoveredReading → ℕ → Ending CoveredReading) (stop : SolveStop) (units : ℕ)
    → whole ≡ on_answer ending next → IsJointAnswer value ending (Err stop) units → IsJointAnswer value whole (Err stop) units
stops_before value whole ending next (Wide unit w) units e is = let go : Ending CoveredReading → Ending CoveredReading = λ x. on_answer x next in (e ∙ ap go is.0, is.1)
stops_before value whole ending next Budget units e is = let go : Ending CoveredReading → Ending CoveredReading = λ x. on_answer x next in e ∙ ap go is
stops_before value whole ending next Memory units e is = tt

-- and one that does not is judged
pub judged_after : {A : Type 0} (value : A → Fraction) (batch : Batch) (whole ending : Ending CoveredReading) (joint : Solution A) (result : Result (Solution A) SolveStop) (units : ℕ)
    → whole ≡ on_answer ending (where_fits (sums_of largest batch.underlyings batch.orders)) → OfSolution value (λ s. ending ≡ done s units) joint
    → IsJudgedAnswer value batch joint result units → IsJointAnswer value whole result units
judged_after value batch whole ending joint result units e found judged =
    let go : Ending CoveredReading → Ending CoveredReading = λ x. on_answer x (where_fits (sums_of largest batch.underlyings batch.orders)) in
    joint_answer_as value whole _ result units (e ∙ ap go found.2) (judged found.0 found.1)
