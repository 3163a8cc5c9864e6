-- What the reference run implies.
use Rattle.std.specs.Prelude.{ℕ, ◌≡◌, ◌≤◌, ◌<◌, ◌+◌, ◌-◌, List, length}
use Rattle.exact_num.specs.Fraction.{Fraction}
use Rattle.frac.specs.Range.{limit}
use Rattle.form.specs.declared.orders.Order.{Order}
use Rattle.form.specs.declared.orders.Batch.{Batch}
use Rattle.form.specs.declared.limits.TheConstants.{MAX_UNDERLYINGS}
use Rattle.clearing_model.specs.Clearing.{AreOn}
use Rattle.line_cover.specs.Breakpoints.{later_states}
use Rattle.cert_check.specs.declared.measures.Measure.{Measure}
use Rattle.cert_check.specs.declared.outcome.Cover.{Cover}
use Rattle.cert_check.specs.declared.outcome.Verdict.TheVariants.{Yes}
use Rattle.cert_check.specs.declared.outcome.Outcome.{Outcome}
use Rattle.cert_check.specs.Events.{verdict_of}
use Rattle.master_program.specs.Reading.{Reading}
use Rattle.master_program.specs.Certified.{IsGreatestByLine}
use Rattle.master_program.specs.Verdict.{IsOutcomeOf}
use Rattle.master_program.specs.Rounds.{Limits, limits_within}
use Rattle.search_laws.specs.Rounds.{IsGreatestByTree}
use Rattle.constraint_generation.specs.Answers.{IsCoverAs}
use Rattle.constraint_generation.specs.Run.{CoveredReading, by_line, by_tree, unjudged_run, joint_run}
use Rattle.simplex_run.specs.Choose.{choose}
use Rattle.simplex_run.specs.Ending.{done, unbounded, no_unit_left, HasNoMisfit}

-- what was cleared is covered by the line of one underlying, or else by a tree, and its measure
-- proves that it is the greatest
abbrev pub IsGreatestBy : ℕ → List Order → CoveredReading → Type 0
IsGreatestBy n orders (r, by_line) = (n ≡ 1) × IsGreatestByLine orders r
IsGreatestBy n orders (r, by_tree tree) = (1 < n) × IsGreatestByTree n orders r tree

-- so it is of what a run clears
abbrev pub ClearedIsGreatest : Type 0
ClearedIsGreatest =
    (limits : Limits) (n spent units : ℕ) (orders : List Order) (s : CoveredReading) → 1 ≤ n → n ≤ MAX_UNDERLYINGS → spent ≤ limits.budget
    → joint_run limits n orders spent ≡ done s units → IsGreatestBy n orders s

-- each run ends with what it clears, or stops
abbrev pub NoRunIsWithoutEnd : Type 0
NoRunIsWithoutEnd =
    (limits : Limits) (n spent units : ℕ) (orders : List Order) (d : List Fraction) → 1 ≤ n → n ≤ MAX_UNDERLYINGS → spent ≤ limits.budget
    → joint_run limits n orders spent ≡ unbounded d units → ⊥

-- a run before the sums that meets no misfit is the same with each greater limit of the solver's
-- numbers,
abbrev pub UnjudgedRunsAreTheSame : Type 0
UnjudgedRunsAreTheSame =
    (limits : Limits) (greater n spent : ℕ) (orders : List Order) → limits.limit ≤ greater → HasNoMisfit (unjudged_run limits n orders spent)
    → unjudged_run (limits_within greater limits) n orders spent ≡ unjudged_run limits n orders spent

-- and so is the whole run
abbrev pub JointRunsAreTheSame : Type 0
JointRunsAreTheSame =
    (limits : Limits) (greater n spent : ℕ) (orders : List Order) → limits.limit ≤ greater → HasNoMisfit (joint_run limits n orders spent)
    → joint_run (limits_within greater limits) n orders spent ≡ joint_run limits n orders spent

-- the ways to choose the basic variables of the master program of orders on one underlying: its
-- variables are the orders and one more, its rows the orders and the states of the line but the
-- first
abbrev pub choices_of : List Order → ℕ
choices_of orders = let rows = length orders + length (later_states orders) in choose (length orders + 1 + rows) rows

-- a run on one underlying that ends for want of a unit had fewer left than these
abbrev pub UnitsSufficeOnLine : Type 0
UnitsSufficeOnLine =
    (limits : Limits) (spent units : ℕ) (orders : List Order) → joint_run limits 1 orders spent ≡ no_unit_left units
    → limits.budget - spent < choices_of orders

-- the verdict on an outcome that claims the reading with the cover is yes
abbrev pub IsYesWith : Batch → Reading → Cover → Type 0
IsYesWith batch r cover = (outcome : Outcome) (measure : Measure) → IsOutcomeOf r outcome cover measure → verdict_of limit batch outcome ≡ Yes

-- so it is with each cover that is the solution's
abbrev pub PassesTheVerdict : Batch → CoveredReading → Type 0
PassesTheVerdict batch (r, written) = (cover : Cover) → IsCoverAs written cover → IsYesWith batch r cover

-- so it is of what a run clears
abbrev pub ClearedPassesTheVerdict : Type 0
ClearedPassesTheVerdict =
    (limits : Limits) (spent units : ℕ) (batch : Batch) (s : CoveredReading) → 1 ≤ batch.underlyings → batch.underlyings ≤ MAX_UNDERLYINGS
    → AreOn batch.underlyings batch.orders → spent ≤ limits.budget → limits.payoff_limit ≡ limit
    → joint_run limits batch.underlyings batch.orders spent ≡ done s units → PassesTheVerdict batch s
