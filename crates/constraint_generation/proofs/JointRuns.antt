-- What the reference run clears, on one underlying and on several.
use Rattle.std.proofs.Common.{◌≡◌, ℕ, zero, suc, ◌≤◌, ◌<◌, ◌-◌, ◌==◌, List, Bool, true, false, if◌then◌else◌, Result, Ok, Err, refl, subst, arith}
use Rattle.std.proofs.lemmas.Bool.{eqb-true}
use Rattle.exact_num.specs.Fraction.{Fraction}
use Rattle.exact_num.specs.declared.misfit.Wide.{Wide as Misfit}
use Rattle.simplex_run.specs.Ending.{Ending, done, unbounded, wide_at, no_unit_left, on_answer, on_steps, where_fits}
use Rattle.simplex_run.proofs.Endings.{on_answer-done}
use Rattle.form.specs.declared.orders.Order.{Order}
use Rattle.clearing_model.specs.Clearing.{AreOn}
use Rattle.cert_check.specs.declared.outcome.Cover.{Cover}
use Rattle.cert_check.specs.declared.outcome.Cover.TheVariants.{Line, Tree}
use Rattle.master_program.specs.Reading.{Reading}
use Rattle.clearing_model.specs.Written.{WrittenTree}
use Rattle.line_cover.specs.Breakpoints.{later_states}
use Rattle.master_program.specs.Solve.{master_solve}
use Rattle.master_program.specs.Rounds.{Limits, Cleared, rounds}
use Rattle.search_laws.specs.Run.{tree_run, sums_hold as tree_sums}
use Rattle.search_laws.proofs.Run.{cleared_is_greatest as tree_is_greatest, each_run_ends as tree_run_ends, cleared_passes_the_verdict as tree_passes}
use Rattle.constraint_generation.specs.Answers.{IsCoverAs}
use Rattle.constraint_generation.specs.Laws.{IsGreatestBy, IsYesWith, PassesTheVerdict, ClearedIsGreatest, NoRunIsWithoutEnd, ClearedPassesTheVerdict}
use Rattle.constraint_generation.specs.Run.{CoveredReading, WrittenCover, by_line, by_tree, on_line, on_tree, line_run, sums_hold, sums_of, joint_run}
use Rattle.constraint_generation.proofs.Cleared.{line_run_is_greatest, line_run_ends, line_run_passes}

-- ---- the run by cases
abbrev pub the_line : Limits → List Order → ℕ → Ending Reading
the_line limits orders spent = line_run limits.payoff_limit limits.limit (limits.budget - spent) spent orders

abbrev pub by_count : Bool → Limits → ℕ → List Order → ℕ → Ending CoveredReading
by_count one limits n orders spent = if one then on_answer (the_line limits orders spent) on_line else on_answer (tree_run limits n orders spent) on_tree

-- the sums that come last, with the cover beside what was read off
abbrev pub cleared_by : ℕ → Reading → WrittenCover → Result Bool Misfit → Ending CoveredReading
cleared_by spent r written sums = on_steps spent sums (λ b. done (r, written) spent)

on_line_steps : (spent : ℕ) (r : Reading) (sums : Result Bool Misfit) → cleared_by spent r by_line sums ≡ on_answer (on_steps spent sums (λ b. done r spent)) on_line
on_line_steps spent r (Ok b) = refl
on_line_steps spent r (Err w) = refl

on_tree_steps : (spent : ℕ) (r : Reading) (tree : WrittenTree) (sums : Result Bool Misfit) → cleared_by spent r (by_tree tree) sums ≡ on_answer (on_steps spent sums (λ b. done (r, tree) spent)) on_tree
on_tree_steps spent r tree (Ok b) = refl
on_tree_steps spent r tree (Err w) = refl

line_last : (size n : ℕ) (orders : List Order) (e : Ending Reading) → on_answer (on_answer e on_line) (where_fits (sums_of size n orders)) ≡ on_answer (on_answer e (where_fits (sums_hold size orders))) on_line
line_last size n orders (done r s) = on_line_steps s r (sums_hold size orders r)
line_last size n orders (unbounded d s) = refl
line_last size n orders (wide_at s w) = refl
line_last size n orders (no_unit_left s) = refl

tree_last : (size n : ℕ) (orders : List Order) (e : Ending Cleared) → on_answer (on_answer e on_tree) (where_fits (sums_of size n orders)) ≡ on_answer (on_answer e (where_fits (tree_sums size n orders))) on_tree
tree_last size n orders (done c s) = on_tree_steps s c.0 c.1 (tree_sums size n orders c)
tree_last size n orders (unbounded d s) = refl
tree_last size n orders (wide_at s w) = refl
tree_last size n orders (no_unit_left s) = refl

pub joint_run-is : (limits : Limits) (n : ℕ) (orders : List Order) (spent : ℕ) → joint_run limits n orders spent ≡ by_count (n == 1) limits n orders spent
unfolding joint_run line_run tree_run
joint_run-is limits n orders spent = by (n == 1)
  where
    by : (one : Bool)
        → on_answer (if one then on_answer (master_solve limits.payoff_limit limits.limit (limits.budget - spent) spent 1 orders (later_states orders)) on_line else on_answer (rounds limits n orders spent) on_tree)
        (where_fits (sums_of limits.payoff_limit n orders))
        ≡ by_count one limits n orders spent
    by true = line_last limits.payoff_limit n orders (master_solve limits.payoff_limit limits.limit (limits.budget - spent) spent 1 orders (later_states orders))
    by false = tree_last limits.payoff_limit n orders (rounds limits n orders spent)

several : (n : ℕ) → 1 ≤ n → (n == 1) ≡ false → 1 < n
several zero some is = absurd (omega (arith, some))
several (suc zero) some is = cc
several (suc (suc n)) some is = omega arith

-- ---- what it clears
on_line-is : (r : Reading) (s : CoveredReading) (spent units : ℕ) → on_line r spent ≡ done s units → (r, by_line) ≡ s
on_line-is r s spent units h = cc

on_tree-is : (c : Cleared) (s : CoveredReading) (spent units : ℕ) → on_tree c spent ≡ done s units → (c.0, by_tree c.1) ≡ s
on_tree-is c s spent units h = cc

pub cleared_is_greatest : ClearedIsGreatest
cleared_is_greatest limits n spent units orders s some few le h = by (n == 1) refl (subst (λ e. e ≡ done s units) (joint_run-is limits n orders spent) h)
  where
    by : (one : Bool) → (n == 1) ≡ one → by_count one limits n orders spent ≡ done s units → IsGreatestBy n orders s
    by true is e =
        let c = on_answer-done (the_line limits orders spent) on_line s units e in
        subst (IsGreatestBy n orders) (on_line-is c.answer s c.spent units c.rest)
        (eqb-true n 1 is, line_run_is_greatest limits.payoff_limit limits.limit (limits.budget - spent) spent c.spent orders c.answer c.first)
    by false is e =
        let c = on_answer-done (tree_run limits n orders spent) on_tree s units e in
        subst (IsGreatestBy n orders) (on_tree-is c.answer s c.spent units c.rest)
        (several n some is, tree_is_greatest limits n spent c.spent orders c.answer.0 c.answer.1 some few le c.first)

-- ---- no run is without an end
line_ends : (limits : Limits) (orders : List Order) (spent : ℕ) (e : Ending Reading) (d : List Fraction) (units : ℕ) → on_answer e on_line ≡ unbounded d units → e ≡ unbounded d units
line_ends limits orders spent (done r u) d units h = cc
line_ends limits orders spent (unbounded d' u) d units h = cc
line_ends limits orders spent (wide_at u w) d units h = cc
line_ends limits orders spent (no_unit_left u) d units h = cc

tree_ends : (e : Ending Cleared) (d : List Fraction) (units : ℕ) → on_answer e on_tree ≡ unbounded d units → e ≡ unbounded d units
tree_ends (done c u) d units h = cc
tree_ends (unbounded d' u) d units h = cc
tree_ends (wide_at u w) d units h = cc
tree_ends (no_unit_left u) d units h = cc

pub no_run_is_without_end : NoRunIsWithoutEnd
no_run_is_without_end limits n spent units orders d some few le h = by (n == 1) (subst (λ e. e ≡ unbounded d units) (joint_run-is limits n orders spent) h)
  where
    by : (one : Bool) → by_count one limits n orders spent ≡ unbounded d units → ⊥
    by true e = line_run_ends limits.payoff_limit limits.limit (limits.budget - spent) spent units orders d (line_ends limits orders spent (the_line limits orders spent) d units e)
    by false e = tree_run_ends limits n spent units orders d some few le (tree_ends (tree_run limits n orders spent) d units e)

-- ---- the verdict
pub cleared_passes_the_verdict : ClearedPassesTheVerdict
cleared_passes_the_verdict limits spent units batch s some few on le wide h = by (batch.underlyings == 1) refl (subst (λ e. e ≡ done s units) (joint_run-is limits batch.underlyings batch.orders spent) h)
  where
    line : (r : Reading) (u : ℕ) → batch.underlyings ≡ 1 → the_line limits batch.orders spent ≡ done r u → (cover : Cover) → IsCoverAs by_line cover → IsYesWith batch r cover
    line r u one e Line is =
        line_run_passes limits.limit (limits.budget - spent) spent u batch r one (subst (λ (k : ℕ). AreOn k batch.orders) one on)
        (subst (λ (l : ℕ). line_run l limits.limit (limits.budget - spent) spent batch.orders ≡ done r u) wide e)
    line r u one e (Tree tree) is = absurd is

    tree : (c : Cleared) (u : ℕ) → 1 < batch.underlyings → tree_run limits batch.underlyings batch.orders spent ≡ done c u → (cover : Cover) → IsCoverAs (by_tree c.1) cover → IsYesWith batch c.0 cover
    tree c u many e Line is = absurd is
    tree c u many e (Tree t) is = λ outcome measure claimed. tree_passes limits spent u batch c.0 c.1 many few on le wide e outcome t measure is.0 is.1 claimed

    by : (one : Bool) → (batch.underlyings == 1) ≡ one → by_count one limits batch.underlyings batch.orders spent ≡ done s units → PassesTheVerdict batch s
    by true is e =
        let c = on_answer-done (the_line limits batch.orders spent) on_line s units e in
        subst (PassesTheVerdict batch) (on_line-is c.answer s c.spent units c.rest) (line c.answer c.spent (eqb-true batch.underlyings 1 is) c.first)
    by false is e =
        let c = on_answer-done (tree_run limits batch.underlyings batch.orders spent) on_tree s units e in
        subst (PassesTheVerdict batch) (on_tree-is c.answer s c.spent units c.rest) (tree c.answer c.spent (several batch.underlyings some is) c.first)
