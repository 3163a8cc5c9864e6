-- What is told of a margin is what its run ends with.
use Rattle.std.proofs.Common.{◌≡◌, ℕ, ◌≤◌, false, nat_lt, ap, sym, ◌∙◌, arith}
use Rattle.std.proofs.lemmas.Bool.Decides.{nat_tests}
use Rattle.form.specs.declared.limits.TheConstants.{MAX_ORDERS}
use Rattle.form.proofs.StateOf.{state-vector_of}
use Rattle.frac.proofs.ValueOf.{value-fraction_of}
use Rattle.simplex_run.specs.Ending.{Ending}
use Rattle.proposal_text.specs.declared.margins.ToldMargin.TheVariants as told
use Rattle.proposal_text.specs.declared.needs.Need.TheVariants as need
use Rattle.portfolio_margin.specs.declared.least_margin.LeastMargin.{LeastMargin}
use Rattle.portfolio_margin.specs.declared.least_margin.LeastMargin.TheVariants.{Least, Unbounded, Wide, Budget}
use Rattle.portfolio_margin.specs.Answers.{IsMarginOf}
use Rattle.portfolio_margin.specs.Run.{Margin}
use Rattle.guarded_lines.specs.Margins.{told_by, told_of}

pub told_is : (ending : Ending Margin) (margin : LeastMargin) → IsMarginOf ending margin → told_by margin ≡ told_of ending
told_is ending (Least L at tree) (written, units, is, ended) =
    sym (ap told_of ended ∙ (λ i. told.Least (value-fraction_of L i) (state-vector_of at i)))
told_is ending (Unbounded ray) (units, ended) = sym (ap told_of ended ∙ (λ i. told.Unbounded (state-vector_of ray i)))
told_is ending (Wide unit wide) ended = sym (ap told_of ended)
told_is ending Budget (units, ended) = sym (ap told_of ended)

-- ---- the margin of an account in a market, as the code asks for it

pub many_not : (n : ℕ) → n ≤ MAX_ORDERS → nat_lt MAX_ORDERS n ≡ false
many_not n few = grind (arith, nat_tests)
