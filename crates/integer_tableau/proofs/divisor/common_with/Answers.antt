use Rattle.std.proofs.Common.{◌∙◌, ap, sym, ℕ}
use Rattle.arithmetic.specs.Gcd.{gcd}
use Rattle.arithmetic.proofs.GcdLaws.{zero-gcd}
use Rattle.integer_tableau.proofs.Numbers.{gcd_of_multiple, gcd_of_rest}
use Rattle.integer_tableau.proofs.divisor.common_with.Goals as goal

pub returns-then-size-eq0-clause-value : goal.returns-then-size-eq0-clause-value
returns-then-size-eq0-clause-value c = sym (ap (λ (k : ℕ). gcd k c.args.found) c.if-size-eq0.true ∙ zero-gcd c.args.found)

pub returns-then-rest-eq0-clause-value : goal.returns-then-rest-eq0-clause-value
returns-then-rest-eq0-clause-value c = sym (gcd_of_multiple c.args.size c.args.found c.if-rest-eq0.true)

pub returns-clause-value : goal.returns-clause-value
returns-clause-value c = c.short_gcd.ensures.value ∙ gcd_of_rest c.args.size c.args.found
