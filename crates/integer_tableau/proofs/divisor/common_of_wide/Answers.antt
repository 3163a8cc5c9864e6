use Rattle.std.proofs.Common.{◌∙◌, ap, sym, ℕ}
use Rattle.arithmetic.specs.Gcd.{gcd}
use Rattle.arithmetic.proofs.GcdLaws.{zero-gcd}
use Rattle.integer_tableau.proofs.divisor.common_of_wide.Goals as goal

pub returns-then-size-eq0 : goal.returns-then-size-eq0
returns-then-size-eq0 c = sym (ap (λ (k : ℕ). gcd k c.args.found) c.if-size-eq0.true ∙ zero-gcd c.args.found)
