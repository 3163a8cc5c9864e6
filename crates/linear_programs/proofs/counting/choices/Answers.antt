use Rattle.std.proofs.Common.{◌≡◌, ◌<◌, ℕ, subst}
use Rattle.std.specs.Prelude.{IfSome, IsSome, ◌↔◌}
use Rattle.linear_programs.proofs.Choosing.{ways_turned}
use Rattle.linear_programs.proofs.counting.choices.Goals as goal

pub returns-then-variables-rows-clause-value : goal.returns-then-variables-rows-clause-value
returns-then-variables-rows-clause-value c =
    subst (λ (k : ℕ). IfSome c.ways.result (λ number. number ≡ k)) (ways_turned c.args.rows c.args.variables) c.ways.ensures.value

pub returns-then-variables-rows-clause-fits : goal.returns-then-variables-rows-clause-fits
returns-then-variables-rows-clause-fits c =
    subst (λ (k : ℕ). IsSome c.ways.result ↔ (k < 9223372036854775808)) (ways_turned c.args.rows c.args.variables) c.ways.ensures.fits
