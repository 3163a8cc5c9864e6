use Rattle.std.proofs.Common.{ℕ, ◌/◌, ◌%◌, ap}
use Rattle.demo_run.proofs.Steps.{wrapped_step}
use Rattle.demo_run.proofs.draws.Draws.draw.Goals as goal

pub returns-clause-value : goal.returns-clause-value
returns-clause-value c = ap (λ (n : ℕ). n / 8589934592 % c.args.below) (wrapped_step c.args.self.now.state)

pub returns-clause-state : goal.returns-clause-state
returns-clause-state c = wrapped_step c.args.self.now.state
