use Rattle.std.proofs.Common.{◌≡◌, ◌+◌, ◌++◌, string_bytes}
use Rattle.demo_run.specs.Text.{each, deposit_line}
use Rattle.demo_run.proofs.text.append_deposits.Given as goal

abbrev pub invariant-loop-index : goal.invariant-loop-index
invariant-loop-index l = string_bytes l.text ≡ string_bytes l.initial.text ++ each (λ k. deposit_line (k + 1)) l.index
