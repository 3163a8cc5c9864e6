use Rattle.std.proofs.Common.{◌≡◌, ℕ, ◌<◌, get_or, pos}
use Rattle.sign_tree.proofs.closing.unsign.Given as goal

abbrev pub invariant-loop-sign : goal.invariant-loop-sign
invariant-loop-sign l = (k : ℕ) → k < l.sign-index → get_or l.signs k (pos 0) ≡ pos 0
