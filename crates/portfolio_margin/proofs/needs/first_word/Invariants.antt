use Rattle.std.proofs.Common.{◌≡◌, drop}
use Rattle.portfolio_margin.specs.Need.{first_word}
use Rattle.portfolio_margin.proofs.needs.first_word.Given as goal

-- the first word of those that are left is the first of all
abbrev pub invariant-loop-margin : goal.invariant-loop-margin
invariant-loop-margin l = first_word l.margins ≡ first_word (drop l.margin-index l.margins)
