use Rattle.std.proofs.Common.{◌≡◌, ◌+◌}
use Rattle.frac.specs.Value.{fraction_of}
use Rattle.form.specs.States.{vector_of}
use Rattle.portfolio_margin.specs.Answers.{asked_in}
use Rattle.portfolio_margin.specs.Run.{turns_from}
use Rattle.portfolio_margin.proofs.Turns.{AreLeft}
use Rattle.portfolio_margin.proofs.margins.turns.Given as goal

-- the searches that are left, from the liability so far, are all
abbrev pub invariant-loop-turn : goal.invariant-loop-turn
invariant-loop-turn l = record {
  left : (let a = asked_in l.fn.budget.limit l.batch l.fills in
      AreLeft a (turns_from a (l.fn.budget.limit + 1) (fraction_of l.fn.first.liability) (vector_of l.fn.first.at) l.fn.budget.spent) l._turn (fraction_of l.wanted.liability) (vector_of l.wanted.at) l.budget.spent);
  limit : l.budget.limit ≡ l.fn.budget.limit;
}
