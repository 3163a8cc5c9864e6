use Rattle.std.proofs.Common.{◌≡◌, ◌≤◌, ◌<◌, ◌+◌, subst, arith, ◌∙◌}
use Rattle.std.proofs.lemmas.Result.{err_from_is_err_and}
use Rattle.frac.specs.Value.{fraction_of}
use Rattle.form.specs.States.{vector_of}
use Rattle.portfolio_margin.specs.declared.turn.Turn.TheVariants.{Ends, Goes}
use Rattle.portfolio_margin.specs.Answers.{StopsAs, TurnsAs, asked_in}
use Rattle.portfolio_margin.specs.Run.{turn_at, turns_from}
use Rattle.portfolio_margin.proofs.Turns.{never_none, turns_end, turns_go, turns_stop}
use Rattle.portfolio_margin.proofs.margins.turns.Goals as goal

pub returns-in_err-margin : goal.returns-in_err-margin
returns-in_err-margin c =
    let q = err_from_is_err_and c.from_residual.result c.from_residual.ensures.1 in
    let l = c.loop-turn in
    let batch = c.args.batch.now in
    let fills = c.args.fills.now in
    let budget = c.args.budget.now in
    let L = fraction_of l.wanted.liability in
    let at = vector_of l.wanted.at in
    let a = asked_in budget.limit batch fills in
    let all = turns_from a (budget.limit + 1) (fraction_of c.args.first.liability) (vector_of c.args.first.at) budget.spent in
    let stop = c.in_err-margin.field-0.0 in
    let later = c.take_turn.new.budget.spent in
    let same : turn_at (asked_in l.budget.limit batch fills) L at l.budget.spent ≡ turn_at a L at l.budget.spent =
    λ j. turn_at (asked_in (l.invariant.limit j) batch fills) L at l.budget.spent in
    let was : StopsAs (turn_at a L at l.budget.spent) stop later = subst (λ e. StopsAs e stop later) same c.in_err-margin.ensures.turn in
    let low : l._turn ≤ budget.limit = omega (arith, c.loop-turn-test.true, c.from-turn-end.ensures) in
    record {
      end = rw (q.1, q.2) (turns_stop a all l._turn L at l.budget.spent later stop low l.invariant.left was);
      limit = c.take_turn.ensures.limit ∙ l.invariant.limit;
    }

pub returns-in-Ends : goal.returns-in-Ends
returns-in-Ends c =
    let l = c.loop-turn in
    let batch = c.args.batch.now in
    let fills = c.args.fills.now in
    let budget = c.args.budget.now in
    let L = fraction_of l.wanted.liability in
    let at = vector_of l.wanted.at in
    let a = asked_in budget.limit batch fills in
    let all = turns_from a (budget.limit + 1) (fraction_of c.args.first.liability) (vector_of c.args.first.at) budget.spent in
    let later = c.take_turn.new.budget.spent in
    let same : turn_at (asked_in l.budget.limit batch fills) L at l.budget.spent ≡ turn_at a L at l.budget.spent =
    λ j. turn_at (asked_in (l.invariant.limit j) batch fills) L at l.budget.spent in
    let was : TurnsAs (turn_at a L at l.budget.spent) (Ends c.in-Ends.margin) later =
    subst (λ x. TurnsAs (turn_at a L at l.budget.spent) x later) c.in-Ends.is (subst (λ e. TurnsAs e c.in_ok-margin.field-0 later) same c.in_ok-margin.ensures.turn) in
    let low : l._turn ≤ budget.limit = omega (arith, c.loop-turn-test.true, c.from-turn-end.ensures) in
    record {
      end = turns_end a all l._turn L at l.budget.spent later c.in-Ends.margin low l.invariant.left was;
      limit = c.take_turn.ensures.limit ∙ l.invariant.limit;
    }

pub loop-turn-preserved : goal.loop-turn-preserved
loop-turn-preserved c =
    let l = c.loop-turn in
    let batch = c.args.batch.now in
    let fills = c.args.fills.now in
    let budget = c.args.budget.now in
    let L = fraction_of l.wanted.liability in
    let at = vector_of l.wanted.at in
    let a = asked_in budget.limit batch fills in
    let all = turns_from a (budget.limit + 1) (fraction_of c.args.first.liability) (vector_of c.args.first.at) budget.spent in
    let later = c.take_turn.new.budget.spent in
    let same : turn_at (asked_in l.budget.limit batch fills) L at l.budget.spent ≡ turn_at a L at l.budget.spent =
    λ j. turn_at (asked_in (l.invariant.limit j) batch fills) L at l.budget.spent in
    let was : TurnsAs (turn_at a L at l.budget.spent) (Goes c.in-Goes.next) later =
    subst (λ x. TurnsAs (turn_at a L at l.budget.spent) x later) c.in-Goes.is (subst (λ e. TurnsAs e c.in_ok-margin.field-0 later) same c.in_ok-margin.ensures.turn) in
    let low : l._turn ≤ budget.limit = omega (arith, c.loop-turn-test.true, c.from-turn-end.ensures) in
    record {
      left = turns_go a all l._turn L at l.budget.spent later c.in-Goes.next low l.invariant.left was;
      limit = c.take_turn.ensures.limit ∙ l.invariant.limit;
    }

pub returns : goal.returns
returns c =
    let l = c.loop-turn in
    let budget = c.args.budget.now in
    let high : budget.limit < l._turn = omega (arith, c.loop-turn-test.false, c.from-turn-end.ensures) in
    record {
      end = absurd (never_none budget.limit c.args.batch.now c.args.fills.now c.args.first budget.spent l._turn (fraction_of l.wanted.liability) (vector_of l.wanted.at) l.budget.spent
          c.requires.forms c.requires.fills c.requires.not_below_zero budget.within high l.invariant.left);
      limit = l.invariant.limit;
    }
