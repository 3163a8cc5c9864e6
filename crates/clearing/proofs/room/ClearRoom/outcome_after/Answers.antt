use Rattle.std.proofs.Common.{sym, subst}
use Rattle.frac.specs.Value.{fraction_of}
use Rattle.constraint_generation.specs.Answers.{IsJointAnswer, as_stopped}
use Rattle.clearing.specs.Rooms.{IsMatchOf}
use Rattle.clearing.proofs.room.ClearRoom.outcome_after.Goals as goal

pub returns : goal.returns
returns c = λ end answer run.
    let batch = c.args.batch.now in
    c.outcome_at.ensures batch (subst (IsMatchOf batch.orders) (sym c.take.ensures) c.requires.room.matched)
    (subst (λ e. IsJointAnswer fraction_of e (as_stopped c.judged-end.result) c.args.units) (sym run) (c.judged-end.ensures end answer))
