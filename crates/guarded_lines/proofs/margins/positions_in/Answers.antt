use Rattle.std.proofs.Common.{◌+◌, sym, subst, All}
use Rattle.std.proofs.lemmas.Result.{IfOk-weaker}
use Rattle.form.specs.Payoff.{IsOnCount}
use Rattle.settlement.specs.declared.position.Position.{Position}
use Rattle.settlement.specs.Positions.{IsHeldPosition}
use Rattle.exchange_core.specs.Held.{underlyings_in}
use Rattle.exchange_core.proofs.HeldPositions.{held_are_held, held_are_on}
use Rattle.guarded_lines.proofs.margins.positions_in.Goals as goal

pub returns-clause-forms : goal.returns-clause-forms
returns-clause-forms c =
    let state = c.args.exchange.now in
    IfOk-weaker c.positions_of.result _ _
    (λ positions is. subst (All (λ (p : Position). IsOnCount (underlyings_in state.book c.args.market + 1) p.bundle)) (sym is)
    (held_are_on state c.args.account c.args.market c.positions_of.ensures.kept)) c.positions_of.ensures.positions

pub returns-clause-held : goal.returns-clause-held
returns-clause-held c =
    IfOk-weaker c.positions_of.result _ _
    (λ positions is. subst (All IsHeldPosition) (sym is) (held_are_held c.args.exchange.now c.args.account c.args.market c.positions_of.ensures.kept))
    c.positions_of.ensures.positions
