use Rattle.std.proofs.Common.{arith, sym, ◌∙◌}
use Rattle.form.proofs.MadeEntries.{front_written, state_made}
use Rattle.form.proofs.states.State.from_entries.Goals as goal

pub returns : goal.returns
returns c =
    let v = c.args.entries.now in
    state_made v _ (omega (arith, c.if-entries-lt2.false)) (omega (arith, c.if-entries-gt9.false)) (sym c.are_from_zero.ensures ∙ c.if-not-are_from_zero.false) (sym c.is_any_above_zero.ensures ∙ c.if-not-is_any_above_zero.false)
    (front_written v c.loop-i.nine c.loop-i.i c.loop-i.invariant c.loop-i-test.false c.loop-i.auto.i-end)
