use Rattle.std.proofs.Common.{arith}
use Rattle.form.proofs.MadeEntries.{front_written, form_made}
use Rattle.form.proofs.forms.Form.from_entries.Goals as goal

pub returns : goal.returns
returns c =
    let v = c.args.entries.now in
    form_made v _ (omega (arith, c.if-entries-lt2.false)) (omega (arith, c.if-entries-gt9.false)) (front_written v c.loop-i.nine c.loop-i.i c.loop-i.invariant c.loop-i-test.false c.loop-i.auto.i-end)
