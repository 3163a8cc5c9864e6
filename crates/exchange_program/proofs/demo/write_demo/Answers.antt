use Rattle.std.proofs.Common.{◌∙◌, subst}
use Rattle.std.specs.Io.KnownBytes.{Appends}
use Rattle.exchange_program.proofs.demo.write_demo.Goals as goal

pub returns-clause-ok : goal.returns-clause-ok
returns-clause-ok g c =
    subst (Appends (g.K.Sink.written c.args.sink.now) (g.K.Sink.written c.write_all.new.sink)) (c.as_bytes.ensures.value ∙ c.in_ok-summary.ensures) c.in_ok-write_all.ensures.ok
