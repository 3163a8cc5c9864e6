use Rattle.std.proofs.Common.{IfOk, sym, subst}
use Rattle.form.specs.declared.orders.Batch.{Batch}
use Rattle.form.specs.Limits.{IsWithinLimits}
use Rattle.clearing.specs.Rooms.{IsClearRoom}
use Rattle.option_quotes.proofs.probes.Probing.room.Goals as goal

pub new-requires-clause-within : goal.new-requires-clause-within
new-requires-clause-within c = subst IsWithinLimits (sym c.in_ok-extended.ensures) c.requires.within

pub returns : goal.returns
returns c = subst (λ (batch : Batch). IfOk c.new.result (IsClearRoom batch c.args.self.now.limit)) c.in_ok-extended.ensures c.new.ensures
