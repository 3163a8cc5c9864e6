use Rattle.std.proofs.Common.{ap, sym}
use Rattle.frac.specs.declared.frac128.Frac128.{Frac128}
use Rattle.frac.proofs.ValueOf.{value-fraction_of}
use Rattle.settlement.specs.declared.position.Position.{Position}
use Rattle.account_need.proofs.entries.owing.Goals as goal

pub returns : goal.returns
returns c =
    let with_fill : Frac128 → Position = λ fill. record { market = 1; batch = 1; order = 1; account = 1; side = c.args.side; bundle = c.args.bundle; fill = fill } in
    ap with_fill (sym (value-fraction_of c.args.fill))
