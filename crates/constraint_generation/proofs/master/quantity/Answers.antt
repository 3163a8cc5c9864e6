use Rattle.std.proofs.Common.{rules, ◌≡◌, pos, unsigned_abs}
use Rattle.exact_num.specs.Fits.{meaning, whole_of}
use Rattle.constraint_generation.proofs.GivenMaster.{quantity_sign}
use Rattle.constraint_generation.proofs.master.quantity.Goals as goal

pub returns-clause-sign : goal.returns-clause-sign
returns-clause-sign g c =
    let value = g.N.Exact.fraction in
    let is : meaning value c.from_whole.result ≡ whole_of (unsigned_abs g.N.Exact.LIMIT) (pos c.args.order.now.quantity) = search rules in
    quantity_sign value (unsigned_abs g.N.Exact.LIMIT) c.args.order.now.quantity c.from_whole.result is
