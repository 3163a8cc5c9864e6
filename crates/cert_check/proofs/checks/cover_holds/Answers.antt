use Rattle.std.proofs.Common.{length, subst}
use Rattle.cert_check.specs.Conditions.{IsCoverOn}
use Rattle.cert_check.specs.Tests.{HasSigns}
use Rattle.cert_check.proofs.checks.cover_holds.Goals as goal

pub holds_on_line-requires-clause-one : goal.holds_on_line-requires-clause-one
holds_on_line-requires-clause-one c = subst (IsCoverOn c.args.batch.now.underlyings) c.in-Line.is c.requires.cover

pub closes-requires-clause-signs : goal.closes-requires-clause-signs
closes-requires-clause-signs c = (subst (λ cover. HasSigns cover c.args.batch.now.orders (length c.args.signs.now)) c.in-Tree.is c.requires.signs).0

pub closes-requires-clause-few : goal.closes-requires-clause-few
closes-requires-clause-few c = (subst (λ cover. HasSigns cover c.args.batch.now.orders (length c.args.signs.now)) c.in-Tree.is c.requires.signs).1
