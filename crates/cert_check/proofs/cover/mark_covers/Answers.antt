use Rattle.std.proofs.Common.{subst}
use Rattle.cert_check.specs.Shape.{IsMarkOn}
use Rattle.cert_check.proofs.Shapes.{has_signs}
use Rattle.cert_check.proofs.cover.mark_covers.Goals as goal

pub cover_holds-requires-clause-cover : goal.cover_holds-requires-clause-cover
cover_holds-requires-clause-cover c = (subst (IsMarkOn c.args.batch.now.underlyings) c.in-Optimal.is c.requires.mark).0

pub cover_holds-requires-clause-signs : goal.cover_holds-requires-clause-signs
cover_holds-requires-clause-signs c = has_signs _ _ _ c.requires.signs
