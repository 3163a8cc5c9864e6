use Rattle.std.proofs.Common.{subst}
use Rattle.cert_check.proofs.Shapes.{has_signs}
use Rattle.proposal_check.specs.Covers.{IsCoverOf}
use Rattle.proposal_check.proofs.covering.cover_shows.Goals as goal

pub cover_holds-requires-clause-cover : goal.cover_holds-requires-clause-cover
cover_holds-requires-clause-cover c = (subst (IsCoverOf c.args.batch.now) c.in-Checked.is c.requires.cover).0

pub cover_holds-requires-clause-signs : goal.cover_holds-requires-clause-signs
cover_holds-requires-clause-signs c = has_signs _ _ _ c.requires.signs

pub cells_close-requires-clause-formed : goal.cells_close-requires-clause-formed
cells_close-requires-clause-formed c = subst (IsCoverOf c.args.batch.now) c.in-Cells.is c.requires.cover
