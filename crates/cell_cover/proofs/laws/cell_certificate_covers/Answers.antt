use Rattle.cell_cover.proofs.Certificate.{cell_certificate_covers}
use Rattle.cell_cover.proofs.laws.cell_certificate_covers.Goals as goal

pub returns : goal.returns
returns c = cell_certificate_covers
