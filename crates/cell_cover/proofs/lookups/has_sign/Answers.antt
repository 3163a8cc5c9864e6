use Rattle.std.proofs.Common.{◌∙◌}
use Rattle.cell_cover.proofs.FoundClasses.{some_sign}
use Rattle.cell_cover.proofs.lookups.has_sign.Goals as goal

pub returns : goal.returns
returns c = λ count. c.is_some.ensures ∙ some_sign _ c.sign_at.result (c.sign_at.ensures count)
