use Rattle.cell_cover.proofs.FoundClasses.{counted_some, counted_none}
use Rattle.cell_cover.proofs.lookups.counted_sign.Goals as goal

pub returns-in-Some : goal.returns-in-Some
returns-in-Some c = λ count. counted_some _ _ (c.in-Some.ensures count)

pub returns-in-None : goal.returns-in-None
returns-in-None c = λ count. counted_none _ (c.in-None.ensures count)
