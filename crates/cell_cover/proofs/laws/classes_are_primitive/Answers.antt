use Rattle.cell_cover.proofs.Primitive.{classes_are_primitive}
use Rattle.cell_cover.proofs.laws.classes_are_primitive.Goals as goal

pub returns : goal.returns
returns c = classes_are_primitive
