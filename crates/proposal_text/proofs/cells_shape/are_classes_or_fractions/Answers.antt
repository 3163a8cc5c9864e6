use Rattle.std.proofs.Common.{rules}
use Rattle.proposal_text.specs.CellReading.{is_class_or_fraction}
use Rattle.proposal_text.proofs.cells_shape.are_classes_or_fractions.Goals as goal

pub returns : goal.returns
returns c = c.is_list.ensures is_class_or_fraction (search rules)
