use Rattle.master_program.proofs.UnitRows.{quantity_rows_are_unit_rows}
use Rattle.master_program.proofs.program.quantity_rows_are_unit_rows.Goals as goal

pub returns : goal.returns
returns c = quantity_rows_are_unit_rows
