use Rattle.journal_audit.proofs.Accepting.{sound_lines_are_found_so}
use Rattle.journal_audit.proofs.laws.sound_lines_are_found_so.Goals as goal

pub returns : goal.returns
returns c = sound_lines_are_found_so
