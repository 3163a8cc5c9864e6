use Rattle.serve_lines.proofs.Telling.{outputs_tell_serving}
use Rattle.serve_lines.proofs.laws.outputs_tell_serving.Goals as goal

pub returns : goal.returns
returns c = outputs_tell_serving
