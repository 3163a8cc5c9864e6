use Rattle.std.proofs.Common.{true}
use Rattle.asked_lines.proofs.Apart.{tells_beside}
use Rattle.secured_lines.specs.Asked.{secured_asks}
use Rattle.secured_lines.specs.Output.{secured_line}
use Rattle.secured_lines.specs.Promises.{TellSecured}
use Rattle.secured_lines.specs.SecuredState.{empty_secured}
use Rattle.secured_lines.proofs.Outputs.{outputs_tell_secured}
use Rattle.secured_lines.proofs.laws.outputs_tell_asked.Goals as goal

pub returns : goal.returns
returns c = tells_beside secured_asks secured_line true empty_secured TellSecured outputs_tell_secured
