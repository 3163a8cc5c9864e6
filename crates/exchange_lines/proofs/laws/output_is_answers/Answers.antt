use Rattle.exchange_lines.proofs.Answered.{output_is_answers}
use Rattle.exchange_lines.proofs.laws.output_is_answers.Goals as goal

pub returns : goal.returns
returns c = output_is_answers
