use Rattle.std.proofs.Common.{refl}
use Rattle.session_lines.proofs.laws.questions_by_hand.Goals as goal

pub returns : goal.returns
returns c = record { text = refl; of_session = refl; commas = refl; no_session = refl; no_body = refl; empty_body = refl; none = refl }
