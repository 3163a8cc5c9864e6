use Rattle.book_proposals.proofs.ReadAsHandedIn.{proposals_are_submissions}
use Rattle.book_proposals.proofs.laws.proposals_are_submissions.Goals as goal

pub returns : goal.returns
returns c = proposals_are_submissions
