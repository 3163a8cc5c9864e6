use Rattle.book_proposals.proofs.TakenProposals.{proposals_are_taken}
use Rattle.book_proposals.proofs.laws.proposals_are_taken.Goals as goal

pub returns : goal.returns
returns c = proposals_are_taken
