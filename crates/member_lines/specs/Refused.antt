-- What a line is answered that the rule refuses.
use Rattle.std.specs.Prelude.{ℕ, List, [], ◌∷◌, ◌++◌}
use Rattle.members.specs.declared.refusal.MemberRefusal.{MemberRefusal}
use Rattle.members.specs.declared.refusal.MemberRefusal.TheVariants.{NotAllowed, Quota}
use Rattle.proposal_text.specs.Pieces.{proposal_line}
use Rattle.proposal_text.specs.declared.replies.Bar.TheVariants as bar
use Rattle.proposal_text.specs.declared.replies.ProposalReply.{ProposalReply}
use Rattle.proposal_text.specs.declared.replies.ProposalReply.TheVariants as told

abbrev pub refused_as : MemberRefusal → ProposalReply
refused_as NotAllowed = told.Barred bar.NotAllowed
refused_as Quota = told.Barred bar.OverQuota

abbrev pub refused_text : ℕ → MemberRefusal → List ℕ
refused_text number refusal = proposal_line number (refused_as refusal) ++ 10 ∷ []
