-- What is kept for a market is let go of where it is cleared or settled.
use Rattle.std.proofs.Common.{◌≡◌, ℕ, Option, Some, None, ap, ◌∙◌}
use Rattle.std.specs.Prelude.{IfSome}
use Rattle.auction_phases.specs.Phases.{ended_by}
use Rattle.proposal_lines.specs.Answers.{beside, bounded, replied, taken}
use Rattle.proposal_lines.specs.KeptByMarket.{KeptProposals, after_end, kept_in, without_kept}
use Rattle.proposal_lines.specs.LettingGo.{EndsLetGo, IsLetGo}
use Rattle.proposal_lines.proofs.ByMarket.{none_left, others_removed}

let_go : (market : ℕ) (before after : KeptProposals) → after ≡ without_kept market before → IsLetGo market before after
let_go market before after is = record {
  none = ap (kept_in market) is ∙ none_left market before;
  others = λ other apart. ap (kept_in other) is ∙ others_removed market other apart before;
}

by_end : (before after : KeptProposals) (ended : Option ℕ) → after ≡ after_end before ended → IfSome ended (λ market. IsLetGo market before after)
by_end before after None is = tt
by_end before after (Some market) is = let_go market before after is

pub ends_let_go : EndsLetGo
ends_let_go state line (replied answer) after is = by_end state.kept after.kept (ended_by answer.reply) is.kept
ends_let_go state line (bounded answer) after is = let_go answer.market state.kept after.kept is.kept
ends_let_go state line (taken answer) after is = tt
ends_let_go state line (beside number text) after is = tt
