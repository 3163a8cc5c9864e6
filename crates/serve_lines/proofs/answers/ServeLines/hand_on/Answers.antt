use Rattle.std.proofs.Common.{ℕ, List, ap, ◌∙◌}
use Rattle.auction_phases.specs.Phases.{after_end}
use Rattle.proposal_text.specs.declared.replies.ServedReply.{ServedReply}
use Rattle.proposal_lines.specs.ProposingState.{ProposingState}
use Rattle.serve_lines.specs.Output.{handed_on}
use Rattle.serve_lines.specs.ServingState.{ServingState, serving_of}
use Rattle.serve_lines.proofs.answers.ServeLines.hand_on.Goals as goal

pub returns : goal.returns
returns c =
    ap (λ (closed : List ℕ). (c.in_ok-reply.reply, serving_of c.reply_to.new.self closed)) c.after_end.ensures
    ∙ ap (λ (now : ServedReply × ProposingState). (now.0, serving_of now.1 (after_end c.self.inside.phases c.args.ended))) c.in_ok-reply.ensures
    ∙ ap (λ (s : ServingState). handed_on s c.args.line.now c.args.said c.args.ended) c.self.view_is
