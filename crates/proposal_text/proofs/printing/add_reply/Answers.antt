use Rattle.std.proofs.Common.{◌++◌, ap, sym, ◌∙◌}
use Rattle.std.proofs.lemmas.Result.{on_ok_weaker}
use Rattle.reply_print.specs.Piece.{piece_text}
use Rattle.proposal_text.specs.Pieces.{proposal_piece}
use Rattle.proposal_text.proofs.printing.add_reply.Goals as goal

pub returns-in-Proposed : goal.returns-in-Proposed
returns-in-Proposed c =
    on_ok_weaker c.add_proposed.result
    (λ e. e ∙ ap (λ reply. c.args.line.now.items ++ piece_text (proposal_piece c.args.at reply)) (sym c.in-Proposed.is))
    c.add_proposed.ensures

pub returns-in-Bounded : goal.returns-in-Bounded
returns-in-Bounded c =
    on_ok_weaker c.add_bounded.result
    (λ e. e ∙ ap (λ reply. c.args.line.now.items ++ piece_text (proposal_piece c.args.at reply)) (sym c.in-Bounded.is))
    c.add_bounded.ensures
