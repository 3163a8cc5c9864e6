use Rattle.std.proofs.Common.{rules}
use Rattle.proposal_text.specs.ReplyShapes.{position_shape}
use Rattle.proposal_text.proofs.reply_shapes.are_positions.Goals as goal

pub returns : goal.returns
returns c = c.is_list.ensures position_shape (search rules)
