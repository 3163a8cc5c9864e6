use Rattle.std.proofs.Common.{true}
use Rattle.live_lines.proofs.Serves.{served_so}
use Rattle.book_proposals.proofs.Texts.{in_time_for, wrote_first, wrote_for, wrote_front}
use Rattle.book_proposals.proofs.live.propose_live.Goals as goal

pub returns-clause-in_time : goal.returns-clause-in_time
returns-clause-in_time g c =
    in_time_for _ (g.S.Source.left c.args.source.now) (g.K.Sink.written c.args.sink.now) (g.S.Source.last_read c.serve.new.source) c.serve.ensures.in_time

pub returns-clause-served : goal.returns-clause-served
returns-clause-served g c =
    served_so true _ _ _ (λ known bytes. wrote_for _ known bytes) (λ known bytes. wrote_front _ known bytes) (λ known bytes. wrote_first _ known bytes) c.serve.ensures.served
