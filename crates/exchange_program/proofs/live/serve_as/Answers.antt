use Rattle.live_lines.proofs.Serves.{counts_of, known_of}
use Rattle.exchange_program.proofs.AnsweredLive.{answered, answered_in_time}
use Rattle.exchange_program.proofs.live.serve_as.Goals as goal

pub returns-clause-in_time : goal.returns-clause-in_time
returns-clause-in_time g c =
    answered_in_time g.A.LineAnswers.answers g.A.LineSteps.step (λ number old line text new h. (g.met.A.LineSteps.steps number old line text new).0 h)
    c.args.served c.args.answers c.requires.same c.skips_mark.result c.skips_mark.ensures
    (g.S.Source.left c.args.source.now) (g.K.Sink.written c.args.sink.now) (g.S.Source.last_read c.serve.new.source) c.serve.ensures.in_time

pub returns-clause-served : goal.returns-clause-served
returns-clause-served g c =
    let known = known_of (g.S.Source.left c.args.source.now) (g.S.Source.left c.serve.new.source) (g.K.Sink.written c.args.sink.now) (g.K.Sink.written c.serve.new.sink) in
    let counts = counts_of (g.S.Source.faults c.args.source.now) (g.S.Source.faults c.serve.new.source) (g.K.Sink.faults c.args.sink.now) (g.K.Sink.faults c.serve.new.sink)
    (g.S.Source.taken c.args.source.now) (g.S.Source.taken c.serve.new.source) in
    answered g.A.LineAnswers.answers g.A.LineSteps.step (λ number old line text new h. (g.met.A.LineSteps.steps number old line text new).0 h)
    c.args.served c.args.answers c.requires.same c.skips_mark.result c.skips_mark.ensures known counts c.serve.result c.serve.ensures.served
