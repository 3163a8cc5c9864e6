use Rattle.std.proofs.Common.{Err, ap, take}
use Rattle.live_lines.proofs.Turning.{last_stops, take_stops}
use Rattle.live_lines.proofs.serving.turn.Goals as goal

pub returns-in-Ok : goal.returns-in-Ok
returns-in-Ok g c =
    let told = c.in-Ok.ensures.ok in
    rw c.in-Got.is (c.in-Ok.ensures.calm, told.0, told.1, told.2)

pub returns-in-Err : goal.returns-in-Err
returns-in-Err g c =
    rw c.in-Got.is (take_stops g.A.LineAnswers.answers c.args.live.now.answers c.args.live.now.line c.take.new.self.answers c.take.new.self.line
    (take c.in-Got.count c.args.buf.now) (g.K.Sink.written c.args.sink.now) (g.K.Sink.written c.take.new.sink) (g.K.Sink.faults c.args.sink.now) (g.K.Sink.faults c.take.new.sink)
    c.in-Err.stop c.in-Err.ensures.front (λ is. c.in-Err.ensures.no_read_fault (ap Err is)) (λ is. c.in-Err.ensures.fault (ap Err is)) (λ is. c.in-Err.ensures.too_long (ap Err is)))

pub returns-in-Err-finish : goal.returns-in-Err-finish
returns-in-Err-finish g c =
    rw c.in-End.is (last_stops g.A.LineAnswers.answers c.args.live.now.answers c.args.live.now.line c.finish.new.self.answers c.finish.new.self.line
    (g.K.Sink.written c.args.sink.now) (g.K.Sink.written c.finish.new.sink) (g.K.Sink.faults c.args.sink.now) (g.K.Sink.faults c.finish.new.sink)
    c.in-Err-finish.stop c.in-Err-finish.ensures.front (λ is. c.in-Err-finish.ensures.no_read_fault (ap Err is)) (λ is. c.in-Err-finish.ensures.fault (ap Err is)) (λ is. c.in-Err-finish.ensures.not_too_long (ap Err is)))
