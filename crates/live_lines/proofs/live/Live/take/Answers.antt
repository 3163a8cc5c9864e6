use Rattle.std.proofs.Common.{refl, subst, ◌∙◌}
use Rattle.std.specs.Io.KnownBytes.{Appends}
use Rattle.byte_streams.specs.Writes.{AppendsFront}
use Rattle.live_lines.proofs.Fronts.{on_err, whole_front}
use Rattle.live_lines.proofs.Pieces.{no_more, one_more, some_front, stopped_front, stopped_told, wrote_more}
use Rattle.live_lines.proofs.Standing.{took_stands}
use Rattle.live_lines.proofs.live.Live.take.Goals as goal

pub take_line-requires-clause-next : goal.take_line-requires-clause-next
take_line-requires-clause-next g c =
    took_stands g.A.LineAnswers.answers g.A.LineAnswers.stands g.met.A.LineAnswers.goes_on _ _ _ _ _ _ c.loop-start.invariant.answered.took c.requires.next

pub returns-in_err-taken-clause-front : goal.returns-in_err-taken-clause-front
returns-in_err-taken-clause-front g c =
    let loop = c.loop-start in
    on_err c.from_residual.result _ (no_more _ _ _ _ _ _ _ _ _ _ loop.invariant.low loop.invariant.answered _ refl)

pub returns-in_err-write_all-clause-front : goal.returns-in_err-write_all-clause-front
returns-in_err-write_all-clause-front g c =
    let loop = c.loop-start in
    let front = subst (AppendsFront (g.K.Sink.written loop.sink) (g.K.Sink.written c.write_all.new.sink)) c.deref.ensures.value c.in_err-write_all.ensures.front in
    on_err c.from_residual-in_err-write_all.result _
    (stopped_front _ _ _ _ _ _ _ _ _ _ loop.invariant.low loop.invariant.answered _ _ _ _ c.in_ok-taken.ensures c.in_default.is _ front)

pub returns-in_default-clause-too_long : goal.returns-in_default-clause-too_long
returns-in_default-clause-too_long g c = λ is.
    let loop = c.loop-start in
    let all = subst (Appends (g.K.Sink.written loop.sink) (g.K.Sink.written c.write_all.new.sink)) c.deref.ensures.value c.in_ok-write_all.ensures.ok in
    stopped_told _ _ _ _ _ _ _ _ _ _ loop.invariant.low loop.invariant.answered _ _ _ _ c.in_ok-taken.ensures c.in_default.is _ all

pub returns-in_default-clause-front : goal.returns-in_default-clause-front
returns-in_default-clause-front g c =
    let loop = c.loop-start in
    let all = subst (Appends (g.K.Sink.written loop.sink) (g.K.Sink.written c.write_all.new.sink)) c.deref.ensures.value c.in_ok-write_all.ensures.ok in
    stopped_front _ _ _ _ _ _ _ _ _ _ loop.invariant.low loop.invariant.answered _ _ _ _ c.in_ok-taken.ensures c.in_default.is _ (whole_front _ _ _ all)

pub loop-start-preserved : goal.loop-start-preserved
loop-start-preserved g c =
    let loop = c.loop-start in
    let on = one_more _ _ _ _ _ _ _ _ _ _ loop.invariant.low loop.invariant.answered _ _ _ _ c.in_ok-taken.ensures _ c.in-Some.is in
    let wrote = c.in_ok-write_full.ensures.ok in
    record {
      low = on.0;
      answered = wrote_more _ _ _ _ _ _ _ _ _ _ on.0 on.1 _ _ _ wrote.1 wrote.2;
      calm = c.in_ok-write_full.ensures.calm ∙ loop.invariant.calm;
    }

pub returns-in_err-write_full-clause-front : goal.returns-in_err-write_full-clause-front
returns-in_err-write_full-clause-front g c =
    let loop = c.loop-start in
    let on = one_more _ _ _ _ _ _ _ _ _ _ loop.invariant.low loop.invariant.answered _ _ _ _ c.in_ok-taken.ensures _ c.in-Some.is in
    on_err c.from_residual-in_err-write_full.result _ (some_front _ _ _ _ _ _ _ _ _ _ on.0 on.1 _ c.in_err-write_full.ensures.front)

pub returns-in_err-write_all-2-clause-front : goal.returns-in_err-write_all-2-clause-front
returns-in_err-write_all-2-clause-front g c =
    let loop = c.loop-start in
    let front = subst (AppendsFront (g.K.Sink.written loop.sink) (g.K.Sink.written c.write_all-2.new.sink)) c.deref-2.ensures.value c.in_err-write_all-2.ensures.front in
    on_err c.from_residual-in_err-write_all-2.result _ (some_front _ _ _ _ _ _ _ _ _ _ loop.invariant.low loop.invariant.answered _ front)
