use Rattle.std.proofs.Common.{◌≡◌, [], refl, rules, subst, inl}
use Rattle.std.specs.Io.KnownBytes.{Appends}
use Rattle.byte_streams.specs.Writes.{AppendsFront}
use Rattle.live_lines.proofs.Fronts.{on_err}
use Rattle.live_lines.proofs.Pieces.{last_begun, last_written}
use Rattle.live_lines.proofs.live.Live.finish.Goals as goal

pub add_answer-requires-clause-few : goal.add_answer-requires-clause-few
add_answer-requires-clause-few g c = c.requires.within.2

pub returns-in_err-add_answer-clause-front : goal.returns-in_err-add_answer-clause-front
returns-in_err-add_answer-clause-front g c = on_err c.from_residual.result _ (inl refl)

pub returns-in_err-write_all-clause-front : goal.returns-in_err-write_all-clause-front
returns-in_err-write_all-clause-front g c =
    let front = subst (AppendsFront (g.K.Sink.written c.args.sink.now) (g.K.Sink.written c.write_all.new.sink)) c.deref.ensures.value c.in_err-write_all.ensures.front in
    let none : c.new-reply.result.items ≡ [] = search rules in
    on_err c.from_residual-in_err-write_all.result _ (last_begun g.A.LineAnswers.answers c.args.self.now.answers c.add_answer.new.answers c.args.self.now.line _ _ none c.in_ok-add_answer.ensures _ _ front)

pub returns-clause-ok : goal.returns-clause-ok
returns-clause-ok g c =
    let all = subst (Appends (g.K.Sink.written c.args.sink.now) (g.K.Sink.written c.write_all.new.sink)) c.deref.ensures.value c.in_ok-write_all.ensures.ok in
    let none : c.new-reply.result.items ≡ [] = search rules in
    last_written g.A.LineAnswers.answers c.args.self.now.answers c.add_answer.new.answers c.args.self.now.line _ _ none c.in_ok-add_answer.ensures _ _ all
