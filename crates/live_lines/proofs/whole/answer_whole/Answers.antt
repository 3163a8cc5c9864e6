use Rattle.std.proofs.Common.{rules}
use Rattle.live_lines.proofs.Fronts.{on_err}
use Rattle.live_lines.proofs.OnePiece.{all_written, last_cut, lines_cut, none_too_long, stands_behind, stands_first}
use Rattle.live_lines.proofs.Serves.{err_then, ok_then}
use Rattle.live_lines.proofs.whole.answer_whole.Goals as goal

pub take-requires-clause-next : goal.take-requires-clause-next
take-requires-clause-next g c =
    stands_first g.A.LineAnswers.answers c.args.skips_mark c.args.answers c.new-live.result.answers c.new-live.result.line c.new-live.ensures.answers c.new-live.ensures.line c.args.input.now
    g.A.LineAnswers.stands c.requires.first

pub returns-in_err-take-clause-front : goal.returns-in_err-take-clause-front
returns-in_err-take-clause-front g c =
    let cut = c.in_err-take.ensures.front in
    on_err c.from_residual.result _ (lines_cut g.A.LineAnswers.answers c.args.skips_mark c.args.answers c.new-live.result.answers c.new-live.result.line
    c.new-live.ensures.answers c.new-live.ensures.line c.args.input.now g.A.LineSteps.step (λ number old line text new h. (g.met.A.LineSteps.steps number old line text new).0 h) _ _ cut.0 cut.1 cut.2)

pub returns-in_err-take-clause-not_too_long : goal.returns-in_err-take-clause-not_too_long
returns-in_err-take-clause-not_too_long g c = λ is.
    let told = c.in_err-take.ensures.too_long (search rules) in
    none_too_long g.A.LineAnswers.answers c.args.skips_mark c.args.answers c.new-live.result.answers c.new-live.result.line
    c.new-live.ensures.answers c.new-live.ensures.line c.args.input.now told.0 c.requires.few told.2

pub finish-requires-clause-next : goal.finish-requires-clause-next
finish-requires-clause-next g c =
    let told = c.in_ok-take.ensures.ok in
    stands_behind g.A.LineAnswers.answers c.args.skips_mark c.args.answers c.new-live.result.answers c.new-live.result.line c.new-live.ensures.answers c.new-live.ensures.line c.args.input.now
    g.A.LineAnswers.stands g.met.A.LineAnswers.goes_on c.requires.first _ _ told.0 told.2

pub returns-clause-ok : goal.returns-clause-ok
returns-clause-ok g c =
    let told = c.in_ok-take.ensures.ok in
    ok_then c.finish.result c.finish.ensures.ok (λ last.
    all_written g.A.LineAnswers.answers c.args.skips_mark c.args.answers c.new-live.result.answers c.new-live.result.line c.new-live.ensures.answers c.new-live.ensures.line c.args.input.now
    g.A.LineSteps.step (λ number old line text new h. (g.met.A.LineSteps.steps number old line text new).0 h) _ _ told.0 told.2 _ _ _ told.1 last)

pub returns-clause-front : goal.returns-clause-front
returns-clause-front g c =
    let told = c.in_ok-take.ensures.ok in
    err_then c.finish.result c.finish.ensures.front (λ last.
    last_cut g.A.LineAnswers.answers c.args.skips_mark c.args.answers c.new-live.result.answers c.new-live.result.line c.new-live.ensures.answers c.new-live.ensures.line c.args.input.now
    g.A.LineSteps.step (λ number old line text new h. (g.met.A.LineSteps.steps number old line text new).0 h) _ _ told.0 told.2 _ _ _ told.1 last)
