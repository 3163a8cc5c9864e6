use Rattle.std.proofs.Common.{◌≡◌, Ok, true, false, rules, length, sym, subst, arith}
use Rattle.live_lines.proofs.Turning.{Came, ReadsTo, reads_to}
use Rattle.live_lines.specs.Taken.{IsOpenWithin}
use Rattle.live_lines.proofs.Serves.{came_more, came_none, counts_of, ends_after, in_time, known_of, open_within, smaller, stops_after}
use Rattle.live_lines.proofs.Standing.{took_stands}
use Rattle.live_lines.proofs.serving.answer_reads.Goals as goal

pub reads-init : goal.reads-init
reads-init g c =
    let S = g.S.Source in
    let live = c.args.live.now in
    let source = c.args.source.now in
    let sink = c.args.sink.now in
    let known = known_of (S.left source) (S.left source) (g.K.Sink.written sink) (g.K.Sink.written sink) in
    let counts = counts_of (S.faults source) (S.faults source) (g.K.Sink.faults sink) (g.K.Sink.faults sink) (S.taken source) (S.taken source) in
    subst (λ first. Came g.A.LineAnswers.answers live.answers first live.answers live.line known counts) c.requires.fresh
    (came_none g.A.LineAnswers.answers live.answers live.line _ _ _ _ _ (subst IsOpenWithin (sym c.requires.fresh) (open_within live.line.skips)) (g.met.S.Source.taken_stops source))

pub turn-requires-clause-within : goal.turn-requires-clause-within
turn-requires-clause-within g c = c.reads.invariant.took.open_within

pub turn-requires-clause-next : goal.turn-requires-clause-next
turn-requires-clause-next g c =
    took_stands g.A.LineAnswers.answers g.A.LineAnswers.stands g.met.A.LineAnswers.goes_on _ _ _ _ _ _ c.reads.invariant.took c.requires.first

pub returns-in-Ok-false-clause-ends : goal.returns-in-Ok-false-clause-ends
returns-in-Ok-false-clause-ends g c =
    let read = c.read-read.ensures in
    let known = known_of (g.S.Source.left c.reads.source) (g.S.Source.left c.read-read.new.self) (g.K.Sink.written c.reads.sink) (g.K.Sink.written c.turn.new.sink) in
    let counts = counts_of (g.S.Source.faults c.reads.source) (g.S.Source.faults c.read-read.new.self) (g.K.Sink.faults c.reads.sink) (g.K.Sink.faults c.turn.new.sink)
    (g.S.Source.taken c.reads.source) (g.S.Source.taken c.read-read.new.self) in
    let told = reads_to g.A.LineAnswers.answers c.reads.live.answers c.reads.live.line c.turn.new.live.answers c.turn.new.live.line known counts
    c.read-read.new.buf c.read-read.result _ read.fits read.bytes read.count read.cause c.in-Ok-false.ensures in
    let on = subst (λ b. ReadsTo g.A.LineAnswers.answers c.reads.live.answers c.reads.live.line c.turn.new.live.answers c.turn.new.live.line
    (length c.read-read.new.buf) known counts (Ok b)) (let same : c.in-Ok-false.field-0 ≡ false = search rules in same) told in
    ends_after _ _ _ c.reads.live.answers c.reads.live.line _ _ _ _ _ _ _ _ _ _ c.reads.invariant c.turn.new.live.answers c.turn.new.live.line known.still known.writes counts.reads counts.writes counts.takes
    (length c.read-read.new.buf) on

pub returns-in-Err-clause-ends : goal.returns-in-Err-clause-ends
returns-in-Err-clause-ends g c =
    let read = c.read-read.ensures in
    let known = known_of (g.S.Source.left c.reads.source) (g.S.Source.left c.read-read.new.self) (g.K.Sink.written c.reads.sink) (g.K.Sink.written c.turn.new.sink) in
    let counts = counts_of (g.S.Source.faults c.reads.source) (g.S.Source.faults c.read-read.new.self) (g.K.Sink.faults c.reads.sink) (g.K.Sink.faults c.turn.new.sink)
    (g.S.Source.taken c.reads.source) (g.S.Source.taken c.read-read.new.self) in
    let told = reads_to g.A.LineAnswers.answers c.reads.live.answers c.reads.live.line c.turn.new.live.answers c.turn.new.live.line known counts
    c.read-read.new.buf c.read-read.result _ read.fits read.bytes read.count read.cause c.in-Err.ensures in
    stops_after _ _ _ c.reads.live.answers c.reads.live.line _ _ _ _ _ _ _ _ _ _ c.reads.invariant c.turn.new.live.answers c.turn.new.live.line _ _ _ _ _
    (length c.read-read.new.buf) c.in-Err.stop (omega (arith, c.requires.few)) told

-- how it stood before the read
pub returns-in-Ok-false-clause-in_time : goal.returns-in-Ok-false-clause-in_time
returns-in-Ok-false-clause-in_time g c = in_time _ _ _ c.reads.live.answers c.reads.live.line _ _ _ _ _ _ _ _ _ _ c.reads.invariant _ c.read-read.ensures.last

pub returns-in-Err-clause-in_time : goal.returns-in-Err-clause-in_time
returns-in-Err-clause-in_time g c = in_time _ _ _ c.reads.live.answers c.reads.live.line _ _ _ _ _ _ _ _ _ _ c.reads.invariant _ c.read-read.ensures.last

pub reads-preserved : goal.reads-preserved
reads-preserved g c =
    let read = c.read-read.ensures in
    let known = known_of (g.S.Source.left c.reads.source) (g.S.Source.left c.read-read.new.self) (g.K.Sink.written c.reads.sink) (g.K.Sink.written c.turn.new.sink) in
    let counts = counts_of (g.S.Source.faults c.reads.source) (g.S.Source.faults c.read-read.new.self) (g.K.Sink.faults c.reads.sink) (g.K.Sink.faults c.turn.new.sink)
    (g.S.Source.taken c.reads.source) (g.S.Source.taken c.read-read.new.self) in
    let told = reads_to g.A.LineAnswers.answers c.reads.live.answers c.reads.live.line c.turn.new.live.answers c.turn.new.live.line known counts
    c.read-read.new.buf c.read-read.result _ read.fits read.bytes read.count read.cause c.in-Ok-true.ensures in
    let on = subst (λ b. ReadsTo g.A.LineAnswers.answers c.reads.live.answers c.reads.live.line c.turn.new.live.answers c.turn.new.live.line
    (length c.read-read.new.buf) known counts (Ok b)) (let same : c.in-Ok-true.field-0 ≡ true = search rules in same) told in
    came_more _ _ c.reads.live.answers _ c.reads.live.line _ _ _ _ _ _ _ _ _ _ c.reads.invariant _ _ _ _ _ _ _ _ on

pub reads-smaller : goal.reads-smaller
reads-smaller g c =
    let read = c.read-read.ensures in
    let known = known_of (g.S.Source.left c.reads.source) (g.S.Source.left c.read-read.new.self) (g.K.Sink.written c.reads.sink) (g.K.Sink.written c.turn.new.sink) in
    let counts = counts_of (g.S.Source.faults c.reads.source) (g.S.Source.faults c.read-read.new.self) (g.K.Sink.faults c.reads.sink) (g.K.Sink.faults c.turn.new.sink)
    (g.S.Source.taken c.reads.source) (g.S.Source.taken c.read-read.new.self) in
    let told = reads_to g.A.LineAnswers.answers c.reads.live.answers c.reads.live.line c.turn.new.live.answers c.turn.new.live.line known counts
    c.read-read.new.buf c.read-read.result _ read.fits read.bytes read.count read.cause c.in-Ok-true.ensures in
    let on = subst (λ b. ReadsTo g.A.LineAnswers.answers c.reads.live.answers c.reads.live.line c.turn.new.live.answers c.turn.new.live.line
    (length c.read-read.new.buf) known counts (Ok b)) (let same : c.in-Ok-true.field-0 ≡ true = search rules in same) told in
    smaller _ _ c.reads.live.answers _ _ c.reads.live.line _ _ _ _ _ c.reads.invariant.took on.0.took on.1
