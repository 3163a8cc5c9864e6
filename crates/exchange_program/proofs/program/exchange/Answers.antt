use Rattle.std.proofs.Common.{rules, Some, map, string_bytes, ap, ◌∙◌, subst, sym}
use Rattle.live_lines.proofs.Serves.{counts_of, known_of}
use Rattle.program_words.specs.Requests.{request_of}
use Rattle.program_words.specs.declared.requests.Request.TheVariants.{Propose, Serve}
use Rattle.exchange_program.specs.Keeps.{Keeps}
use Rattle.exchange_program.specs.Requests.{IsReadFirst}
use Rattle.exchange_program.proofs.KeptLive.{asked, had_written, not_proposed, not_served, nothing_kept, proposed_keeps, served_keeps, unread_yet}
use Rattle.exchange_program.proofs.program.exchange.Goals as goal

pub returns-in-Ok-clause-usage : goal.returns-in-Ok-clause-usage
returns-in-Ok-clause-usage g c = λ usage. absurd (c.answer_whole_input.ensures.known usage)

-- ---- all is read first
pub returns-in-Ok-clause-keeps : goal.returns-in-Ok-clause-keeps
returns-in-Ok-clause-keeps g c =
    let first : IsReadFirst c.in-Ok.request = search rules in
    let kept = c.answer_whole_input.ensures in
    asked (request_of (map string_bytes c.args.words.now)) c.in-Ok.request _ c.in-Ok.ensures.ok (record {
      done = kept.done;
      whole = kept.whole;
      front = kept.front;
      told = kept.told;
      told_front = kept.told_front;
      sound = kept.sound;
      faulty = kept.faulty;
      check_alone = kept.check_alone;
      no_read_fault = kept.no_read_fault;
      read_fault = kept.read_fault;
      read_fault_in_time = kept.read_fault_in_time;
      write_fault = kept.write_fault;
      too_long = kept.too_long;
      too_long_no_fault = kept.too_long_no_fault;
      too_many = kept.too_many;
      within = kept.within;
      served = not_served c.in-Ok.request _ first;
      proposed = not_proposed c.in-Ok.request _ first;
      complete = kept.complete;
    })

pub returns-in-Ok-clause-in_time : goal.returns-in-Ok-clause-in_time
returns-in-Ok-clause-in_time g c = λ unread.
    let first : IsReadFirst c.in-Ok.request = search rules in
    asked (request_of (map string_bytes c.args.words.now)) c.in-Ok.request _ c.in-Ok.ensures.ok (had_written c.in-Ok.request _ _ _ first (c.answer_whole_input.ensures.in_time unread))

-- ---- lines answered between two reads
pub returns-in-Ok-Serve-clause-keeps : goal.returns-in-Ok-Serve-clause-keeps
returns-in-Ok-Serve-clause-keeps g c =
    let kind = c.in-Ok-Serve.served in
    let known = known_of (g.S.Source.left c.args.source.now) (g.S.Source.left c.answer_live.new.source) (g.K.Sink.written c.args.sink.now) (g.K.Sink.written c.answer_live.new.sink) in
    let counts = counts_of (g.S.Source.faults c.args.source.now) (g.S.Source.faults c.answer_live.new.source) (g.K.Sink.faults c.args.sink.now) (g.K.Sink.faults c.answer_live.new.sink)
    (g.S.Source.taken c.args.source.now) (g.S.Source.taken c.answer_live.new.source) in
    asked (request_of (map string_bytes c.args.words.now)) (Serve kind) _ (c.in-Ok-Serve.ensures.ok ∙ ap Some c.in-Ok-Serve.field-0-is)
    (subst (Keeps (Serve kind) known counts) (sym c.status_at.ensures) (served_keeps kind known counts c.answer_live.result c.answer_live.ensures.served))

pub returns-in-Ok-Serve-clause-in_time : goal.returns-in-Ok-Serve-clause-in_time
returns-in-Ok-Serve-clause-in_time g c = λ unread.
    asked (request_of (map string_bytes c.args.words.now)) (Serve c.in-Ok-Serve.served) _ (c.in-Ok-Serve.ensures.ok ∙ ap Some c.in-Ok-Serve.field-0-is) c.answer_live.ensures.in_time

-- ---- proposals
pub returns-in-Ok-Propose-clause-keeps : goal.returns-in-Ok-Propose-clause-keeps
returns-in-Ok-Propose-clause-keeps g c =
    let known = known_of (g.S.Source.left c.args.source.now) (g.S.Source.left c.propose_live.new.source) (g.K.Sink.written c.args.sink.now) (g.K.Sink.written c.propose_live.new.sink) in
    let counts = counts_of (g.S.Source.faults c.args.source.now) (g.S.Source.faults c.propose_live.new.source) (g.K.Sink.faults c.args.sink.now) (g.K.Sink.faults c.propose_live.new.sink)
    (g.S.Source.taken c.args.source.now) (g.S.Source.taken c.propose_live.new.source) in
    asked (request_of (map string_bytes c.args.words.now)) Propose _ (c.in-Ok-Propose.ensures.ok ∙ ap Some c.in-Ok-Propose.field-0-is)
    (subst (Keeps Propose known counts) (sym c.status_at-in-Ok-Propose.ensures) (proposed_keeps known counts c.propose_live.result c.propose_live.ensures.served))

pub returns-in-Ok-Propose-clause-in_time : goal.returns-in-Ok-Propose-clause-in_time
returns-in-Ok-Propose-clause-in_time g c = λ unread.
    asked (request_of (map string_bytes c.args.words.now)) Propose _ (c.in-Ok-Propose.ensures.ok ∙ ap Some c.in-Ok-Propose.field-0-is) c.propose_live.ensures.in_time

-- ---- nothing is read
pub returns-in-Err-Memory-clause-keeps : goal.returns-in-Err-Memory-clause-keeps
returns-in-Err-Memory-clause-keeps g c =
    nothing_kept (request_of (map string_bytes c.args.words.now)) (g.S.Source.left c.args.source.now) (g.K.Sink.written c.args.sink.now)
    (g.S.Source.faults c.args.source.now) (g.K.Sink.faults c.args.sink.now) (g.S.Source.taken c.args.source.now)

pub returns-in-Err-Memory-clause-in_time : goal.returns-in-Err-Memory-clause-in_time
returns-in-Err-Memory-clause-in_time g c = λ unread. unread_yet (request_of (map string_bytes c.args.words.now)) _ _ _ unread
