use Rattle.std.proofs.Common.{◌<◌, get_or, length, map, ◌∙◌, ap, arith}
use Rattle.std.proofs.lemmas.List.{get_or-map, length-map}
use Rattle.command_text.specs.declared.lines.RawLine.{RawLine}
use Rattle.command_text.specs.Commands.{body_of_line}
use Rattle.command_text.specs.Lines.{line_at}
use Rattle.exchange_core.specs.LineReplies.{reply_to}
use Rattle.demo_run.proofs.Progress.{line_replied}
use Rattle.demo_run.proofs.run.tally_replies.Goals as goal

-- what stands for a line past the last
abbrev no_line : RawLine
no_line = record { number = 0; from = 0; to = 0 }

pub loop-line-preserved : goal.loop-line-preserved
loop-line-preserved c =
    let i = c.loop-line.line-index in
    let state = c.loop-line.exchange in
    let raw = get_or c.args.lines.now i no_line in
    let line = line_at c.args.input.now raw in
    let lines = map (line_at c.args.input.now) c.args.lines.now in
    let lt : i < length c.args.lines.now = omega arith in
    let low : i < length lines = omega (arith, length-map c.args.lines.now (line_at c.args.input.now)) in
    let at = get_or-map (line_at c.args.input.now) c.args.lines.now i no_line line lt in
    let is = c.in_ok-reply.ensures.ok ∙ ap (reply_to state) (c.in_ok-said.ensures.body ∙ ap body_of_line c.text.ensures.bytes) in
    line_replied i c.args.exchange.now state c.reply_to.new.exchange lines line c.loop-line.tally c.count.new.self c.in_ok-reply.reply low at c.loop-line.invariant is c.count.ensures
