use Rattle.std.proofs.Common.{◌≡◌, map, rules, ap, ◌∙◌, FitsSigned}
use Rattle.std.proofs.lemmas.Result.{IfOk-weaker}
use Rattle.std.proofs.lemmas.Int.{to_z-of_z}
use mir.Syntax.{w128}
use Rattle.command_text.specs.Lines.{line_at, commands_in}
use Rattle.exchange_core.specs.ExchangeState.{ExchangeState}
use Rattle.exchange_core.specs.LineReplies.{replies_from}
use Rattle.demo_run.specs.Text.{made_text}
use Rattle.demo_run.specs.Tally.{tally_of}
use Rattle.demo_run.proofs.Summed.{summed}
use Rattle.demo_run.proofs.summary.demo.Goals as goal

pub returns : goal.returns
returns c =
    let input : c.as_bytes-input.result.now ≡ made_text c.args.seed c.args.count = search rules in
    let lines = map (line_at c.as_bytes-input.result.now) c.deref.result.now in
    let lines_are = ap (map (line_at c.as_bytes-input.result.now)) c.deref.ensures.value ∙ c.in_ok-lines.ensures.same ∙ ap commands_in input in
    let tally_is = c.in_ok-tally.ensures.tally ∙ ap (λ (s : ExchangeState). tally_of (replies_from s lines).0) c.new-exchange.ensures in
    let state_is = c.in_ok-tally.ensures.state ∙ ap (λ (s : ExchangeState). (replies_from s lines).1) c.new-exchange.ensures in
    let fits : FitsSigned w128 c.house_balance.result = search rules in
    let same = summed c.args.seed c.args.count lines c.in_ok-tally.tally c.tally_replies.new.exchange c.house_balance.result lines_are tally_is state_is c.house_balance.ensures in
    IfOk-weaker c.summary_line.result _ _ (λ text h. rw (to_z-of_z w128 c.house_balance.result fits) at h ∙ same) c.summary_line.ensures
