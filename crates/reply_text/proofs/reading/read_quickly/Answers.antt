use Rattle.std.proofs.Common.{rules}
use Rattle.std.proofs.lemmas.Option.{IfSome_then}
use Rattle.std.proofs.lemmas.Result.{IfOk-weaker}
use Rattle.reply_text.proofs.RoundTrip.{read_pair}
use Rattle.reply_text.proofs.reading.read_quickly.Goals as goal

pub returns-in-Some : goal.returns-in-Some
returns-in-Some c =
    let read = read_pair c.args.text.now c.in-Some.line c.in-Some.reply (search rules) in
    IfOk-weaker c.if_spelled.result _ _ (λ o spelled. IfSome_then o spelled read) c.if_spelled.ensures.spelled
