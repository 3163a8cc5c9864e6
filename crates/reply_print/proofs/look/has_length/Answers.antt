use Rattle.std.proofs.Common.{rules, ◌≡◌, length, nat_le, ap, sym, ◌∙◌, arith}
use Rattle.serde_json.specs.View.{view}
use Rattle.reply_print.proofs.Items.{too_short, long_enough}
use Rattle.reply_print.proofs.look.has_length.Goals as goal

pub returns-then-len-low : goal.returns-then-len-low
returns-then-len-low c =
    let vs = c.in-Some.items.now.items in
    let size : c.len.result ≡ length vs = search rules in
    sym (too_short c.args.low c.args.high (view c.args.value.now) vs c.in-Some.ensures (omega (arith, size, c.if-len-low.true)))

pub returns-else-len-low : goal.returns-else-len-low
returns-else-len-low c =
    let vs = c.in-Some.items.now.items in
    let size : c.len.result ≡ length vs = search rules in
    let again : c.len-in-Some.result ≡ length vs = search rules in
    ap (λ n. nat_le n c.args.high) again ∙ long_enough c.args.low c.args.high (view c.args.value.now) vs c.in-Some.ensures (omega (arith, size, c.if-len-low.false))
