use Rattle.std.proofs.Common.{rules, ◌≡◌, ◌++◌, unsigned_abs, FitsSigned, ap, ◌∙◌}
use Rattle.std.proofs.lemmas.Int.{to_z-of_z}
use Rattle.std.proofs.lemmas.Result.{on_ok_weaker}
use mir.Syntax.{w128}
use Rattle.exact_num.specs.Fraction.{over}
use Rattle.reply_print.specs.Numbers.{fraction_text}
use Rattle.reply_print.specs.OutcomePieces.{pair_words}
use Rattle.reply_print.proofs.Behind.{field_added, quoted}
use Rattle.reply_print.proofs.printed_outcomes.add_operand.Goals as goal

pub returns : goal.returns
returns c =
    let above : FitsSigned w128 c.args.operand.0 = search rules in
    let below : FitsSigned w128 c.args.operand.1 = search rules in
    let size : c.unsigned_abs.result ≡ unsigned_abs c.args.operand.1 = c.unsigned_abs.ensures.value ∙ ap unsigned_abs (to_z-of_z w128 c.args.operand.1 below) in
    let parts =
    c.in_ok-append_parts.ensures ∙ ap (λ z. c.append.new.line.items ++ fraction_text (over z c.unsigned_abs.result)) (to_z-of_z w128 c.args.operand.0 above)
    ∙ ap (λ n. c.append.new.line.items ++ fraction_text (over c.args.operand.0 n)) size in
    on_ok_weaker c.append-2.result
    (λ e. field_added c.args.line.now.items c.add_key.new.line.items c.append-2.new.line.items c.args.later c.args.key.now (pair_words c.args.operand) c.in_ok-add_key.ensures
    (quoted c.add_key.new.line.items c.append.new.line.items c.append_parts.new.line.items c.append-2.new.line.items
    (fraction_text (over c.args.operand.0 (unsigned_abs c.args.operand.1))) c.in_ok-append.ensures parts e))
    c.append-2.ensures
