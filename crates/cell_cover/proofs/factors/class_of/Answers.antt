use Rattle.std.proofs.Common.{◌≤◌, get_or, pos, int_div, rules, FitsSigned, arith, ◌∙◌, length, ℤ}
use mir.Syntax.{w64}
use Rattle.std.proofs.lemmas.Int.{to_z-of_z}
use Rattle.exact_num.specs.Fraction.{whole}
use Rattle.form.specs.Payoff.{option_of}
use Rattle.cell_cover.specs.Classes.{divisor_of, is_turned}
use Rattle.cell_cover.specs.Classes.{turned as turned_by}
use Rattle.cell_cover.proofs.FormEntries.{entry_is}
use Rattle.cell_cover.proofs.RowLoops.{map_next, mapped_more}
use Rattle.cell_cover.proofs.factors.class_of.Goals as goal

pub loop-i-preserved : goal.loop-i-preserved
loop-i-preserved c =
    let form = c.args.form.now in
    let v = option_of form in
    let i = c.loop-i.i in
    let x = get_or form.entries i (pos 0) in
    let fits : FitsSigned w64 x = search rules in
    let f : ℤ → ℤ = λ x. turned_by (is_turned v) (int_div x (pos (divisor_of v))) in
    let le : form.count ≤ length form.entries = omega (arith, form.nine_entries, form.count_in_range.1) in
    let here = map_next f form.entries form.count i (pos 0) c.loop-i-test.true le in
    mapped_more whole _ c.loop-i.entries i (f x) c.class_entry.result c.loop-i.invariant here (omega (arith, c.loop-i-test.true, form.count_in_range.1))
    (c.class_entry.ensures ∙ entry_is _ (is_turned v) _ (divisor_of v) _ x c.is_turned-turned.ensures c.divisor_of-divisor.ensures (to_z-of_z w64 x fits))
