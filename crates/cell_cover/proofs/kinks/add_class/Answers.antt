use Rattle.std.proofs.Common.{◌≡◌, length, ap, sym, ◌∙◌, arith}
use Rattle.form.specs.Payoff.{option_of}
use Rattle.cell_cover.specs.Kinked.{all_as}
use Rattle.cell_cover.specs.Rows.{row_of}
use Rattle.cell_cover.specs.Rowed.{class_row, row_index, rows_in}
use Rattle.cell_cover.proofs.Rowing.{class_kept, class_added}
use Rattle.cell_cover.proofs.kinks.add_class.Goals as goal

pub returns-then-place_of-len : goal.returns-then-place_of-len
returns-then-place_of-len c =
    let n = c.args.count in
    let v = option_of c.args.form.now in
    let entries = c.class_of-option.result.entries in
    let row : row_of n entries ≡ class_row v = ap (λ k. row_of k entries) (sym c.requires) ∙ c.class_of-option.ensures.entries in
    let place = c.place_of.ensures ∙ ap (λ ks. row_index (row_of n entries) (rows_in n ks)) c.as_slice.ensures.value in
    class_kept n c.args.classes.now.items v entries c.place_of.result row place (omega (arith, c.if-place_of-len.true, c.len.ensures, c.as_slice.ensures.len, ap length c.as_slice.ensures.value))

pub returns : goal.returns
returns c =
    let n = c.args.count in
    let v = option_of c.args.form.now in
    let entries = c.class_of-option.result.entries in
    let row : row_of n entries ≡ class_row v = ap (λ k. row_of k entries) (sym c.requires) ∙ c.class_of-option.ensures.entries in
    let place = c.place_of.ensures ∙ ap (λ ks. row_index (row_of n entries) (rows_in n ks)) c.as_slice.ensures.value in
    ap (all_as n) c.in_ok-push.ensures.items
    ∙ class_added n c.args.classes.now.items v (record { entries = entries; kink = c.zero.result }) c.place_of.result row c.zero.ensures place (omega (arith, c.if-place_of-len.false, c.len.ensures, c.as_slice.ensures.len, ap length c.as_slice.ensures.value))
