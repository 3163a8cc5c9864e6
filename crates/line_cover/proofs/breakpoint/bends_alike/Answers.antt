use Rattle.std.proofs.Common.{FitsSigned, w64, rules, get_or, pos, sym, ◌∙◌}
use Rattle.std.proofs.lemmas.Int.{to_z-of_z}
use Rattle.line_cover.proofs.Alike.{alike_is}
use Rattle.line_cover.proofs.breakpoint.bends_alike.Goals as goal

pub returns : goal.returns
returns c =
    let first = (get_or c.args.order.now.bundle.legs 0 c.index-order-0.result).form.entries in
    let other = c.args.form.now.entries in
    let strike : FitsSigned w64 (get_or first 0 (pos 0)) = search rules in
    let weight : FitsSigned w64 (get_or first 1 (pos 0)) = search rules in
    let strike' : FitsSigned w64 (get_or other 0 (pos 0)) = search rules in
    let weight' : FitsSigned w64 (get_or other 1 (pos 0)) = search rules in
    rw (to_z-of_z w64 _ strike, to_z-of_z w64 _ weight, to_z-of_z w64 _ strike', to_z-of_z w64 _ weight') at c.has_bend_of.ensures
    ∙ sym (alike_is c.args.order.now.bundle c.index-order-0.result c.args.form.now)
